-- What the accesses that the rule of borrows tells of a node allow: a place that the rule sees may be changed where
-- each
-- place that is seen so may; a place of a temporary may be changed where the cells of the node may.
use Rattle.std.proofs.Common.{◌≡◌, ◌⊎◌, inl, inr, ℕ, ◌<◌, nat_lt, ◌==◌, ◌&&◌, ◌||◌, not, Bool, true, false, List, [], ◌∷◌, ◌++◌, map, Option, Some, None, if◌then◌else◌, refl, ap, sym, ◌∙◌, subst, arith}
use Rattle.std.specs.Prelude.{option_map}
use Rattle.std.specs.List.{filter_map, find, list_any}
use Rattle.std.specs.Option.{option_map_or}
use Rattle.std.proofs.lemmas.Bool.{false≢true}
use Rattle.std.proofs.lemmas.Bool.Decides.{Decides-eqb}
use Rattle.std.proofs.lemmas.Option.{none-some}
use Rattle.mir_ty.specs.declared.ty.TyId.{TyId}
use Rattle.mir_ty.specs.Facts.{has_drop_impl}
use Rattle.mir_ty.specs.ItemTable.{ItemTable}
use Rattle.mir_ty.specs.Parts.{field_ty}
use Rattle.store_model.specs.Effects.{EffectSite}
use Rattle.store_model.specs.Places.Place.{Step, Place, whole_local}
use Rattle.typed_tree.specs.declared.node.Use.{Use}
use Rattle.typed_tree.specs.Nodes.{number_of, nodes_of, nodes_in}
use Rattle.typed_tree.specs.Tree as tree
use Rattle.typed_tree.specs.Tree.{Node, node, Form}
use Rattle.src_meaning.specs.Shape as shapes
use Rattle.src_meaning.specs.Shape.{head, shape, shape_of, moves, copied_or_moved}
use Rattle.typing_rules.specs.Accesses as rules
use Rattle.typing_rules.specs.Accesses.{AccessPlace, Accessed, changes, replaces, place_of, place_of_form, root_of, root_of_form}
use Rattle.well_typed.specs.Claim.{Claim, Holds, fact, both}
use Rattle.well_typed.specs.Names.{do_rise}
use Rattle.well_typed.specs.Nodes as typing
use Rattle.well_typed.specs.Patterns.{binding_entry, entries_of}
use Rattle.well_typed.specs.Places.{InScope, entry_with, in_guard, may_move, may_move_by, Standing, Base, ty_of}
use Rattle.well_typed.specs.Types as types
use Rattle.soundness_values.proofs.NoOverlap.{Seen, SeenIf, is_seen, node_seen}
use Rattle.soundness_cells.proofs.PassCells.{Above, rising}
use Rattle.soundness_cells.proofs.PassFacts.{Standpoint, context, with_names, left, right}
use Rattle.soundness_frame.proofs.PassFrameActs.{Takes}
use Rattle.soundness_values.proofs.PassHeads.{IsName}
use Rattle.soundness_cells.proofs.PassNames.{NameIn, named_by}
use Rattle.soundness_values.proofs.PlaceTypes.{some_holds}

-- ---- numbers that rise

pub above_left : (key : ℕ) (a b : List Node) → Above key (a ++ b) → Above key a
above_left key [] b h = tt
above_left key (n ∷ a) b h = (h.0, above_left key a b h.1)

pub above_right : (key : ℕ) (a b : List Node) → Above key (a ++ b) → Above key b
above_right key [] b h = h
above_right key (n ∷ a) b h = above_right key a b h.1

abbrev pub Rises : List Node → Type 0
Rises ns = do_rise (map number_of ns) ≡ true

pub rises_right : (a b : List Node) → Rises (a ++ b) → Rises b
rises_right [] b r = r
rises_right (n ∷ a) b r = rises_right a b (rising n (a ++ b) r).1

pub rises_left : (a b : List Node) → Rises (a ++ b) → Rises a
rises_left [] b r = refl
rises_left (n ∷ []) b r = refl
rises_left (n ∷ m ∷ a) b r = both_so (nat_lt (number_of n) (number_of m)) (do_rise (map number_of (m ∷ a)))
    (left (nat_lt (number_of n) (number_of m)) (do_rise (map number_of (m ∷ a ++ b))) r)
    (rises_left (m ∷ a) b (rising n (m ∷ a ++ b) r).1)
  where
    both_so : (c d : Bool) → c ≡ true → d ≡ true → (c && d) ≡ true
    both_so true d e f = f
    both_so false d e f = e

-- a name has a number below those that follow
pub name_above : (a b : List Node) (key : ℕ) → Rises (a ++ b) → NameIn a key → Above key b
name_above [] b key r i = absurd i
name_above (node id at ty by form ∷ a) b key r (inl i) =
    subst (λ k. Above k b) i.1 (above_right id a b (rising (node id at ty by form) (a ++ b) r).0)
name_above (node id at ty by form ∷ a) b key r (inr i) =
    name_above a b key (rising (node id at ty by form) (a ++ b) r).1 i

-- no name has a number that all are above
pub no_name : (ns : List Node) (key : ℕ) → Above key ns → NameIn ns key → ⊥
no_name [] key h i = i
no_name (node id at ty by form ∷ ns) key h (inl i) =
    let less : key < id = h.0 in let same : id ≡ key = i.1 in omega (less, same, arith)
no_name (node id at ty by form ∷ ns) key h (inr i) = no_name ns key h.1 i

-- each name is brought into scope
pub name_entry : (ns : List Node) (key : ℕ) → NameIn ns key →
    (y : InScope) × (entry_with key (filter_map binding_entry ns) ≡ Some y)
name_entry [] key i = absurd i
name_entry (node id at ty by form ∷ ns) key i = by_form form i (λ j. name_entry ns key j)
  where
    Entry : List Node → Type 0
    Entry ns = (y : InScope) × (entry_with key (filter_map binding_entry ns) ≡ Some y)

    found : (b : Bool) → (id == key) ≡ b → (Unit {0} × (id ≡ key)) ⊎ NameIn ns key → (NameIn ns key → Entry ns) →
        (y : InScope) × ((if b then Some (record { key = id; ty = ty; is_in_guard = false })
        else entry_with key (filter_map binding_entry ns)) ≡ Some y)
    found true e i later = (record { key = id; ty = ty; is_in_guard = false }, refl)
    found false e (inl i) later = absurd (false≢true (sym e ∙ (Decides-eqb id key).1 i.1))
    found false e (inr i) later = later i

    other : ⊥ ⊎ NameIn ns key → (NameIn ns key → Entry ns) → Entry ns
    other (inl i) later = absurd i
    other (inr i) later = later i

    by_form : (form : Form) → (IsName form × (id ≡ key)) ⊎ NameIn ns key → (NameIn ns key → Entry ns) →
        Entry (node id at ty by form ∷ ns)
    by_form (tree.Binding name) i later = found (id == key) refl i later
    by_form form (inl i) later = absurd i.0
    by_form other (inr i) later = later i

-- ---- entries, the new ones first

pub found_in : (key : ℕ) (new old : List InScope) (y : InScope) → entry_with key (new ++ old) ≡ Some y →
    (entry_with key new ≡ Some y) ⊎ ((entry_with key new ≡ None) × (entry_with key old ≡ Some y))
found_in key [] old y e = inr (refl, e)
found_in key (x ∷ new) old y e = by (x.key == key) e (λ k. found_in key new old y k)
  where
    by : (b : Bool) → (if b then Some x else entry_with key (new ++ old)) ≡ Some y →
        (entry_with key (new ++ old) ≡ Some y →
        (entry_with key new ≡ Some y) ⊎ ((entry_with key new ≡ None) × (entry_with key old ≡ Some y))) →
        ((if b then Some x else entry_with key new) ≡ Some y)
        ⊎ (((if b then Some x else entry_with key new) ≡ None) × (entry_with key old ≡ Some y))
    by true e later = inl e
    by false e later = later e

-- the names of an arm are marked in its guard
pub marked : (key : ℕ) (new : List InScope) (y : InScope) → entry_with key (in_guard new) ≡ Some y →
    y.is_in_guard ≡ true
marked key [] y e = absurd (none-some y e)
marked key (x ∷ new) y e = by (x.key == key) e (λ k. marked key new y k)
  where
    same : Some (record x { is_in_guard = true }) ≡ Some y → record x { is_in_guard = true } ≡ y
    same e = cc

    by : (b : Bool) → (if b then Some (record x { is_in_guard = true }) else entry_with key (in_guard new)) ≡ Some y →
        (entry_with key (in_guard new) ≡ Some y → y.is_in_guard ≡ true) → y.is_in_guard ≡ true
    by true e later = sym (ap (λ (z : InScope). z.is_in_guard) (same e))
    by false e later = later e

pub still_there : (key : ℕ) (new : List InScope) (y : InScope) → entry_with key new ≡ Some y →
    entry_with key (in_guard new) ≡ None → ⊥
still_there key [] y e k = none-some y e
still_there key (x ∷ new) y e k = by (x.key == key) e k (λ a b. still_there key new y a b)
  where
    by : (b : Bool) → (if b then Some x else entry_with key new) ≡ Some y →
        (if b then Some (record x { is_in_guard = true }) else entry_with key (in_guard new)) ≡ None →
        (entry_with key new ≡ Some y → entry_with key (in_guard new) ≡ None → ⊥) → ⊥
    by true e k later = none-some (record x { is_in_guard = true }) (sym k)
    by false e k later = later e k

mapped_none : {A B : Type 0} (f : A → B) (o : Option A) → option_map f o ≡ None → o ≡ None
mapped_none f None e = refl
mapped_none f (Some a) e = absurd (none-some (f a) (sym e))

-- ---- what may be changed

-- the binding of a guard that stands for a part of a temporary
abbrev pub Unnamed : rules.Aliases → ℕ → Type 0
Unnamed aliases key = rules.place_of_key aliases key ≡ None

-- any binding of a guard
abbrev pub is_alias : rules.Aliases → ℕ → Bool
is_alias aliases key = list_any (λ (a : ℕ × Option AccessPlace). a.0 == key) aliases

pub unnamed_alias : (aliases : rules.Aliases) (key : ℕ) → Unnamed aliases key → is_alias aliases key ≡ true
unnamed_alias [] key u = absurd (none-some (rules.variable_place key) (sym u))
unnamed_alias (a ∷ aliases) key u = by (a.0 == key) u (λ v. unnamed_alias aliases key v)
  where
    by : (b : Bool) →
        rules.or_variable key (if b then Some a else find (λ (x : ℕ × Option AccessPlace). x.0 == key) aliases) ≡ None →
        (Unnamed aliases key → is_alias aliases key ≡ true) → (b || is_alias aliases key) ≡ true
    by true u later = refl
    by false u later = later u

module _ (items : ItemTable) (May : Place → Type 0) where
  -- a cell, and all its parts
  abbrev pub Owned : ℕ → Type 0
  Owned id = (steps : List Step) → May (record { local = id; steps = steps })

  abbrev pub AllOwned : List Node → Type 0
  AllOwned [] = Unit {0}
  AllOwned (n ∷ ns) = Owned (number_of n) × AllOwned ns

  pub owned_left : (a b : List Node) → AllOwned (a ++ b) → AllOwned a
  owned_left [] b o = tt
  owned_left (n ∷ a) b o = (o.0, owned_left a b o.1)

  pub owned_right : (a b : List Node) → AllOwned (a ++ b) → AllOwned b
  owned_right [] b o = o
  owned_right (n ∷ a) b o = owned_right a b o.1

  -- each place that the rule sees so
  abbrev pub MaySeen : Option AccessPlace → Type 0
  MaySeen None = Unit {0}
  MaySeen (Some a) = (q : Place) → Seen a q → May q

  pub record Permits (aliases : rules.Aliases) (a : Accessed) : Type 0 where
    pub changed : changes a.access ≡ true → MaySeen a.place
    pub replaced : (key : ℕ) → replaces a.access ≡ true → a.root ≡ Some key → is_alias aliases key ≡ true → ⊥

  abbrev pub AllPermit : rules.Aliases → List Accessed → Type 0
  AllPermit aliases [] = Unit {0}
  AllPermit aliases (a ∷ as_) = Permits aliases a × AllPermit aliases as_

  pub permit_left : (aliases : rules.Aliases) (a b : List Accessed) → AllPermit aliases (a ++ b) → AllPermit aliases a
  permit_left aliases [] b p = tt
  permit_left aliases (x ∷ a) b p = (p.0, permit_left aliases a b p.1)

  pub permit_right : (aliases : rules.Aliases) (a b : List Accessed) → AllPermit aliases (a ++ b) →
      AllPermit aliases b
  permit_right aliases [] b p = p
  permit_right aliases (x ∷ a) b p = permit_right aliases a b p.1

  -- what stands around a node: how the rule sees the names in scope, which of them stand for parts in a guard
  pub record Sees (aliases : rules.Aliases) (places : shapes.Aliases) (x : Standpoint) : Type 0 where
    pub seen : (key : ℕ) → SeenIf (rules.place_of_key aliases key) (shapes.place_of_key key places)
    pub guarded : (key : ℕ) (y : InScope) → Unnamed aliases key → entry_with key x.entries ≡ Some y →
        y.is_in_guard ≡ true
    pub closure : (y : InScope) → x.closure ≡ Some y → is_alias aliases y.key ≡ true → ⊥
    pub plain : (key : ℕ) → is_alias aliases key ≡ false → shapes.place_of_key key places ≡ whole_local key

  -- such bindings have numbers below those of some nodes
  abbrev pub Past : rules.Aliases → List Node → Type 0
  Past aliases ns = (key : ℕ) → is_alias aliases key ≡ true → Above key ns

  pub past_left : (aliases : rules.Aliases) (a b : List Node) → Past aliases (a ++ b) → Past aliases a
  past_left aliases a b p key u = above_left key a b (p key u)

  pub past_right : (aliases : rules.Aliases) (a b : List Node) → Past aliases (a ++ b) → Past aliases b
  past_right aliases a b p key u = above_right key a b (p key u)

  -- new names are no such bindings
  pub sees_names : (aliases : rules.Aliases) (places : shapes.Aliases) (x : Standpoint) (p : Node) →
      Past aliases (nodes_of p) → Sees aliases places x → Sees aliases places (with_names (entries_of p) x)
  sees_names aliases places x p past s = record {
    seen = s.seen;
    guarded = λ key y u e. by key y u (found_in key (entries_of p) x.entries y e);
    closure = s.closure;
    plain = s.plain;
  }
    where
      by : (key : ℕ) (y : InScope) → Unnamed aliases key →
          (entry_with key (entries_of p) ≡ Some y)
          ⊎ ((entry_with key (entries_of p) ≡ None) × (entry_with key x.entries ≡ Some y)) → y.is_in_guard ≡ true
      by key y u (inl e) =
          absurd (no_name (nodes_of p) key (past key (unnamed_alias aliases key u)) (named_by (nodes_of p) key y e))
      by key y u (inr e) = s.guarded key y u e.1

  -- ---- the place of a node

  mutual
    -- a place without a variable at its root is in a temporary of the node
    pub temporary_owned : (n : Node) (places : shapes.Aliases) → AllOwned (nodes_of n) → root_of n ≡ None →
        Owned ((shape items n).place places).local
    temporary_owned (node id at ty by form) places o e = form_owned form id ty by places o.0 o.1 e

    form_owned : (form : Form) (id : ℕ) (ty : TyId) (by : Option Use) (places : shapes.Aliases) → Owned id →
        AllOwned (nodes_in form) → root_of_form form ≡ None →
        Owned ((shape_of items form (head id ty by)).place places).local
    form_owned (tree.Variable key) id ty by places own o e = absurd (none-some key (sym e))
    form_owned (tree.Captured closure part name) id ty by places own o e = absurd (none-some closure (sym e))
    form_owned (tree.Field base part) id ty by places own o e = temporary_owned base places o e
    form_owned (tree.Index base index length) id ty by places own o e =
        temporary_owned base places (owned_left (nodes_of base) (nodes_of index) o) e
    form_owned (tree.Deref base) id ty by places own o e = temporary_owned base places o e
    form_owned form id ty by places own o e = own

  owned_place : (q : Place) → Owned q.local → May q
  owned_place q o = o q.steps

  pub may_at : (n : Node) (aliases : rules.Aliases) (places : shapes.Aliases) →
      ((key : ℕ) → SeenIf (rules.place_of_key aliases key) (shapes.place_of_key key places)) → AllOwned (nodes_of n) →
      MaySeen (place_of aliases n) → (place_of aliases n ≡ None → root_of n ≡ None) → May ((shape items n).place places)
  may_at n aliases places seen o m root = by (place_of aliases n) refl m (node_seen items aliases places seen n)
    where
      by : (a : Option AccessPlace) → place_of aliases n ≡ a → MaySeen a → SeenIf a ((shape items n).place places) →
          May ((shape items n).place places)
      by None e m s = owned_place ((shape items n).place places) (temporary_owned n places o (root e))
      by (Some a) e m (is_seen _ _ s) = m ((shape items n).place places) s

  -- ---- what may be moved is no binding of a guard

  mutual
    pub moved_root : (n : Node) (aliases : rules.Aliases) (places : shapes.Aliases) (x : Standpoint)
        (standing : Standing) → Sees aliases places x → Holds (typing.typed (context items x) standing n) →
        may_move (context items x) n ≡ true → place_of aliases n ≡ None → root_of n ≡ None
    moved_root (node id at ty by form) aliases places x standing s h m e =
        form_root form id ty aliases places x s h.1 m e

    pub form_root : (form : Form) (id : ℕ) (ty : TyId) (aliases : rules.Aliases) (places : shapes.Aliases)
        (x : Standpoint) → Sees aliases places x → Holds (typing.row (context items x) id ty form) →
        may_move_by (context items x) form ≡ true → place_of_form aliases form ≡ None → root_of_form form ≡ None
    form_root (tree.Variable key) id ty aliases places x s h m e =
        let t = some_holds (entry_with key x.entries) (λ y. fact (types.is_same ty y.ty)) h in
        absurd (false≢true (sym (ap not (ap (λ o. option_map_or (λ (y : InScope). y.is_in_guard) o false) t.1.0
        ∙ s.guarded key t.0 e t.1.0)) ∙ m))
    form_root (tree.Captured closure part name) id ty aliases places x s h m e =
        let t = some_holds x.closure (λ y. both (fact (y.key == closure)) (types_part y.ty)) h in
        absurd (s.closure t.0 t.1.0 (unnamed_alias aliases t.0.key
        (ap (rules.place_of_key aliases) ((Decides-eqb t.0.key closure).0 t.1.1.0)
        ∙ mapped_none (rules.with_step (rules.ToPart part)) (rules.place_of_key aliases closure) e)))
      where
        types_part : TyId → Claim
        types_part own = Rattle.well_typed.specs.Claim.some (field_ty items own 0 part) (λ t. fact (types.is_same ty t))
    form_root (tree.Field base part) id ty aliases places x s h m e =
        moved_root base aliases places x Base s h.0
        (right (not (has_drop_impl items (ty_of base))) (may_move (context items x) base) m)
        (mapped_none (rules.with_step (rules.ToPart part)) (place_of aliases base) e)
    form_root (tree.Index base index length) id ty aliases places x s h m e = absurd (false≢true m)
    form_root (tree.Deref base) id ty aliases places x s h m e =
        moved_root base aliases places x Base s h.0
        (right (not (types.is_reference items (ty_of base))) (may_move (context items x) base) m)
        (mapped_none (rules.with_step rules.ToContent) (place_of aliases base) e)
    form_root form id ty aliases places x s h m e = refl

  -- what is taken by a use, if that is a move
  pub taken_by : (by : Option Use) (site : EffectSite) → (by ≡ Some Use.Move → May site.place) →
      Takes May (copied_or_moved (moves by) site)
  taken_by (Some Use.Move) site m = m refl
  taken_by (Some Use.Copy) site m = tt
  taken_by (Some Use.Borrow) site m = tt
  taken_by (Some Use.BorrowMut) site m = tt
  taken_by (Some Use.Test) site m = tt
  taken_by (Some Use.Store) site m = tt
  taken_by None site m = tt

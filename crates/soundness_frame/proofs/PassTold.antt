-- What a node changes lies within what may be changed, if the accesses that the rule of borrows tells of it allow that:
-- each place that it changes is one of these, or a cell of its own. One line a form.
use Rattle.std.proofs.Common.{◌≡◌, ◌⊎◌, inl, inr, ℕ, ◌<◌, ◌==◌, ◌&&◌, ◌||◌, not, Bool, true, false, List, [], ◌∷◌, ◌++◌, map, length, Option, Some, None, if◌then◌else◌, refl, ap, sym, ◌∙◌, subst, arith}
use Rattle.std.specs.Prelude.{option_and_then, option_map}
use Rattle.std.specs.List.{find, filter_map, list_any}
use Rattle.std.proofs.lemmas.Bool.{false≢true}
use Rattle.std.proofs.lemmas.Bool.Decides.{Decides-eqb}
use Rattle.std.proofs.lemmas.Option.{none-some}
use Rattle.mir_base.specs.declared.place_in_text.Pos.{Pos}
use Rattle.mir_ty.specs.declared.ty.TyId.{TyId}
use Rattle.mir_ty.specs.Facts.{is_copy}
use Rattle.mir_ty.specs.ItemTable.{ItemTable}
use Rattle.mir_ty.specs.Parts.{field_ty}
use Rattle.store_model.specs.Places.Place.{Step, ToPart, ToContent, ToElement, Place, whole_local}
use Rattle.typed_tree.specs.declared.node.Use.{Use}
use Rattle.typed_tree.specs.Nodes.{number_of, nodes_of, nodes_in}
use Rattle.typed_tree.specs.Tree as tree
use Rattle.typed_tree.specs.Tree.{Node, node, Form, Nodes, no_node, a_node, Fields, no_field, a_field, MaybeNode, absent, present}
use Rattle.src_meaning.specs.Locals.OfBody.{is_place_form}
use Rattle.src_meaning.specs.Shape as shapes
use Rattle.src_meaning.specs.Shape.{head, shape, shape_of, extended, operand_at, site_at}
use Rattle.typing_rules.specs.Accesses as rules
use Rattle.typing_rules.specs.Accesses.{AccessPlace, Accessed, CollectedAccesses, ◌⊕◌, told, told_form, inside, place_of, place_of_form, root_of, root_of_form, bound, changes, replaces, own_access, access_by, accesses_of, with_step, with_end}
use Rattle.well_typed.specs.Claim.{Holds, fact, both}
use Rattle.well_typed.specs.Nodes as typing
use Rattle.well_typed.specs.Patterns.{entries_of}
use Rattle.well_typed.specs.Places.{InScope, LoopAround, Context, entry_with, loop_with, form_of, is_place, is_borrow, is_taken, is_by, taking, may_move_by, may_take, stands, Standing, Taken, Wanted, Passed, Base, Used, Stored}
use Rattle.well_typed.specs.Types as types
use Rattle.soundness_values.proofs.NoOverlap.{SeenIf, is_seen, node_seen}
use Rattle.soundness_cells.proofs.PassCells.{Above, NodeIn, node_left, node_right, rising}
use Rattle.soundness_cells.proofs.PassFacts.{Standpoint, context, with_names, in_a_loop, beside, left}
use Rattle.soundness_values.proofs.PassHeads.{IsName}
use Rattle.soundness_frame.proofs.PassKeys.{Keys, KeysIn, keys_more, keys_at_end}
use Rattle.soundness_cells.proofs.PassNames.{NameIn, named_by}
use Rattle.soundness_frame.proofs.PassFrameActs.{Takes}
use Rattle.soundness_frame.proofs.PassToldPatterns.{same_order, name_left, name_right}
use Rattle.soundness_frame.proofs.PassToldPlaces as told_places
use Rattle.soundness_frame.proofs.PassToldPlaces.{Rises, rises_left, rises_right, name_above, no_name, name_entry, found_in, marked, still_there, above_left, above_right, Unnamed, is_alias, Owned, AllOwned, MaySeen, Permits, AllPermit, Sees, Past}
use Rattle.soundness_frame.proofs.PassWithin.{is_among, if_place, Outer}
use Rattle.soundness_values.proofs.PlaceTypes.{some_holds}

abbrev pub ids : Standpoint → Outer
ids x = record { loops = map (λ (a : LoopAround). a.loop) x.loops; keys = x.outside }

-- a node whose value is used
abbrev pub IsValue : Standing → Type 0
IsValue Taken = Unit {0}
IsValue (Wanted ty) = Unit {0}
IsValue (Passed ty) = Unit {0}
IsValue standing = ⊥

same_test : (form : Form) → is_place_form form ≡ is_place form
same_test (tree.Variable key) = refl
same_test (tree.Captured closure part name) = refl
same_test (tree.Field base part) = refl
same_test (tree.Index base index length) = refl
same_test (tree.Deref base) = refl
same_test form = refl

no_borrow : (form : Form) → is_place form ≡ true → is_borrow form ≡ true → ⊥
no_borrow (tree.Borrow unique base) p b = false≢true p
no_borrow form p b = false≢true b

pub no_append : {A : Type 0} (a b : List A) → a ++ b ≡ [] → (a ≡ []) × (b ≡ [])
no_append [] b e = (refl, e)
no_append (x ∷ a) b e = absurd (some_none e)
  where
    head_of : {A : Type 0} → List A → Bool
    head_of [] = false
    head_of (y ∷ ys) = true

    some_none : (x ∷ a) ++ b ≡ [] → ⊥
    some_none e = false≢true (sym (ap head_of e))

pub named_loop : (loop : ℕ) (loops : List LoopAround) (a : LoopAround) → loop_with loop loops ≡ Some a →
    is_among loop (map (λ (b : LoopAround). b.loop) loops) ≡ true
named_loop loop [] a e = absurd (none-some a e)
named_loop loop (b ∷ loops) a e = by (b.loop == loop) (same_order b.loop loop) e (λ f. named_loop loop loops a f)
  where
    by : (c : Bool) → c ≡ (loop == b.loop) → (if c then Some b else loop_with loop loops) ≡ Some a →
        (loop_with loop loops ≡ Some a → is_among loop (map (λ (d : LoopAround). d.loop) loops) ≡ true) →
        ((loop == b.loop) || is_among loop (map (λ (d : LoopAround). d.loop) loops)) ≡ true
    by true s e later = ap (λ d. d || is_among loop (map (λ (d : LoopAround). d.loop) loops)) (sym s)
    by false s e later =
        ap (λ d. d || is_among loop (map (λ (d : LoopAround). d.loop) loops)) (sym s) ∙ later e

same_some : {a b : ℕ} → Some a ≡ Some b → a ≡ b
same_some e = cc

unmapped : (f : AccessPlace → AccessPlace) (o : Option AccessPlace) → option_map f o ≡ None → o ≡ None
unmapped f None e = refl
unmapped f (Some a) e = absurd (none-some (f a) (sym e))

-- a place that the rule does not see, with a variable at its root, is a part of what a binding of a guard stands for
mutual
  pub root_unnamed : (n : Node) (aliases : rules.Aliases) (key : ℕ) → root_of n ≡ Some key → place_of aliases n ≡ None →
      Unnamed aliases key
  root_unnamed (node id at ty by form) aliases key r p = form_unnamed form aliases key r p

  form_unnamed : (form : Form) (aliases : rules.Aliases) (key : ℕ) → root_of_form form ≡ Some key →
      place_of_form aliases form ≡ None → Unnamed aliases key
  form_unnamed (tree.Variable k) aliases key r p = subst (Unnamed aliases) (same_some r) p
  form_unnamed (tree.Captured closure part name) aliases key r p =
      subst (Unnamed aliases) (same_some r) (unmapped (with_step (rules.ToPart part))
      (rules.place_of_key aliases closure) p)
  form_unnamed (tree.Field base part) aliases key r p =
      root_unnamed base aliases key r (unmapped (with_step (rules.ToPart part)) (place_of aliases base) p)
  form_unnamed (tree.Index base index length) aliases key r p =
      root_unnamed base aliases key r (unmapped with_end (place_of aliases base) p)
  form_unnamed (tree.Deref base) aliases key r p =
      root_unnamed base aliases key r (unmapped (with_step rules.ToContent) (place_of aliases base) p)
  form_unnamed form aliases key r p = absurd (none-some key r)

-- what is known of nodes, which numbers are those of names, and what is known of the types of names
pub record KnownOf : Type 1 where
  pub node : Node → Type 0
  pub root : ℕ → Type 0
  pub typed : ℕ → TyId → Type 0

-- the root of a place: a name where the rule sees the place, and else no name
abbrev pub RootIf : (ℕ → Type 0) → Option AccessPlace → ℕ → Type 0
RootIf P None key = P key → ⊥
RootIf P (Some a) key = P key

-- a place with such a root, and no name among the indices on its way
abbrev pub StandsFor : (ℕ → Type 0) → Option AccessPlace → Place → Type 0
StandsFor P o q = RootIf P o q.local × KeysIn (λ k. P k → ⊥) q.steps

-- what is no binding of a guard is seen as a variable
pub plain_seen : (aliases : rules.Aliases) (key : ℕ) → is_alias aliases key ≡ false →
    rules.place_of_key aliases key ≡ Some (rules.variable_place key)
plain_seen [] key e = refl
plain_seen (a ∷ aliases) key e = by (a.0 == key) e (λ f. plain_seen aliases key f)
  where
    by : (b : Bool) → (b || is_alias aliases key) ≡ false →
        (is_alias aliases key ≡ false → rules.place_of_key aliases key ≡ Some (rules.variable_place key)) →
        rules.or_variable key (if b then Some a else find (λ (x : ℕ × Option AccessPlace). x.0 == key) aliases)
        ≡ Some (rules.variable_place key)
    by true e later = absurd (false≢true (sym e))
    by false e later = later e

-- a key that stands for itself
pub plain_stands : (P : ℕ → Type 0) (aliases : rules.Aliases) (places : shapes.Aliases) (key : ℕ) →
    is_alias aliases key ≡ false → shapes.place_of_key key places ≡ whole_local key → P key →
    StandsFor P (rules.place_of_key aliases key) (shapes.place_of_key key places)
plain_stands P aliases places key a e h = subst (λ o. StandsFor P o (shapes.place_of_key key places))
    (sym (plain_seen aliases key a)) (subst (StandsFor P (Some (rules.variable_place key))) (sym e) (h, tt))

-- a name among nodes above a number has another
pub name_apart : (ns : List Node) (key d : ℕ) → NameIn ns key → Above d ns → key ≡ d → ⊥
name_apart [] key d i a e = i
name_apart (node id at ty by form ∷ ns) key d (inl i) a e =
    let less : d < id = a.0 in let same : id ≡ key = i.1 in let equal : key ≡ d = e in
    let never : ⊥ = omega (less, same, equal, arith) in never
name_apart (node id at ty by form ∷ ns) key d (inr i) a e = name_apart ns key d i a.1 e

module _ (items : ItemTable) (May : Place → Type 0) (Of : KnownOf) where
  abbrev K : Standpoint → Context
  K = context items

  -- no name in scope stands for a place with a key, nor the value of a closure
  pub record Away (x : Standpoint) (places : shapes.Aliases) (d : ℕ) : Type 0 where
    pub names : (key : ℕ) (y : InScope) → entry_with key x.entries ≡ Some y →
        Keys (λ k. k ≡ d → ⊥) (shapes.place_of_key key places)
    pub self : (y : InScope) → x.closure ≡ Some y → y.key ≡ d → ⊥

  -- what stands around some nodes: bindings of guards, and the value of a closure, have lower numbers; names in scope
  -- stand for places with names at their roots, as far as the rule sees them, and at no index
  pub record Here (aliases : rules.Aliases) (places : shapes.Aliases) (x : Standpoint) (ns : List Node) : Type 0 where
    pub sees : Sees items May aliases places x
    pub past : Past items May aliases ns
    pub outer : (y : InScope) → x.closure ≡ Some y → Above y.key ns
    pub rises : Rises ns
    pub owned : AllOwned items May ns
    pub all : (n : Node) → NodeIn ns n → Of.node n
    pub low : (key : ℕ) (y : InScope) → entry_with key x.entries ≡ Some y →
        Keys (λ k. Above k ns) (shapes.place_of_key key places)
    pub names : (key : ℕ) → NameIn ns key → Of.root key
    pub others : (n : Node) → NodeIn ns n → (IsName (form_of n) → ⊥) → Of.root (number_of n) → ⊥
    pub stand : (key : ℕ) (y : InScope) → entry_with key x.entries ≡ Some y →
        StandsFor Of.root (rules.place_of_key aliases key) (shapes.place_of_key key places)
    pub self : (y : InScope) → x.closure ≡ Some y → Of.root y.key
    pub types : (key : ℕ) (y : InScope) → entry_with key x.entries ≡ Some y → Of.typed key y.ty
    pub self_type : (y : InScope) → x.closure ≡ Some y → Of.typed y.key y.ty
    pub name_types : (key : ℕ) → NameIn ns key → (ty : TyId) → Of.typed key ty
    pub under : (d : ℕ) → is_among d x.outside ≡ true → Above d ns
    pub away : (d : ℕ) → is_among d x.outside ≡ true → Away x places d

  pub here_left : (aliases : rules.Aliases) (places : shapes.Aliases) (x : Standpoint) (a b : List Node) →
      Here aliases places x (a ++ b) → Here aliases places x a
  here_left aliases places x a b h = record {
    sees = h.sees;
    past = λ key u. above_left key a b (h.past key u);
    outer = λ y e. above_left y.key a b (h.outer y e);
    rises = rises_left a b h.rises;
    owned = told_places.owned_left items May a b h.owned;
    all = λ n i. h.all n (node_left a b n i);
    low = λ key y e. keys_more (λ k. Above k (a ++ b)) (λ k. Above k a) (λ k. above_left k a b)
        (shapes.place_of_key key places) (h.low key y e);
    names = λ key i. h.names key (name_left a b key i);
    others = λ n i. h.others n (node_left a b n i);
    stand = h.stand;
    self = h.self;
    types = h.types;
    self_type = h.self_type;
    name_types = λ key i. h.name_types key (name_left a b key i);
    under = λ d i. above_left d a b (h.under d i);
    away = h.away;
  }

  pub here_right : (aliases : rules.Aliases) (places : shapes.Aliases) (x : Standpoint) (a b : List Node) →
      Here aliases places x (a ++ b) → Here aliases places x b
  here_right aliases places x a b h = record {
    sees = h.sees;
    past = λ key u. above_right key a b (h.past key u);
    outer = λ y e. above_right y.key a b (h.outer y e);
    rises = rises_right a b h.rises;
    owned = told_places.owned_right items May a b h.owned;
    all = λ n i. h.all n (node_right a b n i);
    low = λ key y e. keys_more (λ k. Above k (a ++ b)) (λ k. Above k b) (λ k. above_right k a b)
        (shapes.place_of_key key places) (h.low key y e);
    names = λ key i. h.names key (name_right a b key i);
    others = λ n i. h.others n (node_right a b n i);
    stand = h.stand;
    self = h.self;
    types = h.types;
    self_type = h.self_type;
    name_types = λ key i. h.name_types key (name_right a b key i);
    under = λ d i. above_right d a b (h.under d i);
    away = h.away;
  }

  pub here_in : (aliases : rules.Aliases) (places : shapes.Aliases) (x : Standpoint) (n : Node) (ns : List Node) →
      Here aliases places x (n ∷ ns) → Here aliases places x ns
  here_in aliases places x n ns h = here_right aliases places x (n ∷ []) ns h

  below_apart : (k d : ℕ) → k < d → k ≡ d → ⊥
  below_apart k d l e =
      let less : k < d = l in let same : k ≡ d = e in let never : ⊥ = omega (less, same, arith) in never

  -- inside the first of some nodes
  pub here_beside : (aliases : rules.Aliases) (places : shapes.Aliases) (x : Standpoint) (n : Node) (ns : List Node) →
      Here aliases places x (n ∷ ns) → Here aliases places (beside (number_of n) x) ns
  here_beside aliases places x n ns h = record {
    sees = record { seen = h.sees.seen; guarded = h.sees.guarded; closure = h.sees.closure; plain = h.sees.plain };
    past = λ key u. (h.past key u).1;
    outer = λ y e. (h.outer y e).1;
    rises = rises_right (n ∷ []) ns h.rises;
    owned = h.owned.1;
    all = λ m i. h.all m (inr i);
    low = λ key y e. keys_more (λ k. Above k (n ∷ ns)) (λ k. Above k ns) (λ k a. a.1)
        (shapes.place_of_key key places) (h.low key y e);
    names = λ key i. h.names key (name_right (n ∷ []) ns key i);
    others = λ m i. h.others m (inr i);
    stand = h.stand;
    self = h.self;
    types = h.types;
    self_type = h.self_type;
    name_types = λ key i. h.name_types key (name_right (n ∷ []) ns key i);
    under = λ d i. under d (d == number_of n) refl i;
    away = λ d i. away d (d == number_of n) refl i;
  }
    where
      under : (d : ℕ) (b : Bool) → (d == number_of n) ≡ b → (b || is_among d x.outside) ≡ true → Above d ns
      under d true e i = subst (λ k. Above k ns) (sym ((Decides-eqb d (number_of n)).0 e))
          (rising n ns h.rises).0
      under d false e i = (h.under d i).1

      away : (d : ℕ) (b : Bool) → (d == number_of n) ≡ b → (b || is_among d x.outside) ≡ true →
          Away (beside (number_of n) x) places d
      away d true e i = record {
        names = λ key y f. keys_more (λ k. Above k (n ∷ ns)) (λ k. k ≡ d → ⊥)
            (λ k a. below_apart k d (subst (λ j. k < j) (sym ((Decides-eqb d (number_of n)).0 e)) a.0))
            (shapes.place_of_key key places) (h.low key y f);
        self = λ y f. below_apart y.key d
            (subst (λ j. y.key < j) (sym ((Decides-eqb d (number_of n)).0 e)) (h.outer y f).0);
      }
      away d false e i = record { names = (h.away d i).names; self = (h.away d i).self }

  -- with the names of a pattern
  pub here_names : (aliases : rules.Aliases) (places : shapes.Aliases) (x : Standpoint) (p : Node) (ns : List Node) →
      Past items May aliases (nodes_of p) → ((key : ℕ) → NameIn (nodes_of p) key → Above key ns) →
      ((key : ℕ) → NameIn (nodes_of p) key → Of.root key) →
      ((d : ℕ) → is_among d x.outside ≡ true → Above d (nodes_of p)) →
      ((key : ℕ) → NameIn (nodes_of p) key → (ty : TyId) → Of.typed key ty) →
      Here aliases places x ns → Here aliases places (with_names (entries_of p) x) ns
  here_names aliases places x p ns past above named under typed h = record {
    sees = told_places.sees_names items May aliases places x p past h.sees;
    past = h.past;
    outer = h.outer;
    rises = h.rises;
    owned = h.owned;
    all = h.all;
    low = λ key y e. by key y (found_in key (entries_of p) x.entries y e);
    names = h.names;
    others = h.others;
    stand = λ key y e. stands_by key y (found_in key (entries_of p) x.entries y e);
    self = h.self;
    types = λ key y e. typed_by key y (found_in key (entries_of p) x.entries y e);
    self_type = h.self_type;
    name_types = h.name_types;
    under = h.under;
    away = λ d i. record {
      names = λ key y e. away_by d i key y (found_in key (entries_of p) x.entries y e);
      self = (h.away d i).self;
    };
  }
    where
      -- a name of the pattern is no binding of a guard around
      new : (key : ℕ) → NameIn (nodes_of p) key → (b : Bool) → is_alias aliases key ≡ b →
          Keys (λ k. Above k ns) (shapes.place_of_key key places)
      new key i true a = absurd (no_name (nodes_of p) key (past key a) i)
      new key i false a = subst (Keys (λ k. Above k ns)) (sym (h.sees.plain key a)) (above key i, tt)

      by : (key : ℕ) (y : InScope) → (entry_with key (entries_of p) ≡ Some y)
          ⊎ ((entry_with key (entries_of p) ≡ None) × (entry_with key x.entries ≡ Some y)) →
          Keys (λ k. Above k ns) (shapes.place_of_key key places)
      by key y (inl e) = new key (named_by (nodes_of p) key y e) (is_alias aliases key) refl
      by key y (inr e) = h.low key y e.1

      new_away : (d : ℕ) → is_among d x.outside ≡ true → (key : ℕ) → NameIn (nodes_of p) key → (b : Bool) →
          is_alias aliases key ≡ b → Keys (λ k. k ≡ d → ⊥) (shapes.place_of_key key places)
      new_away d j key i true a = absurd (no_name (nodes_of p) key (past key a) i)
      new_away d j key i false a = subst (Keys (λ k. k ≡ d → ⊥)) (sym (h.sees.plain key a))
          (name_apart (nodes_of p) key d i (under d j), tt)

      away_by : (d : ℕ) → is_among d x.outside ≡ true → (key : ℕ) (y : InScope) →
          (entry_with key (entries_of p) ≡ Some y)
          ⊎ ((entry_with key (entries_of p) ≡ None) × (entry_with key x.entries ≡ Some y)) →
          Keys (λ k. k ≡ d → ⊥) (shapes.place_of_key key places)
      away_by d j key y (inl e) = new_away d j key (named_by (nodes_of p) key y e) (is_alias aliases key) refl
      away_by d j key y (inr e) = (h.away d j).names key y e.1

      typed_by : (key : ℕ) (y : InScope) → (entry_with key (entries_of p) ≡ Some y)
          ⊎ ((entry_with key (entries_of p) ≡ None) × (entry_with key x.entries ≡ Some y)) → Of.typed key y.ty
      typed_by key y (inl e) = typed key (named_by (nodes_of p) key y e) y.ty
      typed_by key y (inr e) = h.types key y e.1

      new_stands : (key : ℕ) → NameIn (nodes_of p) key → (b : Bool) → is_alias aliases key ≡ b →
          StandsFor Of.root (rules.place_of_key aliases key) (shapes.place_of_key key places)
      new_stands key i true a = absurd (no_name (nodes_of p) key (past key a) i)
      new_stands key i false a =
          plain_stands Of.root aliases places key a (h.sees.plain key a) (named key i)

      stands_by : (key : ℕ) (y : InScope) → (entry_with key (entries_of p) ≡ Some y)
          ⊎ ((entry_with key (entries_of p) ≡ None) × (entry_with key x.entries ≡ Some y)) →
          StandsFor Of.root (rules.place_of_key aliases key) (shapes.place_of_key key places)
      stands_by key y (inl e) = new_stands key (named_by (nodes_of p) key y e) (is_alias aliases key) refl
      stands_by key y (inr e) = h.stand key y e.1

  pub here_loop : (aliases : rules.Aliases) (places : shapes.Aliases) (x : Standpoint) (a : LoopAround)
      (ns : List Node) →
      Here aliases places x ns → Here aliases places (in_a_loop a x) ns
  here_loop aliases places x a ns h = record {
    sees = record { seen = h.sees.seen; guarded = h.sees.guarded; closure = h.sees.closure; plain = h.sees.plain };
    past = h.past;
    outer = h.outer;
    rises = h.rises;
    owned = h.owned;
    all = h.all;
    low = h.low;
    names = h.names;
    others = h.others;
    stand = h.stand;
    self = h.self;
    types = h.types;
    self_type = h.self_type;
    name_types = h.name_types;
    under = h.under;
    away = λ d i. record { names = (h.away d i).names; self = (h.away d i).self };
  }

  -- a place that has a name at its root may be changed
  abbrev pub IfRoot : Place → Type 0
  IfRoot q = Of.root q.local → May q

  -- what is told is allowed, and nothing conflicts
  abbrev pub Told : rules.Aliases → CollectedAccesses → Type 0
  Told aliases c = AllPermit items IfRoot aliases c.accesses × (c.conflicts ≡ [])

  pub told_left : (aliases : rules.Aliases) (a b : CollectedAccesses) → Told aliases (a ⊕ b) → Told aliases a
  told_left aliases a b t = (
    told_places.permit_left items IfRoot aliases a.accesses b.accesses t.0,
    (no_append a.conflicts b.conflicts
        t.1).0,
  )

  pub told_right : (aliases : rules.Aliases) (a b : CollectedAccesses) → Told aliases (a ⊕ b) → Told aliases b
  told_right aliases a b t = (
    told_places.permit_right items IfRoot aliases a.accesses b.accesses t.0,
    (no_append a.conflicts b.conflicts
        t.1).1,
  )

  -- ---- the place of a node

  pub one_more : (o : Option AccessPlace) (f : AccessPlace → AccessPlace) (step : Step) (q : Place) →
      StandsFor Of.root o q → KeysIn (λ k. Of.root k → ⊥) (step ∷ []) →
      StandsFor Of.root (option_map f o) (extended step q)
  one_more None f step q s k = (s.0, keys_at_end (λ k. Of.root k → ⊥) q.steps step s.1 k)
  one_more (Some a) f step q s k = (s.0, keys_at_end (λ k. Of.root k → ⊥) q.steps step s.1 k)

  -- a value is no name
  no_value : (x : Standpoint) (id : ℕ) (ty : TyId) (form : Form) → Holds (typing.row (K x) id ty form) →
      IsName form → ⊥
  no_value x id ty (tree.Binding name) h n = false≢true h
  no_value x id ty form h n = n

  typed_no_name : (x : Standpoint) (standing : Standing) (n : Node) → Holds (typing.typed (K x) standing n) →
      IsName (form_of n) → ⊥
  typed_no_name x standing (node id at ty by form) h i = no_value x id ty form h.1 i

  own_node : (m : Node) → NodeIn (nodes_of m) m
  own_node (node id at ty by form) = inl refl

  mutual
    -- it has a name at its root, as far as the rule sees it, and none at an index
    pub place_stands : (n : Node) (standing : Standing) (aliases : rules.Aliases) (places : shapes.Aliases)
        (x : Standpoint) → Here aliases places x (nodes_of n) → Holds (typing.typed (K x) standing n) →
        StandsFor Of.root (place_of aliases n) ((shape items n).place places)
    place_stands (node id at ty by form) standing aliases places x g h =
        form_stands form id ty by aliases places x (g.others (node id at ty by form) (inl refl) (no_value x id ty
        form h.1))
        (here_in aliases places x (node id at ty by form) (nodes_in form) g) h.1

    pub form_stands : (form : Form) (id : ℕ) (ty : TyId) (by : Option Use) (aliases : rules.Aliases)
        (places : shapes.Aliases) (x : Standpoint) → (Of.root id → ⊥) → Here aliases places x (nodes_in form) →
        Holds (typing.row (K x) id ty form) →
        StandsFor Of.root (rules.place_of_form aliases form) ((shape_of items form (head id ty by)).place places)
    form_stands (tree.Variable key) id ty by aliases places x own g h =
        let t = some_holds (entry_with key x.entries) (λ (y : InScope). fact (types.is_same ty y.ty)) h in
        g.stand key t.0 t.1.0
    form_stands (tree.Captured closure part name) id ty by aliases places x own g h =
        let t = some_holds x.closure (λ (y : InScope). both (fact (y.key == closure))
        (Rattle.well_typed.specs.Claim.some (field_ty items y.ty 0 part) (λ s. fact (types.is_same ty s)))) h in
        let same = (Decides-eqb t.0.key closure).0 t.1.1.0 in
        one_more (rules.place_of_key aliases closure) (with_step (rules.ToPart part)) (ToPart part)
        (shapes.place_of_key closure places)
        (subst (λ k. StandsFor Of.root (rules.place_of_key aliases k) (shapes.place_of_key k places)) same
        (of_closure t.0 t.1.0 (is_alias aliases t.0.key) refl)) tt
      where
        of_closure : (y : InScope) → x.closure ≡ Some y → (b : Bool) → is_alias aliases y.key ≡ b →
            StandsFor Of.root (rules.place_of_key aliases y.key) (shapes.place_of_key y.key places)
        of_closure y e true a = absurd (g.sees.closure y e a)
        of_closure y e false a = plain_stands Of.root aliases places y.key a (g.sees.plain y.key a) (g.self y e)
    form_stands (tree.Field base part) id ty by aliases places x own g h =
        one_more (place_of aliases base) (with_step (rules.ToPart part)) (ToPart part) ((shape items base).place places)
        (place_stands base Base aliases places x g h.0) tt
    form_stands (tree.Index base index count) id ty by aliases places x own g h =
        let g_i = here_right aliases places x (nodes_of base) (nodes_of index) g in
        one_more (place_of aliases base) with_end (ToElement (number_of index)) ((shape items base).place places)
        (place_stands base Base aliases places x (here_left aliases places x (nodes_of base) (nodes_of index) g) h.0)
        (g_i.others index (own_node index) (typed_no_name x Taken index h.1.0), tt)
    form_stands (tree.Deref base) id ty by aliases places x own g h =
        one_more (place_of aliases base) (with_step rules.ToContent) ToContent ((shape items base).place places)
        (place_stands base Base aliases places x g h.0) tt
    form_stands form id ty by aliases places x own g h = (own, tt)

  -- so what is told of it is of places with such roots
  pub unrooted : (o : Option AccessPlace) (q : Place) → SeenIf o q → RootIf Of.root o q.local →
      MaySeen items IfRoot o → MaySeen items May o
  unrooted None q s r m = tt
  unrooted (Some a) q (is_seen _ _ s) r m = λ u t. m u t (subst Of.root (sym s.key_is ∙ t.key_is) r)

  -- ---- the use of a place

  is_taken_so : (x : Standpoint) (ty : TyId) (by : Option Use) (form : Form) → Holds (is_taken (K x) ty by form) →
      is_place form ≡ true → by ≡ Some Use.Move → may_move_by (K x) form ≡ true
  is_taken_so x ty by form h p e =
      let t = subst (λ b. Holds (if b then
      both (fact (is_by (taking items ty) by)) (both (fact (may_take (K x) (is_copy items ty) ty form))
      (fact (not (types.is_reference items ty))))
      else fact (Rattle.std.specs.Prelude.is_none by && not (is_borrow form)))) p h in
      movable (is_copy items ty) (may_move_by (K x) form) (not (types.is_dyn items ty))
      (moves_it (is_copy items ty) (subst (λ (b : Option Use). is_by (taking items ty) b ≡ true) e t.0)) t.1.0
    where
      moves_it : (c : Bool) → is_by (if c then Use.Copy else Use.Move) (Some Use.Move) ≡ true → c ≡ false
      moves_it true h = absurd (false≢true h)
      moves_it false h = refl

      movable : (c d e : Bool) → c ≡ false → (c || (d && e)) ≡ true → d ≡ true
      movable true d e x y = absurd (false≢true (sym x))
      movable false true e x y = refl
      movable false false e x y = absurd (false≢true y)

  pub moved_so : (standing : Standing) (x : Standpoint) (ty : TyId) (by : Option Use) (form : Form) → IsValue standing →
      Holds (stands (K x) standing ty by form) → is_place form ≡ true → by ≡ Some Use.Move →
      may_move_by (K x) form ≡ true
  moved_so Taken x ty by form v h p e = is_taken_so x ty by form h p e
  moved_so (Wanted want) x ty by form v h p e = is_taken_so x ty by form h.0 p e
  moved_so (Passed want) x ty by form v h p e = passed (types.is_reference items want && not
      (types.is_never items ty)) h
    where
      passed : (b : Bool) → Holds (if b then
          fact (is_borrow form && Rattle.std.specs.Prelude.is_none by && types.is_same ty want)
          else both (is_taken (K x) ty by form) (fact (types.fits items want ty))) → may_move_by (K x) form ≡ true
      passed true k = absurd (no_borrow form p (left (is_borrow form) _
          (left (is_borrow form && Rattle.std.specs.Prelude.is_none by) (types.is_same ty want) k)))
      passed false k = is_taken_so x ty by form k.0 p e
  moved_so Base x ty by form v h p e = absurd v
  moved_so (Used want) x ty by form v h p e = absurd v
  moved_so Stored x ty by form v h p e = absurd v

  pub used_within : (id : ℕ) (at : Pos) (ty : TyId) (by : Option Use) (form : Form) (standing : Standing)
      (aliases : rules.Aliases) (places : shapes.Aliases) (x : Standpoint) → IsValue standing →
      Here aliases places x (nodes_of (node id at ty by form)) →
      Holds (typing.typed (K x) standing (node id at ty by form)) →
      AllPermit items IfRoot aliases
      (own_access (access_by by) (place_of_form aliases form) (root_of_form form) at).accesses →
      if_place (is_place_form form)
      (Takes May (operand_at (head id ty by) ((shape_of items form (head id ty by)).place places)))
  used_within id at ty by form standing aliases places x v here h p = so (is_place_form form) refl
    where
      may : is_place_form form ≡ true → by ≡ Some Use.Move → May ((shape_of items form (head id ty by)).place places)
      may q e = told_places.may_at items May (node id at ty by form) aliases places here.sees.seen here.owned
          (unrooted (place_of_form aliases form) ((shape_of items form (head id ty by)).place places)
          (node_seen items aliases places here.sees.seen (node id at ty by form))
          (place_stands (node id at ty by form) standing aliases places x here h).0
          ((subst (λ (b : Option Use). AllPermit items IfRoot aliases
          (own_access (access_by b) (place_of_form aliases form) (root_of_form form) at).accesses) e p).0.changed refl))
          (λ none. told_places.form_root items May form id ty aliases places x here.sees h.1
          (moved_so standing x ty by form v h.0 (sym (same_test form) ∙ q) e) none)

      so : (b : Bool) → is_place_form form ≡ b → if_place b
          (Takes May (operand_at (head id ty by) ((shape_of items form (head id ty by)).place places)))
      so true q = told_places.taken_by items May by
          (site_at (head id ty by) ((shape_of items form (head id ty by)).place places)) (may q)
      so false q = tt

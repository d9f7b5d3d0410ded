-- Parts of what a node changes: guards, patterns that are matched, stores, first arguments, statements, each by what
-- the
-- nodes inside do.
use Rattle.std.proofs.Common.{◌≡◌, ◌⊎◌, inl, inr, ℕ, ◌==◌, ◌&&◌, ◌||◌, Bool, true, false, List, [], ◌∷◌, ◌++◌, Option, Some, None, if◌then◌else◌, refl, ap, sym, ◌∙◌, subst}
use Rattle.std.specs.List.{filter_map, cons_option}
use Rattle.std.proofs.lemmas.Bool.{false≢true}
use Rattle.std.proofs.lemmas.Option.{none-some}
use Rattle.mir_base.specs.declared.place_in_text.Pos.{Pos}
use Rattle.mir_ty.specs.declared.ty.TyId.{TyId}
use Rattle.mir_ty.specs.ItemTable.{ItemTable}
use Rattle.store_model.specs.Places.Place.{Place}
use Rattle.typed_tree.specs.declared.node.Use.{Use}
use Rattle.typed_tree.specs.Nodes.{nodes_of, nodes_in, nodes_among, nodes_if_any}
use Rattle.typed_tree.specs.Tree as tree
use Rattle.typed_tree.specs.Tree.{Node, node, Form, Nodes, no_node, a_node, Fields, no_field, a_field, MaybeNode, absent, present}
use Rattle.src_meaning.specs.Forms as forms
use Rattle.src_meaning.specs.Shape as shapes
use Rattle.src_meaning.specs.Shape.{head, shape, shape_of, operand_at}
use Rattle.typing_rules.specs.Accesses as rules
use Rattle.typing_rules.specs.Accesses.{AccessPlace, Accessed, CollectedAccesses, ◌⊕◌, told, told_form, inside, place_of, root_of, bound, changes, replaces, own_access, access_by, accesses_of, one, told_all, told_fields, told_maybe, told_arms, told_guard, arguments, all_told, receiver_of, conflicting, conflicts_among, against_guard}
use Rattle.well_typed.specs.Claim.{Holds}
use Rattle.well_typed.specs.Nodes as typing
use Rattle.well_typed.specs.Patterns as patterns
use Rattle.well_typed.specs.Patterns.{Matched, entries_of}
use Rattle.well_typed.specs.Places.{InScope, LoopAround, Context, loop_with, in_guard, may_move, Standing, Taken, Wanted, Passed, Base, Used, Stored, ty_of, borrow_by}
use Rattle.soundness_values.proofs.NoOverlap.{SeenIf, node_seen}
use Rattle.soundness_cells.proofs.PassCells.{Above}
use Rattle.soundness_cells.proofs.PassFacts.{Standpoint, context, with_names, beside}
use Rattle.soundness_values.proofs.PassHeads.{IsName}
use Rattle.soundness_frame.proofs.PassKeys.{Keys, names_keys, keys_with}
use Rattle.soundness_cells.proofs.PassNames.{NameIn, named_by}
use Rattle.soundness_frame.proofs.PassTold as here
use Rattle.soundness_frame.proofs.PassTold.{ids, IsValue, KnownOf, StandsFor, plain_stands, name_apart, Here, IfRoot, Told, named_loop, root_unnamed, no_append}
use Rattle.soundness_frame.proofs.PassToldAliases.{alias_with, plain_with}
use Rattle.soundness_frame.proofs.PassToldPatterns as told_patterns
use Rattle.soundness_frame.proofs.PassToldPatterns.{name_left, accessed, bound_named, bound_name, bounds_alike, seen_with, unnamed_with}
use Rattle.soundness_frame.proofs.PassToldPlaces as told_places
use Rattle.soundness_frame.proofs.PassToldRoots.{related_with, Rooted, names_rooted, names_permitted}
use Rattle.soundness_frame.proofs.PassToldPlaces.{Rises, name_above, no_name, name_entry, found_in, marked, still_there, Unnamed, is_alias, unnamed_alias, Permits, AllPermit, Sees, Past}
use Rattle.soundness_frame.proofs.PassWithin as within
use Rattle.soundness_frame.proofs.PassWithin.{is_among, if_place, Outer}

pub receiver_told : (n : Node) (aliases : rules.Aliases) (c : CollectedAccesses) → (receiver_of aliases n c).told ≡ c
receiver_told (node id at ty by form) aliases c = refl

pub argument_told : (n : Node) (aliases : rules.Aliases) → (rules.argument aliases n).told ≡ told aliases n
argument_told (node id at ty by form) aliases = refl

module _ (items : ItemTable) (May : Place → Type 0) (Of : KnownOf)
    (Says : shapes.Aliases → Outer → ℕ → Form → Type 0) where
  abbrev K : Standpoint → Context
  K = context items

  abbrev W : shapes.Aliases → Outer → Node → Type 0
  W = within.Within items May Says

  -- ---- a guard

  abbrev pub NotAgainst : Option AccessPlace → List (ℕ × Accessed) → List Accessed → Type 0
  NotAgainst scrutinee bounds [] = Unit {0}
  NotAgainst scrutinee bounds (a ∷ as_) =
      (against_guard scrutinee bounds a ≡ None) × NotAgainst scrutinee bounds as_

  pub none_against : (scrutinee : Option AccessPlace) (bounds : List (ℕ × Accessed)) (as_ : List Accessed) →
      filter_map (against_guard scrutinee bounds) as_ ≡ [] → NotAgainst scrutinee bounds as_
  none_against scrutinee bounds [] e = tt
  none_against scrutinee bounds (a ∷ as_) e =
      by (against_guard scrutinee bounds a) refl e (λ f. none_against scrutinee bounds as_ f)
    where
      is_empty : {A : Type 0} → List A → Bool
      is_empty [] = true
      is_empty (x ∷ xs) = false

      by : (o : Option Pos) → against_guard scrutinee bounds a ≡ o →
          cons_option o (filter_map (against_guard scrutinee bounds) as_) ≡ [] →
          (filter_map (against_guard scrutinee bounds) as_ ≡ [] → NotAgainst scrutinee bounds as_) →
          (against_guard scrutinee bounds a ≡ None) × NotAgainst scrutinee bounds as_
      by None k e later = (k, later e)
      by (Some at) k e later = absurd (false≢true (ap is_empty e))

  -- what a guard does is allowed where its names stand for parts
  pub guard_permits : (scrutinee : Option AccessPlace) (bounds : List (ℕ × Accessed)) (aliases : rules.Aliases)
      (as_ : List Accessed) → NotAgainst scrutinee bounds as_ → AllPermit items (IfRoot items May Of) aliases as_ →
      AllPermit items (IfRoot items May Of) (rules.aliases_with bounds aliases) as_
  guard_permits scrutinee bounds aliases [] n p = tt
  guard_permits scrutinee bounds aliases (a ∷ as_) n p = (
    record {
      changed = p.0.changed;
      replaced = λ key r e u. by key r e (alias_with bounds aliases key u);
    },
    guard_permits scrutinee bounds aliases as_ n.1 p.1,
  )
    where
      refused : (b c : Bool) → c ≡ true → (if b || c then Some a.at else None) ≡ None → ⊥
      refused true c e k = none-some a.at (sym k)
      refused false true e k = none-some a.at (sym k)
      refused false false e k = false≢true e

      both_so : (b c : Bool) → b ≡ true → c ≡ true → (b && c) ≡ true
      both_so true c e f = f
      both_so false c e f = e

      by : (key : ℕ) → replaces a.access ≡ true → a.root ≡ Some key →
          (rules.is_bound (Some key) bounds ≡ true) ⊎ (is_alias aliases key ≡ true) → ⊥
      by key r e (inl b) = refused (changes a.access && rules.overlap_if_any scrutinee a.place)
          (replaces a.access && rules.is_bound a.root bounds)
          (both_so (replaces a.access) (rules.is_bound a.root bounds) r
          (subst (λ (o : Option ℕ). rules.is_bound o bounds ≡ true) (sym e) b)) n.0
      by key r e (inr u) = p.0.replaced key r e u

  -- the names of an arm stand for parts in its guard
  pub here_guard : (aliases : rules.Aliases) (places : shapes.Aliases) (x : Standpoint) (p : Node)
      (scrutinee : Option AccessPlace) (q : Place) (ns : List Node) → SeenIf scrutinee q →
      StandsFor Of.root scrutinee q → Keys (λ k. Above k ns) q →
      ((d : ℕ) → is_among d x.outside ≡ true → Keys (λ k. k ≡ d → ⊥) q) → Here items May Of aliases places x
      (nodes_of p ++ ns) →
      Here items May Of (rules.aliases_with (bound scrutinee p) aliases)
      (forms.aliases_with ((shape items p).bindings q) places) (with_names (in_guard (entries_of p)) x) ns
  here_guard aliases places x p scrutinee q ns s stands below off h = record {
    sees = record {
      seen = seen_with (bound scrutinee p) ((shape items p).bindings q) aliases places
          (bounds_alike items p scrutinee q s) h.sees.seen;
      guarded = λ key y u e. marked_so key y (unnamed_with (bound scrutinee p) aliases key u)
          (found_in key (in_guard (entries_of p)) x.entries y e);
      closure = λ y e u. outside y e (alias_with (bound scrutinee p) aliases y.key u);
      plain = plain_with (bound scrutinee p) ((shape items p).bindings q) aliases places
          (bounds_alike items p scrutinee q s) h.sees.plain;
    };
    past = λ key u. above key (alias_with (bound scrutinee p) aliases key u);
    outer = (here.here_right items May Of aliases places x (nodes_of p) ns h).outer;
    rises = (here.here_right items May Of aliases places x (nodes_of p) ns h).rises;
    owned = (here.here_right items May Of aliases places x (nodes_of p) ns h).owned;
    all = (here.here_right items May Of aliases places x (nodes_of p) ns h).all;
    low = λ key y e. keys_with (λ k. Above k ns) ((shape items p).bindings q) places key
        (names_keys (λ k. Above k ns) items p q below) (stood key y
        (found_in key (in_guard (entries_of p)) x.entries y e));
    names = (here.here_right items May Of aliases places x (nodes_of p) ns h).names;
    others = (here.here_right items May Of aliases places x (nodes_of p) ns h).others;
    stand = λ key y e. (related_with (Rooted items May Of) (bound scrutinee p) ((shape items p).bindings q) aliases
        places (names_rooted items May Of p scrutinee q (s, stands)) key
        (h.sees.seen key, stood_for key y (found_in key (in_guard (entries_of p)) x.entries y e))).1;
    self = h.self;
    types = λ key y e. typed_so key y (found_in key (in_guard (entries_of p)) x.entries y e);
    self_type = h.self_type;
    name_types = (here.here_right items May Of aliases places x (nodes_of p) ns h).name_types;
    under = (here.here_right items May Of aliases places x (nodes_of p) ns h).under;
    away = λ d i. record {
      names = λ key y e. keys_with (λ k. k ≡ d → ⊥) ((shape items p).bindings q) places key
          (names_keys (λ k. k ≡ d → ⊥) items p q (off d i)) (was_away d i key y
          (found_in key (in_guard (entries_of p)) x.entries y e));
      self = (h.away d i).self;
    };
  }
    where
      unmarked : (l : List InScope) (key : ℕ) (y : InScope) →
          Rattle.well_typed.specs.Places.entry_with key (in_guard l) ≡ Some y →
          (z : InScope) × (Rattle.well_typed.specs.Places.entry_with key l ≡ Some z)
      unmarked [] key y e = absurd (none-some y e)
      unmarked (z ∷ l) key y e = by (z.key == key) e (λ f. unmarked l key y f)
        where
          by : (b : Bool) → (if b then Some (record z { is_in_guard = true })
              else Rattle.well_typed.specs.Places.entry_with key (in_guard l)) ≡ Some y →
              (Rattle.well_typed.specs.Places.entry_with key (in_guard l) ≡ Some y →
              (w : InScope) × (Rattle.well_typed.specs.Places.entry_with key l ≡ Some w)) →
              (w : InScope) × ((if b then Some z else Rattle.well_typed.specs.Places.entry_with key l) ≡ Some w)
          by true f later = (z, refl)
          by false f later = later f

      -- what a name in scope stood for before
      new : (key : ℕ) → NameIn (nodes_of p) key → (b : Bool) → is_alias aliases key ≡ b →
          Keys (λ k. Above k ns) (shapes.place_of_key key places)
      new key i true a = absurd (no_name (nodes_of p) key
          ((here.here_left items May Of aliases places x (nodes_of p) ns h).past key a) i)
      new key i false a = subst (Keys (λ k. Above k ns)) (sym (h.sees.plain key a))
          (name_above (nodes_of p) ns key h.rises i, tt)

      stood : (key : ℕ) (y : InScope) → (Rattle.well_typed.specs.Places.entry_with key
          (in_guard (entries_of p)) ≡ Some y)
          ⊎ ((Rattle.well_typed.specs.Places.entry_with key (in_guard (entries_of p)) ≡ None)
          × (Rattle.well_typed.specs.Places.entry_with key x.entries ≡ Some y)) →
          Keys (λ k. Above k ns) (shapes.place_of_key key places)
      stood key y (inl e) =
          let z = unmarked (entries_of p) key y e in
          new key (named_by (nodes_of p) key z.0 z.1) (is_alias aliases key) refl
      stood key y (inr e) = (here.here_right items May Of aliases places x (nodes_of p) ns h).low key y e.1

      typed_so : (key : ℕ) (y : InScope) → (Rattle.well_typed.specs.Places.entry_with key
          (in_guard (entries_of p)) ≡ Some y)
          ⊎ ((Rattle.well_typed.specs.Places.entry_with key (in_guard (entries_of p)) ≡ None)
          × (Rattle.well_typed.specs.Places.entry_with key x.entries ≡ Some y)) → Of.typed key y.ty
      typed_so key y (inl e) =
          let z = unmarked (entries_of p) key y e in
          (here.here_left items May Of aliases places x (nodes_of p) ns h).name_types key
          (named_by (nodes_of p) key z.0 z.1) y.ty
      typed_so key y (inr e) = h.types key y e.1

      new_away : (d : ℕ) → is_among d x.outside ≡ true → (key : ℕ) → NameIn (nodes_of p) key → (b : Bool) →
          is_alias aliases key ≡ b → Keys (λ k. k ≡ d → ⊥) (shapes.place_of_key key places)
      new_away d j key i true a = absurd (no_name (nodes_of p) key
          ((here.here_left items May Of aliases places x (nodes_of p) ns h).past key a) i)
      new_away d j key i false a = subst (Keys (λ k. k ≡ d → ⊥)) (sym (h.sees.plain key a)) (
        name_apart (nodes_of p) key d i
            ((here.here_left items May Of aliases places x (nodes_of p) ns h).under d j),
        tt,
      )

      was_away : (d : ℕ) → is_among d x.outside ≡ true → (key : ℕ) (y : InScope) →
          (Rattle.well_typed.specs.Places.entry_with key (in_guard (entries_of p)) ≡ Some y)
          ⊎ ((Rattle.well_typed.specs.Places.entry_with key (in_guard (entries_of p)) ≡ None)
          × (Rattle.well_typed.specs.Places.entry_with key x.entries ≡ Some y)) →
          Keys (λ k. k ≡ d → ⊥) (shapes.place_of_key key places)
      was_away d j key y (inl e) =
          let z = unmarked (entries_of p) key y e in
          new_away d j key (named_by (nodes_of p) key z.0 z.1) (is_alias aliases key) refl
      was_away d j key y (inr e) = (h.away d j).names key y e.1

      new_stands : (key : ℕ) → NameIn (nodes_of p) key → (b : Bool) → is_alias aliases key ≡ b →
          StandsFor Of.root (rules.place_of_key aliases key) (shapes.place_of_key key places)
      new_stands key i true a = absurd (no_name (nodes_of p) key
          ((here.here_left items May Of aliases places x (nodes_of p) ns h).past key a) i)
      new_stands key i false a = plain_stands Of.root aliases places key a (h.sees.plain key a)
          ((here.here_left items May Of aliases places x (nodes_of p) ns h).names key i)

      stood_for : (key : ℕ) (y : InScope) → (Rattle.well_typed.specs.Places.entry_with key
          (in_guard (entries_of p)) ≡ Some y)
          ⊎ ((Rattle.well_typed.specs.Places.entry_with key (in_guard (entries_of p)) ≡ None)
          × (Rattle.well_typed.specs.Places.entry_with key x.entries ≡ Some y)) →
          StandsFor Of.root (rules.place_of_key aliases key) (shapes.place_of_key key places)
      stood_for key y (inl e) =
          let z = unmarked (entries_of p) key y e in
          new_stands key (named_by (nodes_of p) key z.0 z.1) (is_alias aliases key) refl
      stood_for key y (inr e) = h.stand key y e.1

      name_of : (key : ℕ) → rules.is_bound (Some key) (bound scrutinee p) ≡ true → NameIn (nodes_of p) key
      name_of key b = bound_name (nodes_of p) (bound scrutinee p) key (bound_named p scrutinee) b

      marked_so : (key : ℕ) (y : InScope) →
          (rules.is_bound (Some key) (bound scrutinee p) ≡ true) ⊎ Unnamed aliases key →
          (Rattle.well_typed.specs.Places.entry_with key (in_guard (entries_of p)) ≡ Some y)
          ⊎ ((Rattle.well_typed.specs.Places.entry_with key (in_guard (entries_of p)) ≡ None)
          × (Rattle.well_typed.specs.Places.entry_with key x.entries ≡ Some y)) → y.is_in_guard ≡ true
      marked_so key y u (inl e) = marked key (entries_of p) y e
      marked_so key y (inl b) (inr e) =
          let t = name_entry (nodes_of p) key (name_of key b) in
          absurd (still_there key (entries_of p) t.0 t.1 e.0)
      marked_so key y (inr u) (inr e) = h.sees.guarded key y u e.1

      outside : (y : InScope) → x.closure ≡ Some y →
          (rules.is_bound (Some y.key) (bound scrutinee p) ≡ true) ⊎ (is_alias aliases y.key ≡ true) → ⊥
      outside y e (inl b) = no_name (nodes_of p) y.key
          ((here.here_left items May Of aliases places x (nodes_of p) ns h).outer y e) (name_of y.key b)
      outside y e (inr u) = h.sees.closure y e u

      above : (key : ℕ) → (rules.is_bound (Some key) (bound scrutinee p) ≡ true) ⊎ (is_alias aliases key ≡ true) →
          Above key ns
      above key (inl b) = name_above (nodes_of p) ns key h.rises (name_of key b)
      above key (inr u) = (here.here_right items May Of aliases places x (nodes_of p) ns h).past key u

  -- a pattern that is matched with what stands at the place of a node
  pub matches : (aliases : rules.Aliases) (places : shapes.Aliases) (x : Standpoint) (p n : Node) (takes_all : Bool)
      (standing : Standing) (want : TyId) →
      ((key : ℕ) → SeenIf (rules.place_of_key aliases key) (shapes.place_of_key key places)) →
      Sees items May aliases places x → told_places.AllOwned items May (nodes_of p) →
      told_places.AllOwned items May (nodes_of n) → Holds (typing.typed (K x) standing n) →
      Holds (patterns.pattern items (typing.matched_in takes_all (K x) n) want p) →
      StandsFor Of.root (place_of aliases n) ((shape items n).place places) →
      AllPermit items (IfRoot items May Of) aliases (accessed (bound (place_of aliases n) p)) →
      within.Matches items May Says p ((shape items n).place places)
  matches aliases places x p n takes_all standing want seen sees own own_n h k r t = (
    told_patterns.tests_own items May p ((shape items n).place places) own,
    told_patterns.bounds_may items May aliases p (typing.matched_in takes_all (K x) n) want (place_of aliases n)
        ((shape items n).place places) k (node_seen items aliases places seen n) own
        (names_permitted items May Of aliases (bound (place_of aliases n) p)
        ((shape items p).bindings ((shape items n).place places))
        (names_rooted items May Of p (place_of aliases n) ((shape items n).place places)
        (node_seen items aliases places seen n, r)) t)
        (λ m none. told_places.temporary_owned items May n places own_n
        (told_places.moved_root items May n aliases places x standing sees h m none)),
  )

  -- a store, or a borrow by `&mut`
  pub replaced_may : (aliases : rules.Aliases) (places : shapes.Aliases) (x : Standpoint) (n : Node)
      (standing : Standing) (a : Accessed) →
      Here items May Of aliases places x (nodes_of n) → Holds (typing.typed (K x) standing n) →
      Permits items (IfRoot items May Of) aliases a → changes a.access ≡ true →
      replaces a.access ≡ true → a.place ≡ place_of aliases n → a.root ≡ root_of n →
      May ((shape items n).place places)
  replaced_may aliases places x n standing a h typed p c r e f =
      told_places.may_at items May n aliases places h.sees.seen h.owned
      (here.unrooted items May Of (place_of aliases n) ((shape items n).place places)
      (node_seen items aliases places h.sees.seen n)
      (here.place_stands items May Of n standing aliases places x h typed).0
      (subst (told_places.MaySeen items (IfRoot items May Of)) e (p.changed c)))
      (λ none. rootless (root_of n) refl (λ key k. p.replaced key r (f ∙ k)
      (unnamed_alias aliases key (root_unnamed n aliases key k none))))
    where
      rootless : (o : Option ℕ) → root_of n ≡ o → ((key : ℕ) → root_of n ≡ Some key → ⊥) → root_of n ≡ None
      rootless None k never = k
      rootless (Some key) k never = absurd (never key k)

  pub regrouped : (a b c : List Node) (aliases : rules.Aliases) (places : shapes.Aliases) (x : Standpoint) →
      Here items May Of aliases places x ((a ++ b) ++ c) → Here items May Of aliases places x (a ++ (b ++ c))
  regrouped a b c aliases places x h = subst (Here items May Of aliases places x) (grouped a b c) h
    where
      grouped : (a b c : List Node) → (a ++ b) ++ c ≡ a ++ (b ++ c)
      grouped [] b c = refl
      grouped (n ∷ a) b c = ap (λ l. n ∷ l) (grouped a b c)

  -- with the names that a statement brings into scope
  pub statement_names : (form : Form) (aliases : rules.Aliases) (places : shapes.Aliases) (x : Standpoint)
      (ns : List Node) → Here items May Of aliases places x (nodes_in form) → Rises (nodes_in form ++ ns) →
      Here items May Of aliases places x ns → Here items May Of aliases places
      (with_names (typing.entries_in form) x) ns
  statement_names (tree.Let pattern value) aliases places x ns g r h =
      here.here_names items May Of aliases places x pattern ns
      (here.here_left items May Of aliases places x (nodes_of pattern) (nodes_if_any value) g).past
      (λ key i. name_above (nodes_of pattern ++ nodes_if_any value) ns key r
      (name_left (nodes_of pattern) (nodes_if_any value) key i))
      (here.here_left items May Of aliases places x (nodes_of pattern) (nodes_if_any value) g).names
      (here.here_left items May Of aliases places x (nodes_of pattern) (nodes_if_any value) g).under
      (here.here_left items May Of aliases places x (nodes_of pattern) (nodes_if_any value) g).name_types h
  statement_names form aliases places x ns g r h = record {
    sees = record { seen = h.sees.seen; guarded = h.sees.guarded; closure = h.sees.closure; plain = h.sees.plain };
    past = h.past;
    outer = h.outer;
    rises = h.rises;
    owned = h.owned;
    all = h.all;
    low = h.low;
    names = h.names;
    others = h.others;
    stand = h.stand;
    self = h.self;
    types = h.types;
    self_type = h.self_type;
    name_types = h.name_types;
    under = h.under;
    away = λ d i. record { names = (h.away d i).names; self = (h.away d i).self };
  }

  -- a pattern with parts, by what its value does
  pub let_within : (form : Form) (pid : ℕ) (pat : Pos) (pty : TyId) (pby : Option Use) (value : Node) (id : ℕ)
      (aliases : rules.Aliases) (places : shapes.Aliases) (x : Standpoint) → (IsName form → ⊥) →
      Here items May Of aliases places (beside id x) (nodes_of (node pid pat pty pby form) ++ nodes_of value) →
      Holds (typing.statement (K (beside id x)) (tree.Let (node pid pat pty pby form) (present value))) →
      ((standing : Standing) → Here items May Of aliases places (beside id x) (nodes_of value) →
      Holds (typing.typed (K (beside id x)) standing value) → Told items May Of aliases (told aliases value) →
      within.Reaching items May Says places (ids (beside id x)) value) →
      Told items May Of aliases (told aliases value ⊕ rules.of_let aliases (node pid pat pty pby form) value) →
      within.WithinIn items May Says places (ids x) id (tree.Let (node pid pat pty pby form) (present value))
  let_within (tree.Binding name) pid pat pty pby value id aliases places x not_name g h r t = absurd (not_name tt)
  let_within form pid pat pty pby value id aliases places x not_name g h r t =
      let p = node pid pat pty pby form in
      let g_p = here.here_left items May Of aliases places (beside id x) (nodes_of p) (nodes_of value) g in
      let g_v = here.here_right items May Of aliases places (beside id x) (nodes_of p) (nodes_of value) g in (
        r Base g_v h.0 (here.told_left items May Of aliases (told aliases value)
            (accesses_of (bound (place_of aliases value) p)) t),
        (matches aliases places (beside id x) p value true Base pty g.sees.seen g.sees g_p.owned g_v.owned h.0 h.1.1.0
            (here.place_stands items May Of value Base aliases places (beside id x) g_v h.0)
            (here.told_right items May Of aliases (told aliases value)
            (accesses_of (bound (place_of aliases value) p)) t).0).1,
      )

  -- a first argument and the others, by what they do
  pub passed_within : (first : Node) (args : Nodes) (tys : List TyId) (aliases : rules.Aliases)
      (places : shapes.Aliases)
      (x : Standpoint) → Here items May Of aliases places x (nodes_of first ++ nodes_among args) →
      Holds (typing.first_and_rest (λ t. typing.typed (K x) (Passed t) first)
      (λ ts. typing.arguments (K x) ts args) tys) →
      ((ty : TyId) → Here items May Of aliases places x (nodes_of first) →
      Holds (typing.typed (K x) (Passed ty) first) → W places (ids x) first) →
      ((ts : List TyId) → Here items May Of aliases places x (nodes_among args) →
      Holds (typing.arguments (K x) ts args) → within.AllWithin items May Says places (ids x) args) →
      W places (ids x) first × within.AllWithin items May Says places (ids x) args
  passed_within first args [] aliases places x g h f r = absurd (false≢true h)
  passed_within first args (ty ∷ tys) aliases places x g h f r = (
    f ty (here.here_left items May Of aliases places x (nodes_of first) (nodes_among args) g) h.0,
    r tys (here.here_right items May Of aliases places x (nodes_of first) (nodes_among args) g) h.1,
  )

  pub receiver_left : (receiver : Node) (aliases : rules.Aliases) (more : CollectedAccesses) →
      Told items May Of aliases ((receiver_of aliases receiver (told aliases receiver)).told ⊕ more) →
      Told items May Of aliases (told aliases receiver)
  receiver_left receiver aliases more t =
      subst (Told items May Of aliases) (receiver_told receiver aliases (told aliases receiver))
      (here.told_left items May Of aliases (receiver_of aliases receiver (told aliases receiver)).told more t)

  -- a scrutinee, a pattern and a body, by what the nodes do
  pub taken_within : (p s body : Node) (aliases : rules.Aliases) (places : shapes.Aliases) (x : Standpoint) →
      Here items May Of aliases places x (nodes_of p ++ nodes_of s ++ nodes_of body) →
      Holds (typing.typed (K x) (Used Use.Borrow) s) → Holds (typing.of_scrutinee (K x) p s) →
      Told items May Of aliases (rules.of_scrutinee aliases p s) →
      (Here items May Of aliases places x (nodes_of s) → within.Reaching items May Says places (ids x) s) →
      (Here items May Of aliases places (with_names (entries_of p) x) (nodes_of body) → W places (ids x) body) →
      (within.Reaching items May Says places (ids x) s × within.Matches items May Says p
      ((shape items s).place places))
      × W places (ids x) body
  taken_within p s body aliases places x g h m u r b =
      let g2 = here.here_left items May Of aliases places x (nodes_of p ++ nodes_of s) (nodes_of body) g in
      let g_p = here.here_left items May Of aliases places x (nodes_of p) (nodes_of s) g2 in
      let g_s = here.here_right items May Of aliases places x (nodes_of p) (nodes_of s) g2 in (
        (
          r g_s,
          matches aliases places x p s false (Used Use.Borrow) (ty_of s) g.sees.seen g.sees g_p.owned g_s.owned h m.1
              (here.place_stands items May Of s (Used Use.Borrow) aliases places x g_s h) u.0,
        ),
        b (here.here_names items May Of aliases places x p (nodes_of body) g_p.past
            (λ key i. name_above (nodes_of p ++ nodes_of s) (nodes_of body) key g.rises
            (name_left (nodes_of p) (nodes_of s) key i)) g_p.names g_p.under g_p.name_types
            (here.here_right items May Of aliases places x (nodes_of p ++ nodes_of s) (nodes_of body) g)),
      )

-- Nodes for the half on places, in guards and outside: by their kinds, what is known of each from the text, and what
-- is asked of indices and of guards.
use Rattle.std.proofs.Common.{◌≡◌, ℕ, ◌==◌, ◌&&◌, not, Bool, true, false, List, [], ◌∷◌, ◌++◌, Option, Some, None, refl, ap, sym, ◌∙◌, subst}
use Rattle.std.specs.Prelude.{option_and_then}
use Rattle.std.proofs.lemmas.Bool.{false≢true}
use Rattle.std.proofs.lemmas.Bool.Decides.{Decides-eqb}
use Rattle.std.proofs.lemmas.Option.{none-some, same_Some}
use Rattle.mir_ty.specs.declared.ty.Ty.{Ty}
use Rattle.mir_ty.specs.declared.ty.TyId.{TyId}
use Rattle.mir_ty.specs.Facts.{needs_drop}
use Rattle.mir_ty.specs.ItemTable.{ItemTable, type_at}
use Rattle.store_model.specs.Effects.{EffectSite, Operand, Action, Effects}
use Rattle.store_model.specs.Places.Place.{ToElement, Place, is_reference}
use Rattle.typed_tree.specs.declared.node.Use.{Use}
use Rattle.typed_tree.specs.Nodes.{number_of, nodes_of}
use Rattle.typed_tree.specs.Tree as tree
use Rattle.typed_tree.specs.Tree.{Node, node, Form, Nodes, no_node, a_node, Fields, no_field, a_field, MaybeNode, absent, present, BodyTree}
use Rattle.typing_rules.specs.Accesses.{root_of}
use Rattle.src_meaning.specs.Evaluation as evaluation
use Rattle.src_meaning.specs.Evaluation.{meaning, meaning_of, meanings, fields_of, meaning_if_any, to_own_key}
use Rattle.src_meaning.specs.Forms as forms
use Rattle.src_meaning.specs.Forms.{Destination, Into, LoopsAndGuards, Meaning, moved, is_never, place_of, site_of}
use Rattle.src_meaning.specs.Locals.Effects.{place_at}
use Rattle.src_meaning.specs.Locals.OfBody.{cells, reached_cells, local_of, local_ty}
use Rattle.src_meaning.specs.Scopes.{Scopes, Does}
use Rattle.src_meaning.specs.Shape.{NodeHead, head, Shape, shape, shape_of, moves}
use Rattle.well_typed.specs.Claim.{Holds}
use Rattle.well_typed.specs.Nodes as typing
use Rattle.well_typed.specs.Patterns as patterns
use Rattle.well_typed.specs.Patterns.{Matched}
use Rattle.well_typed.specs.Places.{Context, in_guard, ty_of, form_of, is_place, is_by, is_rooted, is_behind_shared, may_move, may_move_by, Standing, Taken, Wanted, Passed, Base, Used, Stored, is_borrow}
use Rattle.well_typed.specs.Types as types
use Rattle.soundness_values.proofs.AlsoTests.{Also}
use Rattle.soundness_values.proofs.Checked.{Checking}
use Rattle.soundness_values.proofs.CheckedBodies.{is_reference_param}
use Rattle.soundness_values.proofs.Checks as checks
use Rattle.soundness_values.proofs.Facts.{Facts, bounded_by}
use Rattle.soundness_cells.proofs.PassCellActs.{Cell}
use Rattle.soundness_cells.proofs.PassCellEffects.{marked_run}
use Rattle.soundness_cells.proofs.PassCellNames.{PlaceOk}
use Rattle.soundness_cells.proofs.PassCellNodes as nodes
use Rattle.soundness_cells.proofs.PassCellPatterns.{Told, Has}
use Rattle.soundness_cells.proofs.PassCellPlaces as places
use Rattle.soundness_cells.proofs.PassCellPlaces.{Scoped}
use Rattle.soundness_cells.proofs.PassCellStands as stand
use Rattle.soundness_cells.proofs.PassCellTypes as facts_of
use Rattle.soundness_cells.proofs.PassCellTypes.{Alone}
use Rattle.soundness.proofs.PassChangeable as changing
use Rattle.soundness_cells.proofs.PassFacts.{Standpoint, context, with_names}
use Rattle.soundness_frame.proofs.PassFrameCalls.{Ends}
use Rattle.soundness_values.proofs.PassHeads.{number_is, shape_is}
use Rattle.soundness.proofs.PassKnownPlaces.{Known, StepKnown}
use Rattle.soundness.proofs.PassKnownStores as stores
use Rattle.soundness.proofs.PassKnownStores.{Replaced}
use Rattle.soundness.proofs.PassMovable.{Movable, RootPlain, moved_place, whole_movable}
use Rattle.soundness_cells.proofs.PassNumbers.{own_number, numbered_right, rises_apart}
use Rattle.soundness.proofs.PassPlacesCalm.{watching, Calm, safe}
use Rattle.soundness.proofs.PassPlacesMeant as meant
use Rattle.soundness.proofs.PassPlacesLooked.{Looked}
use Rattle.soundness.proofs.PassPlacesMatch as matching
use Rattle.soundness.proofs.PassPlacesReach as reach
use Rattle.soundness.proofs.PassPlacesReach.{Kept, Keeps, After, Brings, KeepsIf, Led}
use Rattle.soundness.proofs.PassPlacesRules as rules
use Rattle.soundness.proofs.PassPlacesRules.{touches_none, NoValue}
use Rattle.soundness.proofs.PassPlacesScope as scope
use Rattle.soundness.proofs.PassPlacesScope.{Stood, Bindings}
use Rattle.soundness_cells.proofs.PassRefilled.{not_mark}
use Rattle.soundness.proofs.PassReplacedBy.{replaced_by}
use Rattle.typing_rules.specs.Accesses as accesses
use Rattle.soundness_cells.proofs.PassListed.{Lists}
use Rattle.soundness_frame.proofs.PassTold.{ids, IsValue, moved_so}
use Rattle.soundness_frame.proofs.PassToldPlaces.{is_alias}
use Rattle.soundness_frame.proofs.PassWithin.{Outer, KeysAround, DestIn}

module _ (items : ItemTable) (body : BodyTree) (also : Also) (told : Told items) (fuel : ℕ)
    (bs : Bindings items body) where
  abbrev pub V : Type 0
  V = Checking Facts

  abbrev K : Standpoint → Context
  K = context items

  abbrev r : Effects V
  r = watching items body also bs.aliases

  abbrev pub M : Node → Meaning V
  M = meaning items (watching items body also bs.aliases) fuel

  abbrev pub Of : Form → ℕ → TyId → Option Use → Meaning V
  Of form id ty by = meaning_of items (watching items body also bs.aliases) fuel form (head id ty by) (shape_of
      items form (head id ty by))

  -- the place of a node
  abbrev pub P : Node → Place
  P n = (shape items n).place bs.aliases

  abbrev pub PF : Form → ℕ → TyId → Option Use → Place
  PF form id ty by = (shape_of items form (head id ty by)).place bs.aliases

  -- with these bindings of guards, and with such cells around
  abbrev pub Outside : Outer → LoopsAndGuards → Type 0
  Outside o around = (around.aliases ≡ bs.aliases) × KeysAround around o

  -- a node that is evaluated, wherever its value goes, and into one of such cells
  abbrev pub Any : Outer → Meaning V → Type 0
  Any o m = (around : LoopsAndGuards) → Outside o around → (own : Bool) (to : Destination) →
      Keeps items body also bs.aliases (m.evaluate around own to)

  abbrev pub Es : Outer → Meaning V → Type 0
  Es o m = (around : LoopsAndGuards) → Outside o around → (own : Bool) (to : Destination) →
      DestIn (m.head.id ∷ o.keys) to → Keeps items body also bs.aliases (m.evaluate around own to)

  -- one that goes to its own cell
  abbrev pub Own : Outer → Meaning V → Type 0
  Own o m = (around : LoopsAndGuards) → Outside o around → (own : Bool) →
      Keeps items body also bs.aliases (m.evaluate around own (Into m.head.id))

  -- and one that is reached
  abbrev pub Rs : Outer → Place → Meaning V → Type 0
  Rs o place m = (around : LoopsAndGuards) → Outside o around → Brings items body also bs.aliases (Led items body
      also bs.aliases place) (m.reach around)

  abbrev pub AllE : Outer → List (Meaning V) → Type 0
  AllE o ms = (around : LoopsAndGuards) → Outside o around →
      rules.AllEvaluated items r (not_mark 5) (Calm items body also bs.aliases) (safe items body also bs.aliases)
      around ms

  -- ---- what is asked

  -- that a guard is kept, and leaves its scrutinee
  abbrev pub GuardAsked : Type 0
  GuardAsked = (pattern guard : Node) (sc : Option accesses.AccessPlace) →
      scope.Free items body bs (accesses.told_guard bs.outer sc (accesses.bound sc pattern) (present guard)) →
      (x : Standpoint) (m : Matched) (want : TyId) → Scoped items body x → types.is_reference items want ≡ false →
      Lists items want →
      Stood items body bs x (nodes_of pattern ++ nodes_of guard) → Holds (patterns.pattern items m want pattern) →
      Holds (typing.typed (K (with_names (in_guard (patterns.entries_of pattern)) x)) Taken guard) →
      Has items body (cells items true pattern) → Has items body (cells items true guard) → (place : Place) →
      Looked items body bs x (nodes_of pattern ++ nodes_of guard) sc place →
      PlaceOk items body want place → (m.may_move ≡ true → Movable items body place) →
      matching.Lies items body also bs.aliases told (nodes_of pattern) place → (around : LoopsAndGuards) → Outside
      (ids x) around → matching.Guards items body also bs.aliases told around place ((shape items pattern).bindings
      place) (M guard)

  -- and an index the place of its base
  pub record Asked : Type 0 where
    pub index : (base index : Node) → scope.Free items body bs (accesses.told bs.outer index) → (x : Standpoint) →
        Scoped items body x →
        Stood items body bs x (nodes_of base ++ nodes_of index) → Holds (typing.typed (K x) Base base) →
        Holds (typing.typed (K x) Taken index) → Has items body (reached_cells items base) →
        Has items body (cells items true index) → (around : LoopsAndGuards) → Outside (ids x) around → (S : Scopes)
        (v : V) → Calm items body also bs.aliases v → Led items body also bs.aliases (P base) v →
        Ends (Led items body also bs.aliases (P base)) ((M index).evaluate around false (Into (M index).head.id) S v)
    pub guard : GuardAsked

  -- ---- small facts

  -- a value that is handed on is no borrow
  abbrev pub IsHanded : Standing → Type 0
  IsHanded Taken = Unit {0}
  IsHanded (Wanted ty) = Unit {0}
  IsHanded standing = ⊥

  pub handed_value : (standing : Standing) → IsHanded standing → IsValue standing
  handed_value Taken v = tt
  handed_value (Wanted ty) v = tt
  handed_value (Passed ty) v = absurd v
  handed_value Base v = absurd v
  handed_value (Used by) v = absurd v
  handed_value Stored v = absurd v

  taken_loose : (x : Standpoint) (ty : TyId) (by : Option Use) (form : Form) →
      Holds (Rattle.well_typed.specs.Places.stands (K x) Taken ty by form) → is_borrow form ≡ false
  taken_loose x ty by (tree.Borrow unique base) h =
      absurd (false≢true (facts_of.right_of (Rattle.std.proofs.Common.is_none by) false h))
  taken_loose x ty by form h = refl

  pub handed_loose : (x : Standpoint) (standing : Standing) (ty : TyId) (by : Option Use) (form : Form) →
      IsHanded standing → Holds (Rattle.well_typed.specs.Places.stands (K x) standing ty by form) → is_borrow form ≡
      false
  handed_loose x Taken ty by form v h = taken_loose x ty by form h
  handed_loose x (Wanted want) ty by form v h = taken_loose x ty by form h.0
  handed_loose x (Passed want) ty by form v h = absurd v
  handed_loose x Base ty by form v h = absurd v
  handed_loose x (Used usage) ty by form v h = absurd v
  handed_loose x Stored ty by form v h = absurd v

  pub valued : (standing : Standing) → IsValue standing → stand.Valued items body told fuel standing
  valued Taken v = tt
  valued (Wanted ty) v = tt
  valued (Passed ty) v = tt
  valued Base v = absurd v
  valued (Used by) v = absurd v
  valued Stored v = absurd v

  pub plain_of : (id : TyId) → Alone items id → is_reference (type_at items id) ≡ false
  plain_of id a = facts_of.is_false (is_reference (type_at items id))
      (facts_of.left_of (not (is_reference (type_at items id))) _ a)

  pub plain_by : (id : TyId) → types.is_reference items id ≡ false → is_reference (type_at items id) ≡ false
  plain_by id e = sym (facts_of.reference_by (type_at items id)) ∙ e

  by_move : (by : Option Use) → moves by ≡ true → by ≡ Some Use.Move
  by_move (Some Use.Move) e = refl
  by_move by e = absurd (false≢true e)

  -- what is moved by its use may be moved
  pub moved_use : (x : Standpoint) (standing : Standing) (ty : TyId) (by : Option Use) (form : Form) → IsValue
      standing → Holds (Rattle.well_typed.specs.Places.stands (K x) standing ty by form) → is_place form ≡ true →
      moves by ≡ true → may_move_by (K x) form ≡ true
  moved_use x standing ty by form v h p e =
      moved_so items Rattle.soundness_frame.proofs.PassFrameBodies.any_place (scope.Of items body) standing x ty by form v
      h p (by_move by e)

  pub placed : (n : Node) (around : LoopsAndGuards) → around.aliases ≡ bs.aliases → place_of (M n) around ≡ P n
  placed n around na = ap (λ (s : Shape). s.place around.aliases) (shape_is items r fuel n)
      ∙ ap (λ a. (shape items n).place a) na

  -- a node is made, where it is no place
  abbrev pub Made : Node → Type 0
  Made n = is_place (form_of n) ≡ false → is_never items (ty_of n) ≡ false

  pub node_ok : (n : Node) (x : Standpoint) (standing : Standing) → Holds (typing.typed (K x) standing n) →
      Scoped items body x → Has items body (reached_cells items n) → Made n →
      types.is_reference items (ty_of n) ≡ false → PlaceOk items body (ty_of n) (P n)
  node_ok n x standing h s k made plain = places.node_place items body told fuel n x standing h s k made
      (plain_by (ty_of n) plain) bs.aliases bs.names

  pub node_moved : (n : Node) (x : Standpoint) (standing : Standing) → Holds (typing.typed (K x) standing n) →
      (ns : List Node) → Stood items body bs x ns → Scoped items body x → Has items body (reached_cells items n) →
      Made n → types.is_reference items (ty_of n) ≡ false → may_move (K x) n ≡ true → Movable items body (P n)
  node_moved n x standing h ns g s k made plain m = moved_place items body told fuel n x standing h s k made
      (plain_by (ty_of n) plain) bs.aliases bs.names (scope.unaliased items body bs x ns g) m

  -- the cell of a node that is made
  pub own_cell : (n : Node) (x : Standpoint) (standing : Standing) → Holds (typing.typed (K x) standing n) →
      Has items body (cells items true n) → is_never items (ty_of n) ≡ false → Cell items body (number_of n) (ty_of n)
  own_cell n x standing h k made = subst (λ l. Cell items body l (ty_of n)) (number_is items (marked_run items body)
      fuel n) (nodes.node_cell items body fuel n (ty_of n) (stand.own_dest items body told fuel n x standing h k)
      (nodes.made_node items body fuel n made) refl)

  -- ---- elements

  array_length : (o : Option Ty) (a : TyId × ℕ) (element : TyId) (count : ℕ) → option_and_then types.array_in o ≡
      Some a → o ≡ Some (Ty.Array element count) → a.1 ≡ count
  array_length None a element count e f = absurd (none-some a e)
  array_length (Some (Ty.Array t n)) a element count e f = let same : a.1 ≡ count = cc in same
  array_length (Some ty) a element count e f = absurd (none-some a e)

  -- an index that is below the length leads on
  pub element_step : (base index : Node) (count : ℕ) (x : Standpoint) (ty : TyId) → Holds (typing.typed (K x) Base
      base) → (a : TyId × ℕ) → types.array_of items (ty_of base) ≡ Some a → (count == a.1) ≡ true → Scoped items
      body x →
      Has items body (reached_cells items base) → (facts : Facts) →
      bounded_by facts (local_of items body (number_of index)) count ≡ true →
      StepKnown items body facts (P base) (ToElement (number_of index))
  element_step base index count x ty h a e same s k facts b =
      let is_array = (facts_of.array_by (type_at items (ty_of base)) a e).0 in
      let ok = places.node_place items body told fuel base x Base h s k
      (λ p. subst (λ o. Rattle.store_model.specs.Places.TypeForms.is_never o ≡ false) (sym is_array) refl)
      (subst (λ o. is_reference o ≡ false) (sym is_array) refl) bs.aliases bs.names in
      λ root element n t is. subst (λ m. bounded_by facts (local_of items body (number_of index)) m ≡ true)
      ((Decides-eqb count a.1).0 same ∙ array_length (type_at items (ty_of base)) a element n e
      (ap (type_at items) (same_Some (ty_of base) root (sym ok.typed ∙ t)) ∙ is)) b

  -- ---- nodes by their kinds

  pub effect_kept : (o : Outer) (h : NodeHead) (s : Shape) (action : EffectSite → Action) →
      ((site : EffectSite) → touches_none (action site) ≡ true) → Any o (evaluation.effect items r fuel h s action)
  effect_kept o h s action t around na own to =
      rules.own_kept items r (not_mark 5) (Calm items body also bs.aliases) (safe items body also bs.aliases) h own
      (forms.deliver items r h action (to_own_key (is_never items h.ty) h.id to))
      (rules.deliver_kept items r (not_mark 5) (Calm items body also bs.aliases) (safe items body also bs.aliases) h
      action (to_own_key (is_never items h.ty) h.id to) t)

  pub operands_kept : (o : Outer) (h : NodeHead) (s : Shape) (ms : List (Meaning V)) (action : EffectSite → Action)
      → AllE o ms → ((site : EffectSite) → touches_none (action site) ≡ true) → Any o (evaluation.on_operands items
      r fuel h s ms action)
  operands_kept o h s ms action e t around na own to =
      rules.acting_kept items r (not_mark 5) (Calm items body also bs.aliases) (safe items body also bs.aliases) h
      around own ms (forms.deliver items r h action (to_own_key (is_never items h.ty) h.id to)) (e around na)
      (rules.deliver_kept items r (not_mark 5) (Calm items body also bs.aliases) (safe items body also bs.aliases) h
      action (to_own_key (is_never items h.ty) h.id to) t)

  pub gives_unit_kept : (o : Outer) (h : NodeHead) (s : Shape) (m : Meaning V) (action : Operand → Action) → AllE o
      (m ∷ []) → touches_none (action (moved h.id m.head.id)) ≡ true → Any o (evaluation.gives_unit items r fuel h s
      m action)
  gives_unit_kept o h s m action e t around na own to =
      rules.acting_kept items r (not_mark 5) (Calm items body also bs.aliases) (safe items body also bs.aliases) h
      around own (m ∷ []) (evaluation.unit_after items r fuel h (action (moved h.id m.head.id)) (to_own_key
      (is_never items h.ty) h.id to)) (e around na)
      (rules.both_kept items r (not_mark 5) (Calm items body also bs.aliases) (safe items body also bs.aliases)
      (forms.acts items r (action (moved h.id m.head.id)))
      (forms.put_unit items r h (to_own_key (is_never items h.ty) h.id to))
      (rules.acts_kept items r (not_mark 5) (Calm items body also bs.aliases) (safe items body also bs.aliases)
      (action (moved h.id m.head.id)) t)
      (rules.unit_kept items r (not_mark 5) (Calm items body also bs.aliases) (safe items body also bs.aliases) h
      (to_own_key (is_never items h.ty) h.id to)))

  pub place_kept : (o : Outer) (form : Form) (id : ℕ) (ty : TyId) (by : Option Use) (reach_ : LoopsAndGuards → Does
      V) → ((around : LoopsAndGuards) → Outside o around →
      Brings items body also bs.aliases (Led items body also bs.aliases (PF form id ty by)) (reach_ around)) →
      (moves by ≡ true → Movable items body (PF form id ty by)) →
      Any o (evaluation.a_place items r fuel (head id ty by) (shape_of items form (head id ty by)) reach_)
  place_kept o form id ty by reach_ b m around na own to =
      reach.used_kept items body also bs.aliases (head id ty by) (shape_of items form (head id ty by)) reach_ around
      own (to_own_key (is_never items ty) id to)
      (subst (λ a. Brings items body also bs.aliases (Led items body also bs.aliases ((shape_of items form (head id
      ty by)).place a)) (reach_ around)) (sym na.0) (b around na))
      (subst (λ a. moves by ≡ true → Movable items body ((shape_of items form (head id ty by)).place a)) (sym na.0) m)

  -- a value that is reached as a place is a temporary
  pub temporary_meant : (form : Form) (id : ℕ) (ty : TyId) (by : Option Use) → is_place form ≡ false →
      (Of form id ty by).reach
      ≡ forms.temporary items r (Of form id ty by).head (Of form id ty by).shape (Of form id ty by).evaluate
  temporary_meant = meant.temporary_meant items r fuel

  -- ---- assignments

  unshared : (n : Node) (x : Standpoint) → is_place (form_of n) ≡ true → not (is_behind_shared (K x) n) ≡ true →
      is_rooted (K x) n ≡ false
  unshared (node id at ty by form) x p e = second (is_place form) _ p e
    where
      second : (a b : Bool) → a ≡ true → not (a && b) ≡ true → b ≡ false
      second true true p e = absurd (false≢true e)
      second true false p e = refl
      second false b p e = absurd (false≢true p)

  pub replaced_so : (target value : Node) (x : Standpoint) → Holds (typing.typed (K x) Stored target) →
      is_place (form_of target) ≡ true → not (is_behind_shared (K x) target) ≡ true →
      types.is_reference items (ty_of target) ≡ false → Holds (typing.typed (K x) (Wanted (ty_of target)) value) →
      Scoped items body x → Stood items body bs x (nodes_of target ++ nodes_of value) →
      Has items body (reached_cells items target) → Has items body (cells items true value) →
      is_never items (ty_of value) ≡ false →
      ((key : ℕ) → root_of target ≡ Some key → is_alias bs.outer key ≡ true → ⊥) → (facts : Facts) →
      Known items body facts (P target) → Replaced items body also facts (P target) (number_of value)
  replaced_so target value x h p shared plain hv s g k kv made unbound facts known =
      replaced_by items body also facts (P target) (number_of value) (nodes_of target) (root_of target)
      (scope.made_at items body bs told fuel target x Stored h
      (scope.stood_left items body bs x (nodes_of target) (nodes_of value) g) itself)
      (λ same. scope.elsewhere items body bs target x Stored h (nodes_of target ++ nodes_of value) g itself
      (number_of value) same (numbered_right (nodes_of target) (nodes_of value) (number_of value) (own_number value)))
      (λ n. rises_apart (nodes_of target) (nodes_of value) g.here.rises (number_of value) n (own_number value)) known
      (changing.changed_place items body told fuel target x Stored h s k (λ q. absurd (false≢true (sym q ∙ p)))
      (λ q. absurd (false≢true (sym q ∙ p))) bs.aliases itself (unshared target x p shared))
      (whole_movable items body (number_of value) (ty_of value) (own_cell value x (Wanted (ty_of target)) hv kv made)
      (plain_by (ty_of value) (same_plain (facts_of.made_fits items (ty_of target) (ty_of value)
      (stand.wanted_fits items body told fuel x (ty_of target) value hv) made))))
    where
      itself : RootPlain bs.aliases (root_of target)
      itself = scope.root_plain items body bs x (nodes_of target ++ nodes_of value) g (root_of target) unbound

      same_plain : ty_of value ≡ ty_of target → types.is_reference items (ty_of value) ≡ false
      same_plain e = ap (types.is_reference items) e ∙ plain

  pub needs_so : (target : Node) (x : Standpoint) → Holds (typing.typed (K x) Stored target) →
      is_place (form_of target) ≡ true → types.is_reference items (ty_of target) ≡ false → Scoped items body x →
      Has items body (reached_cells items target) → needs_drop items (ty_of target) ≡ false →
      checks.needs items (local_ty items body) (is_reference_param items body) (place_at (local_of items body) (P
      target)) ≡ false
  needs_so target x h p plain s k e = stores.needs_by_type items body also (ty_of target) (P target)
      (node_ok target x Stored h s k (λ q. absurd (false≢true (sym q ∙ p))) plain) ∙ e

-- What the pass over the forms for the first test uses at its nodes: where a value goes and of which type, references
-- and names, jumps, lists of arms.
use Rattle.std.proofs.Common.{◌≡◌, ◌⊎◌, inl, inr, ℕ, ◌==◌, ◌&&◌, ◌||◌, not, Bool, true, false, List, [], ◌∷◌, ◌++◌, length, Option, Some, None, is_none, if◌then◌else◌, refl, ap, sym, ◌∙◌, subst}
use Rattle.std.specs.Prelude.{option_and_then}
use Rattle.std.specs.List.{list_all}
use Rattle.std.specs.Option.{option_map_or}
use Rattle.std.proofs.lemmas.Bool.{false≢true}
use Rattle.std.proofs.lemmas.Option.{none-some}
use Rattle.mir_ty.specs.declared.ty.Ty.{Ty}
use Rattle.mir_ty.specs.declared.ty.TyId.{TyId}
use Rattle.mir_ty.specs.ItemTable.{ItemTable, type_at}
use Rattle.store_model.specs.Effects as effects
use Rattle.store_model.specs.Effects.{EffectSite, Copied, Action}
use Rattle.store_model.specs.Places.Place.{Place, is_reference}
use Rattle.typed_tree.specs.declared.node.Use.{Use}
use Rattle.typed_tree.specs.Tree as tree
use Rattle.typed_tree.specs.Tree.{Node, node, Form, Nodes, no_node, a_node, Fields, MaybeNode, BodyTree}
use Rattle.src_meaning.specs.Evaluation.{meaning, meaning_of, meanings, fields_of, meaning_if_any}
use Rattle.src_meaning.specs.Forms as forms
use Rattle.src_meaning.specs.Forms.{Destination, Into, Coerced, coerced, LoopsAndGuards, Meaning, is_never, site_in}
use Rattle.src_meaning.specs.Locals.OfBody.{cells, reached_cells, cells_in}
use Rattle.src_meaning.specs.Scopes.{Entry, Scopes}
use Rattle.src_meaning.specs.Shape.{NodeHead, head, Shape, shape, shape_of}
use Rattle.well_typed.specs.Claim.{Claim, Holds, fact, both}
use Rattle.well_typed.specs.Nodes as typing
use Rattle.well_typed.specs.Patterns as patterns
use Rattle.well_typed.specs.Patterns.{Matched}
use Rattle.well_typed.specs.Places.{LoopAround, Context, ty_of, form_of, is_place, is_borrow, Standing, Taken, Base, Used}
use Rattle.well_typed.specs.Types as types
use Rattle.soundness_values.proofs.Checked.{Checking}
use Rattle.soundness_values.proofs.Facts.{Facts}
use Rattle.soundness_values.proofs.Leaving.{Shown}
use Rattle.soundness_cells.proofs.PassCellDeclared.{AllPlain}
use Rattle.soundness_cells.proofs.PassCellNames.{Names, PlaceOk, BoundsPlaced, array_leads}
use Rattle.soundness_cells.proofs.PassCellPlaces as places
use Rattle.soundness_cells.proofs.PassCellPlaces.{Scoped}
use Rattle.soundness_cells.proofs.PassCellTaken as taken
use Rattle.soundness_values.proofs.PlaceTypes.{some_holds, same_type}
use Rattle.soundness_cells.proofs.PassCellActs as acts
use Rattle.soundness_cells.proofs.PassCellActs.{Cell}
use Rattle.soundness_cells.proofs.PassCellEffects.{marked_run, may_end, Acts, Tests, Drops, Made, does_well}
use Rattle.soundness_cells.proofs.PassCellNodes as nodes
use Rattle.soundness_cells.proofs.PassCellNodes.{May, Post, Fine, Well, Reach, Reached, AroundWell, Dest, Given, IsMade, Delivers}
use Rattle.soundness_cells.proofs.PassCellPatterns as cells_of
use Rattle.soundness_cells.proofs.PassCellPatterns.{Told, Has, has_value}
use Rattle.soundness_cells.proofs.PassCellTests.{no_reference}
use Rattle.soundness_cells.proofs.PassCellTypes as facts
use Rattle.soundness_cells.proofs.PassCellTypes.{Sorted}
use Rattle.soundness_cells.proofs.PassFacts.{Standpoint, context, with_names, behind}
use Rattle.soundness_values.proofs.PassHeads.{type_is, shape_is}
use Rattle.soundness_cells.proofs.PassWell as rules
use Rattle.soundness_cells.proofs.PassWellBranches as branches
use Rattle.soundness_cells.proofs.PassWellStatements as statements
use Rattle.soundness_cells.proofs.PassCellStands as stand
use Rattle.soundness_cells.proofs.PassWell.{MadeBy}
use Rattle.store_model.specs.Effects.{stored_by}
use Rattle.std.specs.Cmp.Derive.{both_true}
use Rattle.store_model.specs.Places.TypeForms as type_forms
use Rattle.well_typed.specs.Places.{is_used}
use Rattle.src_meaning.specs.Shape.{BoundName}
use Rattle.src_meaning.specs.Forms.{bound_entry}

module _ (items : ItemTable) (body : BodyTree) (told : Told items) (fuel : ℕ) where
  abbrev V : Type 0
  V = Checking Facts

  abbrev K : Standpoint → Context
  K = context items

  abbrev M : Node → Meaning V
  M = meaning items (marked_run items body) fuel

  abbrev Ms : Nodes → List (Meaning V)
  Ms = meanings items (marked_run items body) fuel

  abbrev Mf : Fields → List (ℕ × Meaning V)
  Mf = fields_of items (marked_run items body) fuel

  abbrev Mi : MaybeNode → Option (Meaning V)
  Mi = meaning_if_any items (marked_run items body) fuel

  abbrev Of : Form → ℕ → TyId → Option Use → Meaning V
  Of form id ty by =
      meaning_of items (marked_run items body) fuel form (head id ty by) (shape_of items form (head id ty by))

  abbrev H : List Entry → Type 0
  H = Has items body

  abbrev W : Standpoint → Meaning V → Type 0
  W x = Well items body (K x)

  -- ---- small facts

  pub left : (a b : List Entry) → H (a ++ b) → H a
  left = cells_of.has_left items body

  pub right : (a b : List Entry) → H (a ++ b) → H b
  right = cells_of.has_right items body

  pub meant_place : (n : Node) → (M n).shape.is_place ≡ is_place (form_of n)
  meant_place (node id at ty by form) =
      ap (λ (s : Shape). s.is_place) (shape_is items (marked_run items body) fuel (node id at ty by form)) ∙ of_form
      form
    where
      of_form : (form : Form) → (shape_of items form (head id ty by)).is_place ≡ is_place form
      of_form (tree.Variable key) = refl
      of_form form = refl

  -- a node of a type is evaluated where a node of the same type goes
  pub same_head : (n : Node) (want : TyId) (to : Destination) → ty_of n ≡ want → Dest items body want to →
      Dest items body (M n).head.ty to
  same_head n want to e d = subst (λ t. Dest items body t to)
      (sym e ∙ sym (type_is items (marked_run items body) fuel n)) d

  -- `bool` or `!`, where a `bool` goes; and `()` or `!`
  pub bool_head : (n : Node) (want : TyId) (to : Destination) → typing.fits_bool items (ty_of n) ≡ true →
      types.is_bool items want ≡ true → Dest items body want to → Dest items body (M n).head.ty to
  bool_head n want to e w d = of_kind (facts.one_of (types.is_bool items (ty_of n)) (types.is_never items (ty_of n)) e)
    where
      of_kind : (types.is_bool items (ty_of n) ≡ true) ⊎ (types.is_never items (ty_of n) ≡ true) →
          Dest items body (M n).head.ty to
      of_kind (inl b) = same_head n want to (told.bools (ty_of n) want b w) d
      of_kind (inr never) = inl (ap (is_never items) (type_is items (marked_run items body) fuel n)
          ∙ sym (facts.never_same items (ty_of n)) ∙ never)

  pub unit_head : (n : Node) (want : TyId) (to : Destination) → typing.fits_unit items (ty_of n) ≡ true →
      types.is_unit items want ≡ true → Dest items body want to → Dest items body (M n).head.ty to
  unit_head n want to e w d = of_kind (facts.one_of (types.is_unit items (ty_of n)) (types.is_never items (ty_of n)) e)
    where
      of_kind : (types.is_unit items (ty_of n) ≡ true) ⊎ (types.is_never items (ty_of n) ≡ true) →
          Dest items body (M n).head.ty to
      of_kind (inl b) = same_head n want to (told.units (ty_of n) want b w) d
      of_kind (inr never) = inl (ap (is_never items) (type_is items (marked_run items body) fuel n)
          ∙ sym (facts.never_same items (ty_of n)) ∙ never)

  -- what is no `!` is made
  pub sorted_made : {A : Type 0} (ty : TyId) → Sorted items ty → A → IsMade items body ty
  sorted_made ty s a = s.1

  pub same_made : (n : Node) (want : TyId) → ty_of n ≡ want → IsMade items body (M n).head.ty → IsMade items body want
  same_made n want e m = subst (λ t. is_never items t ≡ false) e (nodes.is_made_node items body fuel n m)

  pub index_bounds : (index : Node) (count : ℕ) → Dest items body (M index).head.ty (Into (M index).head.id) →
      (types.is_usize items (ty_of index) || types.is_never items (ty_of index)) ≡ true →
      IsMade items body (M index).head.ty →
      Acts items body (effects.Bounds (Copied (forms.site_of_key (M index).head.id)) count)
  index_bounds index count d e made =
      let u = facts.usize_is items (ty_of index)
      (facts.made_is items (types.is_usize items (ty_of index)) (ty_of index) e
      (nodes.is_made_node items body fuel index made)) in
      acts.bounds_acts items body (M index).head.id count (ty_of index)
      (nodes.node_cell items body fuel index (ty_of index) d made refl)
      u.0

  -- an answer of a type that is known goes to a destination
  pub sorted_delivers : (h : NodeHead) (action : EffectSite → Action) → Sorted items h.ty →
      ((key : ℕ) → Cell items body key h.ty → Acts items body (action (site_in h.id key))) →
      ((key : ℕ) → MadeBy (Made items body)
      (stored_by (action (site_in h.id key))) → Made items body (site_in h.id key)) →
      (to : Destination) → Given items body h to → Delivers items body (IsMade items body h.ty) h action to
  sorted_delivers h action s a m to g = nodes.delivers items body h action a m to
      (nodes.given_cell items body h to g (λ e. nodes.not_never items body h.ty s e))

  pub called_delivers : (h : NodeHead) (action : EffectSite → Action) →
      (is_never items h.ty ≡ true → Cell items body h.id h.ty) →
      ((key : ℕ) → Cell items body key h.ty → Acts items body (action (site_in h.id key))) →
      ((key : ℕ) → MadeBy (Made items body)
      (stored_by (action (site_in h.id key))) → Made items body (site_in h.id key)) →
      (to : Destination) → Given items body h to → Delivers items body (IsMade items body h.ty) h action to
  called_delivers h action n a m to g = nodes.delivers items body h action a m to
      (nodes.given_cell items body h to g n)

  -- a coercion goes to a box of a trait object
  pub coerced_dest : (h : NodeHead) (operand : Node) (trait_no : ℕ) →
      typing.box_implements items h.ty (ty_of operand) trait_no ≡ true →
      Dest items body (M operand).head.ty (Into (M operand).head.id) → (to : Destination) → Given items body h to →
      Dest items body (M operand).head.ty (coerced (M operand).head.id trait_no to)
  coerced_dest h operand trait_no e (inl n) (Into key) g = inl n
  coerced_dest h operand trait_no e (inl n) (Coerced key another to) g = inl n
  coerced_dest h operand trait_no e (inr c) (Into key) g = inr (
    c,
    (
      h.ty,
      (
        nodes.given_cell items body h (Into key) g (λ n. nodes.not_never items body h.ty
            (facts.coerces items h.ty (ty_of operand) trait_no e).object_alone n),
        subst (λ t. May items body h.ty t trait_no) (sym (type_is items (marked_run items body) fuel operand)) e,
      ),
    ),
  )
  coerced_dest h operand trait_no e (inr c) (Coerced key another to) g =
      let d = nodes.given_cell items body h (Coerced key another to) g (λ n. nodes.not_never items body h.ty
      (facts.coerces items h.ty (ty_of operand) trait_no e).object_alone n) in
      absurd (facts.not_twice items h.ty (ty_of operand) d.1.0 trait_no another e d.1.1.1)

  -- the names of a pattern, and its tests, as the evaluation has them
  names_meant : (p : Node) (m : Matched) (want : TyId) → Holds (patterns.pattern items m want p) →
      (typing.is_one_name p ≡ true → types.is_reference items want ≡ false) → H (cells items true p) → (place : Place) →
      PlaceOk items body want place → taken.AllTaken items body ((M p).shape.bindings place)
  names_meant p m want h r k place pl = subst (λ (s : Shape). taken.AllTaken items body (s.bindings place))
      (sym (shape_is items (marked_run items body) fuel p))
      (taken.names_taken items body told p m want h r k place pl)

  pub bounds_meant : (p : Node) (m : Matched) (want : TyId) → Holds (patterns.pattern items m want p) →
      (typing.is_one_name p ≡ true → types.is_reference items want ≡ false) → H (cells items true p) → (place : Place) →
      PlaceOk items body want place → taken.BoundsOk items body ((M p).shape.bindings place)
  bounds_meant p m want h r k place pl = taken.taken_ok items body ((M p).shape.bindings place)
      (names_meant p m want h r k place pl)

  pub placed_meant : (p : Node) (m : Matched) (want : TyId) → Holds (patterns.pattern items m want p) →
      (typing.is_one_name p ≡ true → types.is_reference items want ≡ false) → H (cells items true p) → (place : Place) →
      PlaceOk items body want place → BoundsPlaced items body ((M p).shape.bindings place)
  placed_meant p m want h r k place pl = taken.taken_placed items body ((M p).shape.bindings place)
      (names_meant p m want h r k place pl)

  pub tests_meant : (p : Node) (m : Matched) (want : TyId) → Holds (patterns.pattern items m want p) →
      H (cells items true p) → (place : Place) → PlaceOk items body want place →
      taken.TestsOk items body ((M p).shape.tests place)
  tests_meant p m want h k place pl = subst (λ (s : Shape). taken.TestsOk items body (s.tests place))
      (sym (shape_is items (marked_run items body) fuel p)) (taken.tests_ok items body told p m want h k place pl)

  -- the place of a node, as the evaluation has it, if it is reached
  abbrev pub Placed : Node → Type 0
  Placed n = Reached items body (M n) → (around : LoopsAndGuards) → Names items body around.aliases →
      PlaceOk items body (ty_of n) (forms.place_of (M n) around)

  pub placed_node : (n : Node) (x : Standpoint) (standing : Standing) → Holds (typing.typed (K x) standing n) →
      Scoped items body x → H (reached_cells items n) → types.is_reference items (ty_of n) ≡ false → Placed n
  placed_node n x standing h s k r reached around names =
      subst (λ (z : Shape). PlaceOk items body (ty_of n) (z.place around.aliases))
      (sym (shape_is items (marked_run items body) fuel n))
      (places.node_place items body told fuel n x standing h s k
      (λ p. nodes.is_made_node items body fuel n (reached (meant_place n ∙ p)))
      (sym (facts.reference_by (type_at items (ty_of n))) ∙ r) around.aliases names)

  -- a place that leads on is touched
  pub touched : (n : Node) → Placed n → (around : LoopsAndGuards) → Names items body around.aliases →
      (M n).shape.is_place ≡ true → Acts items body (effects.Touch (forms.site_of (M n) around))
  touched n placed around names p = (placed (λ q. absurd (false≢true (sym q ∙ p))) around names).leading

  -- a scrutinee is no reference by itself
  pub used_plain : (x : Standpoint) (u : Use) (n : Node) → Holds (typing.typed (K x) (Used u) n) →
      types.is_reference items (ty_of n) ≡ false
  used_plain x u (node id at ty by form) h = facts.is_false (types.is_reference items ty)
      (facts.right_of (is_used (K x) u by form) (not (types.is_reference items ty)) h.0)

  pub any_declared : (bounds : List BoundName) → AllPlain items body bounds →
      statements.DeclaredOk items (marked_run items body) may_end (Acts items body) (Tests items body)
      (Drops items body) (Made items body) (does_well items body) (Cell items body) (May items body) (Names items body) bounds
  any_declared [] p = tt
  any_declared (b ∷ bounds) p = (
    (
      (λ n. one_so _ _ (ap (λ o. option_map_or (no_reference items) o false) p.0.0
          ∙ ap not (sym (facts.reference_by (type_at items b.ty)) ∙ p.0.1))),
      nodes.droppable items body (bound_entry b) p.0.0,
    ),
    any_declared bounds p.1,
  )
    where
      one_so : (a b : Bool) → a ≡ true → (a || b) ≡ true
      one_so true b h = refl
      one_so false b h = absurd (false≢true h)

  -- what is reached and no place has a cell of its own
  pub own_reached : (n : Node) → (M n).shape.is_place ≡ false → H (reached_cells items n) → H (cells items true n)
  own_reached (node id at ty by form) p k =
      cells_of.reached_own items body id at ty by form (sym (meant_place (node id at ty by form)) ∙ p) k

  -- where one of two is false, so are both
  pub second_false : (a b : Bool) → b ≡ false → (a && b) ≡ false
  second_false true b e = e
  second_false false b e = refl

  pub first_false : (a b : Bool) → a ≡ false → (a && b) ≡ false
  first_false true b e = absurd (false≢true (sym e))
  first_false false b e = refl

  pub either_false : (a b : Bool) → a ≡ false → b ≡ false → (a || b) ≡ false
  either_false true b e f = absurd (false≢true (sym e))
  either_false false b e f = f

  pub never_false : (n : Node) → IsMade items body (M n).head.ty → types.is_never items (ty_of n) ≡ false
  never_false n m = facts.never_same items (ty_of n) ∙ nodes.is_made_node items body fuel n m

  -- a block without a tail
  pub no_tail : (ty : TyId) (ends : Bool) → (if ends then types.is_never items ty else types.is_unit items ty) ≡ true →
      ends ≡ false → types.is_unit items ty ≡ true
  no_tail ty true h e = absurd (false≢true (sym e))
  no_tail ty false h e = h

  pub unit_if_well : (c : Context) (h : NodeHead) (to : Destination) → types.is_unit items h.ty ≡ true →
      Given items body h to →
      (S : Scopes) (v : V) → Fine items body S → Shown may_end (Post items body c (IsMade items body h.ty))
      (forms.put_unit_if items (marked_run items body) (is_never items h.ty) h to S v)
  unit_if_well c h to e g S v f = of_never (is_never items h.ty) refl
    where
      of_never : (b : Bool) → is_never items h.ty ≡ b → Shown may_end (Post items body c (IsMade items body h.ty))
          (forms.put_unit_if items (marked_run items body) b h to S v)
      of_never true n = nodes.not_never items body h.ty (facts.unit_is items h.ty e).1 n
      of_never false n = rules.deliver_well items (marked_run items body) may_end (Acts items body) (Tests items body)
          (Drops items body) (Made items body) (does_well items body) (Cell items body) (May items body) (Names items body) c
          (IsMade items body h.ty) h (λ site. effects.Put site effects.UnitValue) to
          (nodes.unit_delivers items body fuel h to e g) S v f

  -- a `let` whose pattern is one name
  pub one_name : (p : Node) → typing.is_one_name p ≡ (shape items p).is_binding
  one_name (node id at ty by form) = of_form form
    where
      of_form : (form : Form) → typing.is_one_name (node id at ty by form) ≡
          (shape_of items form (head id ty by)).is_binding
      of_form (tree.Binding name) = refl
      of_form form = refl

  abbrev pub around_a : ℕ → TyId → Bool → LoopAround
  around_a id ty has_value = record { loop = id; ty = ty; has_value = has_value }

  -- a branch, which goes to the destination of the whole
  pub alone_to : (x : Standpoint) (n : Node) (h : NodeHead) (around : LoopsAndGuards) (to : Destination) →
      AroundWell items body (K x) around → W x (M n) → Dest items body (M n).head.ty to →
      (IsMade items body (M n).head.ty → IsMade items body h.ty) → (S : Scopes) (v : V) → Fine items body S →
      Shown may_end (Post items body (K x) (IsMade items body h.ty))
      (forms.alone items (marked_run items body) around (M n) to S v)
  alone_to x n h around to ok w d f S v fine = rules.more_valued items (marked_run items body) may_end (Acts items body)
      (Tests items body) (Drops items body) (Made items body) (does_well items body) (Cell items body) (May items body) (Names items body)
      (K x) (IsMade items body (M n).head.ty) (IsMade items body h.ty) f
      (forms.alone items (marked_run items body) around (M n) to S v)
      (rules.alone_well items (marked_run items body) may_end (Acts items body) (Tests items body)
      (Drops items body) (Made items body) (does_well items body) (Cell items body) (May items body) (Names items body) (K x) around
      (M n) to ok w d S v fine)

  -- an element is no reference
  element_plain : (base index : Node) (count : ℕ) (x : Standpoint) (id : ℕ) (ty : TyId) →
      Holds (typing.row (K x) id ty (tree.Index base index count)) → is_reference (type_at items ty) ≡ false
  element_plain base index count x id ty h =
      let a = some_holds (types.array_of items (ty_of base))
      (λ a. fact (types.is_same ty a.0 && count == a.1)) h.1.1.1 in
      subst (λ i. is_reference (type_at items i) ≡ false)
      (sym (same_type ty a.0.0 (facts.left_of (types.is_same ty a.0.0) _ a.1.1)))
      (sym (facts.reference_by (type_at items a.0.0))
      ∙ facts.is_false (types.is_reference items a.0.0) (facts.right_of _ _ (facts.right_of _ _
      (told.arrays (ty_of base) a.0 a.1.0))))

  pub element_with : (base index : Node) (length : ℕ) (x : Standpoint) (id : ℕ) (ty : TyId) (by : Option Use) →
      Holds (typing.row (K x) id ty (tree.Index base index length)) →
      H (cells_in items (tree.Index base index length)) →
      Scoped items body x → Reach items body (K x) (M base) → W x (M index) → (valued : Type 0) → valued →
      (around : LoopsAndGuards) (S : Scopes)
      (v : V) → AroundWell items body (K x) around → Fine items body S → Shown may_end (Post items body (K x) valued)
      (forms.reach_element items (marked_run items body) (head id ty by)
      (shape_of items (tree.Index base index length) (head id ty by))
      (M base) (M index) length around S v)
  element_with base index length x id ty by h k s r w valued made around S v ok f =
      let d = stand.own_dest items body told fuel index x Taken h.1.0
      (right (reached_cells items base) (cells items true index) k) in
      rules.element_well items (marked_run items body) may_end (Acts items body) (Tests items body) (Drops items body)
      (Made items body) (does_well items body) (Cell items body) (May items body) (Names items body) (K x) valued (Unit {0})
      (head id ty by)
      (shape_of items (tree.Index base index length) (head id ty by)) (M base) (M index) length around ok r w d
      (array_leads items body ((shape_of items (tree.Index base index length) (head id ty by)).place around.aliases)
      (places.form_place items body told fuel (tree.Index base index length) x id ty by h refl s k
      (element_plain base index length x id ty h) around.aliases ok.0).leading)
      (λ m. index_bounds index length d h.1.1.0 m) made S v f

  pub either_reached : {R : Type 0} (b : Bool) (form : Form) → is_place form ≡ b → (is_place form ≡ true → R) →
      (is_place form ≡ false → R) → R
  either_reached true form e f g = f e
  either_reached false form e f g = g e

  -- what is behind statements is in the same loops, and in the same body
  pub around_behind : (ns : Nodes) (x : Standpoint) (around : LoopsAndGuards) → AroundWell items body (K x) around →
      AroundWell items body (K (behind x ns)) around
  around_behind no_node x around ok = ok
  around_behind (a_node (node id at ty by form) rest) x around ok =
      around_behind rest (with_names (typing.entries_in form) x) around ok

  pub well_behind : (ns : Nodes) (x : Standpoint) (m : Meaning V) → W (behind x ns) m → W x m
  well_behind no_node x m w = w
  well_behind (a_node (node id at ty by form) rest) x m w = well_behind rest (with_names (typing.entries_in form) x) m w

  pub behind_holds : (ns : Nodes) (x : Standpoint) (rest : Context → Claim) → Holds (typing.statements (K x) ns rest) →
      Holds (rest (K (behind x ns)))
  behind_holds no_node x rest h = h
  behind_holds (a_node (node id at ty by form) more) x rest h =
      behind_holds more (with_names (typing.entries_in form) x) rest h.1.1

  -- where a value goes that a jump takes along
  pub as_given : (h : NodeHead) (ty : TyId) (to : Destination) → types.is_unit items ty ≡ true → Dest items body ty to →
      Given items body (record { id = h.id; ty = ty; by = h.by }) to
  as_given h ty to e (inl n) = nodes.not_never items body ty (facts.unit_is items ty e).1 n
  as_given h ty to e (inr d) = inr d

  pub unit_jump : (c : Context) (h : NodeHead) (ty : TyId) (to : Destination) → types.is_unit items ty ≡ true →
      Dest items body ty to →
      (S : Scopes) (v : V) → Fine items body S →
      Shown may_end (Post items body c (IsMade items body ty)) (forms.put_unit items (marked_run items body) h to S v)
  unit_jump c h ty to e d S v f = rules.deliver_well items (marked_run items body) may_end (Acts items body)
      (Tests items body) (Drops items body) (Made items body) (does_well items body) (Cell items body) (May items body) (Names items body)
      c (IsMade items body ty) h (λ site. effects.Put site effects.UnitValue) to
      (nodes.unit_delivers items body fuel (record { id = h.id; ty = ty; by = h.by }) to e (as_given h ty to e d)) S v f

  pub value_jump : (x : Standpoint) (n : Node) (want : TyId) (around : LoopsAndGuards) (to : Destination) →
      AroundWell items body (K x) around → W x (M n) → types.fits items want (ty_of n) ≡ true →
      Dest items body want to →
      (S : Scopes) (v : V) → Fine items body S →
      Shown may_end (Post items body (K x) (IsMade items body want)) ((M n).evaluate around false to S v)
  value_jump x n want around to ok w e d S v f =
      rules.more_valued items (marked_run items body) may_end (Acts items body) (Tests items body) (Drops items body)
      (Made items body) (does_well items body) (Cell items body) (May items body) (Names items body) (K x)
      (IsMade items body (M n).head.ty) (IsMade items body want)
      (nodes.fits_made items body fuel n want e) ((M n).evaluate around false to S v)
      (w around false to S v ok (stand.fits_head items body told fuel n want to e d) f)

  -- a reference goes to a cell of its own
  pub reference_sort : (o : Option Ty) (r : Bool × TyId) → option_and_then types.reference_in o ≡ Some r →
      type_forms.is_never o ≡ false
  reference_sort None r e = absurd (none-some r e)
  reference_sort (Some Ty.Never) r e = absurd (none-some r e)
  reference_sort (Some ty) r e = refl

  pub reference_delivers : (h : NodeHead) (action : EffectSite → Action) (r : Bool × TyId) →
      types.reference_of items h.ty ≡ Some r →
      ((key : ℕ) → Cell items body key h.ty → Acts items body (action (site_in h.id key))) →
      ((key : ℕ) → MadeBy (Made items body)
      (stored_by (action (site_in h.id key))) → Made items body (site_in h.id key)) →
      (to : Destination) → Given items body h to → Delivers items body (IsMade items body h.ty) h action to
  reference_delivers h action r e a m to g = nodes.delivers items body h action a m to
      (nodes.given_cell items body h to g
      (λ n. absurd (false≢true (sym (reference_sort (type_at items h.ty) r e) ∙ n))))

  -- a `let` of another pattern than a name
  pub let_ends : (value : Node) (x : Standpoint) → Holds (typing.typed (K x) Base value) →
      Reached items body (M value) →
      (types.is_never items (ty_of value) && not (typing.is_unused_place value)) ≡ false
  let_ends (node id at ty by form) x h r = of_place (is_place form) refl
    where
      n : Node
      n = node id at ty by form

      by_none : is_none by ≡ true
      by_none = facts.left_of (is_none by) (not (is_borrow form)) h.0

      of_place : (b : Bool) → is_place form ≡ b → (types.is_never items ty && not (is_place form && is_none by)) ≡ false
      of_place true e = second_false (types.is_never items ty) (not (is_place form && is_none by))
          (ap not (both_true e by_none))
      of_place false e = first_false (types.is_never items ty) (not (is_place form && is_none by))
          (never_false n (r (meant_place n ∙ e)))

  pub arms_fit : (arms : Nodes) (ty : TyId) (to : Destination) → list_all (types.fits items ty) (typing.types_in arms) ≡
      true →
      Dest items body ty to → branches.ArmsFit items (marked_run items body) may_end (Acts items body)
      (Tests items body) (Drops items body) (Made items body) (does_well items body) (Cell items body)
      (May items body)
      (Names items body) (IsMade items body ty) to (Ms arms)
  arms_fit no_node ty to e d = tt
  arms_fit (a_node first rest) ty to e d =
      let f = facts.left_of (types.fits items ty (ty_of first)) (list_all (types.fits items ty) (typing.types_in rest))
      e in (
        (stand.fits_head items body told fuel first ty to f d, nodes.fits_made items body fuel first ty f),
        arms_fit rest ty to (facts.right_of (types.fits items ty (ty_of first))
            (list_all (types.fits items ty) (typing.types_in rest)) e) d,
      )

  pub temporary_meant : (form : Form) (id : ℕ) (ty : TyId) (by : Option Use) → is_place form ≡ false →
      (Of form id ty by).reach
      ≡ forms.temporary items (marked_run items body) (Of form id ty by).head (Of form id ty by).shape
      (Of form id ty by).evaluate
  temporary_meant (tree.Variable key) id ty by e = absurd (false≢true (sym e))
  temporary_meant (tree.Captured closure part name) id ty by e = absurd (false≢true (sym e))
  temporary_meant (tree.Field base part) id ty by e = absurd (false≢true (sym e))
  temporary_meant (tree.Index base index length) id ty by e = absurd (false≢true (sym e))
  temporary_meant (tree.Deref base) id ty by e = absurd (false≢true (sym e))
  temporary_meant form id ty by e = refl

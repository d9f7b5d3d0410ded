-- The pass over the forms for the first test: all that is done with cells is of the right types, a node of type `!` has
-- no value, and a jump names a loop around it. One line a form.
use Rattle.std.proofs.Common.{◌≡◌, ◌⊎◌, inl, inr, ℕ, ◌&&◌, ◌||◌, not, Bool, true, false, List, [], ◌∷◌, length, Option, is_none, is_some, if◌then◌else◌, refl, ap, sym, ◌∙◌, subst, ◌==◌, map, slice_get, suc}
use Rattle.std.specs.Prelude.{replicate}
use Rattle.std.specs.List.{list_all}
use Rattle.std.proofs.lemmas.Bool.{false≢true}
use Rattle.mir_ty.specs.declared.ty.TyId.{TyId}
use Rattle.mir_ty.specs.Facts.{is_copy, needs_drop}
use Rattle.mir_ty.specs.ItemTable.{ItemTable, type_at}
use Rattle.store_model.specs.Effects as effects
use Rattle.store_model.specs.Places.Place.{is_reference}
use Rattle.typed_tree.specs.declared.node.Use.{Use}
use Rattle.typed_tree.specs.Nodes.{number_of}
use Rattle.typed_tree.specs.Tree as tree
use Rattle.typed_tree.specs.Tree.{Node, node, Form, Nodes, no_node, a_node, Fields, MaybeNode, BodyTree, no_field, a_field}
use Rattle.src_meaning.specs.Evaluation.{meaning, meaning_of, meanings, fields_of, meaning_if_any}
use Rattle.src_meaning.specs.Forms as forms
use Rattle.src_meaning.specs.Forms.{Destination, Into, Meaning, moved, is_never}
use Rattle.src_meaning.specs.Locals.OfBody.{cells, all_cells}
use Rattle.src_meaning.specs.Shape.{NodeHead, head, Shape, moves}
use Rattle.well_typed.specs.Claim.{Claim, Holds, fact, both}
use Rattle.well_typed.specs.Items.{stands_alone, is_param}
use Rattle.well_typed.specs.Nodes as typing
use Rattle.well_typed.specs.Patterns as patterns
use Rattle.well_typed.specs.Places.{Context, ty_of, is_place, is_borrow, is_by, taking, may_take, stands, Standing, Taken, Wanted, Passed, Base, Used, Stored}
use Rattle.well_typed.specs.Types as types
use Rattle.soundness_values.proofs.Checked.{Checking}
use Rattle.soundness_values.proofs.Facts.{Facts}
use Rattle.soundness_cells.proofs.PassCellActs as acts
use Rattle.soundness_cells.proofs.PassCellActs.{Cell}
use Rattle.soundness_cells.proofs.PassCellCopies.{copied_use}
use Rattle.soundness_cells.proofs.PassCellEffects.{marked_run, Tests}
use Rattle.soundness_cells.proofs.PassCellNodes as nodes
use Rattle.soundness_cells.proofs.PassCellNodes.{Own, AllOwn, AllMade, Dest, IsMade}
use Rattle.soundness_cells.proofs.PassCellPatterns as cells_of
use Rattle.soundness_cells.proofs.PassCellPatterns.{Told, Has, has_value}
use Rattle.soundness_cells.proofs.PassCellTypes as facts
use Rattle.soundness_cells.proofs.PassCellTypes.{Alone}
use Rattle.soundness_cells.proofs.PassCells.{is_literal, made_ty}
use Rattle.soundness_cells.proofs.PassFacts.{Standpoint, context}
use Rattle.soundness_values.proofs.PassHeads.{type_is, number_is}
use Rattle.soundness_values.proofs.PlaceTypes.{same_type, some_holds}
use Rattle.std.proofs.lemmas.Bool.Decides.{Decides-eqb}
use Rattle.src_meaning.specs.Evaluation.{in_number_order, values_of}
use Rattle.src_meaning.specs.Locals.OfBody.{cells_of_fields}
use Rattle.well_typed.specs.Names.{are_distinct_numbers}
use Rattle.soundness_cells.proofs.PassCellItems.{all_at}
use Rattle.soundness_cells.proofs.PassFieldOrder as order

module _ (items : ItemTable) (body : BodyTree) (told : Told items) (fuel : ℕ) where
  abbrev V : Type 0
  V = Checking Facts

  abbrev K : Standpoint → Context
  K = context items

  abbrev M : Node → Meaning V
  M = meaning items (marked_run items body) fuel

  abbrev Ms : Nodes → List (Meaning V)
  Ms = meanings items (marked_run items body) fuel

  abbrev Mf : Fields → List (ℕ × Meaning V)
  Mf = fields_of items (marked_run items body) fuel

  abbrev Mi : MaybeNode → Option (Meaning V)
  Mi = meaning_if_any items (marked_run items body) fuel

  -- ---- how a node stands

  -- its value is used
  abbrev pub Valued : Standing → Type 0
  Valued Taken = Unit {0}
  Valued (Wanted ty) = Unit {0}
  Valued (Passed ty) = Unit {0}
  Valued Base = ⊥
  Valued (Used by) = ⊥
  Valued Stored = ⊥

  pub place_no_borrow : (form : Form) → is_place form ≡ true → is_borrow form ≡ false
  place_no_borrow (tree.Borrow unique base) e = absurd (false≢true e)
  place_no_borrow form e = refl

  pub if_place : (b p q r z : Bool) → b ≡ true → Holds (if b then both (fact p) (both (fact q) (fact r)) else fact z) →
      (q ≡ true) × (r ≡ true)
  if_place true p q r z e h = (h.1.0, h.1.1)
  if_place false p q r z e h = absurd (false≢true e)

  pub taken_alone : (x : Standpoint) (ty : TyId) (by : Option Use) (form : Form) → is_place form ≡ true →
      Holds (stands (K x) Taken ty by form) → Alone items ty
  taken_alone x ty by form e h =
      let k = if_place (is_place form) (is_by (taking items ty) by) (may_take (K x) (is_copy items ty) ty form)
      (not (types.is_reference items ty)) (is_none by && not (is_borrow form)) e h in
      facts.used_alone items ty _ k.0 k.1

  pub if_passed : (b p q r : Bool) (taken : Claim) (fit : Bool) →
      Holds (if b then fact ((p && q) && r) else both taken (fact fit)) →
      ((p ≡ true) × (r ≡ true)) ⊎ (Holds taken × (fit ≡ true))
  if_passed true p q r taken fit h = inl (
    facts.left_of p q (facts.left_of (p && q) r h),
    facts.right_of (p && q) r h,
  )
  if_passed false p q r taken fit h = inr h

  pub passed_so : (x : Standpoint) (want ty : TyId) (by : Option Use) (form : Form) →
      Holds (stands (K x) (Passed want) ty by form) →
      ((is_borrow form ≡ true) × (types.is_same ty want ≡ true))
      ⊎ (Holds (stands (K x) Taken ty by form) × (types.fits items want ty ≡ true))
  passed_so x want ty by form h = if_passed (types.is_reference items want && not (types.is_never items ty))
      (is_borrow form)
      (is_none by) (types.is_same ty want) (stands (K x) Taken ty by form) (types.fits items want ty) h

  pub place_alone : (x : Standpoint) (standing : Standing) (ty : TyId) (by : Option Use) (form : Form) →
      Valued standing →
      Holds (stands (K x) standing ty by form) → is_place form ≡ true → Alone items ty
  place_alone x Taken ty by form v h e = taken_alone x ty by form e h
  place_alone x (Wanted want) ty by form v h e = taken_alone x ty by form e h.0
  place_alone x (Passed want) ty by form v h e = cases (passed_so x want ty by form h)
    where
      cases : ((is_borrow form ≡ true) × (types.is_same ty want ≡ true))
          ⊎ (Holds (stands (K x) Taken ty by form) × (types.fits items want ty ≡ true)) → Alone items ty
      cases (inl b) = absurd (false≢true (sym (place_no_borrow form e) ∙ b.0))
      cases (inr t) = taken_alone x ty by form e t.0
  place_alone x Base ty by form v h e = absurd v
  place_alone x (Used u) ty by form v h e = absurd v
  place_alone x Stored ty by form v h e = absurd v

  -- a place whose value is used and not moved needs no dropping
  taken_copied : (x : Standpoint) (ty : TyId) (by : Option Use) (form : Form) → is_place form ≡ true →
      Holds (stands (K x) Taken ty by form) → moves by ≡ false → needs_drop items ty ≡ false
  taken_copied x ty by form e h m = told.copies ty (copied_use items ty by (used (is_place form) e h) m)
    where
      used : (b : Bool) → b ≡ true → Holds (if b then both (fact (is_by (taking items ty) by))
          (both (fact (may_take (K x) (is_copy items ty) ty form)) (fact (not (types.is_reference items ty))))
          else fact (is_none by && not (is_borrow form))) → is_by (taking items ty) by ≡ true
      used true e h = h.0
      used false e h = absurd (false≢true e)

  pub place_copied : (x : Standpoint) (standing : Standing) (ty : TyId) (by : Option Use) (form : Form) →
      Valued standing → Holds (stands (K x) standing ty by form) → is_place form ≡ true → moves by ≡ false →
      needs_drop items ty ≡ false
  place_copied x Taken ty by form v h e m = taken_copied x ty by form e h m
  place_copied x (Wanted want) ty by form v h e m = taken_copied x ty by form e h.0 m
  place_copied x (Passed want) ty by form v h e m = cases (passed_so x want ty by form h)
    where
      cases : ((is_borrow form ≡ true) × (types.is_same ty want ≡ true))
          ⊎ (Holds (stands (K x) Taken ty by form) × (types.fits items want ty ≡ true)) → needs_drop items ty ≡ false
      cases (inl b) = absurd (false≢true (sym (place_no_borrow form e) ∙ b.0))
      cases (inr t) = taken_copied x ty by form e t.0 m
  place_copied x Base ty by form v h e m = absurd v
  place_copied x (Used u) ty by form v h e m = absurd v
  place_copied x Stored ty by form v h e m = absurd v

  pub wanted_fits : (x : Standpoint) (want : TyId) (n : Node) → Holds (typing.typed (K x) (Wanted want) n) →
      types.fits items want (ty_of n) ≡ true
  wanted_fits x want (node id at ty by form) h = h.0.1

  pub passed_fits : (x : Standpoint) (want : TyId) (n : Node) → Holds (typing.typed (K x) (Passed want) n) →
      types.fits items want (ty_of n) ≡ true
  passed_fits x want (node id at ty by form) h = cases (passed_so x want ty by form h.0)
    where
      cases : ((is_borrow form ≡ true) × (types.is_same ty want ≡ true))
          ⊎ (Holds (stands (K x) Taken ty by form) × (types.fits items want ty ≡ true)) →
          types.fits items want ty ≡ true
      cases (inl b) = ap (λ z. z || types.is_never items ty) b.1
      cases (inr t) = t.1

  -- ---- cells of its own

  pub to_head : (n : Node) → Dest items body (ty_of n) (Into (number_of n)) →
      Dest items body (M n).head.ty (Into (M n).head.id)
  to_head n d = subst (λ t. Dest items body t (Into (M n).head.id)) (sym (type_is items (marked_run items body) fuel n))
      (subst (λ k. Dest items body (ty_of n) (Into k)) (sym (number_is items (marked_run items body) fuel n)) d)

  -- an expression has a value, and is no literal of a pattern
  pub of_row : (form : Form) (x : Standpoint) (id : ℕ) (ty : TyId) → Holds (typing.row (K x) id ty form) →
      (has_value form ≡ true) × (is_literal form ≡ false)
  of_row (tree.Let pattern initialiser) x id ty h = absurd (false≢true h)
  of_row (tree.Evaluate expression) x id ty h = absurd (false≢true h)
  of_row (tree.Arm pattern guard body) x id ty h = absurd (false≢true h)
  of_row tree.Wildcard x id ty h = absurd (false≢true h)
  of_row (tree.NumberPattern value) x id ty h = absurd (false≢true h)
  of_row (tree.TruthPattern value) x id ty h = absurd (false≢true h)
  of_row (tree.StructPattern fields) x id ty h = absurd (false≢true h)
  of_row (tree.VariantPattern variant is_test fields) x id ty h = absurd (false≢true h)
  of_row (tree.TuplePattern parts) x id ty h = absurd (false≢true h)
  of_row (tree.ArrayPattern elements) x id ty h = absurd (false≢true h)
  of_row (tree.OrPattern alternatives) x id ty h = absurd (false≢true h)
  of_row form x id ty h = (refl, refl)

  pub own_dest : (n : Node) (x : Standpoint) (standing : Standing) → Holds (typing.typed (K x) standing n) →
      Has items body (cells items true n) → Dest items body (M n).head.ty (Into (M n).head.id)
  own_dest (node id at ty by form) x standing h k = to_head (node id at ty by form) (of_never (is_never items ty) refl)
    where
      of_never : (b : Bool) → is_never items ty ≡ b → Dest items body ty (Into id)
      of_never true e = inl e
      of_never false e = inr (subst (λ b. Cell items body id (made_ty items b ty))
          (of_row form x id ty h.1).1
          (cells_of.own_cell items body id at ty by form (of_row form x id ty h.1).0 k e))

  pub fits_head : (n : Node) (want : TyId) (to : Destination) → types.fits items want (ty_of n) ≡ true →
      Dest items body want to → Dest items body (M n).head.ty to
  fits_head n want to e d = nodes.fits_dest items body fuel n want to e d

  -- the cell of a node that is made, of the type that it fits
  pub fitting_cell : (n : Node) (want : TyId) → Dest items body (M n).head.ty (Into (M n).head.id) →
      IsMade items body (M n).head.ty → types.fits items want (ty_of n) ≡ true → Cell items body (M n).head.id want
  fitting_cell n want d m e = nodes.node_cell items body fuel n want d m
      (facts.made_fits items want (ty_of n) e (nodes.is_made_node items body fuel n m))

  pub bool_cell : (n : Node) → Dest items body (M n).head.ty (Into (M n).head.id) → IsMade items body (M n).head.ty →
      typing.fits_bool items (ty_of n) ≡ true →
      Tests items body (effects.IsTrue (moved (M n).head.id (M n).head.id))
  bool_cell n d m e =
      let b = facts.bool_is items (ty_of n)
      (facts.made_is items (types.is_bool items (ty_of n)) (ty_of n) e (nodes.is_made_node items body fuel n m)) in
      acts.is_true items body (M n).head.id (M n).head.id (ty_of n)
      (nodes.node_cell items body fuel n (ty_of n) d m refl) b.1.0 b.0

  -- ---- lists of types

  pub alone_from : (ty : TyId) → stands_alone items ty ≡ true → Alone items ty
  alone_from ty h =
      let k = facts.right_of (is_some (type_at items ty))
      (not (types.is_dyn items ty) && not (types.is_reference items ty))
      h in
      facts.neither_alone items ty
      (facts.is_false (types.is_reference items ty) (facts.right_of (not (types.is_dyn items ty)) _ k))
      (facts.is_false (types.is_dyn items ty) (facts.left_of (not (types.is_dyn items ty))
      (not (types.is_reference items ty)) k))

  pub param_alone : (ty : TyId) → is_param items ty ≡ true → is_reference (type_at items ty) ≡ false → Alone items ty
  param_alone ty h r = facts.neither_alone items ty (facts.reference_by (type_at items ty) ∙ r)
      (facts.is_false (types.is_dyn items ty)
      (facts.right_of (is_some (type_at items ty)) (not (types.is_dyn items ty)) h))

  pub args_for : (tys : List TyId) (ns : Nodes) (x : Standpoint) → Holds (typing.arguments (K x) tys ns) →
      Has items body (all_cells items ns) → list_all (is_param items) tys ≡ true → AllMade items body (Ms ns) →
      acts.ForParams items body tys (Ms ns)
  args_for [] no_node x h k p m = tt
  args_for [] (a_node first rest) x h k p m = absurd (false≢true h)
  args_for (ty ∷ tys) no_node x h k p m = absurd (false≢true h)
  args_for (ty ∷ tys) (a_node first rest) x h k p m = (
    (
      fitting_cell first ty (own_dest first x (Passed ty) h.0
          (cells_of.has_left items body (cells items true first) (all_cells items rest) k)) m.0
          (passed_fits x ty first h.0),
      param_alone ty (facts.left_of (is_param items ty) (list_all (is_param items) tys) p),
    ),
    args_for tys rest x h.1 (cells_of.has_right items body (cells items true first) (all_cells items rest) k)
        (facts.right_of (is_param items ty) (list_all (is_param items) tys) p) m.1,
  )

  -- a receiver and the other arguments
  pub with_receiver : (tys : List TyId) (receiver : Node) (args : Nodes) (x : Standpoint) →
      Holds (typing.first_and_rest (λ t. typing.typed (K x) (Passed t) receiver) (λ ts. typing.arguments (K x) ts args)
      tys) →
      Holds (typing.arguments (K x) tys (a_node receiver args))
  with_receiver [] receiver args x h = absurd (false≢true h)
  with_receiver (ty ∷ tys) receiver args x h = h

  pub receiver_own : (tys : List TyId) (receiver : Node) (args : Nodes) (x : Standpoint) →
      Holds (typing.first_and_rest (λ t. typing.typed (K x) (Passed t) receiver) (λ ts. typing.arguments (K x) ts args)
      tys) →
      ((ty : TyId) → Holds (typing.typed (K x) (Passed ty) receiver) → Own items body (K x) (M receiver)) →
      ((ts : List TyId) → Holds (typing.arguments (K x) ts args) → AllOwn items body (K x) (Ms args)) →
      AllOwn items body (K x) (M receiver ∷ Ms args)
  receiver_own [] receiver args x h f g = absurd (false≢true h)
  receiver_own (ty ∷ tys) receiver args x h f g = (f ty h.0, g tys h.1)

  pub parts_in : (tys : List TyId) (ns : Nodes) (x : Standpoint) → Holds (typing.made_parts (K x) tys ns) →
      Has items body (all_cells items ns) → list_all (stands_alone items) tys ≡ true → AllMade items body (Ms ns) →
      acts.InCells items body tys (Ms ns)
  parts_in [] no_node x h k p m = tt
  parts_in [] (a_node first rest) x h k p m = absurd (false≢true h)
  parts_in (ty ∷ tys) no_node x h k p m = absurd (false≢true h)
  parts_in (ty ∷ tys) (a_node first rest) x h k p m = (
    (
      fitting_cell first ty (own_dest first x (Wanted ty) h.0
          (cells_of.has_left items body (cells items true first) (all_cells items rest) k)) m.0
          (wanted_fits x ty first h.0),
      alone_from ty (facts.left_of (stands_alone items ty) (list_all (stands_alone items) tys) p),
    ),
    parts_in tys rest x h.1 (cells_of.has_right items body (cells items true first) (all_cells items rest) k)
        (facts.right_of (stands_alone items ty) (list_all (stands_alone items) tys) p) m.1,
  )

  pub elements_in : (ty : TyId) (ns : Nodes) (x : Standpoint) → Holds (typing.elements_of (K x) ty ns) →
      Has items body (all_cells items ns) → stands_alone items ty ≡ true → AllMade items body (Ms ns) →
      acts.InCells items body (replicate (patterns.count_of ns) ty) (Ms ns)
  elements_in ty no_node x h k p m = tt
  elements_in ty (a_node first rest) x h k p m = (
    (
      fitting_cell first ty (own_dest first x (Wanted ty) h.0
          (cells_of.has_left items body (cells items true first) (all_cells items rest) k)) m.0
          (wanted_fits x ty first h.0),
      alone_from ty p,
    ),
    elements_in ty rest x h.1 (cells_of.has_right items body (cells items true first) (all_cells items rest) k) p m.1,
  )

  pub captures_in : (tys : List TyId) (ns : Nodes) (x : Standpoint) → Holds (typing.captured (K x) tys ns) →
      Has items body (all_cells items ns) → list_all (stands_alone items) tys ≡ true → AllMade items body (Ms ns) →
      acts.InCells items body tys (Ms ns)
  captures_in [] no_node x h k p m = tt
  captures_in [] (a_node first rest) x h k p m = absurd (false≢true h)
  captures_in (ty ∷ tys) no_node x h k p m = absurd (false≢true h)
  captures_in (ty ∷ tys) (a_node first rest) x h k p m = (
    (
      nodes.node_cell items body fuel first ty (own_dest first x Taken h.0
          (cells_of.has_left items body (cells items true first) (all_cells items rest) k)) m.0
          (sym (same_type ty (ty_of first) (facts.right_of _ (types.is_same ty (ty_of first)) h.1.0))),
      alone_from ty (facts.left_of (stands_alone items ty) (list_all (stands_alone items) tys) p),
    ),
    captures_in tys rest x h.1.1 (cells_of.has_right items body (cells items true first) (all_cells items rest) k)
        (facts.right_of (stands_alone items ty) (list_all (stands_alone items) tys) p) m.1,
  )

  -- what is no place is reached as a temporary
  pub is_temporary : (form : Form) (h : NodeHead) (s : Shape) → is_place form ≡ false →
      (meaning_of items (marked_run items body) fuel form h s).reach
      ≡ forms.temporary items (marked_run items body) h s
      (meaning_of items (marked_run items body) fuel form h s).evaluate
  is_temporary (tree.Variable key) h s e = absurd (false≢true (sym e))
  is_temporary (tree.Captured closure part name) h s e = absurd (false≢true (sym e))
  is_temporary (tree.Field base part) h s e = absurd (false≢true (sym e))
  is_temporary (tree.Index base index length) h s e = absurd (false≢true (sym e))
  is_temporary (tree.Deref base) h s e = absurd (false≢true (sym e))
  is_temporary form h s e = refl

  -- ---- fields, in the order of their numbers

  abbrev pub InCell : TyId → Meaning V → Type 0
  InCell id m = Cell items body m.head.id id × Alone items id

  pub fields_in : (tys : List TyId) (fields : Fields) (x : Standpoint) →
      Holds (typing.made_fields (K x) tys fields) → Has items body (cells_of_fields items fields) →
      list_all (stands_alone items) tys ≡ true → AllMade items body (values_of (Mf fields)) →
      order.OfFields (Meaning V) InCell tys (Mf fields)
  fields_in tys no_field x h k p m = tt
  fields_in tys (a_field number value rest) x h k p m =
      let t = some_holds (slice_get tys number) (λ ty. typing.typed (K x) (Wanted ty) value) h.0 in (
        (
          t.0,
          (
            t.1.0,
            (
              fitting_cell value t.0 (own_dest value x (Wanted t.0) t.1.1
                  (cells_of.has_left items body (cells items true value) (cells_of_fields items rest) k)) m.0
                  (wanted_fits x t.0 value t.1.1),
              alone_from t.0 (all_at (stands_alone items) tys number t.0 p t.1.0),
            ),
          ),
        ),
        fields_in tys rest x h.1
            (cells_of.has_right items body (cells items true value) (cells_of_fields items rest) k) p m.1,
      )

  as_cells : (ids : List TyId) (fields : List (ℕ × Meaning V)) → order.InOrder (Meaning V) InCell ids fields →
      acts.InCells items body ids (values_of fields)
  as_cells [] [] h = tt
  as_cells [] (f ∷ fields) h = absurd h
  as_cells (id ∷ ids) [] h = absurd h
  as_cells (id ∷ ids) (f ∷ fields) h = (h.0, as_cells ids fields h.1)

  numbers_are : (fields : Fields) → map (λ (f : ℕ × Meaning V). f.0) (Mf fields) ≡ patterns.field_numbers fields
  numbers_are no_field = refl
  numbers_are (a_field number value rest) = ap (λ l. number ∷ l) (numbers_are rest)

  length_is : (fields : Fields) → length (Mf fields) ≡ length (patterns.field_numbers fields)
  length_is no_field = refl
  length_is (a_field number value rest) = ap suc (length_is rest)

  -- each field of a variant is given once, and stands in a cell of its type
  pub ordered_in : (tys : List TyId) (fields : Fields) (x : Standpoint) →
      (are_distinct_numbers (patterns.field_numbers fields)
      && length (patterns.field_numbers fields) == length tys) ≡ true →
      Holds (typing.made_fields (K x) tys fields) → Has items body (cells_of_fields items fields) →
      list_all (stands_alone items) tys ≡ true → AllMade items body (values_of (Mf fields)) →
      acts.InCells items body tys (values_of (in_number_order (Mf fields)))
  ordered_in tys fields x d h k p m = as_cells tys (in_number_order (Mf fields))
      (order.in_order (Meaning V) InCell (Mf fields) tys
      (order.distinct_numbers (Meaning V) (Mf fields)
      (subst (λ l. are_distinct_numbers l ≡ true) (sym (numbers_are fields))
      (facts.left_of (are_distinct_numbers (patterns.field_numbers fields)) _ d)))
      (length_is fields ∙ (Decides-eqb (length (patterns.field_numbers fields)) (length tys)).0
      (facts.right_of (are_distinct_numbers (patterns.field_numbers fields)) _ d))
      (fields_in tys fields x h k p m))

-- Whole results: where a node has a value that goes to the cell of a key, or jumps with one, this cell is whole. Each
-- node fills its destination last, and no entry of a scope that it opens is that cell. One line a form.
use Rattle.std.proofs.Common.{◌≡◌, inl, ℕ, ◌==◌, ◌&&◌, not, true, false, List, [], ◌∷◌, ◌++◌, length, Option, Some, slice_get, refl, sym, ◌∙◌, subst}
use Rattle.std.proofs.lemmas.Bool.{false≢true}
use Rattle.std.proofs.lemmas.Option.{none-some}
use Rattle.mir_base.specs.declared.place_in_text.Pos.{Pos}
use Rattle.mir_ty.specs.declared.ty.TyId.{TyId}
use Rattle.mir_ty.specs.ItemTable.{ItemTable}
use Rattle.store_model.specs.Effects as effects
use Rattle.store_model.specs.Effects.{OfTuple, OfArray, OfVariant, OfClosure, Effects}
use Rattle.store_model.specs.Places.Place.{Place, whole_local}
use Rattle.typed_tree.specs.declared.node.Use.{Use}
use Rattle.typed_tree.specs.Nodes.{nodes_of, nodes_in, nodes_among, nodes_of_fields, nodes_if_any}
use Rattle.typed_tree.specs.Tree as tree
use Rattle.typed_tree.specs.Tree.{Node, node, Form, Nodes, no_node, a_node, Fields, no_field, a_field, MaybeNode, absent, present, BodyTree}
use Rattle.src_meaning.specs.Evaluation.{meaning, meanings, fields_of, meaning_if_any, values_of, in_number_order, to_own_key}
use Rattle.src_meaning.specs.Forms as forms
use Rattle.src_meaning.specs.Forms.{Destination, Into, coerced, LoopsAndGuards, Meaning, in_loop, loop_destination, moved, all_moved, is_never, place_of, site_of}
use Rattle.src_meaning.specs.Locals.OfBody.{cells, reached_cells, cells_in, all_cells, cells_of_fields, cells_if_any}
use Rattle.src_meaning.specs.Scopes.{Entry, Does}
use Rattle.src_meaning.specs.Shape.{NodeHead, head, BoundName, shape_of, kind_of}
use Rattle.well_typed.specs.Claim.{Holds, fact, both}
use Rattle.well_typed.specs.Names.{are_distinct_numbers}
use Rattle.well_typed.specs.Nodes as typing
use Rattle.well_typed.specs.Patterns as patterns
use Rattle.well_typed.specs.Places.{LoopAround, Context, loop_with, in_guard, ty_of, is_place, borrow_by, Standing, Taken, Wanted, Passed, Base, Used, Stored}
use Rattle.well_typed.specs.Types as types
use Rattle.soundness_values.proofs.AlsoTests.{Also}
use Rattle.soundness_values.proofs.Checked.{Checking}
use Rattle.soundness_values.proofs.Facts.{Facts}
use Rattle.soundness_cells.proofs.PassCellParts as at_nodes
use Rattle.soundness_cells.proofs.PassCellPatterns as cells_of
use Rattle.soundness_cells.proofs.PassCellPatterns.{Told, Has}
use Rattle.soundness_cells.proofs.PassFacts.{Standpoint, context, with_names, in_a_loop, behind}
use Rattle.soundness_cells.proofs.PassNumbers.{Numbered}
use Rattle.soundness.proofs.PassPlacesEffects.{q}
use Rattle.soundness.proofs.PassPlacesMeant as meant
use Rattle.soundness.proofs.PassResultRules as rules
use Rattle.soundness.proofs.PassResultRules.{KeepsWhole}
use Rattle.soundness_cells.proofs.PassScopes.{key_of}
use Rattle.soundness_values.proofs.PlaceTypes.{some_holds}
use Rattle.soundness.proofs.PassResultKinds as pass_result_kinds
use Rattle.soundness.proofs.PassResultKinds.{off_left, off_right, claimed, as_claimed, less, of_form, head_off, operand_of, one_of, more_of, effect_so, operands_so, gives_unit_so, used_so, passed_so, branch_so, unit_of, truth_of, unit_if_so, bounds_off, same_meaning, inner_off, guard_around, turn_of}

module _ (items : ItemTable) (body : BodyTree) (also : Also) (told : Told items) (fuel z : ℕ)
    (W : Checking Facts → Type 0) (keeps : KeepsWhole (q items body also) z W) where
  abbrev V : Type 0
  V = Checking Facts

  abbrev K : Standpoint → Context
  K = context items

  abbrev r : Effects V
  r = q items body also

  abbrev N : Node → Meaning V
  N = meaning items (q items body also) fuel

  abbrev Ns : Nodes → List (Meaning V)
  Ns = meanings items (q items body also) fuel

  abbrev Nf : Fields → List (ℕ × Meaning V)
  Nf = fields_of items (q items body also) fuel

  abbrev Ni : MaybeNode → Option (Meaning V)
  Ni = meaning_if_any items (q items body also) fuel

  abbrev F : Form → ℕ → TyId → Option Use → Meaning V
  F = meant.Of items (q items body also) fuel

  abbrev H : List Entry → Type 0
  H = Has items body

  abbrev left : (a b : List Entry) → H (a ++ b) → H a
  left = cells_of.has_left items body

  abbrev right : (a b : List Entry) → H (a ++ b) → H b
  right = cells_of.has_right items body

  abbrev Makes : LoopsAndGuards → Type 0 → Does V → Type 0
  Makes = rules.Makes items r z W keeps

  abbrev OffN : List Node → Type 0
  OffN ns = (key : ℕ) → Numbered ns key → key ≡ z → ⊥

  abbrev Es : Node → Type 0
  Es = pass_result_kinds.Es items body also told fuel z W keeps

  abbrev Rs : Node → Type 0
  Rs n = (around : LoopsAndGuards) → Makes around ⊥ ((N n).reach around)

  abbrev AllE : List (Meaning V) → Type 0
  AllE ms = (around : LoopsAndGuards) → rules.AllMake items r z W keeps around ms

  abbrev Claim : TyId → Destination → Type 0
  Claim ty to = (is_never items ty ≡ false) × (key_of to ≡ z)

  abbrev Fs : TyId → Meaning V → Type 0
  Fs = pass_result_kinds.Fs items body also told fuel z W keeps

  -- ---- the forms

  mutual
    pub node_whole : (n : Node) (x : Standpoint) (standing : Standing) → Holds (typing.typed (K x) standing n) →
        H (cells items false n) → OffN (nodes_of n) → Es n
    node_whole (node id at ty by form) x standing h k o = of_form items body also told fuel z W keeps (node id at ty by form) x standing h k
        (form_whole form x id ty by h.1 (cells_of.inside items body false (node id at ty by form) k)
        (inner_off items body also told fuel z W keeps (node id at ty by form) o))

    pub own_whole : (n : Node) (x : Standpoint) (standing : Standing) → Holds (typing.typed (K x) standing n) →
        H (cells items true n) → OffN (nodes_of n) → Es n
    own_whole (node id at ty by form) x standing h k o = of_form items body also told fuel z W keeps (node id at ty by form) x standing h
        (cells_of.fewer items body (node id at ty by form) k)
        (form_whole form x id ty by h.1 (cells_of.inside items body true (node id at ty by form) k)
        (inner_off items body also told fuel z W keeps (node id at ty by form) o))

    node_reached : (n : Node) (x : Standpoint) (standing : Standing) → Holds (typing.typed (K x) standing n) →
        H (reached_cells items n) → OffN (nodes_of n) → Rs n
    node_reached (node id at ty by form) x standing h k o =
        at_nodes.either_reached items body told fuel (is_place form) form refl
        (λ p around S v. place_reached form x id ty by h.1 p
        (cells_of.reached_inside items body (node id at ty by form) k) (inner_off items body also told fuel z W keeps (node id at ty by form) o) around S v)
        (λ p around S v. subst (λ (reach_ : LoopsAndGuards → Does V). Makes around ⊥ (reach_ around))
        (sym (meant.temporary_meant items (q items body also) fuel form id ty by p))
        (rules.temporary_so items r z W keeps around (F form id ty by).head (F form id ty by).shape
        (F form id ty by).evaluate (head_off items body also told fuel z W keeps (node id at ty by form) o)
        (less items body also told fuel z W keeps around _ _ (form_whole form x id ty by h.1
        (cells_of.reached_inside items body (node id at ty by form) k) (inner_off items body also told fuel z W keeps (node id at ty by form) o)
        around false (Into (F form id ty by).head.id)))) S v)

    place_reached : (form : Form) (x : Standpoint) (id : ℕ) (ty : TyId) (by : Option Use) →
        Holds (typing.row (K x) id ty form) → is_place form ≡ true → H (cells_in items form) → OffN (nodes_in form) →
        (around : LoopsAndGuards) → Makes around ⊥ ((F form id ty by).reach around)
    place_reached (tree.Variable key) x id ty by h p k o around = λ S v f. (f, λ b. absurd b)
    place_reached (tree.Captured closure part name) x id ty by h p k o around = λ S v f. (f, λ b. absurd b)
    place_reached (tree.Field base part) x id ty by h p k o around = node_reached base x Base h.0 k o around
    place_reached (tree.Index base index count) x id ty by h p k o around =
        rules.element_so items r z W keeps around (head id ty by)
        (shape_of items (tree.Index base index count) (head id ty by)) (N base) (N index) count
        (node_reached base x Base h.0 (left (reached_cells items base) (cells items true index) k)
        (off_left items body also told fuel z W keeps (nodes_of base) (nodes_of index) o) around)
        (less items body also told fuel z W keeps around _ _ (own_whole index x Taken h.1.0 (right (reached_cells items base) (cells items true index) k)
        (off_right items body also told fuel z W keeps (nodes_of base) (nodes_of index) o) around false (Into (N index).head.id)))
    place_reached (tree.Deref base) x id ty by h p k o around = node_reached base x Base h.0 k o around
    place_reached form x id ty by h p k o around = absurd (false≢true p)

    pub form_whole : (form : Form) (x : Standpoint) (id : ℕ) (ty : TyId) (by : Option Use) →
        Holds (typing.row (K x) id ty form) → H (cells_in items form) → OffN (nodes_in form) → Fs ty (F form id ty by)
    form_whole (tree.Number value) x id ty by h k o around own to = effect_so items body also told fuel z W keeps (head id ty by)
        (shape_of items (tree.Number value) (head id ty by))
        (λ site. effects.Put site (effects.Number value (kind_of items ty))) (λ key. (id, refl)) around own to
    form_whole (tree.Truth value) x id ty by h k o around own to = effect_so items body also told fuel z W keeps (head id ty by)
        (shape_of items (tree.Truth value) (head id ty by)) (λ site. effects.Put site (effects.Truth value))
        (λ key. (id, refl)) around own to
    form_whole tree.UnitValue x id ty by h k o around own to = effect_so items body also told fuel z W keeps (head id ty by)
        (shape_of items tree.UnitValue (head id ty by)) (λ site. effects.Put site effects.UnitValue)
        (λ key. (id, refl)) around own to
    form_whole (tree.Variable key) x id ty by h k o around own to = used_so items body also told fuel z W keeps (tree.Variable key) id ty by
        (F (tree.Variable key) id ty by).reach (λ around S v f. (f, λ b. absurd b)) around own to
    form_whole (tree.Captured closure part name) x id ty by h k o around own to =
        used_so items body also told fuel z W keeps (tree.Captured closure part name) id ty by
        (F (tree.Captured closure part name) id ty by).reach (λ around S v f. (f, λ b. absurd b)) around own to
    form_whole (tree.Field base part) x id ty by h k o around own to = used_so items body also told fuel z W keeps (tree.Field base part) id ty by
        (F (tree.Field base part) id ty by).reach (node_reached base x Base h.0 k o) around own to
    form_whole (tree.Index base index count) x id ty by h k o around own to =
        used_so items body also told fuel z W keeps (tree.Index base index count) id ty by
        (F (tree.Index base index count) id ty by).reach (λ around. rules.element_so items r z W keeps around (head id
        ty by) (shape_of items (tree.Index base index count) (head id ty by)) (N base) (N index) count
        (node_reached base x Base h.0 (left (reached_cells items base) (cells items true index) k)
        (off_left items body also told fuel z W keeps (nodes_of base) (nodes_of index) o) around)
        (less items body also told fuel z W keeps around _ _ (own_whole index x Taken h.1.0 (right (reached_cells items base) (cells items true index) k)
        (off_right items body also told fuel z W keeps (nodes_of base) (nodes_of index) o) around false (Into (N index).head.id)))) around own to
    form_whole (tree.Deref base) x id ty by h k o around own to = used_so items body also told fuel z W keeps (tree.Deref base) id ty by
        (F (tree.Deref base) id ty by).reach (node_reached base x Base h.0 k o) around own to
    form_whole (tree.Not operand) x id ty by h k o around own to = operands_so items body also told fuel z W keeps (head id ty by)
        (shape_of items (tree.Not operand) (head id ty by)) (N operand ∷ [])
        (λ site. effects.Not site (moved id (N operand).head.id))
        (one_of items body also told fuel z W keeps operand o (own_whole operand x Taken h.0 k o)) (λ key. (id, refl)) around own to
    form_whole (tree.Negate operand) x id ty by h k o around own to = operands_so items body also told fuel z W keeps (head id ty by)
        (shape_of items (tree.Negate operand) (head id ty by)) (N operand ∷ [])
        (λ site. effects.Negate site (moved id (N operand).head.id))
        (one_of items body also told fuel z W keeps operand o (own_whole operand x Taken h.0 k o)) (λ key. (id, refl)) around own to
    form_whole (tree.Arithmetic operator a b) x id ty by h k o around own to = operands_so items body also told fuel z W keeps (head id ty by)
        (shape_of items (tree.Arithmetic operator a b) (head id ty by)) (N a ∷ N b ∷ [])
        (λ site. effects.Compute site operator (moved id (N a).head.id) (moved id (N b).head.id))
        (more_of items body also told fuel z W keeps a (N b ∷ []) (off_left items body also told fuel z W keeps (nodes_of a) (nodes_of b) o)
        (own_whole a x (Wanted ty) h.0 (left (cells items true a) (cells items true b) k)
        (off_left items body also told fuel z W keeps (nodes_of a) (nodes_of b) o)) (one_of items body also told fuel z W keeps b (off_right items body also told fuel z W keeps (nodes_of a) (nodes_of b) o)
        (own_whole b x (Wanted ty) h.1.0 (right (cells items true a) (cells items true b) k)
        (off_right items body also told fuel z W keeps (nodes_of a) (nodes_of b) o)))) (λ key. (id, refl)) around own to
    form_whole (tree.Comparison operator a b) x id ty by h k o around own to = operands_so items body also told fuel z W keeps (head id ty by)
        (shape_of items (tree.Comparison operator a b) (head id ty by)) (N a ∷ N b ∷ [])
        (λ site. effects.Compare site operator (moved id (N a).head.id) (moved id (N b).head.id))
        (more_of items body also told fuel z W keeps a (N b ∷ []) (off_left items body also told fuel z W keeps (nodes_of a) (nodes_of b) o)
        (own_whole a x Taken h.0 (left (cells items true a) (cells items true b) k)
        (off_left items body also told fuel z W keeps (nodes_of a) (nodes_of b) o)) (one_of items body also told fuel z W keeps b (off_right items body also told fuel z W keeps (nodes_of a) (nodes_of b) o)
        (own_whole b x Taken h.1.0 (right (cells items true a) (cells items true b) k)
        (off_right items body also told fuel z W keeps (nodes_of a) (nodes_of b) o)))) (λ key. (id, refl)) around own to
    form_whole (tree.And a b) x id ty by h k o around own to =
        rules.own_so items r z W keeps around _ (head id ty by) own _
        (rules.condition_so items r z W keeps around _ around (N a) _ _
        (less items body also told fuel z W keeps around _ _ (own_whole a x Taken h.0 (left (cells items true a) (cells items false b) k)
        (off_left items body also told fuel z W keeps (nodes_of a) (nodes_of b) o) around true (Into (N a).head.id)))
        (branch_so items body also told fuel z W keeps around id ty to b (node_whole b x Taken h.1.0 (right (cells items true a) (cells items false b) k)
        (off_right items body also told fuel z W keeps (nodes_of a) (nodes_of b) o))) (truth_of items body also told fuel z W keeps around id ty by to false))
    form_whole (tree.Or a b) x id ty by h k o around own to =
        rules.own_so items r z W keeps around _ (head id ty by) own _
        (rules.condition_so items r z W keeps around _ around (N a) _ _
        (less items body also told fuel z W keeps around _ _ (own_whole a x Taken h.0 (left (cells items true a) (cells items false b) k)
        (off_left items body also told fuel z W keeps (nodes_of a) (nodes_of b) o) around true (Into (N a).head.id))) (truth_of items body also told fuel z W keeps around id ty by to true)
        (branch_so items body also told fuel z W keeps around id ty to b (node_whole b x Taken h.1.0 (right (cells items true a) (cells items false b) k)
        (off_right items body also told fuel z W keeps (nodes_of a) (nodes_of b) o))))
    form_whole (tree.Assign target value) x id ty by h k o around own to = as_claimed items body also told fuel z W keeps around id ty to _
        (rules.assigning_so items r z W keeps around (head id ty by) (N target) (N value) own
        (to_own_key (is_never items ty) id to)
        (operand_of items body also told fuel z W keeps value (off_right items body also told fuel z W keeps (nodes_of target) (nodes_of value) o) (own_whole value x (Wanted (ty_of target))
        h.1.1.0 (right (reached_cells items target) (cells items true value) k)
        (off_right items body also told fuel z W keeps (nodes_of target) (nodes_of value) o)) around)
        (node_reached target x Stored h.0 (left (reached_cells items target) (cells items true value) k)
        (off_left items body also told fuel z W keeps (nodes_of target) (nodes_of value) o) around))
    form_whole (tree.Call callee args) x id ty by h k o around own to =
        let t = some_holds (slice_get items.bodies callee)
        (λ sig. both (fact (types.is_same ty sig.result)) (typing.arguments (K x) sig.params args)) h.0 in
        operands_so items body also told fuel z W keeps (head id ty by) (shape_of items (tree.Call callee args) (head id ty by)) (Ns args)
        (λ site. effects.Call site callee (all_moved id (Ns args))) (args_whole t.0.params args x t.1.1.1 k o)
        (λ key. (id, refl)) around own to
    form_whole (tree.MethodCall callee receiver args) x id ty by h k o around own to =
        let t = some_holds (slice_get items.bodies callee) (λ sig. both (fact (types.is_same ty sig.result))
        (typing.first_and_rest (λ t. typing.typed (K x) (Passed t) receiver) (λ ts. typing.arguments (K x) ts args)
        sig.params)) h.0 in
        operands_so items body also told fuel z W keeps (head id ty by) (shape_of items (tree.MethodCall callee receiver args) (head id ty by))
        (N receiver ∷ Ns args) (λ site. effects.Call site callee (all_moved id (N receiver ∷ Ns args)))
        (passed_so items body also told fuel z W keeps t.0.params receiver args x t.1.1.1 (off_left items body also told fuel z W keeps (nodes_of receiver) (nodes_among args) o)
        (λ t' j. own_whole receiver x (Passed t') j (left (cells items true receiver) (all_cells items args) k)
        (off_left items body also told fuel z W keeps (nodes_of receiver) (nodes_among args) o))
        (λ ts j. args_whole ts args x j (right (cells items true receiver) (all_cells items args) k)
        (off_right items body also told fuel z W keeps (nodes_of receiver) (nodes_among args) o))) (λ key. (id, refl)) around own to
    form_whole (tree.VirtualCall trait_no method receiver args) x id ty by h k o around own to =
        let d = some_holds (slice_get items.traits trait_no) (λ def. Rattle.well_typed.specs.Claim.some
        (slice_get def.methods method) (λ sig. both (fact (types.is_same ty sig.result))
        (typing.first_and_rest (λ t. typing.typed (K x) (Passed t) receiver) (λ ts. typing.arguments (K x) ts args)
        sig.params))) h in
        let t = some_holds (slice_get d.0.methods method) (λ sig. both (fact (types.is_same ty sig.result))
        (typing.first_and_rest (λ t. typing.typed (K x) (Passed t) receiver) (λ ts. typing.arguments (K x) ts args)
        sig.params)) d.1.1 in
        operands_so items body also told fuel z W keeps (head id ty by) (shape_of items (tree.VirtualCall trait_no method receiver args) (head id ty by))
        (N receiver ∷ Ns args) (λ site. effects.CallVirtual site trait_no method (all_moved id (N receiver ∷ Ns args)))
        (passed_so items body also told fuel z W keeps t.0.params receiver args x t.1.1.1 (off_left items body also told fuel z W keeps (nodes_of receiver) (nodes_among args) o)
        (λ t' j. own_whole receiver x (Passed t') j (left (cells items true receiver) (all_cells items args) k)
        (off_left items body also told fuel z W keeps (nodes_of receiver) (nodes_among args) o))
        (λ ts j. args_whole ts args x j (right (cells items true receiver) (all_cells items args) k)
        (off_right items body also told fuel z W keeps (nodes_of receiver) (nodes_among args) o))) (λ key. (id, refl)) around own to
    form_whole (tree.ClosureCall callee inside args) x id ty by h k o around own to =
        let t = some_holds (slice_get items.bodies callee) (λ sig. both (fact (types.is_same ty sig.result))
        (typing.first_and_rest (λ t. typing.typed (K x) (Passed t) inside) (λ ts. typing.arguments (K x) ts args)
        sig.params)) h.0 in
        operands_so items body also told fuel z W keeps (head id ty by) (shape_of items (tree.ClosureCall callee inside args) (head id ty by))
        (N inside ∷ Ns args) (λ site. effects.Call site callee (all_moved id (N inside ∷ Ns args)))
        (passed_so items body also told fuel z W keeps t.0.params inside args x t.1.1.1 (off_left items body also told fuel z W keeps (nodes_of inside) (nodes_among args) o)
        (λ t' j. own_whole inside x (Passed t') j (left (cells items true inside) (all_cells items args) k)
        (off_left items body also told fuel z W keeps (nodes_of inside) (nodes_among args) o))
        (λ ts j. args_whole ts args x j (right (cells items true inside) (all_cells items args) k)
        (off_right items body also told fuel z W keeps (nodes_of inside) (nodes_among args) o))) (λ key. (id, refl)) around own to
    form_whole (tree.Make adt variant fields) x id ty by h k o around own to =
        let t = some_holds (types.variant_at items adt variant) (λ v. both
        (fact (are_distinct_numbers (patterns.field_numbers fields)
        && length (patterns.field_numbers fields) == length v.fields))
        (typing.made_fields (K x) v.fields fields)) h.1 in
        operands_so items body also told fuel z W keeps (head id ty by) (shape_of items (tree.Make adt variant fields) (head id ty by))
        (values_of (Nf fields))
        (λ site. effects.Build site (OfVariant adt variant) (all_moved id (values_of (in_number_order (Nf fields)))))
        (fields_whole t.0.fields fields x t.1.1.1 k o) (λ key. (id, refl)) around own to
    form_whole (tree.Tuple parts) x id ty by h k o around own to =
        let t = some_holds (types.tuple_of items ty) (λ tys. typing.made_parts (K x) tys parts) h in
        operands_so items body also told fuel z W keeps (head id ty by) (shape_of items (tree.Tuple parts) (head id ty by)) (Ns parts)
        (λ site. effects.Build site OfTuple (all_moved id (Ns parts))) (parts_whole t.0 parts x t.1.1 k o)
        (λ key. (id, refl)) around own to
    form_whole (tree.Array elements) x id ty by h k o around own to =
        let t = some_holds (types.array_of items ty) (λ a. both (fact (patterns.count_of elements == a.1))
        (typing.elements_of (K x) a.0 elements)) h in
        operands_so items body also told fuel z W keeps (head id ty by) (shape_of items (tree.Array elements) (head id ty by)) (Ns elements)
        (λ site. effects.Build site OfArray (all_moved id (Ns elements))) (elements_whole t.0.0 elements x t.1.1.1 k o)
        (λ key. (id, refl)) around own to
    form_whole (tree.Closure closure captures) x id ty by h k o around own to =
        let t = some_holds (slice_get items.closures closure) (λ def. typing.captured (K x) def.captures captures) h.1
        in
        operands_so items body also told fuel z W keeps (head id ty by) (shape_of items (tree.Closure closure captures) (head id ty by)) (Ns captures)
        (λ site. effects.Build site (OfClosure closure) (all_moved id (Ns captures)))
        (captures_whole t.0.captures captures x t.1.1 k o) (λ key. (id, refl)) around own to
    form_whole (tree.NewBox content) x id ty by h k o around own to =
        let t = some_holds (types.boxed_of items ty) (λ inside. both (typing.typed (K x) (Wanted inside) content)
        (fact (not (types.is_dyn items inside)))) h in
        operands_so items body also told fuel z W keeps (head id ty by) (shape_of items (tree.NewBox content) (head id ty by)) (N content ∷ [])
        (λ site. effects.NewBox site (moved id (N content).head.id))
        (one_of items body also told fuel z W keeps content o (own_whole content x (Wanted t.0) t.1.1.0 k o)) (λ key. (id, refl)) around own to
    form_whole (tree.Print operand) x id ty by h k o around own to = gives_unit_so items body also told fuel z W keeps (head id ty by)
        (shape_of items (tree.Print operand) (head id ty by)) (N operand) effects.Print
        (one_of items body also told fuel z W keeps operand o (own_whole operand x Taken h.0 k o)) around own to
    form_whole tree.Ask x id ty by h k o around own to = effect_so items body also told fuel z W keeps (head id ty by)
        (shape_of items tree.Ask (head id ty by)) effects.Ask (λ key. (id, refl)) around own to
    form_whole (tree.DropValue operand) x id ty by h k o around own to = as_claimed items body also told fuel z W keeps around id ty to _
        (rules.dropping_so items r z W keeps around _ (head id ty by) own (N operand) _
        (operand_of items body also told fuel z W keeps operand o (own_whole operand x Taken h.0 k o) around)
        (rules.unit_so items r z W keeps around (head id ty by) (to_own_key (is_never items ty) id to)))
    form_whole (tree.Forget operand) x id ty by h k o around own to = gives_unit_so items body also told fuel z W keeps (head id ty by)
        (shape_of items (tree.Forget operand) (head id ty by)) (N operand) effects.Forget
        (one_of items body also told fuel z W keeps operand o (own_whole operand x Taken h.0 k o)) around own to
    form_whole tree.Panic x id ty by h k o around own to = λ S v f. tt
    form_whole (tree.Borrow unique base) x id ty by h k o around own to = as_claimed items body also told fuel z W keeps around id ty to _
        (rules.own_so items r z W keeps around _ (head id ty by) own _ (rules.both_so items r z W keeps around _ _ _
        (node_reached base x (Used (borrow_by unique)) h.0 k o around)
        (rules.deliver_so items r z W keeps around (head id ty by)
        (λ site. effects.Borrow (record site { node = (N base).head.id }) unique (site_of (N base) around))
        (to_own_key (is_never items ty) id to) (λ key. ((N base).head.id, refl)))))
    form_whole (tree.Unsize trait_no operand) x id ty by h k o around own to = λ S v f.
        let into = to_own_key (is_never items ty) id to in
        rules.as_so items r z W keeps around (key_of (coerced (N operand).head.id trait_no into) ≡ z) (Claim ty to) _
        (λ c. rules.coerced_same items r z W keeps (N operand).head.id trait_no into ∙ claimed items body also told fuel z W keeps id ty to c)
        (own_whole operand x Taken h.0 k o around own (coerced (N operand).head.id trait_no into) S v f)
    form_whole (tree.Block stmts tail) x id ty by h k o around own to =
        rules.block_so items r z W keeps around (Claim ty to) (head id ty by) (Ns stmts) (Ni tail) own
        (to_own_key (is_never items ty) id to)
        (statements_whole stmts x (λ d. typing.tail_of d tail) h.0
        (left (all_cells items stmts) (cells_if_any items false tail) k)
        (off_left items body also told fuel z W keeps (nodes_among stmts) (nodes_if_any tail) o) around)
        (tail_whole tail (behind x stmts) id ty by (at_nodes.behind_holds items body told fuel stmts x
        (λ d. typing.tail_of d tail) h.0) (right (all_cells items stmts) (cells_if_any items false tail) k)
        (off_right items body also told fuel z W keeps (nodes_among stmts) (nodes_if_any tail) o) around to)
    form_whole (tree.If test consequent absent) x id ty by h k o around own to =
        let kc = left (cells items true test ++ cells items false consequent) [] k in
        let oc = off_left items body also told fuel z W keeps (nodes_of test ++ nodes_of consequent) [] o in
        rules.own_so items r z W keeps around _ (head id ty by) own _
        (rules.condition_so items r z W keeps around _ around (N test) _ _
        (less items body also told fuel z W keeps around _ _ (own_whole test x Taken h.0 (left (cells items true test) (cells items false consequent) kc)
        (off_left items body also told fuel z W keeps (nodes_of test) (nodes_of consequent) oc) around true (Into (N test).head.id)))
        (branch_so items body also told fuel z W keeps around id ty to consequent (node_whole consequent x Taken h.1.1.0
        (right (cells items true test) (cells items false consequent) kc)
        (off_right items body also told fuel z W keeps (nodes_of test) (nodes_of consequent) oc))) (unit_of items body also told fuel z W keeps around id ty by to))
    form_whole (tree.If test consequent (present otherwise)) x id ty by h k o around own to =
        let kc = left (cells items true test ++ cells items false consequent) (cells items false otherwise) k in
        let oc = off_left items body also told fuel z W keeps (nodes_of test ++ nodes_of consequent) (nodes_of otherwise) o in
        rules.own_so items r z W keeps around _ (head id ty by) own _
        (rules.condition_so items r z W keeps around _ around (N test) _ _
        (less items body also told fuel z W keeps around _ _ (own_whole test x Taken h.0 (left (cells items true test) (cells items false consequent) kc)
        (off_left items body also told fuel z W keeps (nodes_of test) (nodes_of consequent) oc) around true (Into (N test).head.id)))
        (branch_so items body also told fuel z W keeps around id ty to consequent (node_whole consequent x Taken h.1.1.0
        (right (cells items true test) (cells items false consequent) kc)
        (off_right items body also told fuel z W keeps (nodes_of test) (nodes_of consequent) oc)))
        (branch_so items body also told fuel z W keeps around id ty to otherwise (node_whole otherwise x Taken h.1.1.1.0
        (right (cells items true test ++ cells items false consequent) (cells items false otherwise) k)
        (off_right items body also told fuel z W keeps (nodes_of test ++ nodes_of consequent) (nodes_of otherwise) o))))
    form_whole (tree.IfLet p scrutinee consequent absent) x id ty by h k o around own to =
        let k3 = left ((cells items true p ++ reached_cells items scrutinee) ++ cells items false consequent) [] k in
        let k2 = left (cells items true p ++ reached_cells items scrutinee) (cells items false consequent) k3 in
        let o3 = off_left items body also told fuel z W keeps ((nodes_of p ++ nodes_of scrutinee) ++ nodes_of consequent) [] o in
        let o2 = off_left items body also told fuel z W keeps (nodes_of p ++ nodes_of scrutinee) (nodes_of consequent) o3 in
        rules.own_so items r z W keeps around _ (head id ty by) own _
        (rules.if_taken_so items r z W keeps around _ (head id ty by) (N p) (N scrutinee) _ _
        (node_reached scrutinee x (Used Use.Borrow) h.0 (right (cells items true p) (reached_cells items scrutinee) k2)
        (off_right items body also told fuel z W keeps (nodes_of p) (nodes_of scrutinee) o2) around)
        (bounds_off items body also told fuel z W keeps p (place_of (N scrutinee) around) (off_left items body also told fuel z W keeps (nodes_of p) (nodes_of scrutinee) o2))
        (branch_so items body also told fuel z W keeps around id ty to consequent (node_whole consequent (with_names (patterns.entries_of p) x) Taken
        h.1.1.0 (right (cells items true p ++ reached_cells items scrutinee) (cells items false consequent) k3)
        (off_right items body also told fuel z W keeps (nodes_of p ++ nodes_of scrutinee) (nodes_of consequent) o3))) (unit_of items body also told fuel z W keeps around id ty by to))
    form_whole (tree.IfLet p scrutinee consequent (present otherwise)) x id ty by h k o around own to =
        let k3 = left ((cells items true p ++ reached_cells items scrutinee) ++ cells items false consequent)
        (cells items false otherwise) k in
        let k2 = left (cells items true p ++ reached_cells items scrutinee) (cells items false consequent) k3 in
        let o3 = off_left items body also told fuel z W keeps ((nodes_of p ++ nodes_of scrutinee) ++ nodes_of consequent) (nodes_of otherwise) o in
        let o2 = off_left items body also told fuel z W keeps (nodes_of p ++ nodes_of scrutinee) (nodes_of consequent) o3 in
        rules.own_so items r z W keeps around _ (head id ty by) own _
        (rules.if_taken_so items r z W keeps around _ (head id ty by) (N p) (N scrutinee) _ _
        (node_reached scrutinee x (Used Use.Borrow) h.0 (right (cells items true p) (reached_cells items scrutinee) k2)
        (off_right items body also told fuel z W keeps (nodes_of p) (nodes_of scrutinee) o2) around)
        (bounds_off items body also told fuel z W keeps p (place_of (N scrutinee) around) (off_left items body also told fuel z W keeps (nodes_of p) (nodes_of scrutinee) o2))
        (branch_so items body also told fuel z W keeps around id ty to consequent (node_whole consequent (with_names (patterns.entries_of p) x) Taken
        h.1.1.0 (right (cells items true p ++ reached_cells items scrutinee) (cells items false consequent) k3)
        (off_right items body also told fuel z W keeps (nodes_of p ++ nodes_of scrutinee) (nodes_of consequent) o3)))
        (branch_so items body also told fuel z W keeps around id ty to otherwise (node_whole otherwise x Taken h.1.1.1.0
        (right ((cells items true p ++ reached_cells items scrutinee) ++ cells items false consequent)
        (cells items false otherwise) k)
        (off_right items body also told fuel z W keeps ((nodes_of p ++ nodes_of scrutinee) ++ nodes_of consequent) (nodes_of otherwise) o))))
    form_whole (tree.Match scrutinee arms) x id ty by h k o around own to = as_claimed items body also told fuel z W keeps around id ty to _
        (rules.matching_so items r z W keeps around _ (head id ty by) (N scrutinee) (Ns arms) own
        (to_own_key (is_never items ty) id to)
        (node_reached scrutinee x (Used Use.Borrow) h.0 (left (reached_cells items scrutinee) (all_cells items arms) k)
        (off_left items body also told fuel z W keeps (nodes_of scrutinee) (nodes_among arms) o) around)
        (arms_whole arms x (typing.matched_in false (K x) scrutinee) (ty_of scrutinee) h.1.0
        (right (reached_cells items scrutinee) (all_cells items arms) k)
        (off_right items body also told fuel z W keeps (nodes_of scrutinee) (nodes_among arms) o) around (to_own_key (is_never items ty) id to)))
    form_whole (tree.Loop inner) x id ty by h k o around own to =
        let a = at_nodes.around_a items body told fuel id ty true in
        let into = to_own_key (is_never items ty) id to in
        let y = in_a_loop a x in
        as_claimed items body also told fuel z W keeps around id ty to _ (rules.own_so items r z W keeps around _ (head id ty by) own _
        (rules.turns_so items r z W keeps fuel id into around _ (turn_of items body also told fuel z W keeps inner (own_whole inner y Taken h.0 k o)
        (in_loop id into around))))
    form_whole (tree.While test inner) x id ty by h k o around own to =
        let a = at_nodes.around_a items body told fuel id ty false in
        let into = to_own_key (is_never items ty) id to in
        let y = in_a_loop a x in
        let next = in_loop id into around in
        as_claimed items body also told fuel z W keeps around id ty to _ (rules.own_so items r z W keeps around _ (head id ty by) own _
        (rules.turns_so items r z W keeps fuel id into around _
        (rules.condition_so items r z W keeps next ⊥ next (N test) _ _
        (less items body also told fuel z W keeps next _ _ (own_whole test y Taken h.0 (left (cells items true test) (cells items true inner) k)
        (off_left items body also told fuel z W keeps (nodes_of test) (nodes_of inner) o) next true (Into (N test).head.id)))
        (turn_of items body also told fuel z W keeps inner (own_whole inner y Taken h.1.1.0 (right (cells items true test) (cells items true inner) k)
        (off_right items body also told fuel z W keeps (nodes_of test) (nodes_of inner) o)) next)
        (rules.ends_so items r z W keeps (head id ty by) into around))))
    form_whole (tree.WhileLet p scrutinee inner) x id ty by h k o around own to =
        let a = at_nodes.around_a items body told fuel id ty false in
        let into = to_own_key (is_never items ty) id to in
        let y = in_a_loop a x in
        let next = in_loop id into around in
        let k2 = left (cells items true p ++ reached_cells items scrutinee) (cells items true inner) k in
        let o2 = off_left items body also told fuel z W keeps (nodes_of p ++ nodes_of scrutinee) (nodes_of inner) o in
        as_claimed items body also told fuel z W keeps around id ty to _ (rules.own_so items r z W keeps around _ (head id ty by) own _
        (rules.turns_so items r z W keeps fuel id into around _
        (rules.if_taken_so items r z W keeps next ⊥ (head id ty by) (N p) (N scrutinee) _ _
        (node_reached scrutinee y (Used Use.Borrow) h.0 (right (cells items true p) (reached_cells items scrutinee) k2)
        (off_right items body also told fuel z W keeps (nodes_of p) (nodes_of scrutinee) o2) next)
        (bounds_off items body also told fuel z W keeps p (place_of (N scrutinee) next) (off_left items body also told fuel z W keeps (nodes_of p) (nodes_of scrutinee) o2))
        (turn_of items body also told fuel z W keeps inner (own_whole inner (with_names (patterns.entries_of p) y) Taken h.1.1.0
        (right (cells items true p ++ reached_cells items scrutinee) (cells items true inner) k)
        (off_right items body also told fuel z W keeps (nodes_of p ++ nodes_of scrutinee) (nodes_of inner) o)) next)
        (rules.ends_so items r z W keeps (head id ty by) into around))))
    form_whole (tree.Break loop value) x id ty by h k o around own to =
        let t = some_holds (loop_with loop x.loops) (λ a. typing.carries (K x) a value) h.0 in
        rules.own_so items r z W keeps around _ (head id ty by) own _ (rules.breaks_so items r z W keeps around _ loop _
        (carried_whole value x t.0 t.1.1 k o (head id ty by) around (loop_destination loop around.loops)))
    form_whole (tree.Continue loop) x id ty by h k o around own to = λ S v f. f
    form_whole (tree.Return value) x id ty by h k o around own to =
        rules.own_so items r z W keeps around _ (head id ty by) own _ (rules.returns_so items r z W keeps around _ _
        (returned_whole value x h.0 k o (head id ty by) around around.answer))
    form_whole form x id ty by h k o around own to = absurd (false≢true h)

    -- ---- lists

    args_whole : (tys : List TyId) (ns : Nodes) (x : Standpoint) → Holds (typing.arguments (K x) tys ns) →
        H (all_cells items ns) → OffN (nodes_among ns) → AllE (Ns ns)
    args_whole tys no_node x h k o around = tt
    args_whole [] (a_node first rest) x h k o around = absurd (false≢true h)
    args_whole (ty ∷ tys) (a_node first rest) x h k o around = (
      operand_of items body also told fuel z W keeps first (off_left items body also told fuel z W keeps (nodes_of first) (nodes_among rest) o) (own_whole first x (Passed ty) h.0
          (left (cells items true first) (all_cells items rest) k) (off_left items body also told fuel z W keeps (nodes_of first) (nodes_among rest) o))
          around,
      args_whole tys rest x h.1 (right (cells items true first) (all_cells items rest) k)
          (off_right items body also told fuel z W keeps (nodes_of first) (nodes_among rest) o) around,
    )

    parts_whole : (tys : List TyId) (ns : Nodes) (x : Standpoint) → Holds (typing.made_parts (K x) tys ns) →
        H (all_cells items ns) → OffN (nodes_among ns) → AllE (Ns ns)
    parts_whole tys no_node x h k o around = tt
    parts_whole [] (a_node first rest) x h k o around = absurd (false≢true h)
    parts_whole (ty ∷ tys) (a_node first rest) x h k o around = (
      operand_of items body also told fuel z W keeps first (off_left items body also told fuel z W keeps (nodes_of first) (nodes_among rest) o) (own_whole first x (Wanted ty) h.0
          (left (cells items true first) (all_cells items rest) k) (off_left items body also told fuel z W keeps (nodes_of first) (nodes_among rest) o))
          around,
      parts_whole tys rest x h.1 (right (cells items true first) (all_cells items rest) k)
          (off_right items body also told fuel z W keeps (nodes_of first) (nodes_among rest) o) around,
    )

    elements_whole : (ty : TyId) (ns : Nodes) (x : Standpoint) → Holds (typing.elements_of (K x) ty ns) →
        H (all_cells items ns) → OffN (nodes_among ns) → AllE (Ns ns)
    elements_whole ty no_node x h k o around = tt
    elements_whole ty (a_node first rest) x h k o around = (
      operand_of items body also told fuel z W keeps first (off_left items body also told fuel z W keeps (nodes_of first) (nodes_among rest) o) (own_whole first x (Wanted ty) h.0
          (left (cells items true first) (all_cells items rest) k) (off_left items body also told fuel z W keeps (nodes_of first) (nodes_among rest) o))
          around,
      elements_whole ty rest x h.1 (right (cells items true first) (all_cells items rest) k)
          (off_right items body also told fuel z W keeps (nodes_of first) (nodes_among rest) o) around,
    )

    captures_whole : (tys : List TyId) (ns : Nodes) (x : Standpoint) → Holds (typing.captured (K x) tys ns) →
        H (all_cells items ns) → OffN (nodes_among ns) → AllE (Ns ns)
    captures_whole tys no_node x h k o around = tt
    captures_whole [] (a_node first rest) x h k o around = absurd (false≢true h)
    captures_whole (ty ∷ tys) (a_node first rest) x h k o around = (
      operand_of items body also told fuel z W keeps first (off_left items body also told fuel z W keeps (nodes_of first) (nodes_among rest) o) (own_whole first x Taken h.0
          (left (cells items true first) (all_cells items rest) k) (off_left items body also told fuel z W keeps (nodes_of first) (nodes_among rest) o))
          around,
      captures_whole tys rest x h.1.1 (right (cells items true first) (all_cells items rest) k)
          (off_right items body also told fuel z W keeps (nodes_of first) (nodes_among rest) o) around,
    )

    fields_whole : (tys : List TyId) (fields : Fields) (x : Standpoint) → Holds (typing.made_fields (K x) tys fields) →
        H (cells_of_fields items fields) → OffN (nodes_of_fields fields) → AllE (values_of (Nf fields))
    fields_whole tys no_field x h k o around = tt
    fields_whole tys (a_field number value rest) x h k o around =
        let t = some_holds (slice_get tys number) (λ ty. typing.typed (K x) (Wanted ty) value) h.0 in (
          operand_of items body also told fuel z W keeps value (off_left items body also told fuel z W keeps (nodes_of value) (nodes_of_fields rest) o) (own_whole value x (Wanted t.0) t.1.1
              (left (cells items true value) (cells_of_fields items rest) k)
              (off_left items body also told fuel z W keeps (nodes_of value) (nodes_of_fields rest) o)) around,
          fields_whole tys rest x h.1 (right (cells items true value) (cells_of_fields items rest) k)
              (off_right items body also told fuel z W keeps (nodes_of value) (nodes_of_fields rest) o) around,
        )

    carried_whole : (value : MaybeNode) (x : Standpoint) (a : LoopAround) → Holds (typing.carries (K x) a value) →
        H (cells_if_any items false value) → OffN (nodes_if_any value) → (h : NodeHead) (around : LoopsAndGuards)
        (to : Destination) → Makes around (key_of to ≡ z) (forms.value_of_jump items r h (Ni value) around to)
    carried_whole absent x a j k o h around to = rules.unit_so items r z W keeps around h to
    carried_whole (present value) x a j k o h around to = node_whole value x (Wanted a.ty) j.1 k o around false to

    returned_whole : (value : MaybeNode) (x : Standpoint) → Holds (typing.returned (K x) value) →
        H (cells_if_any items false value) → OffN (nodes_if_any value) → (h : NodeHead) (around : LoopsAndGuards)
        (to : Destination) → Makes around (key_of to ≡ z) (forms.value_of_jump items r h (Ni value) around to)
    returned_whole absent x j k o h around to = rules.unit_so items r z W keeps around h to
    returned_whole (present value) x j k o h around to = node_whole value x (Wanted x.answer) j k o around false to

    -- ---- blocks

    tail_whole : (tail : MaybeNode) (x : Standpoint) (id : ℕ) (ty : TyId) (by : Option Use) →
        Holds (typing.tail_of (K x) tail) → H (cells_if_any items false tail) → OffN (nodes_if_any tail) →
        (around : LoopsAndGuards) (to : Destination) → Makes around (Claim ty to)
        (forms.tail_of items r (head id ty by) (Ni tail) around (to_own_key (is_never items ty) id to))
    tail_whole absent x id ty by j k o around to = unit_if_so items body also told fuel z W keeps around id ty by to (is_never items ty) refl
    tail_whole (present tail) x id ty by j k o around to = branch_so items body also told fuel z W keeps around id ty to tail (node_whole tail x Taken j k
        o)

    statements_whole : (ns : Nodes) (x : Standpoint) (rest : Context → Rattle.well_typed.specs.Claim.Claim) →
        Holds (typing.statements (K x) ns rest) → H (all_cells items ns) → OffN (nodes_among ns) →
        (around : LoopsAndGuards) → rules.AllDone items r z W keeps around (Ns ns)
    statements_whole no_node x rest h k o around = tt
    statements_whole (a_node (node id at ty by form) more) x rest h k o around =
        let first = node id at ty by form in (
          statement_whole form x id ty by h.1.0 (cells_of.inside items body true first
              (left (cells items true first) (all_cells items more) k))
              (inner_off items body also told fuel z W keeps first (off_left items body also told fuel z W keeps (nodes_of first) (nodes_among more) o)) around,
          statements_whole more (with_names (typing.entries_in form) x) rest h.1.1
              (right (cells items true first) (all_cells items more) k)
              (off_right items body also told fuel z W keeps (nodes_of first) (nodes_among more) o) around,
        )

    statement_whole : (form : Form) (x : Standpoint) (id : ℕ) (ty : TyId) (by : Option Use) →
        Holds (typing.statement (K x) form) → H (cells_in items form) → OffN (nodes_in form) → (around :
        LoopsAndGuards) → Makes around ⊥ ((F form id ty by).evaluate around false (Into (F form id ty by).head.id))
    statement_whole (tree.Let p absent) x id ty by h k o around =
        rules.declared_so items r z W keeps around ((N p).shape.bindings (whole_local 0))
        (bounds_off items body also told fuel z W keeps p (whole_local 0) (off_left items body also told fuel z W keeps (nodes_of p) [] o))
    statement_whole (tree.Let (node pid pat pty pby (tree.Binding name)) (present value)) x id ty by h k o around =
        let p = node pid pat pty pby (tree.Binding name) in
        rules.let_name_so items r z W keeps around (head id ty by) (head pid pty pby) (N value) (o pid (inl refl))
        (less items body also told fuel z W keeps around _ _ (node_whole value x (Wanted pty) h.0 (right (cells items true p) (cells items false value) k)
        (off_right items body also told fuel z W keeps (nodes_of p) (nodes_of value) o) around false (Into pid)))
    statement_whole (tree.Let (node pid pat pty pby pform) (present value)) x id ty by h k o around =
        let p = node pid pat pty pby pform in
        rules.let_parts_so items r z W keeps around (head id ty by) (N p) (N value)
        (node_reached value x Base h.0 (right (cells items true p) (reached_cells items value) k)
        (off_right items body also told fuel z W keeps (nodes_of p) (nodes_of value) o) around)
        (bounds_off items body also told fuel z W keeps p (place_of (N value) around) (off_left items body also told fuel z W keeps (nodes_of p) (nodes_of value) o))
    statement_whole (tree.Evaluate expression) x id ty by h k o around =
        rules.evaluating_so items r z W keeps around (head id ty by) (N expression)
        (operand_of items body also told fuel z W keeps expression o (own_whole expression x Taken h k o) around)
    statement_whole form x id ty by h k o around = absurd (false≢true h)

    -- ---- arms

    arms_whole : (arms : Nodes) (x : Standpoint) (m : patterns.Matched) (want : TyId) →
        Holds (typing.arms_of (K x) m want arms) → H (all_cells items arms) → OffN (nodes_among arms) →
        (around : LoopsAndGuards) (to : Destination) → rules.AllArms items r z W keeps around (key_of to ≡ z) to (Ns
        arms)
    arms_whole no_node x m want h k o around to = tt
    arms_whole (a_node (node id at ty by form) rest) x m want h k o around to =
        let first = node id at ty by form in (
          λ place otherwise other. arm_whole form x m want id at ty by h.0 (cells_of.inside items body true first
              (left (cells items true first) (all_cells items rest) k))
              (inner_off items body also told fuel z W keeps first (off_left items body also told fuel z W keeps (nodes_of first) (nodes_among rest) o)) around to place otherwise other,
          arms_whole rest x m want h.1 (right (cells items true first) (all_cells items rest) k)
              (off_right items body also told fuel z W keeps (nodes_of first) (nodes_among rest) o) around to,
        )

    arm_whole : (form : Form) (x : Standpoint) (m : patterns.Matched) (want : TyId) (id : ℕ) (at : Pos) (ty : TyId)
        (by : Option Use) → Holds (typing.arm (K x) m want (node id at ty by form)) → H (cells_in items form) →
        OffN (nodes_in form) → (around : LoopsAndGuards) (to : Destination) → (place : Place) (otherwise : Does V) →
        Makes around (key_of to ≡ z) otherwise →
        Makes around (key_of to ≡ z) ((F form id ty by).arm place otherwise around to)
    arm_whole (tree.Arm p guard inner) x m want id at ty by h k o around to place otherwise other =
        let k2 = left (cells items true p ++ cells_if_any items true guard) (cells items false inner) k in
        let o2 = off_left items body also told fuel z W keeps (nodes_of p ++ nodes_if_any guard) (nodes_of inner) o in
        rules.arm_so items r z W keeps around (key_of to ≡ z) (head id ty by) (N p) (Ni guard) (N inner) place
        otherwise to (guard_whole guard (with_names (in_guard (patterns.entries_of p)) x) h.1.1.1.0
        (right (cells items true p) (cells_if_any items true guard) k2)
        (off_right items body also told fuel z W keeps (nodes_of p) (nodes_if_any guard) o2) ((N p).shape.bindings place) around)
        (bounds_off items body also told fuel z W keeps p place (off_left items body also told fuel z W keeps (nodes_of p) (nodes_if_any guard) o2))
        (node_whole inner (with_names (patterns.entries_of p) x) Taken h.1.1.1.1.0
        (right (cells items true p ++ cells_if_any items true guard) (cells items false inner) k)
        (off_right items body also told fuel z W keeps (nodes_of p ++ nodes_if_any guard) (nodes_of inner) o) around true to) other
    arm_whole form x m want id at ty by h k o around to place otherwise other = absurd (false≢true h)

    guard_whole : (guard : MaybeNode) (x : Standpoint) → Holds (typing.guarded (K x) guard) →
        H (cells_if_any items true guard) → OffN (nodes_if_any guard) → (bounds : List BoundName)
        (around : LoopsAndGuards) (g : Meaning V) → Ni guard ≡ Some g →
        Makes around ⊥ (g.evaluate (forms.in_guard bounds around) true (Into g.head.id))
    guard_whole absent x h k o bounds around g e = absurd (none-some g e)
    guard_whole (present guard) x h k o bounds around g e =
        subst (λ (y : Meaning V). Makes around ⊥ (y.evaluate (forms.in_guard bounds around) true (Into y.head.id)))
        (same_meaning items body also told fuel z W keeps (N guard) g e)
        (λ S v f. guard_around items body also told fuel z W keeps bounds around _ (less items body also told fuel z W keeps (forms.in_guard bounds around) _ _ (own_whole guard x Taken h.0 k o
        (forms.in_guard bounds around) true (Into (N guard).head.id)) S v f))

-- A node of type `!` has no value, and no loop of type `!` is left by `break`: in runs that mark what is left, since
-- what would store a value of that type does not go on. One line a form.
use Rattle.std.proofs.Common.{◌≡◌, ℕ, ◌==◌, ◌&&◌, not, Bool, true, false, List, [], ◌∷◌, ◌++◌, length, Option, Some, slice_get, if◌then◌else◌, refl, sym, ◌∙◌, subst}
use Rattle.std.specs.List.{list_all}
use Rattle.std.proofs.lemmas.Bool.{false≢true}
use Rattle.std.proofs.lemmas.Option.{none-some}
use Rattle.mir_base.specs.declared.place_in_text.Pos.{Pos}
use Rattle.mir_ty.specs.declared.ty.TyId.{TyId}
use Rattle.mir_ty.specs.ItemTable.{ItemTable, type_at}
use Rattle.store_model.specs.Effects as effects
use Rattle.store_model.specs.Effects.{OfTuple, OfArray, OfVariant, OfClosure, Effects}
use Rattle.store_model.specs.Places.Place.{Place, whole_local}
use Rattle.typed_tree.specs.declared.node.Use.{Use}
use Rattle.typed_tree.specs.Tree as tree
use Rattle.typed_tree.specs.Tree.{Node, node, Form, Nodes, no_node, a_node, Fields, no_field, a_field, MaybeNode, absent, present, BodyTree}
use Rattle.src_meaning.specs.Evaluation.{meaning, meanings, fields_of, meaning_if_any, values_of, in_number_order, to_own_key}
use Rattle.src_meaning.specs.Forms as forms
use Rattle.src_meaning.specs.Forms.{Destination, Into, coerced, LoopsAndGuards, Meaning, in_loop, loop_destination, moved, all_moved, is_never, site_of}
use Rattle.src_meaning.specs.Locals.OfBody.{cells, reached_cells, cells_in, all_cells, cells_of_fields, cells_if_any}
use Rattle.src_meaning.specs.Scopes.{Entry, Breaks, Returns, Scopes, At, Does}
use Rattle.src_meaning.specs.Shape.{NodeHead, head, shape_of, kind_of}
use Rattle.well_typed.specs.Claim.{Claim, Holds, fact, both}
use Rattle.well_typed.specs.Names.{are_distinct_numbers}
use Rattle.well_typed.specs.Nodes as typing
use Rattle.well_typed.specs.Patterns as patterns
use Rattle.well_typed.specs.Places.{LoopAround, Context, loop_with, in_guard, ty_of, is_place, borrow_by, Standing, Taken, Wanted, Passed, Base, Used, Stored}
use Rattle.well_typed.specs.Types as types
use Rattle.soundness_values.proofs.AlsoTests.{Also}
use Rattle.soundness_values.proofs.Checked.{Checking}
use Rattle.soundness_values.proofs.Facts.{Facts}
use Rattle.soundness_cells.proofs.PassCellActs.{Cell}
use Rattle.soundness_cells.proofs.PassCellParts as at_nodes
use Rattle.soundness_cells.proofs.PassCellPatterns as cells_of
use Rattle.soundness_cells.proofs.PassCellPatterns.{Told, Has, made_of_never}
use Rattle.soundness_cells.proofs.PassCellStands as stand
use Rattle.soundness_cells.proofs.PassCellTypes as facts_of
use Rattle.soundness_cells.proofs.PassFacts.{Standpoint, context, with_names, in_a_loop, behind}
use Rattle.soundness.proofs.PassMadeRules as rules
use Rattle.soundness.proofs.PassPlacesEffects.{q}
use Rattle.soundness.proofs.PassPlacesMeant as meant
use Rattle.soundness.proofs.PassPlacesRules.{NoValue}
use Rattle.soundness_values.proofs.PlaceTypes.{some_holds, same_type}
use Rattle.soundness.proofs.PassMadeKinds as pass_made_kinds
use Rattle.soundness.proofs.PassMadeKinds.{made_by, found_by, sure, less, one_of, more_of, effect_so, operands_so, gives_unit_so, used_so, called_so, virtual_so, passed_so, fits_so, common_first, same_loops, parted_ends, named_ends, common_second, unit_if_so, ends_so, declared_so, same_meaning}

module _ (items : ItemTable) (body : BodyTree) (also : Also) (told : Told items) (fuel : ℕ) where
  abbrev V : Type 0
  V = Checking Facts

  abbrev K : Standpoint → Context
  K = context items

  abbrev r : Effects V
  r = q items body also

  abbrev N : Node → Meaning V
  N = meaning items (q items body also) fuel

  abbrev Ns : Nodes → List (Meaning V)
  Ns = meanings items (q items body also) fuel

  abbrev Nf : Fields → List (ℕ × Meaning V)
  Nf = fields_of items (q items body also) fuel

  abbrev Ni : MaybeNode → Option (Meaning V)
  Ni = meaning_if_any items (q items body also) fuel

  abbrev F : Form → ℕ → TyId → Option Use → Meaning V
  F = meant.Of items (q items body also) fuel

  abbrev H : List Entry → Type 0
  H = Has items body

  abbrev left : (a b : List Entry) → H (a ++ b) → H a
  left = cells_of.has_left items body

  abbrev right : (a b : List Entry) → H (a ++ b) → H b
  right = cells_of.has_right items body

  abbrev Makes : List LoopAround → Type 0 → Does V → Type 0
  Makes = rules.Makes items r

  abbrev None_ : Type 0
  None_ = rules.Nothing items r

  abbrev Mades : TyId → Type 0
  Mades ty = is_never items ty ≡ false

  abbrev Es : List LoopAround → TyId → Meaning V → Type 0
  Es = pass_made_kinds.Es items body also told fuel

  abbrev Rs : List LoopAround → Node → Type 0
  Rs = pass_made_kinds.Rs items body also told fuel

  abbrev AllE : List LoopAround → List (Meaning V) → Type 0
  AllE loops ms = (around : LoopsAndGuards) → rules.AllMake items r loops around ms

  -- ---- the forms

  mutual
    pub node_so : (n : Node) (x : Standpoint) (standing : Standing) → Holds (typing.typed (K x) standing n) →
        H (cells items false n) → Es x.loops (ty_of n) (N n)
    node_so (node id at ty by form) x standing h k = form_so form x id ty by h.1
        (cells_of.inside items body false (node id at ty by form) k)
        (λ n m. cells_of.never_cell items body false id at ty by form
        (stand.of_row items body told fuel form x id ty h.1).1 k n m)

    own_so : (n : Node) (x : Standpoint) (standing : Standing) → Holds (typing.typed (K x) standing n) →
        H (cells items true n) → Es x.loops (ty_of n) (N n)
    own_so (node id at ty by form) x standing h k = form_so form x id ty by h.1
        (cells_of.inside items body true (node id at ty by form) k)
        (λ n m. cells_of.never_cell items body true id at ty by form
        (stand.of_row items body told fuel form x id ty h.1).1 k n m)

    node_reached : (n : Node) (x : Standpoint) (standing : Standing) → Holds (typing.typed (K x) standing n) →
        H (reached_cells items n) → Rs x.loops n
    node_reached (node id at ty by form) x standing h k =
        at_nodes.either_reached items body told fuel (is_place form) form refl
        (λ p around S v. rules.as_so items r x.loops None_ (is_place form ≡ false → Mades ty) _
        (λ u e. absurd (false≢true (sym e ∙ p)))
        (place_reached form x id ty by h.1 p (cells_of.reached_inside items body (node id at ty by form) k) around S v))
        (λ p around S v. rules.as_so items r x.loops (Mades ty) (is_place form ≡ false → Mades ty) _ (λ u e. u)
        (subst (λ (reach_ : LoopsAndGuards → Does V). rules.EndsSo items r x.loops (Mades ty) (reach_ around S v))
        (sym (meant.temporary_meant items (q items body also) fuel form id ty by p))
        (rules.temporary_so items r x.loops (Mades ty) (F form id ty by).head (F form id ty by).shape
        (F form id ty by).evaluate around
        (form_so form x id ty by h.1 (cells_of.reached_inside items body (node id at ty by form) k)
        (λ n m. cells_of.never_cell items body true id at ty by form
        (stand.of_row items body told fuel form x id ty h.1).1
        (cells_of.reached_own items body id at ty by form p k) n m) around false (Into (F form id ty by).head.id)) S
        v)))

    place_reached : (form : Form) (x : Standpoint) (id : ℕ) (ty : TyId) (by : Option Use) →
        Holds (typing.row (K x) id ty form) → is_place form ≡ true → H (cells_in items form) → (around :
        LoopsAndGuards) → Makes x.loops None_ ((F form id ty by).reach around)
    place_reached (tree.Variable key) x id ty by h p k around = λ S v. tt
    place_reached (tree.Captured closure part name) x id ty by h p k around = λ S v. tt
    place_reached (tree.Field base part) x id ty by h p k around =
        less items body also told fuel x.loops _ _ (node_reached base x Base h.0 k around)
    place_reached (tree.Index base index count) x id ty by h p k around = rules.element_so items r x.loops (head id ty
        by) (shape_of items (tree.Index base index count) (head id ty by)) (N base) (N index) count around
        (less items body also told fuel x.loops _ _ (node_reached base x Base h.0 (left (reached_cells items base) (cells items true index) k)
        around)) (less items body also told fuel x.loops _ _ (own_so index x Taken h.1.0 (right (reached_cells items base) (cells items true
        index) k) around false (Into (N index).head.id)))
    place_reached (tree.Deref base) x id ty by h p k around = less items body also told fuel x.loops _ _ (node_reached base x Base h.0 k around)
    place_reached form x id ty by h p k around = absurd (false≢true p)

    pub form_so : (form : Form) (x : Standpoint) (id : ℕ) (ty : TyId) (by : Option Use) →
        Holds (typing.row (K x) id ty form) → H (cells_in items form) →
        (is_never items ty ≡ true → made_of_never form ≡ true → Cell items body id ty) → Es x.loops ty (F form id ty by)
    form_so (tree.Number value) x id ty by h k c around own to = effect_so items body also told fuel x.loops (head id ty by)
        (shape_of items (tree.Number value) (head id ty by))
        (λ site. effects.Put site (effects.Number value (kind_of items ty))) (facts_of.number_is items ty value
        h).1.1.1 around own to
    form_so (tree.Truth value) x id ty by h k c around own to = effect_so items body also told fuel x.loops (head id ty by)
        (shape_of items (tree.Truth value) (head id ty by)) (λ site. effects.Put site (effects.Truth value))
        (facts_of.bool_is items ty h).1.1 around own to
    form_so tree.UnitValue x id ty by h k c around own to = effect_so items body also told fuel x.loops (head id ty by)
        (shape_of items tree.UnitValue (head id ty by)) (λ site. effects.Put site effects.UnitValue)
        (facts_of.unit_is items ty h).1.1 around own to
    form_so (tree.Variable key) x id ty by h k c around own to = used_so items body also told fuel x.loops (tree.Variable key) id ty by
        (F (tree.Variable key) id ty by).reach (λ around S v. tt) (λ n. c n refl) around own to
    form_so (tree.Captured closure part name) x id ty by h k c around own to = used_so items body also told fuel x.loops (tree.Captured closure
        part name) id ty by (F (tree.Captured closure part name) id ty by).reach (λ around S v. tt) (λ n. c n refl)
        around own to
    form_so (tree.Field base part) x id ty by h k c around own to = used_so items body also told fuel x.loops (tree.Field base part) id ty by
        (F (tree.Field base part) id ty by).reach (λ around. less items body also told fuel x.loops _ _ (node_reached base x Base h.0 k around))
        (λ n. c n refl) around own to
    form_so (tree.Index base index count) x id ty by h k c around own to = used_so items body also told fuel x.loops (tree.Index base index
        count) id ty by (F (tree.Index base index count) id ty by).reach (λ around. rules.element_so items r x.loops
        (head id ty by) (shape_of items (tree.Index base index count) (head id ty by)) (N base) (N index) count around
        (less items body also told fuel x.loops _ _ (node_reached base x Base h.0 (left (reached_cells items base) (cells items true index) k)
        around)) (less items body also told fuel x.loops _ _ (own_so index x Taken h.1.0 (right (reached_cells items base) (cells items true
        index) k) around false (Into (N index).head.id)))) (λ n. c n refl) around own to
    form_so (tree.Deref base) x id ty by h k c around own to = used_so items body also told fuel x.loops (tree.Deref base) id ty by
        (F (tree.Deref base) id ty by).reach (λ around. less items body also told fuel x.loops _ _ (node_reached base x Base h.0 k around))
        (λ n. c n refl) around own to
    form_so (tree.Not operand) x id ty by h k c around own to = operands_so items body also told fuel x.loops (head id ty by)
        (shape_of items (tree.Not operand) (head id ty by)) (N operand ∷ [])
        (λ site. effects.Not site (moved id (N operand).head.id))
        (one_of items body also told fuel x.loops (ty_of operand) (N operand) (own_so operand x Taken h.0 k)) (facts_of.bool_is items ty
        h.1.1).1.1 around own to
    form_so (tree.Negate operand) x id ty by h k c around own to = operands_so items body also told fuel x.loops (head id ty by)
        (shape_of items (tree.Negate operand) (head id ty by)) (N operand ∷ [])
        (λ site. effects.Negate site (moved id (N operand).head.id))
        (one_of items body also told fuel x.loops (ty_of operand) (N operand) (own_so operand x Taken h.0 k))
        (facts_of.signed_is items ty h.1.1).1.1.1 around own to
    form_so (tree.Arithmetic operator a b) x id ty by h k c around own to = operands_so items body also told fuel x.loops (head id ty by)
        (shape_of items (tree.Arithmetic operator a b) (head id ty by)) (N a ∷ N b ∷ [])
        (λ site. effects.Compute site operator (moved id (N a).head.id) (moved id (N b).head.id))
        (more_of items body also told fuel x.loops (ty_of a) (N a) (N b ∷ [])
        (own_so a x (Wanted ty) h.0 (left (cells items true a) (cells items true b) k))
        (one_of items body also told fuel x.loops (ty_of b) (N b) (own_so b x (Wanted ty) h.1.0 (right (cells items true a) (cells items true b)
        k)))) (facts_of.int_is items ty h.1.1.0).1.1 around own to
    form_so (tree.Comparison operator a b) x id ty by h k c around own to = operands_so items body also told fuel x.loops (head id ty by)
        (shape_of items (tree.Comparison operator a b) (head id ty by)) (N a ∷ N b ∷ [])
        (λ site. effects.Compare site operator (moved id (N a).head.id) (moved id (N b).head.id))
        (more_of items body also told fuel x.loops (ty_of a) (N a) (N b ∷ [])
        (own_so a x Taken h.0 (left (cells items true a) (cells items true b) k))
        (one_of items body also told fuel x.loops (ty_of b) (N b) (own_so b x Taken h.1.0 (right (cells items true a) (cells items true b) k))))
        (facts_of.bool_is items ty h.1.1.1).1.1 around own to
    form_so (tree.And a b) x id ty by h k c around own to =
        let into = to_own_key (is_never items ty) id to in
        sure items body also told fuel x.loops ty _ (facts_of.bool_is items ty h.1.1.1.1).1.1 (rules.own_so items r x.loops None_ (head id ty
        by) own _ (rules.condition_so items r x.loops None_ around (N a) _ _
        (less items body also told fuel x.loops _ _ (own_so a x Taken h.0 (left (cells items true a) (cells items false b) k) around true (Into
        (N a).head.id))) (less items body also told fuel x.loops _ _ (rules.alone_so items r x.loops (Mades (ty_of b)) around (N b) into
        (node_so b x Taken h.1.0 (right (cells items true a) (cells items false b) k) around true into)))
        (rules.deliver_so items r x.loops (head id ty by) (λ site. effects.Put site (effects.Truth false)) into)))
    form_so (tree.Or a b) x id ty by h k c around own to =
        let into = to_own_key (is_never items ty) id to in
        sure items body also told fuel x.loops ty _ (facts_of.bool_is items ty h.1.1.1.1).1.1 (rules.own_so items r x.loops None_ (head id ty
        by) own _ (rules.condition_so items r x.loops None_ around (N a) _ _
        (less items body also told fuel x.loops _ _ (own_so a x Taken h.0 (left (cells items true a) (cells items false b) k) around true (Into
        (N a).head.id))) (rules.deliver_so items r x.loops (head id ty by) (λ site. effects.Put site (effects.Truth
        true)) into) (less items body also told fuel x.loops _ _ (rules.alone_so items r x.loops (Mades (ty_of b)) around (N b) into
        (node_so b x Taken h.1.0 (right (cells items true a) (cells items false b) k) around true into)))))
    form_so (tree.Assign target value) x id ty by h k c around own to =
        sure items body also told fuel x.loops ty _ (facts_of.unit_is items ty h.1.1.1).1.1 (rules.assigning_so items r x.loops (head id ty by)
        (N target) (N value) around own (to_own_key (is_never items ty) id to)
        (less items body also told fuel x.loops _ _ (own_so value x (Wanted (ty_of target)) h.1.1.0
        (right (reached_cells items target) (cells items true value) k) around false (Into (N value).head.id)))
        (less items body also told fuel x.loops _ _ (node_reached target x Stored h.0 (left (reached_cells items target) (cells items true
        value) k) around)))
    form_so (tree.Call callee args) x id ty by h k c around own to =
        let t = some_holds (slice_get items.bodies callee)
        (λ sig. both (fact (types.is_same ty sig.result)) (typing.arguments (K x) sig.params args)) h.0 in
        called_so items body also told fuel x.loops id ty by (shape_of items (tree.Call callee args) (head id ty by)) (Ns args) callee
        (args_so t.0.params args x t.1.1.1 k) (λ n. c n refl) around own to
    form_so (tree.MethodCall callee receiver args) x id ty by h k c around own to =
        let t = some_holds (slice_get items.bodies callee) (λ sig. both (fact (types.is_same ty sig.result))
        (typing.first_and_rest (λ t. typing.typed (K x) (Passed t) receiver) (λ ts. typing.arguments (K x) ts args)
        sig.params)) h.0 in
        called_so items body also told fuel x.loops id ty by (shape_of items (tree.MethodCall callee receiver args) (head id ty by))
        (N receiver ∷ Ns args) callee
        (passed_so items body also told fuel x.loops t.0.params receiver args x t.1.1.1
        (λ t' j. own_so receiver x (Passed t') j (left (cells items true receiver) (all_cells items args) k))
        (λ ts j. args_so ts args x j (right (cells items true receiver) (all_cells items args) k))) (λ n. c n refl)
        around own to
    form_so (tree.VirtualCall trait_no method receiver args) x id ty by h k c around own to =
        let d = some_holds (slice_get items.traits trait_no) (λ def. Rattle.well_typed.specs.Claim.some
        (slice_get def.methods method) (λ sig. both (fact (types.is_same ty sig.result))
        (typing.first_and_rest (λ t. typing.typed (K x) (Passed t) receiver) (λ ts. typing.arguments (K x) ts args)
        sig.params))) h in
        let t = some_holds (slice_get d.0.methods method) (λ sig. both (fact (types.is_same ty sig.result))
        (typing.first_and_rest (λ t. typing.typed (K x) (Passed t) receiver) (λ ts. typing.arguments (K x) ts args)
        sig.params)) d.1.1 in
        virtual_so items body also told fuel x.loops id ty by (shape_of items (tree.VirtualCall trait_no method receiver args) (head id ty by))
        (N receiver ∷ Ns args) trait_no method
        (passed_so items body also told fuel x.loops t.0.params receiver args x t.1.1.1
        (λ t' j. own_so receiver x (Passed t') j (left (cells items true receiver) (all_cells items args) k))
        (λ ts j. args_so ts args x j (right (cells items true receiver) (all_cells items args) k))) (λ n. c n refl)
        around own to
    form_so (tree.ClosureCall callee inside args) x id ty by h k c around own to =
        let t = some_holds (slice_get items.bodies callee) (λ sig. both (fact (types.is_same ty sig.result))
        (typing.first_and_rest (λ t. typing.typed (K x) (Passed t) inside) (λ ts. typing.arguments (K x) ts args)
        sig.params)) h.0 in
        called_so items body also told fuel x.loops id ty by (shape_of items (tree.ClosureCall callee inside args) (head id ty by))
        (N inside ∷ Ns args) callee
        (passed_so items body also told fuel x.loops t.0.params inside args x t.1.1.1
        (λ t' j. own_so inside x (Passed t') j (left (cells items true inside) (all_cells items args) k))
        (λ ts j. args_so ts args x j (right (cells items true inside) (all_cells items args) k))) (λ n. c n refl)
        around own to
    form_so (tree.Make adt variant fields) x id ty by h k c around own to =
        let t = some_holds (types.variant_at items adt variant) (λ v. both
        (fact (are_distinct_numbers (patterns.field_numbers fields)
        && length (patterns.field_numbers fields) == length v.fields))
        (typing.made_fields (K x) v.fields fields)) h.1 in
        let a = found_by (λ n. n == adt) (types.adt_of items ty) h.0 in
        operands_so items body also told fuel x.loops (head id ty by) (shape_of items (tree.Make adt variant fields) (head id ty by))
        (values_of (Nf fields))
        (λ site. effects.Build site (OfVariant adt variant) (all_moved id (values_of (in_number_order (Nf fields)))))
        (fields_so t.0.fields fields x t.1.1.1 k) (made_by types.adt_in refl (type_at items ty) a.0 a.1) around own to
    form_so (tree.Tuple parts) x id ty by h k c around own to =
        let t = some_holds (types.tuple_of items ty) (λ tys. typing.made_parts (K x) tys parts) h in
        operands_so items body also told fuel x.loops (head id ty by) (shape_of items (tree.Tuple parts) (head id ty by)) (Ns parts)
        (λ site. effects.Build site OfTuple (all_moved id (Ns parts))) (parts_so t.0 parts x t.1.1 k)
        (made_by types.tuple_in refl (type_at items ty) t.0 t.1.0) around own to
    form_so (tree.Array elements) x id ty by h k c around own to =
        let t = some_holds (types.array_of items ty) (λ a. both (fact (patterns.count_of elements == a.1))
        (typing.elements_of (K x) a.0 elements)) h in
        operands_so items body also told fuel x.loops (head id ty by) (shape_of items (tree.Array elements) (head id ty by)) (Ns elements)
        (λ site. effects.Build site OfArray (all_moved id (Ns elements))) (elements_so t.0.0 elements x t.1.1.1 k)
        (made_by types.array_in refl (type_at items ty) t.0 t.1.0) around own to
    form_so (tree.Closure closure captures) x id ty by h k c around own to =
        let t = some_holds (slice_get items.closures closure) (λ def. typing.captured (K x) def.captures captures) h.1
        in
        let a = found_by (λ n. n == closure) (types.closure_of items ty) h.0 in
        operands_so items body also told fuel x.loops (head id ty by) (shape_of items (tree.Closure closure captures) (head id ty by)) (Ns
        captures) (λ site. effects.Build site (OfClosure closure) (all_moved id (Ns captures)))
        (captures_so t.0.captures captures x t.1.1 k) (made_by types.closure_in refl (type_at items ty) a.0 a.1)
        around own to
    form_so (tree.NewBox content) x id ty by h k c around own to =
        let t = some_holds (types.boxed_of items ty) (λ inside. both (typing.typed (K x) (Wanted inside) content)
        (fact (not (types.is_dyn items inside)))) h in
        operands_so items body also told fuel x.loops (head id ty by) (shape_of items (tree.NewBox content) (head id ty by)) (N content ∷ [])
        (λ site. effects.NewBox site (moved id (N content).head.id))
        (one_of items body also told fuel x.loops (ty_of content) (N content) (own_so content x (Wanted t.0) t.1.1.0 k))
        (made_by types.boxed_in refl (type_at items ty) t.0 t.1.0) around own to
    form_so (tree.Print operand) x id ty by h k c around own to = gives_unit_so items body also told fuel x.loops (head id ty by)
        (shape_of items (tree.Print operand) (head id ty by)) (N operand) effects.Print
        (one_of items body also told fuel x.loops (ty_of operand) (N operand) (own_so operand x Taken h.0 k)) (facts_of.unit_is items ty
        h.1.1).1.1 around own to
    form_so tree.Ask x id ty by h k c around own to = effect_so items body also told fuel x.loops (head id ty by)
        (shape_of items tree.Ask (head id ty by)) effects.Ask (facts_of.i32_is items ty h).1.1 around own to
    form_so (tree.DropValue operand) x id ty by h k c around own to =
        sure items body also told fuel x.loops ty _ (facts_of.unit_is items ty h.1).1.1 (rules.dropping_so items r x.loops (head id ty by)
        around own (N operand) (forms.put_unit items r (head id ty by) (to_own_key (is_never items ty) id to))
        (less items body also told fuel x.loops _ _ (own_so operand x Taken h.0 k around false (Into (N operand).head.id)))
        (rules.unit_so items r x.loops (head id ty by) (to_own_key (is_never items ty) id to)))
    form_so (tree.Forget operand) x id ty by h k c around own to = gives_unit_so items body also told fuel x.loops (head id ty by)
        (shape_of items (tree.Forget operand) (head id ty by)) (N operand) effects.Forget
        (one_of items body also told fuel x.loops (ty_of operand) (N operand) (own_so operand x Taken h.0 k)) (facts_of.unit_is items ty
        h.1).1.1 around own to
    form_so tree.Panic x id ty by h k c around own to = λ S v. tt
    form_so (tree.Borrow unique base) x id ty by h k c around own to =
        let t = some_holds (types.reference_of items ty) (λ z. both (fact (types.is_same (ty_of base) z.1))
        (fact (if unique then z.0 else not z.0))) h.1.1 in
        sure items body also told fuel x.loops ty _ (made_by types.reference_in refl (type_at items ty) t.0 t.1.0)
        (rules.own_so items r x.loops None_ (head id ty by) own _
        (rules.both_so items r x.loops None_ None_ _ _
        (less items body also told fuel x.loops _ _ (node_reached base x (Used (borrow_by unique)) h.0 k around))
        (λ u. rules.deliver_so items r x.loops (head id ty by)
        (λ site. effects.Borrow (record site { node = (N base).head.id }) unique (site_of (N base) around))
        (to_own_key (is_never items ty) id to))))
    form_so (tree.Unsize trait_no operand) x id ty by h k c around own to =
        sure items body also told fuel x.loops ty _ (facts_of.coerces items ty (ty_of operand) trait_no h.1.1).object_alone.1
        (less items body also told fuel x.loops _ _ (own_so operand x Taken h.0 k around own
        (coerced (N operand).head.id trait_no (to_own_key (is_never items ty) id to))))
    form_so (tree.Block stmts tail) x id ty by h k c around own to =
        rules.block_so items r x.loops (typing.ends_in items stmts ≡ false) (Mades ty) (head id ty by) (Ns stmts) (Ni
        tail) around own (to_own_key (is_never items ty) id to)
        (statements_so stmts x (λ d. typing.tail_of d tail) h.0 (left (all_cells items stmts) (cells_if_any items
        false tail) k) around)
        (λ e. subst (λ l. Makes l (Mades ty) (forms.tail_of items r (head id ty by) (Ni tail) around
        (to_own_key (is_never items ty) id to))) (same_loops items body also told fuel stmts x)
        (tail_so tail (behind x stmts) stmts id ty by (at_nodes.behind_holds items body told fuel stmts x
        (λ d. typing.tail_of d tail) h.0) (right (all_cells items stmts) (cells_if_any items false tail) k) h.1 e around
        (to_own_key (is_never items ty) id to)))
    form_so (tree.If test consequent absent) x id ty by h k c around own to =
        let kc = left (cells items true test ++ cells items false consequent) [] k in
        let into = to_own_key (is_never items ty) id to in
        sure items body also told fuel x.loops ty _ (facts_of.unit_is items ty h.1.1.1.1).1.1 (rules.own_so items r x.loops None_ (head id ty
        by) own _ (rules.condition_so items r x.loops None_ around (N test) _ _
        (less items body also told fuel x.loops _ _ (own_so test x Taken h.0 (left (cells items true test) (cells items false consequent) kc)
        around true (Into (N test).head.id)))
        (less items body also told fuel x.loops _ _ (rules.alone_so items r x.loops (Mades (ty_of consequent)) around (N consequent) into
        (node_so consequent x Taken h.1.1.0 (right (cells items true test) (cells items false consequent) kc) around
        true into))) (rules.unit_so items r x.loops (head id ty by) into)))
    form_so (tree.If test consequent (present otherwise)) x id ty by h k c around own to =
        let kc = left (cells items true test ++ cells items false consequent) (cells items false otherwise) k in
        let into = to_own_key (is_never items ty) id to in
        rules.own_so items r x.loops (Mades ty) (head id ty by) own _
        (rules.condition_so items r x.loops (Mades ty) around (N test) _ _
        (less items body also told fuel x.loops _ _ (own_so test x Taken h.0 (left (cells items true test) (cells items false consequent) kc)
        around true (Into (N test).head.id)))
        (fits_so items body also told fuel x.loops ty consequent _ (common_first items body also told fuel ty (ty_of consequent) (ty_of otherwise ∷ []) h.1.1.1.1)
        (rules.alone_so items r x.loops (Mades (ty_of consequent)) around (N consequent) into
        (node_so consequent x Taken h.1.1.0 (right (cells items true test) (cells items false consequent) kc) around
        true into)))
        (fits_so items body also told fuel x.loops ty otherwise _ (common_second items body also told fuel ty (ty_of consequent) (ty_of otherwise) h.1.1.1.1)
        (rules.alone_so items r x.loops (Mades (ty_of otherwise)) around (N otherwise) into
        (node_so otherwise x Taken h.1.1.1.0 (right (cells items true test ++ cells items false consequent)
        (cells items false otherwise) k) around true into))))
    form_so (tree.IfLet p scrutinee consequent absent) x id ty by h k c around own to =
        let k3 = left ((cells items true p ++ reached_cells items scrutinee) ++ cells items false consequent) [] k in
        let k2 = left (cells items true p ++ reached_cells items scrutinee) (cells items false consequent) k3 in
        let into = to_own_key (is_never items ty) id to in
        sure items body also told fuel x.loops ty _ (facts_of.unit_is items ty h.1.1.1.1).1.1 (rules.own_so items r x.loops None_ (head id ty
        by) own _ (rules.if_taken_so items r x.loops None_ (head id ty by) around (N p) (N scrutinee) _ _
        (less items body also told fuel x.loops _ _ (node_reached scrutinee x (Used Use.Borrow) h.0
        (right (cells items true p) (reached_cells items scrutinee) k2) around))
        (less items body also told fuel x.loops _ _ (rules.alone_so items r x.loops (Mades (ty_of consequent)) around (N consequent) into
        (node_so consequent (with_names (patterns.entries_of p) x) Taken h.1.1.0
        (right (cells items true p ++ reached_cells items scrutinee) (cells items false consequent) k3) around true
        into))) (rules.unit_so items r x.loops (head id ty by) into)))
    form_so (tree.IfLet p scrutinee consequent (present otherwise)) x id ty by h k c around own to =
        let k3 = left ((cells items true p ++ reached_cells items scrutinee) ++ cells items false consequent)
        (cells items false otherwise) k in
        let k2 = left (cells items true p ++ reached_cells items scrutinee) (cells items false consequent) k3 in
        let into = to_own_key (is_never items ty) id to in
        rules.own_so items r x.loops (Mades ty) (head id ty by) own _
        (rules.if_taken_so items r x.loops (Mades ty) (head id ty by) around (N p) (N scrutinee) _ _
        (less items body also told fuel x.loops _ _ (node_reached scrutinee x (Used Use.Borrow) h.0
        (right (cells items true p) (reached_cells items scrutinee) k2) around))
        (fits_so items body also told fuel x.loops ty consequent _ (common_first items body also told fuel ty (ty_of consequent) (ty_of otherwise ∷ []) h.1.1.1.1)
        (rules.alone_so items r x.loops (Mades (ty_of consequent)) around (N consequent) into
        (node_so consequent (with_names (patterns.entries_of p) x) Taken h.1.1.0
        (right (cells items true p ++ reached_cells items scrutinee) (cells items false consequent) k3) around true
        into))) (fits_so items body also told fuel x.loops ty otherwise _ (common_second items body also told fuel ty (ty_of consequent) (ty_of otherwise) h.1.1.1.1)
        (rules.alone_so items r x.loops (Mades (ty_of otherwise)) around (N otherwise) into
        (node_so otherwise x Taken h.1.1.1.0
        (right ((cells items true p ++ reached_cells items scrutinee) ++ cells items false consequent)
        (cells items false otherwise) k) around true into))))
    form_so (tree.Match scrutinee arms) x id ty by h k c around own to =
        rules.matching_so items r x.loops (Mades ty) (head id ty by) (N scrutinee) (Ns arms) around own
        (to_own_key (is_never items ty) id to)
        (less items body also told fuel x.loops _ _ (node_reached scrutinee x (Used Use.Borrow) h.0
        (left (reached_cells items scrutinee) (all_cells items arms) k) around))
        (arms_so arms x (typing.matched_in false (K x) scrutinee) (ty_of scrutinee) ty h.1.0
        (facts_of.left_of (list_all (types.fits items ty) (typing.types_in arms)) _ h.1.1.0)
        (right (reached_cells items scrutinee) (all_cells items arms) k) around (to_own_key (is_never items ty) id to))
    form_so (tree.Loop inner) x id ty by h k c around own to =
        let a = at_nodes.around_a items body told fuel id ty true in
        let into = to_own_key (is_never items ty) id to in
        rules.own_so items r x.loops (Mades ty) (head id ty by) own _ (rules.turns_so items r fuel id ty true x.loops _
        (less items body also told fuel (in_a_loop a x).loops _ _ (rules.alone_so items r (in_a_loop a x).loops (Mades (ty_of inner))
        (in_loop id into around) (N inner) (Into (N inner).head.id)
        (own_so inner (in_a_loop a x) Taken h.0 k (in_loop id into around) true (Into (N inner).head.id)))))
    form_so (tree.While test inner) x id ty by h k c around own to =
        let a = at_nodes.around_a items body told fuel id ty false in
        let into = to_own_key (is_never items ty) id to in
        let y = in_a_loop a x in
        rules.own_so items r x.loops (Mades ty) (head id ty by) own _ (rules.turns_so items r fuel id ty false x.loops _
        (rules.condition_so items r y.loops None_ (in_loop id into around) (N test) _ _
        (less items body also told fuel y.loops _ _ (own_so test y Taken h.0 (left (cells items true test) (cells items true inner) k)
        (in_loop id into around) true (Into (N test).head.id)))
        (less items body also told fuel y.loops _ _ (rules.alone_so items r y.loops (Mades (ty_of inner)) (in_loop id into around) (N inner)
        (Into (N inner).head.id) (own_so inner y Taken h.1.1.0 (right (cells items true test) (cells items true inner)
        k) (in_loop id into around) true (Into (N inner).head.id))))
        (ends_so items body also told fuel id ty by x.loops (facts_of.unit_is items ty h.1.1.1.1).1.1 into)))
    form_so (tree.WhileLet p scrutinee inner) x id ty by h k c around own to =
        let a = at_nodes.around_a items body told fuel id ty false in
        let into = to_own_key (is_never items ty) id to in
        let y = in_a_loop a x in
        let k2 = left (cells items true p ++ reached_cells items scrutinee) (cells items true inner) k in
        rules.own_so items r x.loops (Mades ty) (head id ty by) own _ (rules.turns_so items r fuel id ty false x.loops _
        (rules.if_taken_so items r y.loops None_ (head id ty by) (in_loop id into around) (N p) (N scrutinee) _ _
        (less items body also told fuel y.loops _ _ (node_reached scrutinee y (Used Use.Borrow) h.0
        (right (cells items true p) (reached_cells items scrutinee) k2) (in_loop id into around)))
        (less items body also told fuel y.loops _ _ (rules.alone_so items r y.loops (Mades (ty_of inner)) (in_loop id into around) (N inner)
        (Into (N inner).head.id) (own_so inner (with_names (patterns.entries_of p) y) Taken h.1.1.0
        (right (cells items true p ++ reached_cells items scrutinee) (cells items true inner) k) (in_loop id into
        around) true (Into (N inner).head.id))))
        (ends_so items body also told fuel id ty by x.loops (facts_of.unit_is items ty h.1.1.1.1).1.1 into)))
    form_so (tree.Break loop value) x id ty by h k c around own to =
        let t = some_holds (loop_with loop x.loops) (λ a. typing.carries (K x) a value) h.0 in
        rules.own_so items r x.loops (Mades ty) (head id ty by) own _
        (rules.both_so items r x.loops (Mades t.0.ty) (Mades ty) _ (At (Breaks loop))
        (carried_so value x t.0 t.1.1 k (head id ty by) around (loop_destination loop around.loops))
        (λ made S v. (t.0, (t.1.0, made))))
    form_so (tree.Continue loop) x id ty by h k c around own to = λ S v. tt
    form_so (tree.Return value) x id ty by h k c around own to =
        rules.own_so items r x.loops (Mades ty) (head id ty by) own _
        (rules.both_so items r x.loops None_ (Mades ty) _ (At Returns)
        (returned_so value x h.0 k (head id ty by) around around.answer) (λ u S v. tt))
    form_so form x id ty by h k c around own to = absurd (false≢true h)

    -- ---- lists

    args_so : (tys : List TyId) (ns : Nodes) (x : Standpoint) → Holds (typing.arguments (K x) tys ns) →
        H (all_cells items ns) → AllE x.loops (Ns ns)
    args_so tys no_node x h k around = tt
    args_so [] (a_node first rest) x h k around = absurd (false≢true h)
    args_so (ty ∷ tys) (a_node first rest) x h k around = (
      less items body also told fuel x.loops _ _ (own_so first x (Passed ty) h.0 (left (cells items true first) (all_cells items rest) k) around
          false (Into (N first).head.id)),
      args_so tys rest x h.1 (right (cells items true first) (all_cells items rest) k) around,
    )

    parts_so : (tys : List TyId) (ns : Nodes) (x : Standpoint) → Holds (typing.made_parts (K x) tys ns) →
        H (all_cells items ns) → AllE x.loops (Ns ns)
    parts_so tys no_node x h k around = tt
    parts_so [] (a_node first rest) x h k around = absurd (false≢true h)
    parts_so (ty ∷ tys) (a_node first rest) x h k around = (
      less items body also told fuel x.loops _ _ (own_so first x (Wanted ty) h.0 (left (cells items true first) (all_cells items rest) k) around
          false (Into (N first).head.id)),
      parts_so tys rest x h.1 (right (cells items true first) (all_cells items rest) k) around,
    )

    elements_so : (ty : TyId) (ns : Nodes) (x : Standpoint) → Holds (typing.elements_of (K x) ty ns) →
        H (all_cells items ns) → AllE x.loops (Ns ns)
    elements_so ty no_node x h k around = tt
    elements_so ty (a_node first rest) x h k around = (
      less items body also told fuel x.loops _ _ (own_so first x (Wanted ty) h.0 (left (cells items true first) (all_cells items rest) k) around
          false (Into (N first).head.id)),
      elements_so ty rest x h.1 (right (cells items true first) (all_cells items rest) k) around,
    )

    captures_so : (tys : List TyId) (ns : Nodes) (x : Standpoint) → Holds (typing.captured (K x) tys ns) →
        H (all_cells items ns) → AllE x.loops (Ns ns)
    captures_so tys no_node x h k around = tt
    captures_so [] (a_node first rest) x h k around = absurd (false≢true h)
    captures_so (ty ∷ tys) (a_node first rest) x h k around = (
      less items body also told fuel x.loops _ _ (own_so first x Taken h.0 (left (cells items true first) (all_cells items rest) k) around false
          (Into (N first).head.id)),
      captures_so tys rest x h.1.1 (right (cells items true first) (all_cells items rest) k) around,
    )

    fields_so : (tys : List TyId) (fields : Fields) (x : Standpoint) → Holds (typing.made_fields (K x) tys fields) →
        H (cells_of_fields items fields) → AllE x.loops (values_of (Nf fields))
    fields_so tys no_field x h k around = tt
    fields_so tys (a_field number value rest) x h k around =
        let t = some_holds (slice_get tys number) (λ ty. typing.typed (K x) (Wanted ty) value) h.0 in (
          less items body also told fuel x.loops _ _ (own_so value x (Wanted t.0) t.1.1 (left (cells items true value) (cells_of_fields items
              rest) k) around false (Into (N value).head.id)),
          fields_so tys rest x h.1 (right (cells items true value) (cells_of_fields items rest) k) around,
        )

    carried_so : (value : MaybeNode) (x : Standpoint) (a : LoopAround) → Holds (typing.carries (K x) a value) →
        H (cells_if_any items false value) → (h : NodeHead) (around : LoopsAndGuards) (to : Destination) →
        Makes x.loops (Mades a.ty) (forms.value_of_jump items r h (Ni value) around to)
    carried_so absent x a j k h around to =
        sure items body also told fuel x.loops a.ty _ (facts_of.unit_is items a.ty j).1.1 (rules.unit_so items r x.loops h to)
    carried_so (present value) x a j k h around to = fits_so items body also told fuel x.loops a.ty value _
        (stand.wanted_fits items body told fuel x a.ty value j.1) (node_so value x (Wanted a.ty) j.1 k around false to)

    returned_so : (value : MaybeNode) (x : Standpoint) → Holds (typing.returned (K x) value) →
        H (cells_if_any items false value) → (h : NodeHead) (around : LoopsAndGuards) (to : Destination) →
        Makes x.loops None_ (forms.value_of_jump items r h (Ni value) around to)
    returned_so absent x j k h around to = rules.unit_so items r x.loops h to
    returned_so (present value) x j k h around to =
        less items body also told fuel x.loops _ _ (node_so value x (Wanted x.answer) j k around false to)

    -- ---- blocks

    tail_so : (tail : MaybeNode) (x : Standpoint) (stmts : Nodes) (id : ℕ) (ty : TyId) (by : Option Use) →
        Holds (typing.tail_of (K x) tail) → H (cells_if_any items false tail) →
        typing.is_block_ty items ty stmts tail ≡ true → typing.ends_in items stmts ≡ false → (around : LoopsAndGuards)
        (to : Destination) → Makes x.loops (Mades ty) (forms.tail_of items r (head id ty by) (Ni tail) around to)
    tail_so absent x stmts id ty by j k t e around to = sure items body also told fuel x.loops ty _
        (facts_of.unit_is items ty (subst (λ b. (if b then types.is_never items ty else types.is_unit items ty) ≡
        true) e t)).1.1 (unit_if_so items body also told fuel x.loops (is_never items ty) (head id ty by) to)
    tail_so (present tail) x stmts id ty by j k t e around to =
        subst (λ z. Makes x.loops (Mades z) (forms.alone items r around (N tail) to)) (sym (same_type ty (ty_of tail)
        t)) (rules.alone_so items r x.loops (Mades (ty_of tail)) around (N tail) to (node_so tail x Taken j k around
        true to))

    statements_so : (ns : Nodes) (x : Standpoint) (rest : Context → Claim) → Holds (typing.statements (K x) ns rest) →
        H (all_cells items ns) → (around : LoopsAndGuards) →
        Makes x.loops (typing.ends_in items ns ≡ false) (forms.statements items r around (Ns ns))
    statements_so no_node x rest h k around = λ S v. refl
    statements_so (a_node (node id at ty by form) more) x rest h k around =
        let first = node id at ty by form in
        rules.both_so items r x.loops (typing.ends_by items form ≡ false)
        (typing.ends_in items (a_node first more) ≡ false) _ (forms.statements items r around (Ns more))
        (statement_so form x id ty by h.1.0 (cells_of.inside items body true first
        (left (cells items true first) (all_cells items more) k)) around)
        (λ e S v. rules.as_so items r x.loops (typing.ends_in items more ≡ false)
        (typing.ends_in items (a_node first more) ≡ false) (forms.statements items r around (Ns more) S v)
        (λ f. at_nodes.either_false items body told fuel (typing.ends_by items form) (typing.ends_in items more) e f)
        (statements_so more (with_names (typing.entries_in form) x) rest h.1.1
        (right (cells items true first) (all_cells items more) k) around S v))

    statement_so : (form : Form) (x : Standpoint) (id : ℕ) (ty : TyId) (by : Option Use) →
        Holds (typing.statement (K x) form) → H (cells_in items form) → (around : LoopsAndGuards) →
        Makes x.loops (typing.ends_by items form ≡ false)
        ((F form id ty by).evaluate around false (Into (F form id ty by).head.id))
    statement_so (tree.Let p absent) x id ty by h k around S v = rules.as_so items r x.loops None_
        (typing.ends_by items (tree.Let p absent) ≡ false) _ (λ u. refl)
        (declared_so items body also told fuel x.loops ((N p).shape.bindings (whole_local 0)) S v)
    statement_so (tree.Let (node pid pat pty pby (tree.Binding name)) (present value)) x id ty by h k around S v =
        let p = node pid pat pty pby (tree.Binding name) in
        rules.let_name_so items r x.loops (typing.ends_by items (tree.Let p (present value)) ≡ false) (head id ty by)
        (head pid pty pby) (N value) around
        (λ T w. rules.as_so items r x.loops (Mades (ty_of value)) (typing.ends_by items (tree.Let p (present value)) ≡
        false) _ (λ m. named_ends items body also told fuel value m)
        (node_so value x (Wanted pty) h.0 (right (cells items true p) (cells items false value) k) around false (Into
        pid) T w)) S v
    statement_so (tree.Let (node pid pat pty pby pform) (present value)) x id ty by h k around S v =
        let p = node pid pat pty pby pform in
        rules.let_parts_so items r x.loops (typing.ends_by items (tree.Let p (present value)) ≡ false) (head id ty by)
        (N p) (N value) around
        (λ T w. rules.as_so items r x.loops _ (typing.ends_by items (tree.Let p (present value)) ≡ false) _
        (λ m. parted_ends items body also told fuel value x h.0 m)
        (node_reached value x Base h.0 (right (cells items true p) (reached_cells items value) k) around T w)) S v
    statement_so (tree.Evaluate expression) x id ty by h k around S v =
        rules.evaluating_so items r x.loops (types.is_never items (ty_of expression) ≡ false) (head id ty by) (N
        expression) around
        (λ T w. rules.as_so items r x.loops (Mades (ty_of expression)) (types.is_never items (ty_of expression) ≡
        false) _ (λ m. facts_of.never_same items (ty_of expression) ∙ m)
        (own_so expression x Taken h k around false (Into (N expression).head.id) T w)) S v
    statement_so form x id ty by h k around S v = absurd (false≢true h)

    -- ---- arms

    arms_so : (arms : Nodes) (x : Standpoint) (m : patterns.Matched) (want whole : TyId) →
        Holds (typing.arms_of (K x) m want arms) → list_all (types.fits items whole) (typing.types_in arms) ≡ true →
        H (all_cells items arms) → (around : LoopsAndGuards) (to : Destination) →
        rules.AllArms items r x.loops (Mades whole) around to (Ns arms)
    arms_so no_node x m want whole h f k around to = tt
    arms_so (a_node (node id at ty by form) rest) x m want whole h f k around to = (
      λ place otherwise o. arm_so form x m want whole id at ty by h.0
          (facts_of.left_of (types.fits items whole ty) _ f)
          (cells_of.inside items body true (node id at ty by form)
          (left (cells items true (node id at ty by form)) (all_cells items rest) k)) around to place otherwise o,
      arms_so rest x m want whole h.1 (facts_of.right_of (types.fits items whole ty) _ f)
          (right (cells items true (node id at ty by form)) (all_cells items rest) k) around to,
    )

    arm_so : (form : Form) (x : Standpoint) (m : patterns.Matched) (want whole : TyId) (id : ℕ) (at : Pos) (ty : TyId)
        (by : Option Use) → Holds (typing.arm (K x) m want (node id at ty by form)) →
        types.fits items whole ty ≡ true → H (cells_in items form) → (around : LoopsAndGuards) (to : Destination) →
        (place : Place) (otherwise : Does V) → Makes x.loops (Mades whole) otherwise →
        Makes x.loops (Mades whole) ((F form id ty by).arm place otherwise around to)
    arm_so (tree.Arm p guard inner) x m want whole id at ty by h f k around to place otherwise o =
        let k2 = left (cells items true p ++ cells_if_any items true guard) (cells items false inner) k in
        rules.arm_so items r x.loops (Mades whole) (head id ty by) (N p) (Ni guard) (N inner) place otherwise around to
        (guard_so guard (with_names (in_guard (patterns.entries_of p)) x) h.1.1.1.0
        (right (cells items true p) (cells_if_any items true guard) k2))
        (fits_so items body also told fuel x.loops whole inner _ (subst (λ t. types.fits items whole t ≡ true) (same_type ty (ty_of inner)
        h.1.1.1.1.1) f) (node_so inner (with_names (patterns.entries_of p) x) Taken h.1.1.1.1.0
        (right (cells items true p ++ cells_if_any items true guard) (cells items false inner) k) around true to)) o
    arm_so form x m want whole id at ty by h f k around to place otherwise o = absurd (false≢true h)

    guard_so : (guard : MaybeNode) (x : Standpoint) → Holds (typing.guarded (K x) guard) →
        H (cells_if_any items true guard) → (g : Meaning V) → Ni guard ≡ Some g → (inner : LoopsAndGuards) →
        Makes x.loops None_ (g.evaluate inner true (Into g.head.id))
    guard_so absent x h k g e inner = absurd (none-some g e)
    guard_so (present guard) x h k g e inner =
        subst (λ (o : Option (Meaning V)). (z : Meaning V) → o ≡ Some z →
        Makes x.loops None_ (z.evaluate inner true (Into z.head.id))) refl
        (λ z f. subst (λ (y : Meaning V). Makes x.loops None_ (y.evaluate inner true (Into y.head.id)))
        (same_meaning items body also told fuel (N guard) z f)
        (less items body also told fuel x.loops _ _ (own_so guard x Taken h.0 k inner true (Into (N guard).head.id)))) g e

  -- so one of type `!` has none
  pub never_ends : (n : Node) (x : Standpoint) (standing : Standing) → Holds (typing.typed (K x) standing n) →
      H (cells items false n) → is_never items (ty_of n) ≡ true → (around : LoopsAndGuards) (own : Bool) (to :
      Destination) (S : Scopes) (v : V) → NoValue ((N n).evaluate around own to S v)
  never_ends n x standing h k never around own to S v = rules.no_value items r x.loops
      ((N n).evaluate around own to S v)
      (rules.as_so items r x.loops (Mades (ty_of n)) ⊥ ((N n).evaluate around own to S v)
      (λ m. false≢true (sym m ∙ never)) (node_so n x standing h k around own to S v))

  -- nor has a form that has no cell of its own
  pub form_ends : (form : Form) (x : Standpoint) (id : ℕ) (ty : TyId) (by : Option Use) →
      Holds (typing.row (K x) id ty form) → H (cells_in items form) → made_of_never form ≡ false →
      is_never items ty ≡ true → (around : LoopsAndGuards) (own : Bool) (to : Destination) (S : Scopes) (v : V) →
      NoValue ((F form id ty by).evaluate around own to S v)
  form_ends form x id ty by h k none never around own to S v = rules.no_value items r x.loops
      ((F form id ty by).evaluate around own to S v)
      (rules.as_so items r x.loops (Mades ty) ⊥ ((F form id ty by).evaluate around own to S v)
      (λ m. false≢true (sym m ∙ never))
      (form_so form x id ty by h k (λ n m. absurd (false≢true (sym none ∙ m))) around own to S v))

-- The pass over the forms for the first test: all that is done with cells is of the right types, a node of type `!` has
-- no value, and a jump names a loop around it. One line a form.
use Rattle.std.proofs.Common.{◌≡◌, inl, ℕ, ◌==◌, ◌&&◌, ◌||◌, not, Bool, true, false, List, [], ◌∷◌, ◌++◌, length, Option, slice_get, if◌then◌else◌, refl, sym, ◌∙◌}
use Rattle.std.proofs.lemmas.Bool.{false≢true}
use Rattle.mir_base.specs.declared.place_in_text.Pos.{Pos}
use Rattle.mir_ty.specs.declared.ty.TyId.{TyId}
use Rattle.mir_ty.specs.Facts.{needs_drop}
use Rattle.mir_ty.specs.ItemTable.{ItemTable, type_at}
use Rattle.store_model.specs.Places.Place.{is_reference}
use Rattle.typed_tree.specs.declared.node.Use.{Use}
use Rattle.typed_tree.specs.Tree as tree
use Rattle.typed_tree.specs.Tree.{Node, node, Form, Nodes, no_node, a_node, Fields, no_field, a_field, MaybeNode, absent, present, BodyTree}
use Rattle.src_meaning.specs.Evaluation as evaluation
use Rattle.src_meaning.specs.Evaluation.{meaning, meaning_of, meanings, fields_of, meaning_if_any, values_of}
use Rattle.src_meaning.specs.Forms as forms
use Rattle.src_meaning.specs.Forms.{Destination, Into, LoopsAndGuards, Meaning, loop_destination, is_never}
use Rattle.src_meaning.specs.Locals.OfBody.{cells, reached_cells, cells_in, all_cells, cells_of_fields, cells_if_any}
use Rattle.src_meaning.specs.Scopes.{Entry, Scopes, Run, Breaks, Continues, Returns, At}
use Rattle.src_meaning.specs.Shape.{NodeHead, head, shape_of, moves}
use Rattle.well_typed.specs.Claim.{Claim, Holds, fact, both, nothing}
use Rattle.well_typed.specs.Nodes as typing
use Rattle.well_typed.specs.Patterns as patterns
use Rattle.well_typed.specs.Patterns.{Matched}
use Rattle.well_typed.specs.Places.{LoopAround, Context, loop_with, in_guard, ty_of, form_of, is_by, is_place, borrow_by, Standing, Taken, Wanted, Passed, Base, Used, Stored}
use Rattle.well_typed.specs.Types as types
use Rattle.soundness_values.proofs.Checked.{Checking}
use Rattle.soundness_values.proofs.Facts.{Facts}
use Rattle.soundness_values.proofs.Leaving.{Shown}
use Rattle.soundness_cells.proofs.PassCellNames.{Names, PlaceOk}
use Rattle.soundness_cells.proofs.PassCellPlaces as places
use Rattle.soundness_cells.proofs.PassCellPlaces.{Scoped}
use Rattle.soundness_cells.proofs.PassCellPlain.{used_listed}
use Rattle.soundness_cells.proofs.PassListed.{Lists}
use Rattle.soundness_cells.proofs.PassCellScoped as scope
use Rattle.soundness_cells.proofs.PassCellTypes as facts
use Rattle.soundness_cells.proofs.PassCellActs.{Cell}
use Rattle.soundness_cells.proofs.PassCellEffects.{marked_run, may_end, Acts, Tests, Drops, Made, does_well}
use Rattle.soundness_cells.proofs.PassCellNodes as nodes
use Rattle.soundness_cells.proofs.PassCellNodes.{May, Post, Fine, Well, Reach, Reached, Own, AllOwn, AroundWell, Dest, Given, IsMade}
use Rattle.soundness_cells.proofs.PassCellPatterns as cells_of
use Rattle.soundness_cells.proofs.PassCellPatterns.{Told, Has, made_of_never}
use Rattle.soundness_cells.proofs.PassCellTypes.{Alone}
use Rattle.soundness_cells.proofs.PassFacts.{Standpoint, context, with_names, in_a_loop, behind}
use Rattle.soundness_cells.proofs.PassWell as rules
use Rattle.soundness_cells.proofs.PassWellBranches as branches
use Rattle.soundness_cells.proofs.PassWellStatements as statements
use Rattle.soundness_values.proofs.PlaceTypes.{some_holds, same_type}
use Rattle.soundness_cells.proofs.PassCellStands as stand
use Rattle.well_typed.specs.Names.{are_distinct_numbers}
use Rattle.src_meaning.specs.Scopes.{with_scope, on_value}
use Rattle.soundness_cells.proofs.PassCellStands.{Valued}
use Rattle.soundness_cells.proofs.PassCellParts as at_nodes
use Rattle.soundness_cells.proofs.PassCellOperators as operators
use Rattle.soundness_cells.proofs.PassCellMakes as makes
use Rattle.soundness_cells.proofs.PassCellChoices as choices
use Rattle.soundness_cells.proofs.PassCellStatements as stated

module _ (items : ItemTable) (body : BodyTree) (told : Told items) (fuel : ℕ) where
  abbrev V : Type 0
  V = Checking Facts

  abbrev K : Standpoint → Context
  K = context items

  abbrev M : Node → Meaning V
  M = meaning items (marked_run items body) fuel

  abbrev Ms : Nodes → List (Meaning V)
  Ms = meanings items (marked_run items body) fuel

  abbrev Mf : Fields → List (ℕ × Meaning V)
  Mf = fields_of items (marked_run items body) fuel

  abbrev Mi : MaybeNode → Option (Meaning V)
  Mi = meaning_if_any items (marked_run items body) fuel

  abbrev Of : Form → ℕ → TyId → Option Use → Meaning V
  Of form id ty by =
      meaning_of items (marked_run items body) fuel form (head id ty by) (shape_of items form (head id ty by))

  abbrev H : List Entry → Type 0
  H = Has items body

  abbrev W : Standpoint → Meaning V → Type 0
  W x = Well items body (K x)

  abbrev left : (a b : List Entry) → H (a ++ b) → H a
  left = cells_of.has_left items body

  abbrev right : (a b : List Entry) → H (a ++ b) → H b
  right = cells_of.has_right items body

  abbrev more_valued : (c : Context) (valued valued' : Type 0) → (valued → valued') → (r : Run V) →
      Shown may_end (Post items body c valued) r → Shown may_end (Post items body c valued') r
  more_valued = rules.more_valued items (marked_run items body) may_end (Acts items body) (Tests items body)
      (Drops items body) (Made items body) (does_well items body) (Cell items body) (May items body) (Names items body)

  abbrev alone_well : (c : Context) (around : LoopsAndGuards) (m : Meaning V) (to : Destination) →
      AroundWell items body c around → Well items body c m → Dest items body m.head.ty to → (S : Scopes) (v : V) →
      Fine items body S → Shown may_end (Post items body c (IsMade items body m.head.ty))
      (forms.alone items (marked_run items body) around m to S v)
  alone_well = rules.alone_well items (marked_run items body) may_end (Acts items body) (Tests items body)
      (Drops items body) (Made items body) (does_well items body) (Cell items body) (May items body) (Names items body)

  -- ---- types of places

  plain_of : (id : TyId) → Alone items id → is_reference (type_at items id) ≡ false
  plain_of id a = facts.is_false (is_reference (type_at items id))
      (facts.left_of (not (is_reference (type_at items id))) _ a)

  -- what is stored into
  stored_so : (n : Node) (x : Standpoint) → Holds (typing.typed (K x) Stored n) →
      (types.is_reference items (ty_of n) ≡ false) × (Alone items (ty_of n) × (is_place (form_of n) ≡ true))
  stored_so (node id at ty by form) x h =
      let r = facts.is_false (types.is_reference items ty)
      (facts.right_of (is_place form && is_by Use.Store by) _ h.0.0) in (
        r,
        (
          facts.neither_alone items ty r (facts.is_false (types.is_dyn items ty) h.0.1.1),
          facts.left_of (is_place form) _ (facts.left_of (is_place form && is_by Use.Store by) _ h.0.0),
        ),
      )

  -- an initialiser that is taken apart is of the type of the pattern, if it is made
  same_when : (n : Node) (want : TyId) → types.fits items want (ty_of n) ≡ true →
      (not (is_place (form_of n)) || types.is_same (ty_of n) want) ≡ true → Reached items body (M n) → ty_of n ≡ want
  same_when n want f e r = by (is_place (form_of n)) refl e
    where
      made : types.is_never items (ty_of n) ≡ false → types.is_same (ty_of n) want ≡ true
      made k = first (types.is_same (ty_of n) want) (types.is_never items (ty_of n)) f k
        where
          first : (a b : Bool) → (a || b) ≡ true → b ≡ false → a ≡ true
          first true b e k = refl
          first false true e k = absurd (false≢true (sym k))
          first false false e k = absurd (false≢true e)

      by : (b : Bool) → is_place (form_of n) ≡ b → (not b || types.is_same (ty_of n) want) ≡ true → ty_of n ≡ want
      by true p e = same_type (ty_of n) want e
      by false p e = same_type (ty_of n) want (made (at_nodes.never_false items body told fuel n
          (r (at_nodes.meant_place items body told fuel n ∙ p))))

  -- ---- the forms

  mutual
    pub node_well : (n : Node) (x : Standpoint) (s : Scoped items body x) (standing : Standing) → Valued items body told fuel standing →
        Holds (typing.typed (K x) standing n) → H (cells items false n) → W x (M n)
    node_well (node id at ty by form) x s standing v h k = form_well form x s id ty by h.1
        (λ e. stand.place_alone items body told fuel x standing ty by form v h.0 e)
        (λ e m. stand.place_copied items body told fuel x standing ty by form v h.0 e m)
        (cells_of.inside items body false (node id at ty by form) k)
        (λ n m. cells_of.never_cell items body false id at ty by form
        (stand.of_row items body told fuel form x id ty h.1).1 k n m)

    own_well : (n : Node) (x : Standpoint) (s : Scoped items body x) (standing : Standing) → Valued items body told fuel standing →
        Holds (typing.typed (K x) standing n) → H (cells items true n) → Own items body (K x) (M n)
    own_well (node id at ty by form) x s standing v h k = nodes.own_from items body (K x) (M (node id at ty by form))
        (form_well form x s id ty by h.1 (λ e. stand.place_alone items body told fuel x standing ty by form v h.0 e)
        (λ e m. stand.place_copied items body told fuel x standing ty by form v h.0 e m)
        (cells_of.inside items body true (node id at ty by form) k)
        (λ n m. cells_of.never_cell items body true id at ty by form
        (stand.of_row items body told fuel form x id ty h.1).1 k n m))
        (stand.own_dest items body told fuel (node id at ty by form) x standing h k)

    node_reached : (n : Node) (x : Standpoint) (s : Scoped items body x) (standing : Standing) → Holds (typing.typed (K x) standing n) →
        H (reached_cells items n) → Reach items body (K x) (M n)
    node_reached (node id at ty by form) x s standing h k =
        at_nodes.either_reached items body told fuel (is_place form) form refl
        (λ p. place_reached form x s id ty by h.1 p (cells_of.reached_inside items body (node id at ty by form) k))
        (λ p. let own = cells_of.reached_own items body id at ty by form p k in
        nodes.reached_by items body fuel (K x) (Of form id ty by)
        (at_nodes.temporary_meant items body told fuel form id ty by p)
        (form_well form x s id ty by h.1 (λ e. absurd (false≢true (sym p ∙ e))) (λ e m. absurd (false≢true (sym p ∙ e)))
        (cells_of.inside items body true (node id at ty by form) own)
        (λ n m. cells_of.never_cell items body true id at ty by form
        (stand.of_row items body told fuel form x id ty h.1).1 own n m))
        (stand.own_dest items body told fuel (node id at ty by form) x standing h own))

    place_reached : (form : Form) (x : Standpoint) (s : Scoped items body x) (id : ℕ) (ty : TyId) (by : Option Use) →
        Holds (typing.row (K x) id ty form) →
        is_place form ≡ true → H (cells_in items form) → Reach items body (K x) (Of form id ty by)
    place_reached (tree.Variable key) x s id ty by h p k = λ around S w ok f. ((λ e. absurd (false≢true (sym e))), f)
    place_reached (tree.Captured closure part name) x s id ty by h p k =
        λ around S w ok f. ((λ e. absurd (false≢true (sym e))), f)
    place_reached (tree.Field base part) x s id ty by h p k = λ around S w ok f.
        more_valued (K x) (Reached items body (M base)) (Reached items body (Of (tree.Field base part) id ty by))
        (λ r e. absurd (false≢true (sym e))) ((M base).reach around S w)
        (node_reached base x s Base h.0 k around S w ok f)
    place_reached (tree.Index base index length) x s id ty by h p k =
        at_nodes.element_with items body told fuel base index length x id ty by h k s
        (node_reached base x s Base h.0 (left (reached_cells items base) (cells items true index) k))
        (node_well index x s Taken tt h.1.0
        (cells_of.fewer items body index (right (reached_cells items base) (cells items true index) k)))
        (Reached items body (Of (tree.Index base index length) id ty by)) (λ e. absurd (false≢true (sym e)))
    place_reached (tree.Deref base) x s id ty by h p k = λ around S w ok f.
        more_valued (K x) (Reached items body (M base)) (Reached items body (Of (tree.Deref base) id ty by))
        (λ r e. absurd (false≢true (sym e))) ((M base).reach around S w)
        (node_reached base x s Base h.0 k around S w ok f)
    place_reached form x s id ty by h p k = absurd (false≢true p)

    pub form_well : (form : Form) (x : Standpoint) (s : Scoped items body x) (id : ℕ) (ty : TyId) (by : Option Use) →
        Holds (typing.row (K x) id ty form) →
        (is_place form ≡ true → Alone items ty) →
        (is_place form ≡ true → moves by ≡ false → needs_drop items ty ≡ false) → H (cells_in items form) →
        (is_never items ty ≡ true → made_of_never form ≡ true → Cell items body id ty) → W x (Of form id ty by)
    form_well (tree.Number value) x s id ty by h pa pb k nv =
        operators.number_well items body told fuel value x id ty by h
    form_well (tree.Truth value) x s id ty by h pa pb k nv =
        operators.truth_well items body told fuel value x id ty by h
    form_well tree.UnitValue x s id ty by h pa pb k nv =
        operators.unit_value_well items body told fuel x id ty by h
    form_well (tree.Variable key) x s id ty by h pa pb k nv =
        operators.variable_well items body told fuel key x id ty by pa nv
        (pb refl) (places.form_place items body told fuel (tree.Variable key) x id ty by h refl s k
        (plain_of ty (pa refl)))
    form_well (tree.Captured closure part name) x s id ty by h pa pb k nv =
        operators.captured_well items body told fuel closure part name x id ty by pa nv
        (pb refl) (places.form_place items body told fuel (tree.Captured closure part name) x id ty by h refl s k
        (plain_of ty (pa refl)))
    form_well (tree.Field base part) x s id ty by h pa pb k nv =
        operators.field_well items body told fuel base part x id ty by pa nv
        (pb refl) (places.form_place items body told fuel (tree.Field base part) x id ty by h refl s k
        (plain_of ty (pa refl)))
        (node_reached base x s Base h.0 k)
    form_well (tree.Index base index length) x s id ty by h pa pb k nv =
        operators.index_well items body told fuel base index length x id ty by h pa k nv s
        (pb refl) (places.form_place items body told fuel (tree.Index base index length) x id ty by h refl s k
        (plain_of ty (pa refl)))
        (node_reached base x s Base h.0 (left (reached_cells items base) (cells items true index) k))
        (node_well index x s Taken tt h.1.0 (cells_of.fewer items body index
        (right (reached_cells items base) (cells items true index) k)))
    form_well (tree.Deref base) x s id ty by h pa pb k nv =
        operators.deref_well items body told fuel base x id ty by pa nv
        (pb refl) (places.form_place items body told fuel (tree.Deref base) x id ty by h refl s k
        (plain_of ty (pa refl)))
        (node_reached base x s Base h.0 k)
    form_well (tree.Not operand) x s id ty by h pa pb k nv =
        operators.not_well items body told fuel operand x id ty by h k
        (own_well operand x s Taken tt h.0 k)
    form_well (tree.Negate operand) x s id ty by h pa pb k nv =
        operators.negate_well items body told fuel operand x id ty by h k
        (own_well operand x s Taken tt h.0 k)
    form_well (tree.Arithmetic operator left_ right_) x s id ty by h pa pb k nv =
        let kl = left (cells items true left_) (cells items true right_) k in
        let kr = right (cells items true left_) (cells items true right_) k in
        operators.arithmetic_well items body told fuel operator left_ right_ x id ty by h k
        (own_well left_ x s (Wanted ty) tt h.0 kl)
        (own_well right_ x s (Wanted ty) tt h.1.0 kr)
    form_well (tree.Comparison operator left_ right_) x s id ty by h pa pb k nv =
        let kl = left (cells items true left_) (cells items true right_) k in
        let kr = right (cells items true left_) (cells items true right_) k in
        operators.comparison_well items body told fuel operator left_ right_ x id ty by h k
        (own_well left_ x s Taken tt h.0 kl)
        (own_well right_ x s Taken tt h.1.0 kr)
    form_well (tree.And left_ right_) x s id ty by h pa pb k nv =
        let kl = left (cells items true left_) (cells items false right_) k in
        operators.and_well items body told fuel left_ right_ x id ty by h k
        (node_well left_ x s Taken tt h.0 (cells_of.fewer items body left_ kl))
        (node_well right_ x s Taken tt h.1.0 (right (cells items true left_) (cells items false right_) k))
    form_well (tree.Or left_ right_) x s id ty by h pa pb k nv =
        let kl = left (cells items true left_) (cells items false right_) k in
        operators.or_well items body told fuel left_ right_ x id ty by h k
        (node_well left_ x s Taken tt h.0 (cells_of.fewer items body left_ kl))
        (node_well right_ x s Taken tt h.1.0 (right (cells items true left_) (cells items false right_) k))
    form_well (tree.Assign target value) x s id ty by h pa pb k nv =
        let kp = left (reached_cells items target) (cells items true value) k in
        let kv = right (reached_cells items target) (cells items true value) k in
        operators.assign_well items body told fuel target value x id ty by h
        (at_nodes.placed_node items body told fuel target x Stored h.0 s kp (stored_so target x h.0).0)
        (stored_so target x h.0).1.0 (stored_so target x h.0).1.1
        (node_reached target x s Stored h.0 kp)
        (own_well value x s (Wanted (ty_of target)) tt h.1.1.0 kv)
    form_well (tree.Call callee args) x s id ty by h pa pb k nv =
        let t = some_holds (slice_get items.bodies callee)
        (λ sig. both (fact (types.is_same ty sig.result)) (typing.arguments (K x) sig.params args)) h.0 in
        makes.call_well items body told fuel callee args x id ty by h k nv
        (args_own t.0.params args x s t.1.1.1 k)
    form_well (tree.MethodCall callee receiver args) x s id ty by h pa pb k nv =
        makes.method_call_well items body told fuel callee receiver args x id ty by h k nv
        (λ t' j. own_well receiver x s (Passed t') tt j (left (cells items true receiver) (all_cells items args) k))
        (λ ts j. args_own ts args x s j (right (cells items true receiver) (all_cells items args) k))
    form_well (tree.VirtualCall trait_no method receiver args) x s id ty by h pa pb k nv =
        makes.virtual_call_well items body told fuel trait_no method receiver args x id ty by h k nv
        (λ t' j. own_well receiver x s (Passed t') tt j (left (cells items true receiver) (all_cells items args) k))
        (λ ts j. args_own ts args x s j (right (cells items true receiver) (all_cells items args) k))
    form_well (tree.ClosureCall callee inside args) x s id ty by h pa pb k nv =
        makes.closure_call_well items body told fuel callee inside args x id ty by h k nv
        (λ t' j. own_well inside x s (Passed t') tt j (left (cells items true inside) (all_cells items args) k))
        (λ ts j. args_own ts args x s j (right (cells items true inside) (all_cells items args) k))
    form_well (tree.Make adt variant fields) x s id ty by h pa pb k nv =
        let t = some_holds (types.variant_at items adt variant) (λ v. both
        (fact (are_distinct_numbers (patterns.field_numbers fields) && length (patterns.field_numbers fields) == length
        v.fields))
        (typing.made_fields (K x) v.fields fields)) h.1 in
        makes.make_well items body told fuel adt variant fields x id ty by h k
        (fields_own t.0.fields fields x s t.1.1.1 k)
    form_well (tree.Tuple parts) x s id ty by h pa pb k nv =
        let t = some_holds (types.tuple_of items ty) (λ tys. typing.made_parts (K x) tys parts) h in
        makes.tuple_well items body told fuel parts x id ty by h k
        (parts_own t.0 parts x s t.1.1 k)
    form_well (tree.Array elements) x s id ty by h pa pb k nv =
        let t = some_holds (types.array_of items ty) (λ a. both
        (fact (patterns.count_of elements == a.1)) (typing.elements_of (K x) a.0 elements)) h in
        makes.array_well items body told fuel elements x id ty by h k
        (elements_own t.0.0 elements x s t.1.1.1 k)
    form_well (tree.Closure closure captures) x s id ty by h pa pb k nv =
        let t = some_holds (slice_get items.closures closure) (λ def. typing.captured (K x) def.captures captures) h.1
        in
        makes.closure_well items body told fuel closure captures x id ty by h k
        (captures_own t.0.captures captures x s t.1.1 k)
    form_well (tree.NewBox content) x s id ty by h pa pb k nv =
        let t = some_holds (types.boxed_of items ty)
        (λ inside. both (typing.typed (K x) (Wanted inside) content) (fact (not (types.is_dyn items inside)))) h in
        makes.new_box_well items body told fuel content x id ty by h k
        (own_well content x s (Wanted t.0) tt t.1.1.0 k)
    form_well (tree.Print operand) x s id ty by h pa pb k nv =
        operators.print_well items body told fuel operand x id ty by h k
        (own_well operand x s Taken tt h.0 k)
    form_well tree.Ask x s id ty by h pa pb k nv =
        operators.ask_well items body told fuel x id ty by h
    form_well (tree.DropValue operand) x s id ty by h pa pb k nv =
        operators.drop_value_well items body told fuel operand x id ty by h
        (own_well operand x s Taken tt h.0 k)
    form_well (tree.Forget operand) x s id ty by h pa pb k nv =
        operators.forget_well items body told fuel operand (x, s.listed) id ty by h k
        (own_well operand x s Taken tt h.0 k)
    form_well tree.Panic x s id ty by h pa pb k nv =
        operators.panic_well items body told fuel x id ty by
    form_well (tree.Borrow unique base) x s id ty by h pa pb k nv =
        operators.borrow_well items body told fuel unique base x id ty by h
        (at_nodes.placed_node items body told fuel base x (Used (borrow_by unique)) h.0 s k
        (at_nodes.used_plain items body told fuel x (borrow_by unique) base h.0))
        (node_reached base x s (Used (borrow_by unique)) h.0 k)
    form_well (tree.Unsize trait_no operand) x s id ty by h pa pb k nv =
        operators.unsize_well items body told fuel trait_no operand x id ty by h
        (own_well operand x s Taken tt h.0 k)
    form_well (tree.Block stmts tail) x s id ty by h pa pb k nv =
        nodes.value_well items body fuel (K x) (head id ty by) (shape_of items (tree.Block stmts tail) (head id ty by))
        (forms.block items (marked_run items body) (head id ty by) (Ms stmts) (Mi tail))
        (λ around own to ok g S w f. rules.leave_well items (marked_run items body) may_end (Acts items body)
        (Tests items body) (Drops items body) (Made items body) (does_well items body) (Cell items body)
        (May items body)
        (Names items body) (K x) (IsMade items body ty)
        (on_value (forms.statements items (marked_run items body) around (Ms stmts) (with_scope id own S) w)
        (forms.tail_of items (marked_run items body) (head id ty by) (Mi tail) around to))
        (rules.then_well items (marked_run items body) may_end (Acts items body) (Tests items body) (Drops items body)
        (Made items body) (does_well items body) (Cell items body) (May items body) (Names items body) (K x)
        (typing.ends_in items stmts ≡ false) (IsMade items body ty)
        (forms.statements items (marked_run items body) around (Ms stmts) (with_scope id own S) w)
        (forms.tail_of items (marked_run items body) (head id ty by) (Mi tail) around to)
        (statements_well stmts x s (λ d. typing.tail_of d tail) h.0
        (left (all_cells items stmts) (cells_if_any items false tail) k)
        around ok (with_scope id own S) w (rules.opened items (marked_run items body) may_end (Acts items body)
        (Tests items body) (Drops items body) (Made items body) (does_well items body) (Cell items body)
        (May items body)
        (Names items body) id own S f))
        (λ T w' e l. tail_well tail x stmts (scope.scoped_behind items body told stmts x
        (λ d. typing.tail_of d tail) h.0 e (left (all_cells items stmts) (cells_if_any items false tail) k) s)
        (at_nodes.behind_holds items body told fuel stmts x
        (λ d. typing.tail_of d tail) h.0)
        (right (all_cells items stmts) (cells_if_any items false tail) k) (head id ty by) h.1 e around to ok g T w' l)))
    form_well (tree.If condition consequent absent) x s id ty by h pa pb k nv =
        let kc = left (cells items true condition ++ cells items false consequent) [] k in
        let k0 = left (cells items true condition) (cells items false consequent) kc in
        choices.if_alone_well items body told fuel condition consequent x id ty by h k
        (node_well condition x s Taken tt h.0 (cells_of.fewer items body condition k0))
        (node_well consequent x s Taken tt h.1.1.0 (right (cells items true condition) (cells items false consequent) kc))
    form_well (tree.If condition consequent (present otherwise)) x s id ty by h pa pb k nv =
        let kc = left (cells items true condition ++ cells items false consequent) (cells items false otherwise) k in
        let k0 = left (cells items true condition) (cells items false consequent) kc in
        choices.if_else_well items body told fuel condition consequent otherwise x id ty by h k
        (node_well condition x s Taken tt h.0 (cells_of.fewer items body condition k0))
        (node_well consequent x s Taken tt h.1.1.0 (right (cells items true condition) (cells items false consequent) kc))
        (node_well otherwise x s Taken tt h.1.1.1.0
        (right (cells items true condition ++ cells items false consequent) (cells items false otherwise) k))
    form_well (tree.IfLet pattern scrutinee consequent absent) x s id ty by h pa pb k nv =
        let k3 = left ((cells items true pattern ++ reached_cells items scrutinee) ++ cells items false consequent) [] k
        in
        let k2 = left (cells items true pattern ++ reached_cells items scrutinee) (cells items false consequent) k3 in
        let ks = right (cells items true pattern) (reached_cells items scrutinee) k2 in
        let kb = right (cells items true pattern ++ reached_cells items scrutinee) (cells items false consequent) k3 in
        choices.if_let_alone_well items body told fuel pattern scrutinee consequent x id ty by h k
        (at_nodes.placed_node items body told fuel scrutinee x (Used Use.Borrow) h.0 s ks
        (at_nodes.used_plain items body told fuel x Use.Borrow scrutinee h.0))
        (node_reached scrutinee x s (Used Use.Borrow) h.0 ks)
        (node_well consequent (with_names (patterns.entries_of pattern) x) (scope.scoped_names items body told pattern _ (ty_of scrutinee) x h.1.0.1
        (inl (at_nodes.used_plain items body told fuel x Use.Borrow scrutinee h.0))
        (used_listed items told scrutinee (x, s.listed) h.0)
        (left (cells items true pattern) (reached_cells items scrutinee) k2) s) Taken tt h.1.1.0 kb)
    form_well (tree.IfLet pattern scrutinee consequent (present otherwise)) x s id ty by h pa pb k nv =
        let k3 = left ((cells items true pattern ++ reached_cells items scrutinee) ++ cells items false consequent)
        (cells items false otherwise) k in
        let k2 = left (cells items true pattern ++ reached_cells items scrutinee) (cells items false consequent) k3 in
        let ks = right (cells items true pattern) (reached_cells items scrutinee) k2 in
        let kb = right (cells items true pattern ++ reached_cells items scrutinee) (cells items false consequent) k3 in
        choices.if_let_else_well items body told fuel pattern scrutinee consequent otherwise x id ty by h k
        (at_nodes.placed_node items body told fuel scrutinee x (Used Use.Borrow) h.0 s ks
        (at_nodes.used_plain items body told fuel x Use.Borrow scrutinee h.0))
        (node_reached scrutinee x s (Used Use.Borrow) h.0 ks)
        (node_well consequent (with_names (patterns.entries_of pattern) x) (scope.scoped_names items body told pattern _ (ty_of scrutinee) x h.1.0.1
        (inl (at_nodes.used_plain items body told fuel x Use.Borrow scrutinee h.0))
        (used_listed items told scrutinee (x, s.listed) h.0)
        (left (cells items true pattern) (reached_cells items scrutinee) k2) s) Taken tt h.1.1.0 kb)
        (node_well otherwise x s Taken tt h.1.1.1.0
        (right ((cells items true pattern ++ reached_cells items scrutinee) ++ cells items false consequent)
        (cells items false otherwise) k))
    form_well (tree.Match scrutinee arms) x s id ty by h pa pb k nv =
        let ks = left (reached_cells items scrutinee) (all_cells items arms) k in
        choices.match_well items body told fuel scrutinee arms x id ty by h
        (at_nodes.placed_node items body told fuel scrutinee x (Used Use.Borrow) h.0 s ks
        (at_nodes.used_plain items body told fuel x Use.Borrow scrutinee h.0))
        (node_reached scrutinee x s (Used Use.Borrow) h.0 ks)
        (arms_well arms x s (typing.matched_in false (K x) scrutinee) (ty_of scrutinee) ty h.1.0
        (at_nodes.used_plain items body told fuel x Use.Borrow scrutinee h.0)
        (used_listed items told scrutinee (x, s.listed) h.0)
        (right (reached_cells items scrutinee) (all_cells items arms) k))
    form_well (tree.Loop body_) x s id ty by h pa pb k nv =
        choices.loop_well items body told fuel body_ x id ty by h k
        (node_well body_ (in_a_loop (at_nodes.around_a items body told fuel id ty true) x) (scope.scoped_loop items body (at_nodes.around_a items body told fuel id ty true) x s) Taken tt h.0
        (cells_of.fewer items body body_ k))
    form_well (tree.While condition body_) x s id ty by h pa pb k nv =
        let kc = left (cells items true condition) (cells items true body_) k in
        let kb = right (cells items true condition) (cells items true body_) k in
        choices.while_well items body told fuel condition body_ x id ty by h k
        (node_well condition (in_a_loop (at_nodes.around_a items body told fuel id ty false) x) (scope.scoped_loop items body (at_nodes.around_a items body told fuel id ty false) x s) Taken tt h.0
        (cells_of.fewer items body condition kc))
        (node_well body_ (in_a_loop (at_nodes.around_a items body told fuel id ty false) x) (scope.scoped_loop items body (at_nodes.around_a items body told fuel id ty false) x s) Taken tt h.1.1.0
        (cells_of.fewer items body body_ kb))
    form_well (tree.WhileLet pattern scrutinee body_) x s id ty by h pa pb k nv =
        let k2 = left (cells items true pattern ++ reached_cells items scrutinee) (cells items true body_) k in
        let kb = right (cells items true pattern ++ reached_cells items scrutinee) (cells items true body_) k in
        let ks = right (cells items true pattern) (reached_cells items scrutinee) k2 in
        choices.while_let_well items body told fuel pattern scrutinee body_ x id ty by h k
        (at_nodes.placed_node items body told fuel scrutinee
        (in_a_loop (at_nodes.around_a items body told fuel id ty false) x) (Used Use.Borrow) h.0
        (scope.scoped_loop items body (at_nodes.around_a items body told fuel id ty false) x s) ks
        (at_nodes.used_plain items body told fuel (in_a_loop (at_nodes.around_a items body told fuel id ty false) x)
        Use.Borrow scrutinee h.0))
        (node_reached scrutinee (in_a_loop (at_nodes.around_a items body told fuel id ty false) x) (scope.scoped_loop items body (at_nodes.around_a items body told fuel id ty false) x s) (Used Use.Borrow) h.0
        ks)
        (node_well body_ (with_names (patterns.entries_of pattern)
        (in_a_loop (at_nodes.around_a items body told fuel id ty false) x)) (scope.scoped_names items body told pattern _ (ty_of scrutinee)
        (in_a_loop (at_nodes.around_a items body told fuel id ty false) x) h.1.0.1
        (inl (at_nodes.used_plain items body told fuel (in_a_loop (at_nodes.around_a items body told fuel id ty false) x)
        Use.Borrow scrutinee h.0))
        (used_listed items told scrutinee
        (in_a_loop (at_nodes.around_a items body told fuel id ty false) x, s.listed) h.0)
        (left (cells items true pattern) (reached_cells items scrutinee) k2)
        (scope.scoped_loop items body (at_nodes.around_a items body told fuel id ty false) x s)) Taken tt h.1.1.0
        (cells_of.fewer items body body_ kb))
    form_well (tree.Break loop value) x s id ty by h pa pb k nv =
        let t = some_holds (loop_with loop x.loops) (λ a. typing.carries (K x) a value) h.0 in
        nodes.scope_well items body fuel (K x) (head id ty by) (shape_of items (tree.Break loop value) (head id ty by))
        (evaluation.breaks items (marked_run items body) fuel loop (head id ty by) (Mi value))
        (λ around to ok g S w f. statements.jumping_well items (marked_run items body) may_end (Acts items body)
        (Tests items body) (Drops items body) (Made items body) (does_well items body) (Cell items body)
        (May items body)
        (Names items body) (K x) (IsMade items body ty) (IsMade items body t.0.ty) (Breaks loop)
        (λ j T w' l. ((t.0, (t.1.0, j)), l)) (head id ty by) (Mi value) around (loop_destination loop around.loops)
        (carried_well value x s t.0 t.1.1 k (head id ty by) around (loop_destination loop around.loops) ok
        (ok.1.1 loop t.0 t.1.0)) S w f)
    form_well (tree.Continue loop) x s id ty by h pa pb k nv =
        let t = some_holds (loop_with loop x.loops) (λ a. nothing) h.0 in
        nodes.value_well items body fuel (K x) (head id ty by) (shape_of items (tree.Continue loop) (head id ty by))
        (λ around own to. At (Continues loop))
        (λ around own to ok g S w f. ((t.0, t.1.0), f))
    form_well (tree.Return value) x s id ty by h pa pb k nv =
        nodes.scope_well items body fuel (K x) (head id ty by) (shape_of items (tree.Return value) (head id ty by))
        (evaluation.returns items (marked_run items body) fuel (head id ty by) (Mi value))
        (λ around to ok g S w f. statements.jumping_well items (marked_run items body) may_end (Acts items body)
        (Tests items body) (Drops items body) (Made items body) (does_well items body) (Cell items body)
        (May items body)
        (Names items body) (K x) (IsMade items body ty) (IsMade items body x.answer) Returns
        (λ j T w' l. (tt, l)) (head id ty by) (Mi value) around around.answer
        (returned_well value x s h.0 k (head id ty by) around around.answer ok ok.1.0) S w f)
    form_well form x s id ty by h pa pb k nv = absurd (false≢true h)

    -- ---- lists

    args_own : (tys : List TyId) (ns : Nodes) (x : Standpoint) (s : Scoped items body x) → Holds (typing.arguments (K x) tys ns) →
        H (all_cells items ns) →
        AllOwn items body (K x) (Ms ns)
    args_own tys no_node x s h k = tt
    args_own [] (a_node first rest) x s h k = absurd (false≢true h)
    args_own (ty ∷ tys) (a_node first rest) x s h k = (
      own_well first x s (Passed ty) tt h.0 (left (cells items true first) (all_cells items rest) k),
      args_own tys rest x s h.1 (right (cells items true first) (all_cells items rest) k),
    )

    parts_own : (tys : List TyId) (ns : Nodes) (x : Standpoint) (s : Scoped items body x) → Holds (typing.made_parts (K x) tys ns) →
        H (all_cells items ns) →
        AllOwn items body (K x) (Ms ns)
    parts_own tys no_node x s h k = tt
    parts_own [] (a_node first rest) x s h k = absurd (false≢true h)
    parts_own (ty ∷ tys) (a_node first rest) x s h k = (
      own_well first x s (Wanted ty) tt h.0 (left (cells items true first) (all_cells items rest) k),
      parts_own tys rest x s h.1 (right (cells items true first) (all_cells items rest) k),
    )

    elements_own : (ty : TyId) (ns : Nodes) (x : Standpoint) (s : Scoped items body x) → Holds (typing.elements_of (K x) ty ns) →
        H (all_cells items ns) →
        AllOwn items body (K x) (Ms ns)
    elements_own ty no_node x s h k = tt
    elements_own ty (a_node first rest) x s h k = (
      own_well first x s (Wanted ty) tt h.0 (left (cells items true first) (all_cells items rest) k),
      elements_own ty rest x s h.1 (right (cells items true first) (all_cells items rest) k),
    )

    captures_own : (tys : List TyId) (ns : Nodes) (x : Standpoint) (s : Scoped items body x) → Holds (typing.captured (K x) tys ns) →
        H (all_cells items ns) →
        AllOwn items body (K x) (Ms ns)
    captures_own tys no_node x s h k = tt
    captures_own [] (a_node first rest) x s h k = absurd (false≢true h)
    captures_own (ty ∷ tys) (a_node first rest) x s h k = (
      own_well first x s Taken tt h.0 (left (cells items true first) (all_cells items rest) k),
      captures_own tys rest x s h.1.1 (right (cells items true first) (all_cells items rest) k),
    )

    fields_own : (tys : List TyId) (fields : Fields) (x : Standpoint) (s : Scoped items body x) → Holds (typing.made_fields (K x) tys fields) →
        H (cells_of_fields items fields) → AllOwn items body (K x) (values_of (Mf fields))
    fields_own tys no_field x s h k = tt
    fields_own tys (a_field number value rest) x s h k =
        let t = some_holds (slice_get tys number) (λ ty. typing.typed (K x) (Wanted ty) value) h.0 in (
          own_well value x s (Wanted t.0) tt t.1.1 (left (cells items true value) (cells_of_fields items rest) k),
          fields_own tys rest x s h.1 (right (cells items true value) (cells_of_fields items rest) k),
        )

    carried_well : (value : MaybeNode) (x : Standpoint) (s : Scoped items body x) (a : LoopAround) → Holds (typing.carries (K x) a value) →
        H (cells_if_any items false value) → (h : NodeHead) (around : LoopsAndGuards) (to : Destination) →
        AroundWell items body (K x) around → Dest items body a.ty to → (S : Scopes) (v : V) → Fine items body S →
        Shown may_end (Post items body (K x) (IsMade items body a.ty))
        (forms.value_of_jump items (marked_run items body) h (Mi value) around to S v)
    carried_well absent x s a j k h around to ok d S v f =
        at_nodes.unit_jump items body told fuel (K x) h a.ty to j d S v f
    carried_well (present value) x s a j k h around to ok d S v f =
        at_nodes.value_jump items body told fuel x value a.ty around to ok
        (node_well value x s (Wanted a.ty) tt j.1 k) (stand.wanted_fits items body told fuel x a.ty value j.1) d S v f

    returned_well : (value : MaybeNode) (x : Standpoint) (s : Scoped items body x) → Holds (typing.returned (K x) value) →
        H (cells_if_any items false value) → (h : NodeHead) (around : LoopsAndGuards) (to : Destination) →
        AroundWell items body (K x) around → Dest items body x.answer to → (S : Scopes) (v : V) → Fine items body S →
        Shown may_end (Post items body (K x) (IsMade items body x.answer))
        (forms.value_of_jump items (marked_run items body) h (Mi value) around to S v)
    returned_well absent x s j k h around to ok d S v f =
        at_nodes.unit_jump items body told fuel (K x) h x.answer to j d S v f
    returned_well (present value) x s j k h around to ok d S v f =
        at_nodes.value_jump items body told fuel x value x.answer around to ok
        (node_well value x s (Wanted x.answer) tt j k) (stand.wanted_fits items body told fuel x x.answer value j) d S v f

    tail_well : (tail : MaybeNode) (x : Standpoint) (stmts : Nodes) → Scoped items body (behind x stmts) → Holds (typing.tail_of (K (behind x stmts)) tail) →
        H (cells_if_any items false tail) → (h : NodeHead) → typing.is_block_ty items h.ty stmts tail ≡ true →
        typing.ends_in items stmts ≡ false → (around : LoopsAndGuards) (to : Destination) →
        AroundWell items body (K x) around →
        Given items body h to → (S : Scopes) (v : V) → Fine items body S →
        Shown may_end (Post items body (K x) (IsMade items body h.ty))
        (forms.tail_of items (marked_run items body) h (Mi tail) around to S v)
    tail_well absent x stmts s j k h t e around to ok g S v f =
        at_nodes.unit_if_well items body told fuel (K x) h to
        (at_nodes.no_tail items body told fuel h.ty (typing.ends_in items stmts) t e) g S v f
    tail_well (present tail) x stmts s j k h t e around to ok g S v f = let same = same_type h.ty (ty_of tail) t in
        at_nodes.alone_to items body told fuel x tail h around to ok
        (at_nodes.well_behind items body told fuel stmts x (M tail) (node_well tail (behind x stmts) s Taken tt j k))
        (at_nodes.same_head items body told fuel tail h.ty to (sym same) (nodes.as_dest items body h to g))
        (at_nodes.same_made items body told fuel tail h.ty (sym same)) S v f

    statements_well : (ns : Nodes) (x : Standpoint) (s : Scoped items body x) (rest : Context → Claim) → Holds (typing.statements (K x) ns rest) →
        H (all_cells items ns) → (around : LoopsAndGuards) → AroundWell items body (K x) around → (S : Scopes) (v : V) →
        Fine items body S → Shown may_end (Post items body (K x) (typing.ends_in items ns ≡ false))
        (forms.statements items (marked_run items body) around (Ms ns) S v)
    statements_well no_node x s rest h k around ok S v f = (refl, f)
    statements_well (a_node (node id at ty by form) more) x s rest h k around ok S v f =
        rules.then_well items (marked_run items body) may_end (Acts items body) (Tests items body) (Drops items body)
        (Made items body) (does_well items body) (Cell items body) (May items body) (Names items body) (K x)
        (typing.ends_by items form ≡ false)
        (typing.ends_in items (a_node (node id at ty by form) more) ≡ false)
        ((M (node id at ty by form)).evaluate around false (Into (M (node id at ty by form)).head.id) S v)
        (forms.statements items (marked_run items body) around (Ms more))
        (statement_well form x s id ty by h.1.0 (cells_of.inside items body true (node id at ty by form)
        (left (cells items true (node id at ty by form)) (all_cells items more) k)) around ok S v f)
        (λ T w e l. more_valued (K x) (typing.ends_in items more ≡ false)
        (typing.ends_in items (a_node (node id at ty by form) more) ≡ false)
        (λ d. at_nodes.either_false items body told fuel (typing.ends_by items form) (typing.ends_in items more) e d)
        (forms.statements items (marked_run items body) around (Ms more) T w)
        (statements_well more (with_names (typing.entries_in form) x) (scope.scoped_statement items body told form x h.1.0 e
        (cells_of.inside items body true (node id at ty by form)
        (left (cells items true (node id at ty by form)) (all_cells items more) k)) s) rest h.1.1
        (right (cells items true (node id at ty by form)) (all_cells items more) k) around ok T w l))

    statement_well : (form : Form) (x : Standpoint) (s : Scoped items body x) (id : ℕ) (ty : TyId) (by : Option Use) →
        Holds (typing.statement (K x) form) →
        H (cells_in items form) → (around : LoopsAndGuards) → AroundWell items body (K x) around →
        (S : Scopes) (v : V) →
        Fine items body S → Shown may_end (Post items body (K x) (typing.ends_by items form ≡ false))
        ((Of form id ty by).evaluate around false (Into (Of form id ty by).head.id) S v)
    statement_well (tree.Let pattern absent) x s id ty by h k around ok S v f =
        stated.unassigned_well items body told fuel pattern x id ty by h (left (cells items true pattern) [] k) around S v f
    statement_well (tree.Let (node pid pat pty pby (tree.Binding name)) (present value)) x s id ty by h k around ok S v
        f =
        stated.named_well items body told fuel pid pat pty pby name value x id ty by h.0
        (left (cells items true (node pid pat pty pby (tree.Binding name))) (cells items false value) k)
        (node_well value x s (Wanted pty) tt h.0
        (right (cells items true (node pid pat pty pby (tree.Binding name))) (cells items false value) k)) around ok S v
        f
    statement_well (tree.Let (node pid pat pty pby pform) (present value)) x s id ty by h k around ok S v f =
        stated.parted_well items body told fuel (node pid pat pty pby pform) value pty x id ty by h.0 h.1.1.0 refl
        (left (cells items true (node pid pat pty pby pform)) (reached_cells items value) k)
        (at_nodes.placed_node items body told fuel value x Base h.0 s
        (right (cells items true (node pid pat pty pby pform)) (reached_cells items value) k)
        (facts.is_false (types.is_reference items (ty_of value))
        (facts.right_of (types.fits items pty (ty_of value)) _ h.1.1.1.0)))
        (same_when value pty (facts.left_of (types.fits items pty (ty_of value)) _ h.1.1.1.0) h.1.1.1.1.0)
        (node_reached value x s Base h.0
        (right (cells items true (node pid pat pty pby pform)) (reached_cells items value) k))
        (λ p. stand.own_dest items body told fuel value x Base h.0 (at_nodes.own_reached items body told fuel value p
        (right (cells items true (node pid pat pty pby pform)) (reached_cells items value) k))) around ok S v f
    statement_well (tree.Evaluate expression) x s id ty by h k around ok S v f =
        stated.evaluated_well items body told fuel expression x id ty by h k
        (node_well expression x s Taken tt h (cells_of.fewer items body expression k)) around ok S v f
    statement_well form x s id ty by h k around ok S v f = absurd (false≢true h)

    -- ---- arms

    arms_well : (arms : Nodes) (x : Standpoint) (s : Scoped items body x) (m : Matched) (want : TyId) (whole : TyId) →
        Holds (typing.arms_of (K x) m want arms) →
        types.is_reference items want ≡ false → Lists items want → H (all_cells items arms) →
        branches.AllArms items (marked_run items body) may_end (Acts items body) (Tests items body) (Drops items body)
        (Made items body) (does_well items body) (Cell items body) (May items body) (Names items body) (PlaceOk items body want) (IsMade items body whole) (K x)
        (Ms arms)
    arms_well no_node x s m want whole h r l k = tt
    arms_well (a_node (node id at ty by form) rest) x s m want whole h r l k = (
      arm_well form x s m want whole id at ty by h.0 r l (cells_of.inside items body true (node id at ty by form)
          (left (cells items true (node id at ty by form)) (all_cells items rest) k)),
      arms_well rest x s m want whole h.1 r l (right (cells items true (node id at ty by form)) (all_cells items rest) k),
    )

    arm_well : (form : Form) (x : Standpoint) (s : Scoped items body x) (m : Matched) (want : TyId) (whole : TyId) (id : ℕ) (at : Pos) (ty : TyId)
        (by : Option Use) →
        Holds (typing.arm (K x) m want (node id at ty by form)) → types.is_reference items want ≡ false →
        Lists items want → H (cells_in items form) → branches.ArmWell items (marked_run items body) may_end (Acts items body)
        (Tests items body) (Drops items body) (Made items body) (does_well items body) (Cell items body)
        (May items body)
        (Names items body) (PlaceOk items body want) (IsMade items body whole) (K x) (Of form id ty by)
    arm_well (tree.Arm pattern guard body_) x s m want whole id at ty by h r l k =
        let k2 = left (cells items true pattern ++ cells_if_any items true guard) (cells items false body_) k in
        stated.arm_of items body told fuel pattern guard body_ x m want whole id at ty by h r
        (left (cells items true pattern) (cells_if_any items true guard) k2)
        (guard_well guard (with_names (in_guard (patterns.entries_of pattern)) x) (scope.scoped_guard items body told pattern m want x h.1.1.0
        (inl r) l
        (left (cells items true pattern) (cells_if_any items true guard) k2) s) h.1.1.1.0
        (right (cells items true pattern) (cells_if_any items true guard) k2))
        (node_well body_ (with_names (patterns.entries_of pattern) x) (scope.scoped_names items body told pattern m want x h.1.1.0
        (inl r) l
        (left (cells items true pattern) (cells_if_any items true guard) k2) s) Taken tt h.1.1.1.1.0
        (right (cells items true pattern ++ cells_if_any items true guard) (cells items false body_) k))
    arm_well form x s m want whole id at ty by h r l k = absurd (false≢true h)

    guard_well : (guard : MaybeNode) (x : Standpoint) (s : Scoped items body x) → Holds (typing.guarded (K x) guard) →
        H (cells_if_any items true guard) →
        branches.GuardWell items (marked_run items body) may_end (Acts items body) (Tests items body) (Drops items body)
        (Made items body) (does_well items body) (Cell items body) (May items body) (Names items body) (K x) (Mi guard)
    guard_well absent x s h k = tt
    guard_well (present guard) x s h k = let d = stand.own_dest items body told fuel guard x Taken h.0 k in (
      node_well guard x s Taken tt h.0 (cells_of.fewer items body guard k),
      (d, λ made. stand.bool_cell items body told fuel guard d made h.1),
    )

-- What is free stays free: each node of a well typed body keeps it so, by one line a form.
use Rattle.std.proofs.Common.{◌≡◌, inl, inr, ℕ, ◌==◌, ◌&&◌, not, Bool, if◌then◌else◌, true, false, List, [], ◌∷◌, ◌++◌, length, Option, Some, slice_get, refl, subst}
use Rattle.std.proofs.lemmas.Bool.{false≢true}
use Rattle.std.proofs.lemmas.Option.{none-some}
use Rattle.mir_base.specs.declared.place_in_text.Pos.{Pos}
use Rattle.mir_base.specs.declared.trace.Why.{Why}
use Rattle.mir_ty.specs.declared.ty.TyId.{TyId}
use Rattle.mir_ty.specs.ItemTable.{ItemTable}
use Rattle.store_model.specs.Effects as effects
use Rattle.store_model.specs.Effects.{EffectSite, Halt, OfTuple, OfArray, OfVariant, OfClosure, Effects}
use Rattle.store_model.specs.Places.Place.{Place, whole_local}
use Rattle.typed_tree.specs.declared.node.Use.{Use}
use Rattle.typed_tree.specs.Nodes.{nodes_of, nodes_in, nodes_among, nodes_of_fields, nodes_if_any}
use Rattle.typed_tree.specs.Tree as tree
use Rattle.typed_tree.specs.Tree.{Node, node, Form, Nodes, no_node, a_node, Fields, no_field, a_field, MaybeNode, absent, present}
use Rattle.src_meaning.specs.Evaluation as evaluation
use Rattle.src_meaning.specs.Evaluation.{meaning, meaning_of, meanings, fields_of, meaning_if_any, values_of, in_number_order}
use Rattle.src_meaning.specs.Forms as forms
use Rattle.src_meaning.specs.Forms.{Destination, Into, LoopsAndGuards, Meaning, loop_destination, all_moved, place_of}
use Rattle.src_meaning.specs.Scopes.{Scopes, with_scope, Exit, Value, Breaks, Continues, Returns, At, on_value}
use Rattle.src_meaning.specs.Shape.{head, shape_of, kind_of}
use Rattle.well_typed.specs.Claim.{Claim, Holds, fact, both, some}
use Rattle.well_typed.specs.Names.{are_distinct_numbers}
use Rattle.well_typed.specs.Nodes as typing
use Rattle.well_typed.specs.Patterns as pattern_rules
use Rattle.well_typed.specs.Patterns.{Matched}
use Rattle.well_typed.specs.Places.{LoopAround, Context, loop_with, ty_of, Standing, Taken, Wanted, Passed, Base, Used, Stored, borrow_by, in_guard}
use Rattle.well_typed.specs.Types as types
use Rattle.soundness_values.proofs.Leaving.{Shown}
use Rattle.soundness_cells.proofs.PassClear.{KeepsClear, Nothing}
use Rattle.soundness_cells.proofs.PassFacts as facts
use Rattle.soundness_cells.proofs.PassFacts.{Standpoint, context, with_names, in_a_loop, behind}
use Rattle.soundness_cells.proofs.PassFree.{FindsNothing, DestKey, Top, ext_same, top_then, AroundOk}
use Rattle.soundness_cells.proofs.PassFreeAgain as again
use Rattle.soundness_cells.proofs.PassFreeArms as arms
use Rattle.soundness_cells.proofs.PassFreeChoices.{BoundKey}
use Rattle.soundness_cells.proofs.PassFreeKinds as kinds
use Rattle.soundness_cells.proofs.PassFreeLoops as loops
use Rattle.soundness_cells.proofs.PassFreeOperands as operands
use Rattle.soundness_cells.proofs.PassFreeRules as rules
use Rattle.soundness_cells.proofs.PassFreeStatements as statements
use Rattle.soundness_cells.proofs.PassFreeTurns as turns
use Rattle.soundness_cells.proofs.PassNodes as nodes
use Rattle.soundness_cells.proofs.PassNumbers.{Numbered, numbered_left, numbered_right, Rises, rises_left, rises_right, rises_apart}
use Rattle.soundness_cells.proofs.PassParts as parts
use Rattle.soundness_values.proofs.PlaceTypes.{some_holds}
use Rattle.soundness_cells.proofs.PassFreeOperators.{Post, good_left, good_right, inside_rises, first_of, not_free, negate_free, arithmetic_free, comparison_free, new_box_free, print_free, forget_free, drop_value_free, unsize_free, field_free, deref_free, index_free, assign_free, borrow_free}
use Rattle.soundness_cells.proofs.PassFreeBranching.{and_free, or_free, if_free, if_else_free, if_let_free, if_let_else_free}
use Rattle.soundness_cells.proofs.PassFreeWhile.{loop_free, while_free, while_let_free}

module _ {V : Type 0} (items : ItemTable) (needs : ℕ → Bool) (q : Effects V) (clear : V → ℕ → Type 0)
    (keeps : KeepsClear q needs clear) (over : Halt → V → Type 0) (waits : EffectSite → V → Type 0)
    (first : FindsNothing q over needs clear waits) (fuel : ℕ) where
  abbrev Extends : Scopes → Exit → Scopes → Type 0
  Extends = rules.Extends items needs q clear keeps over waits first

  abbrev OnTop : Scopes → Exit → Scopes → Type 0
  OnTop = rules.OnTop items needs q clear keeps over waits first

  abbrev Ready : Context → LoopsAndGuards → List Node → Scopes → V → Type 0
  Ready = rules.Ready items needs q clear keeps over waits first

  abbrev DestOk : ℕ → List Node → Destination → Scopes → V → Type 0
  DestOk = rules.DestOk items needs q clear keeps over waits first

  abbrev FreeM : Context → Meaning V → List Node → Type 0
  FreeM = rules.FreeM items needs q clear keeps over waits first

  abbrev Part : ℕ → List Node → List Node → Type 0
  Part = rules.Part items needs q clear keeps over waits first

  abbrev AllFree : Context → List (Meaning V) → List Node → Type 0
  AllFree = operands.AllFree items needs q clear keeps over waits first

  abbrev Good : List Node → Type 0
  Good = nodes.Good items needs q clear keeps fuel

  abbrev K : Standpoint → Context
  K = context items

  abbrev M : Node → Meaning V
  M = meaning items q fuel

  abbrev Ms : Nodes → List (Meaning V)
  Ms = meanings items q fuel

  abbrev Mi : MaybeNode → Option (Meaning V)
  Mi = meaning_if_any items q fuel

  abbrev Of : Form → ℕ → TyId → Option Use → Meaning V
  Of form id ty by = meaning_of items q fuel form (head id ty by) (shape_of items form (head id ty by))

  -- ---- the forms

  mutual
    pub node_free : (n : Node) (x : Standpoint) (standing : Standing) → Holds (typing.typed (K x) standing n) →
        Good (nodes_of n) → Rises (nodes_of n) → FreeM (K x) (M n) (nodes_of n)
    node_free (node id at ty by form) x standing h g r = form_free form x id at ty by h.1 g.1 r

    pub form_free : (form : Form) (x : Standpoint) (id : ℕ) (at : Pos) (ty : TyId) (by : Option Use) →
        Holds (typing.row (K x) id ty form) → Good (nodes_in form) → Rises (node id at ty by form ∷ nodes_in form) →
        FreeM (K x) (Of form id ty by) (node id at ty by form ∷ nodes_in form)
    form_free (tree.Number value) x id at ty by h g r = kinds.effect_free items needs q clear keeps over waits first
        fuel (K x) (head id ty by) (shape_of items (tree.Number value) (head id ty by))
        ((node id at ty by (tree.Number value)) ∷ []) (λ site. effects.Put site (effects.Number value (kind_of items
        ty))) (inl refl) (λ site key e. e)
    form_free (tree.Truth value) x id at ty by h g r = kinds.effect_free items needs q clear keeps over waits first
        fuel (K x) (head id ty by) (shape_of items (tree.Truth value) (head id ty by))
        ((node id at ty by (tree.Truth value)) ∷ []) (λ site. effects.Put site (effects.Truth value)) (inl refl) (λ
        site key e. e)
    form_free tree.UnitValue x id at ty by h g r = kinds.effect_free items needs q clear keeps over waits first fuel (K
        x) (head id ty by) (shape_of items tree.UnitValue (head id ty by))
        ((node id at ty by tree.UnitValue) ∷ []) (λ site. effects.Put site effects.UnitValue) (inl refl) (λ site key e.
        e)
    form_free tree.Ask x id at ty by h g r = kinds.effect_free items needs q clear keeps over waits first fuel (K x)
        (head id ty by) (shape_of items tree.Ask (head id ty by))
        ((node id at ty by tree.Ask) ∷ []) effects.Ask (inl refl) (λ site key e. e)
    form_free (tree.Variable key) x id at ty by h g r = kinds.place_free items needs q clear keeps over waits first
        fuel (K x) (head id ty by) (shape_of items (tree.Variable key) (head id ty by))
        (λ around. At Value) [] ((node id at ty by (tree.Variable key)) ∷ []) (inl refl) (kinds.part_of items needs q
        clear keeps over waits first fuel (node id at ty by (tree.Variable key)) ([]) r) (λ around S v t. (
          ext_same
              S,
          λ z fr n m. fr,
        ))
    form_free (tree.Captured closure part name) x id at ty by h g r = kinds.place_free items needs q clear keeps over
        waits first fuel (K x) (head id ty by) (shape_of items (tree.Captured closure part name) (head id ty by))
        (λ around. At Value) [] ((node id at ty by (tree.Captured closure part name)) ∷ []) (inl refl) (kinds.part_of
        items needs q clear keeps over waits first fuel (node id at ty by (tree.Captured closure part name)) ([])
        r) (λ around S v t. (ext_same S, λ z fr n m. fr))
    form_free (tree.Field base part) x id at ty by h g r =
        field_free items needs q clear keeps over waits first fuel x base part id at ty by h g r (node_free base x Base h.0 g (inside_rises items needs q clear keeps over waits first fuel (node id at ty by
        (tree.Field base part)) (nodes_of base) r))
    form_free (tree.Deref base) x id at ty by h g r =
        deref_free items needs q clear keeps over waits first fuel x base id at ty by h g r (node_free base x Base h.0 g (inside_rises items needs q clear keeps over waits first fuel (node id at ty by (tree.Deref
        base)) (nodes_of base) r))
    form_free (tree.Index base index length) x id at ty by h g r =
        let rs = inside_rises items needs q clear keeps over waits first fuel (node id at ty by (tree.Index base index length)) (nodes_of base ++ nodes_of index) r in
        index_free items needs q clear keeps over waits first fuel x base index length id at ty by h g r (node_free base x Base h.0 (good_left items needs q clear keeps over waits first fuel (nodes_of base)
        (nodes_of index) g) (rises_left (nodes_of base) (nodes_of index) rs)) (node_free index x Taken h.1.0
        (good_right items needs q clear keeps over waits first fuel (nodes_of base) (nodes_of index) g) (rises_right (nodes_of base) (nodes_of index) rs))
    form_free (tree.Not operand) x id at ty by h g r =
        not_free items needs q clear keeps over waits first fuel x operand id at ty by h g r (node_free operand x Taken h.0 g (inside_rises items needs q clear keeps over waits first fuel (node id at ty by (tree.Not
        operand)) (nodes_of operand) r))
    form_free (tree.Negate operand) x id at ty by h g r =
        negate_free items needs q clear keeps over waits first fuel x operand id at ty by h g r (node_free operand x Taken h.0 g (inside_rises items needs q clear keeps over waits first fuel (node id at ty by
        (tree.Negate operand)) (nodes_of operand) r))
    form_free (tree.Arithmetic operator left right) x id at ty by h g r =
        arithmetic_free items needs q clear keeps over waits first fuel x operator left right id at ty by h g r (node_free left x (Wanted ty) h.0 (good_left items needs q clear keeps over waits first fuel (nodes_of
        left) (nodes_of right) g) (rises_left (nodes_of left) (nodes_of right) (inside_rises items needs q clear keeps over waits first fuel (node id at ty by
        (tree.Arithmetic operator left right)) (nodes_of left ++ nodes_of right) r))) (node_free right x (Wanted
        ty) h.1.0 (good_right items needs q clear keeps over waits first fuel (nodes_of left) (nodes_of right) g) (rises_right (nodes_of left) (nodes_of right)
        (inside_rises items needs q clear keeps over waits first fuel (node id at ty by (tree.Arithmetic operator left right)) (nodes_of left ++ nodes_of right)
        r)))
    form_free (tree.Comparison operator left right) x id at ty by h g r =
        comparison_free items needs q clear keeps over waits first fuel x operator left right id at ty by h g r (node_free left x Taken h.0 (good_left items needs q clear keeps over waits first fuel (nodes_of left)
        (nodes_of right) g) (rises_left (nodes_of left) (nodes_of right) (inside_rises items needs q clear keeps over waits first fuel (node id at ty by
        (tree.Comparison operator left right)) (nodes_of left ++ nodes_of right) r))) (node_free right x Taken
        h.1.0 (good_right items needs q clear keeps over waits first fuel (nodes_of left) (nodes_of right) g) (rises_right (nodes_of left) (nodes_of right)
        (inside_rises items needs q clear keeps over waits first fuel (node id at ty by (tree.Comparison operator left right)) (nodes_of left ++ nodes_of right)
        r)))
    form_free (tree.And left right) x id at ty by h g r =
        let rs = inside_rises items needs q clear keeps over waits first fuel (node id at ty by (tree.And left right)) (nodes_of left ++ nodes_of right) r in
        and_free items needs q clear keeps over waits first fuel x left right id at ty by h g r (node_free left x Taken h.0 (good_left items needs q clear keeps over waits first fuel (nodes_of left) (nodes_of right)
        g) (rises_left (nodes_of left) (nodes_of right) rs)) (node_free right x Taken h.1.0 (good_right items needs q clear keeps over waits first fuel (nodes_of
        left) (nodes_of right) g) (rises_right (nodes_of left) (nodes_of right) rs))
    form_free (tree.Or left right) x id at ty by h g r =
        let rs = inside_rises items needs q clear keeps over waits first fuel (node id at ty by (tree.Or left right)) (nodes_of left ++ nodes_of right) r in
        or_free items needs q clear keeps over waits first fuel x left right id at ty by h g r (node_free left x Taken h.0 (good_left items needs q clear keeps over waits first fuel (nodes_of left) (nodes_of right)
        g) (rises_left (nodes_of left) (nodes_of right) rs)) (node_free right x Taken h.1.0 (good_right items needs q clear keeps over waits first fuel (nodes_of
        left) (nodes_of right) g) (rises_right (nodes_of left) (nodes_of right) rs))
    form_free (tree.Assign target value) x id at ty by h g r =
        let rs = inside_rises items needs q clear keeps over waits first fuel (node id at ty by (tree.Assign target value)) (nodes_of target ++ nodes_of value) r in
        assign_free items needs q clear keeps over waits first fuel x target value id at ty by h g r (node_free target x Stored h.0 (good_left items needs q clear keeps over waits first fuel (nodes_of target)
        (nodes_of value) g) (rises_left (nodes_of target) (nodes_of value) rs)) (node_free value x (Wanted (ty_of
        target)) h.1.1.0 (good_right items needs q clear keeps over waits first fuel (nodes_of target) (nodes_of value) g) (rises_right (nodes_of target) (nodes_of
        value) rs))
    form_free (tree.Call body args) x id at ty by h g r = let t = some_holds (slice_get items.bodies body)
        (λ sig. both (fact (types.is_same ty sig.result)) (typing.arguments (K x) sig.params args)) h.0 in
        kinds.operands_value items needs q clear keeps over waits first fuel (K x) (head id ty by) (shape_of items
        (tree.Call body args) (head id ty by))
        (Ms args)
        (λ site. effects.Call site body (all_moved id (Ms args)))
        (nodes_among args) ((node id at ty by (tree.Call body args)) ∷ nodes_among args) (inl refl)
        (kinds.part_of items needs q clear keeps over waits first fuel (node id at ty by (tree.Call body args))
        (nodes_among args) r)
        (inside_rises items needs q clear keeps over waits first fuel (node id at ty by (tree.Call body args)) (nodes_among args) r)
        (args_free t.0.params args x t.1.1.1 g (inside_rises items needs q clear keeps over waits first fuel (node id at ty by (tree.Call body args)) (nodes_among
        args) r)) (λ site key e. e)
    form_free (tree.MethodCall body receiver args) x id at ty by h g r = let t = some_holds (slice_get items.bodies
        body)
        (λ sig. both (fact (types.is_same ty sig.result)) (typing.first_and_rest
        (λ t. typing.typed (K x) (Passed t) receiver) (λ ts. typing.arguments (K x) ts args) sig.params)) h.0 in
        kinds.operands_value items needs q clear keeps over waits first fuel (K x) (head id ty by) (shape_of items
        (tree.MethodCall body receiver args) (head id ty by))
        (M receiver ∷ Ms args)
        (λ site. effects.Call site body (all_moved id (M receiver ∷ Ms args)))
        (nodes_of receiver ++ nodes_among args) ((node id at ty by (tree.MethodCall body receiver args)) ∷ nodes_of
        receiver ++ nodes_among args) (inl refl)
        (kinds.part_of items needs q clear keeps over waits first fuel (node id at ty by (tree.MethodCall body receiver
        args)) (nodes_of receiver ++ nodes_among args) r)
        (inside_rises items needs q clear keeps over waits first fuel (node id at ty by (tree.MethodCall body receiver args)) (nodes_of receiver ++ nodes_among args) r)
        (first_of items needs q clear keeps over waits first fuel t.0.params receiver args x t.1.1.1
        (λ t' j. node_free receiver x (Passed t') j (good_left items needs q clear keeps over waits first fuel (nodes_of receiver) (nodes_among args) g)
        (rises_left (nodes_of receiver) (nodes_among args) (inside_rises items needs q clear keeps over waits first fuel (node id at ty by (tree.MethodCall body
        receiver args)) (nodes_of receiver ++ nodes_among args) r)))
        (λ ts j. args_free ts args x j (good_right items needs q clear keeps over waits first fuel (nodes_of receiver) (nodes_among args) g)
        (rises_right (nodes_of receiver) (nodes_among args) (inside_rises items needs q clear keeps over waits first fuel (node id at ty by (tree.MethodCall body
        receiver args)) (nodes_of receiver ++ nodes_among args) r)))) (λ site key e. e)
    form_free (tree.VirtualCall trait_no method receiver args) x id at ty by h g r = let t = some_holds (slice_get
        items.traits trait_no) (λ def. some (slice_get def.methods method)
        (λ sig. both (fact (types.is_same ty sig.result)) (typing.first_and_rest
        (λ t. typing.typed (K x) (Passed t) receiver) (λ ts. typing.arguments (K x) ts args) sig.params))) h in
        let s = some_holds (slice_get t.0.methods method)
        (λ sig. both (fact (types.is_same ty sig.result)) (typing.first_and_rest
        (λ t. typing.typed (K x) (Passed t) receiver) (λ ts. typing.arguments (K x) ts args) sig.params)) t.1.1 in
        kinds.operands_value items needs q clear keeps over waits first fuel (K x) (head id ty by) (shape_of items
        (tree.VirtualCall trait_no method receiver args) (head id ty by))
        (M receiver ∷ Ms args)
        (λ site. effects.CallVirtual site trait_no method (all_moved id (M receiver ∷ Ms args)))
        (nodes_of receiver ++ nodes_among args) ((node id at ty by (tree.VirtualCall trait_no method receiver args)) ∷
        nodes_of receiver ++ nodes_among args) (inl refl)
        (kinds.part_of items needs q clear keeps over waits first fuel (node id at ty by (tree.VirtualCall trait_no
        method receiver args)) (nodes_of receiver ++ nodes_among args) r)
        (inside_rises items needs q clear keeps over waits first fuel (node id at ty by (tree.VirtualCall trait_no method receiver args)) (nodes_of receiver ++
        nodes_among args) r)
        (first_of items needs q clear keeps over waits first fuel s.0.params receiver args x s.1.1.1
        (λ t' j. node_free receiver x (Passed t') j (good_left items needs q clear keeps over waits first fuel (nodes_of receiver) (nodes_among args) g)
        (rises_left (nodes_of receiver) (nodes_among args) (inside_rises items needs q clear keeps over waits first fuel (node id at ty by (tree.VirtualCall trait_no
        method receiver args)) (nodes_of receiver ++ nodes_among args) r)))
        (λ ts j. args_free ts args x j (good_right items needs q clear keeps over waits first fuel (nodes_of receiver) (nodes_among args) g)
        (rises_right (nodes_of receiver) (nodes_among args) (inside_rises items needs q clear keeps over waits first fuel (node id at ty by (tree.VirtualCall trait_no
        method receiver args)) (nodes_of receiver ++ nodes_among args) r)))) (λ site key e. e)
    form_free (tree.ClosureCall body callee args) x id at ty by h g r = let t = some_holds (slice_get items.bodies body)
        (λ sig. both (fact (types.is_same ty sig.result)) (typing.first_and_rest
        (λ t. typing.typed (K x) (Passed t) callee) (λ ts. typing.arguments (K x) ts args) sig.params)) h.0 in
        kinds.operands_value items needs q clear keeps over waits first fuel (K x) (head id ty by) (shape_of items
        (tree.ClosureCall body callee args) (head id ty by))
        (M callee ∷ Ms args)
        (λ site. effects.Call site body (all_moved id (M callee ∷ Ms args)))
        (nodes_of callee ++ nodes_among args) ((node id at ty by (tree.ClosureCall body callee args)) ∷ nodes_of callee
        ++ nodes_among args) (inl refl)
        (kinds.part_of items needs q clear keeps over waits first fuel (node id at ty by (tree.ClosureCall body callee
        args)) (nodes_of callee ++ nodes_among args) r)
        (inside_rises items needs q clear keeps over waits first fuel (node id at ty by (tree.ClosureCall body callee args)) (nodes_of callee ++ nodes_among args) r)
        (first_of items needs q clear keeps over waits first fuel t.0.params callee args x t.1.1.1
        (λ t' j. node_free callee x (Passed t') j (good_left items needs q clear keeps over waits first fuel (nodes_of callee) (nodes_among args) g)
        (rises_left (nodes_of callee) (nodes_among args) (inside_rises items needs q clear keeps over waits first fuel (node id at ty by (tree.ClosureCall body callee
        args)) (nodes_of callee ++ nodes_among args) r)))
        (λ ts j. args_free ts args x j (good_right items needs q clear keeps over waits first fuel (nodes_of callee) (nodes_among args) g)
        (rises_right (nodes_of callee) (nodes_among args) (inside_rises items needs q clear keeps over waits first fuel (node id at ty by (tree.ClosureCall body callee
        args)) (nodes_of callee ++ nodes_among args) r)))) (λ site key e. e)
    form_free (tree.Make adt variant fields) x id at ty by h g r = let t = some_holds (types.variant_at items adt
        variant) (λ v. both
        (fact (are_distinct_numbers (pattern_rules.field_numbers fields) && length (pattern_rules.field_numbers fields)
        == length
        v.fields)) (typing.made_fields (K x) v.fields fields)) h.1 in
        kinds.operands_value items needs q clear keeps over waits first fuel (K x) (head id ty by) (shape_of items
        (tree.Make adt variant fields) (head id ty by))
        (values_of (fields_of items q fuel fields))
        (λ site. effects.Build site (OfVariant adt variant)
        (all_moved id (values_of (in_number_order (fields_of items q fuel fields)))))
        (nodes_of_fields fields) ((node id at ty by (tree.Make adt variant fields)) ∷ nodes_of_fields fields) (inl refl)
        (kinds.part_of items needs q clear keeps over waits first fuel (node id at ty by (tree.Make adt variant
        fields)) (nodes_of_fields fields) r)
        (inside_rises items needs q clear keeps over waits first fuel (node id at ty by (tree.Make adt variant fields)) (nodes_of_fields fields) r)
        (fields_free t.0.fields fields x t.1.1.1 g (inside_rises items needs q clear keeps over waits first fuel (node id at ty by (tree.Make adt variant fields))
        (nodes_of_fields fields) r)) (λ site key e. e)
    form_free (tree.Tuple parts) x id at ty by h g r = let t = some_holds (types.tuple_of items ty) (λ tys.
        typing.made_parts (K x) tys parts) h in
        kinds.operands_value items needs q clear keeps over waits first fuel (K x) (head id ty by) (shape_of items
        (tree.Tuple parts) (head id ty by))
        (Ms parts)
        (λ site. effects.Build site OfTuple (all_moved id (Ms parts)))
        (nodes_among parts) ((node id at ty by (tree.Tuple parts)) ∷ nodes_among parts) (inl refl)
        (kinds.part_of items needs q clear keeps over waits first fuel (node id at ty by (tree.Tuple parts))
        (nodes_among parts) r)
        (inside_rises items needs q clear keeps over waits first fuel (node id at ty by (tree.Tuple parts)) (nodes_among parts) r)
        (parts_free t.0 parts x t.1.1 g (inside_rises items needs q clear keeps over waits first fuel (node id at ty by (tree.Tuple parts)) (nodes_among parts) r)) (λ
        site key e. e)
    form_free (tree.Array elements) x id at ty by h g r = let t = some_holds (types.array_of items ty) (λ a. both
        (fact (pattern_rules.count_of elements == a.1)) (typing.elements_of (K x) a.0 elements)) h in
        kinds.operands_value items needs q clear keeps over waits first fuel (K x) (head id ty by) (shape_of items
        (tree.Array elements) (head id ty by))
        (Ms elements)
        (λ site. effects.Build site OfArray (all_moved id (Ms elements)))
        (nodes_among elements) ((node id at ty by (tree.Array elements)) ∷ nodes_among elements) (inl refl)
        (kinds.part_of items needs q clear keeps over waits first fuel (node id at ty by (tree.Array elements))
        (nodes_among elements) r)
        (inside_rises items needs q clear keeps over waits first fuel (node id at ty by (tree.Array elements)) (nodes_among elements) r)
        (elements_free t.0.0 elements x t.1.1.1 g (inside_rises items needs q clear keeps over waits first fuel (node id at ty by (tree.Array elements)) (nodes_among
        elements) r)) (λ site key e. e)
    form_free (tree.Closure closure captures) x id at ty by h g r = let t = some_holds (slice_get items.closures
        closure) (λ def. typing.captured (K x) def.captures captures) h.1 in
        kinds.operands_value items needs q clear keeps over waits first fuel (K x) (head id ty by) (shape_of items
        (tree.Closure closure captures) (head id ty by))
        (Ms captures)
        (λ site. effects.Build site (OfClosure closure) (all_moved id (Ms captures)))
        (nodes_among captures) ((node id at ty by (tree.Closure closure captures)) ∷ nodes_among captures) (inl refl)
        (kinds.part_of items needs q clear keeps over waits first fuel (node id at ty by (tree.Closure closure
        captures)) (nodes_among captures) r)
        (inside_rises items needs q clear keeps over waits first fuel (node id at ty by (tree.Closure closure captures)) (nodes_among captures) r)
        (captures_free t.0.captures captures x t.1.1 g (inside_rises items needs q clear keeps over waits first fuel (node id at ty by (tree.Closure closure captures))
        (nodes_among captures) r)) (λ site key e. e)
    form_free (tree.NewBox content) x id at ty by h g r =
        let t = some_holds (types.boxed_of items ty) (λ inside. both (typing.typed (K x) (Wanted inside) content) (fact
        (not (types.is_dyn items inside)))) h in
        new_box_free items needs q clear keeps over waits first fuel x content id at ty by h g r (node_free content x (Wanted t.0) t.1.1.0 g (inside_rises items needs q clear keeps over waits first fuel (node id at
        ty by (tree.NewBox content)) (nodes_of content) r))
    form_free (tree.Print operand) x id at ty by h g r =
        let rs = inside_rises items needs q clear keeps over waits first fuel (node id at ty by (tree.Print operand)) (nodes_of operand) r in
        print_free items needs q clear keeps over waits first fuel x operand id at ty by h g r (node_free operand x Taken h.0 g rs)
    form_free (tree.Forget operand) x id at ty by h g r =
        let rs = inside_rises items needs q clear keeps over waits first fuel (node id at ty by (tree.Forget operand)) (nodes_of operand) r in
        forget_free items needs q clear keeps over waits first fuel x operand id at ty by h g r (node_free operand x Taken h.0 g rs)
    form_free (tree.DropValue operand) x id at ty by h g r =
        let rs = inside_rises items needs q clear keeps over waits first fuel (node id at ty by (tree.DropValue operand)) (nodes_of operand) r in
        drop_value_free items needs q clear keeps over waits first fuel x operand id at ty by h g r (node_free operand x Taken h.0 g rs)
    form_free tree.Panic x id at ty by h g r = kinds.value_free items needs q clear keeps over waits first fuel (K x)
        (head id ty by) (shape_of items tree.Panic (head id ty by)) ((node id at ty by tree.Panic) ∷ [])
        (λ around own to. forms.panics items q Why.Explicit) (inl refl)
        (λ around own to S v t d. arms.panics_free items needs q clear keeps over waits first around (DestKey to)
        ((node id at ty by tree.Panic) ∷ []) (Extends S) Why.Explicit S v (ext_same S))
    form_free (tree.Borrow unique base) x id at ty by h g r =
        let rs = inside_rises items needs q clear keeps over waits first fuel (node id at ty by (tree.Borrow unique base)) (nodes_of base) r in
        borrow_free items needs q clear keeps over waits first fuel x unique base id at ty by h g r (node_free base x (Used (borrow_by unique)) h.0 g rs)
    form_free (tree.Unsize trait_no operand) x id at ty by h g r =
        let rs = inside_rises items needs q clear keeps over waits first fuel (node id at ty by (tree.Unsize trait_no operand)) (nodes_of operand) r in
        unsize_free items needs q clear keeps over waits first fuel x trait_no operand id at ty by h g r (node_free operand x Taken h.0 g rs)
    form_free (tree.Block stmts tail) x id at ty by h g r = let rs = inside_rises items needs q clear keeps over waits first fuel (node id at ty by (tree.Block stmts
        tail)) (nodes_among stmts ++ nodes_if_any tail) r in
        let p = (kinds.part_of items needs q clear keeps over waits first fuel (node id at ty by (tree.Block stmts
        tail)) (nodes_among stmts ++ nodes_if_any tail) r) in
        let ps = kinds.part_left items needs q clear keeps over waits first fuel id (nodes_among stmts) (nodes_if_any
        tail) ((node id at ty by (tree.Block stmts tail)) ∷ nodes_among stmts ++ nodes_if_any tail) p in
        let pt = kinds.part_right items needs q clear keeps over waits first fuel id (nodes_among stmts) (nodes_if_any
        tail) ((node id at ty by (tree.Block stmts tail)) ∷ nodes_among stmts ++ nodes_if_any tail) p in
        kinds.value_free items needs q clear keeps over waits first fuel (K x) (head id ty by) (shape_of items
        (tree.Block stmts tail) (head id ty by)) ((node id at ty by (tree.Block stmts tail)) ∷ nodes_among stmts ++
        nodes_if_any tail)
        (forms.block items q (head id ty by) (Ms stmts) (Mi tail)) (inl refl)
        (λ around own to S v t d. rules.scope_free items needs q clear keeps over waits first around (DestKey to)
        ((node id at ty by (tree.Block stmts tail)) ∷ nodes_among stmts ++ nodes_if_any tail) id own
        (λ T w. on_value (forms.statements items q around (Ms stmts) T w)
        (forms.tail_of items q (head id ty by) (Mi tail) around to)) S v
        (rules.then_free items needs q clear keeps over waits first around Nothing (DestKey to) (nodes_among stmts)
        ((node id at ty by (tree.Block stmts tail)) ∷ nodes_among stmts ++ nodes_if_any tail)
        (statements.Behind items needs q clear keeps over waits first S (K (behind x stmts)) around) (OnTop S)
        (with_scope id own S) v
        (forms.statements items q around (Ms stmts) (with_scope id own S) v)
        (forms.tail_of items q (head id ty by) (Mi tail) around to)
        (statements_free stmts x (λ d. typing.tail_of d tail) h.0 (good_left items needs q clear keeps over waits first fuel (nodes_among stmts) (nodes_if_any tail) g)
        (rises_left (nodes_among stmts) (nodes_if_any tail) rs) around S (with_scope id own S) v (ext_same S)
        (rules.ready_opened items needs q clear keeps over waits first (K x) around (nodes_among stmts) id own S v
        (rules.ready_part items needs q clear keeps over waits first (K x) around (nodes_among stmts) ((node id at ty
        by (tree.Block stmts tail)) ∷ nodes_among stmts ++ nodes_if_any tail) S v ps.within t))) ps.within
        (λ z k. absurd k) (λ exit T o k. k.0)
        (λ T w k j. statements.tail_free items needs q clear keeps over waits first (K (behind x stmts)) around (head
        id ty by) (Mi tail) to (nodes_if_any tail)
        ((node id at ty by (tree.Block stmts tail)) ∷ nodes_among stmts ++ nodes_if_any tail) S T w k.0
        (tail_ready tail (behind x stmts) (facts.behind_holds items (λ key. false) q (again.no_clear items needs q
        clear keeps) (again.keeps_none items needs q clear keeps) fuel stmts x (λ d. typing.tail_of d tail) h.0)
        (good_right items needs q clear keeps over waits first fuel (nodes_among stmts) (nodes_if_any tail) g) (rises_right (nodes_among stmts) (nodes_if_any tail) rs)
        x (facts.same_loops items (λ key. false) q (again.no_clear items needs q clear keeps) (again.keeps_none items
        needs q clear keeps) fuel stmts x) (facts.same_answer items (λ key. false) q (again.no_clear items needs q
        clear keeps) (again.keeps_none items needs q clear keeps) fuel stmts x) around id (nodes_among stmts)
        ((node id at ty by (tree.Block stmts tail)) ∷ nodes_among stmts ++ nodes_if_any tail)
        ps pt (rises_apart (nodes_among stmts) (nodes_if_any tail) rs) S T v w t to d k.1
        (λ z fr i. j z fr i (λ y. y))) pt.within
        (λ z i. j z (d.free z i)
        (rules.dest_apart items needs q clear keeps over waits first id (nodes_among stmts) ((node id at ty by
        (tree.Block stmts tail)) ∷ nodes_among stmts ++ nodes_if_any tail) to S v d ps z i) (λ y. y)) d.two)))
    form_free (tree.If condition consequent absent) x id at ty by h g r =
        let rs = inside_rises items needs q clear keeps over waits first fuel (node id at ty by (tree.If condition consequent absent)) (nodes_of condition ++ nodes_of
        consequent ++ []) r in
        let rab = rises_left (nodes_of condition ++ nodes_of consequent) ([]) rs in
        let gab = good_left items needs q clear keeps over waits first fuel (nodes_of condition ++ nodes_of consequent) ([]) g in
        if_free items needs q clear keeps over waits first fuel x condition consequent id at ty by h g r (node_free condition x Taken h.0 (good_left items needs q clear keeps over waits first fuel (nodes_of
        condition) (nodes_of consequent) gab) (rises_left (nodes_of condition) (nodes_of consequent) rab))
        (node_free consequent x Taken h.1.1.0 (good_right items needs q clear keeps over waits first fuel (nodes_of condition) (nodes_of consequent) gab)
        (rises_right (nodes_of condition) (nodes_of consequent) rab))
    form_free (tree.If condition consequent (present otherwise)) x id at ty by h g r =
        let rs = inside_rises items needs q clear keeps over waits first fuel (node id at ty by (tree.If condition consequent (present otherwise))) (nodes_of condition
        ++ nodes_of consequent ++ nodes_of otherwise) r in
        let rab = rises_left (nodes_of condition ++ nodes_of consequent) (nodes_of otherwise) rs in
        let gab = good_left items needs q clear keeps over waits first fuel (nodes_of condition ++ nodes_of consequent) (nodes_of otherwise) g in
        if_else_free items needs q clear keeps over waits first fuel x condition consequent otherwise id at ty by h g r (node_free condition x Taken h.0 (good_left items needs q clear keeps over waits first fuel
        (nodes_of condition) (nodes_of consequent) gab) (rises_left (nodes_of condition) (nodes_of consequent)
        rab)) (node_free consequent x Taken h.1.1.0 (good_right items needs q clear keeps over waits first fuel (nodes_of condition) (nodes_of consequent) gab)
        (rises_right (nodes_of condition) (nodes_of consequent) rab)) (node_free otherwise x Taken h.1.1.1.0
        (good_right items needs q clear keeps over waits first fuel (nodes_of condition ++ nodes_of consequent) (nodes_of otherwise) g) (rises_right (nodes_of
        condition ++ nodes_of consequent) (nodes_of otherwise) rs))
    form_free (tree.IfLet pattern scrutinee consequent absent) x id at ty by h g r =
        let rs = inside_rises items needs q clear keeps over waits first fuel (node id at ty by (tree.IfLet pattern scrutinee consequent absent)) (nodes_of pattern ++
        nodes_of scrutinee ++ nodes_of consequent ++ []) r in
        let r3 = rises_left (nodes_of pattern ++ nodes_of scrutinee ++ nodes_of consequent) ([]) rs in
        let g3 = good_left items needs q clear keeps over waits first fuel (nodes_of pattern ++ nodes_of scrutinee ++ nodes_of consequent) ([]) g in
        let r2 = rises_left (nodes_of pattern ++ nodes_of scrutinee) (nodes_of consequent) r3 in
        let g2 = good_left items needs q clear keeps over waits first fuel (nodes_of pattern ++ nodes_of scrutinee) (nodes_of consequent) g3 in
        if_let_free items needs q clear keeps over waits first fuel x pattern scrutinee consequent id at ty by h g r (node_free scrutinee x (Used Use.Borrow) h.0
        (good_right items needs q clear keeps over waits first fuel (nodes_of pattern) (nodes_of scrutinee) g2) (rises_right (nodes_of pattern) (nodes_of
        scrutinee) r2)) (node_free consequent (with_names (pattern_rules.entries_of pattern) x) Taken h.1.1.0
        (good_right items needs q clear keeps over waits first fuel (nodes_of pattern ++ nodes_of scrutinee) (nodes_of consequent) g3) (rises_right (nodes_of
        pattern ++ nodes_of scrutinee) (nodes_of consequent) r3))
    form_free (tree.IfLet pattern scrutinee consequent (present otherwise)) x id at ty by h g r =
        let rs = inside_rises items needs q clear keeps over waits first fuel (node id at ty by (tree.IfLet pattern scrutinee consequent (present otherwise)))
        (nodes_of pattern ++ nodes_of scrutinee ++ nodes_of consequent ++ nodes_of otherwise) r in
        let r3 = rises_left (nodes_of pattern ++ nodes_of scrutinee ++ nodes_of consequent) (nodes_of otherwise) rs in
        let g3 = good_left items needs q clear keeps over waits first fuel (nodes_of pattern ++ nodes_of scrutinee ++ nodes_of consequent) (nodes_of otherwise) g in
        let r2 = rises_left (nodes_of pattern ++ nodes_of scrutinee) (nodes_of consequent) r3 in
        let g2 = good_left items needs q clear keeps over waits first fuel (nodes_of pattern ++ nodes_of scrutinee) (nodes_of consequent) g3 in
        if_let_else_free items needs q clear keeps over waits first fuel x pattern scrutinee consequent otherwise id at ty by h g r (node_free scrutinee x (Used
        Use.Borrow) h.0 (good_right items needs q clear keeps over waits first fuel (nodes_of pattern) (nodes_of scrutinee) g2) (rises_right (nodes_of pattern)
        (nodes_of scrutinee) r2)) (node_free consequent (with_names (pattern_rules.entries_of pattern) x) Taken
        h.1.1.0 (good_right items needs q clear keeps over waits first fuel (nodes_of pattern ++ nodes_of scrutinee) (nodes_of consequent) g3) (rises_right
        (nodes_of pattern ++ nodes_of scrutinee) (nodes_of consequent) r3)) (node_free otherwise x Taken h.1.1.1.0
        (good_right items needs q clear keeps over waits first fuel (nodes_of pattern ++ nodes_of scrutinee ++ nodes_of consequent) (nodes_of otherwise) g)
        (rises_right (nodes_of pattern ++ nodes_of scrutinee ++ nodes_of consequent) (nodes_of otherwise) rs))
    form_free (tree.Match scrutinee arms_) x id at ty by h g r = let rs = inside_rises items needs q clear keeps over waits first fuel (node id at ty by (tree.Match
        scrutinee arms_)) (nodes_of scrutinee ++ nodes_among arms_) r in
        let p = (kinds.part_of items needs q clear keeps over waits first fuel (node id at ty by (tree.Match scrutinee
        arms_)) (nodes_of scrutinee ++ nodes_among arms_) r) in
        let pa = kinds.part_right items needs q clear keeps over waits first fuel id (nodes_of scrutinee) (nodes_among
        arms_) ((node id at ty by (tree.Match scrutinee arms_)) ∷ nodes_of scrutinee ++ nodes_among arms_) p in
        let fs = node_free scrutinee x (Used Use.Borrow) h.0 (good_left items needs q clear keeps over waits first fuel (nodes_of scrutinee) (nodes_among arms_) g)
        (rises_left (nodes_of scrutinee) (nodes_among arms_) rs) in
        kinds.value_free items needs q clear keeps over waits first fuel (K x) (head id ty by) (shape_of items
        (tree.Match scrutinee arms_) (head id ty by)) ((node id at ty by (tree.Match scrutinee arms_)) ∷ nodes_of
        scrutinee ++ nodes_among arms_)
        (forms.matching items q (head id ty by) (M scrutinee) (Ms arms_)) (inl refl)
        (λ around own to S v t d. arms.matching_free items needs q clear keeps over waits first (K x) around (head id
        ty by) (M scrutinee) (Ms arms_) own to
        (nodes_of scrutinee) (nodes_among arms_) ((node id at ty by (tree.Match scrutinee arms_)) ∷ nodes_of scrutinee
        ++ nodes_among arms_) rs fs
        (arms_free arms_ x (typing.matched_in false (K x) scrutinee) (ty_of scrutinee) h.1.0
        (good_right items needs q clear keeps over waits first fuel (nodes_of scrutinee) (nodes_among arms_) g) (rises_right (nodes_of scrutinee) (nodes_among arms_)
        rs)
        around (place_of (M scrutinee) around) ((node id at ty by (tree.Match scrutinee arms_)) ∷ nodes_of scrutinee ++
        nodes_among arms_)) p S v t d
        (λ T w y. again.root_named items needs q clear keeps fuel scrutinee x (Used Use.Borrow) h.0 around T w y.ok))
    form_free (tree.Loop body) x id at ty by h g r =
        let rs = inside_rises items needs q clear keeps over waits first fuel (node id at ty by (tree.Loop body)) (nodes_of body) r in
        let xs = in_a_loop (record { loop = id; ty = ty; has_value = true }) x in
        loop_free items needs q clear keeps over waits first fuel x body id at ty by h g r (node_free body xs Taken h.0 g rs)
    form_free (tree.While condition body) x id at ty by h g r =
        let rs = inside_rises items needs q clear keeps over waits first fuel (node id at ty by (tree.While condition body)) (nodes_of condition ++ nodes_of body) r in
        let gc = good_left items needs q clear keeps over waits first fuel (nodes_of condition) (nodes_of body) g in
        let gb = good_right items needs q clear keeps over waits first fuel (nodes_of condition) (nodes_of body) g in
        while_free items needs q clear keeps over waits first fuel x condition body id at ty by h g r (node_free condition (in_a_loop (record {
          loop = id;
          ty = ty;
          has_value = false;
        }) x) Taken h.0 gc (rises_left (nodes_of condition) (nodes_of body) rs)) (node_free body
        (in_a_loop (record { loop = id; ty = ty; has_value = false }) x) Taken h.1.1.0 gb (rises_right (nodes_of
        condition) (nodes_of body) rs))
    form_free (tree.WhileLet pattern scrutinee body) x id at ty by h g r =
        let rs = inside_rises items needs q clear keeps over waits first fuel (node id at ty by (tree.WhileLet pattern scrutinee body)) (nodes_of pattern ++ nodes_of
        scrutinee ++ nodes_of body) r in
        let r2 = rises_left (nodes_of pattern ++ nodes_of scrutinee) (nodes_of body) rs in
        let g2 = good_left items needs q clear keeps over waits first fuel (nodes_of pattern ++ nodes_of scrutinee) (nodes_of body) g in
        let gs = good_right items needs q clear keeps over waits first fuel (nodes_of pattern) (nodes_of scrutinee) g2 in
        let gb = good_right items needs q clear keeps over waits first fuel (nodes_of pattern ++ nodes_of scrutinee) (nodes_of body) g in
        while_let_free items needs q clear keeps over waits first fuel x pattern scrutinee body id at ty by h g r (node_free scrutinee (in_a_loop (record {
          loop = id;
          ty = ty;
          has_value = false;
        }) x) (Used Use.Borrow) h.0 gs (rises_right (nodes_of pattern) (nodes_of
        scrutinee) r2)) (node_free body (with_names (pattern_rules.entries_of pattern) (in_a_loop (record {
          loop =
              id;
          ty = ty;
          has_value = false;
        }) x)) Taken h.1.1.0 gb (rises_right (nodes_of pattern ++ nodes_of
        scrutinee) (nodes_of body) rs))
    form_free (tree.Break loop value) x id at ty by h g r = let l = some_holds (loop_with loop x.loops) (λ a.
        typing.carries (K x) a value) h.0 in
        let p = (kinds.part_of items needs q clear keeps over waits first fuel (node id at ty by (tree.Break loop
        value)) (nodes_if_any value) r) in
        kinds.scope_free items needs q clear keeps over waits first fuel (K x) (head id ty by) (shape_of items
        (tree.Break loop value) (head id ty by)) ((node id at ty by (tree.Break loop value)) ∷ nodes_if_any value)
        (evaluation.breaks items q fuel loop (head id ty by) (Mi value)) (inl refl)
        (λ around to S v t d. loops.jumping_free items needs q clear keeps over waits first (K x) around (Breaks loop)
        (head id ty by) (Mi value)
        (loop_destination loop around.loops) (DestKey to) (nodes_if_any value) ((node id at ty by (tree.Break loop
        value)) ∷ nodes_if_any value) S v refl
        (carried_free value x l.0 l.1.1 g (inside_rises items needs q clear keeps over waits first fuel (node id at ty by (tree.Break loop value)) (nodes_if_any value)
        r)) p.within t
        (λ z i. inr (loop, (l.0, (l.1.0, i)))) (t.twos.1 loop l.0 l.1.0))
    form_free (tree.Continue loop) x id at ty by h g r = kinds.value_free items needs q clear keeps over waits first
        fuel (K x) (head id ty by) (shape_of items (tree.Continue loop) (head id ty by)) ((node id at ty by
        (tree.Continue loop)) ∷ [])
        (λ around own to. At (Continues loop)) (inl refl) (λ around own to S v t d. (ext_same S, λ z fr i m. fr))
    form_free (tree.Return value) x id at ty by h g r = let p = (kinds.part_of items needs q clear keeps over waits
        first fuel (node id at ty by (tree.Return value)) (nodes_if_any value) r) in
        kinds.scope_free items needs q clear keeps over waits first fuel (K x) (head id ty by) (shape_of items
        (tree.Return value) (head id ty by)) ((node id at ty by (tree.Return value)) ∷ nodes_if_any value)
        (evaluation.returns items q fuel (head id ty by) (Mi value)) (inl refl)
        (λ around to S v t d. loops.jumping_free items needs q clear keeps over waits first (K x) around Returns (head
        id ty by) (Mi value)
        around.answer (DestKey to) (nodes_if_any value) ((node id at ty by (tree.Return value)) ∷ nodes_if_any value) S
        v refl
        (returned_free value x h.0 g (inside_rises items needs q clear keeps over waits first fuel (node id at ty by (tree.Return value)) (nodes_if_any value) r))
        p.within t
        (λ z i. inl i) t.twos.0)
    form_free form x id at ty by h g r = absurd (false≢true h)

    args_free : (tys : List TyId) (ns : Nodes) (x : Standpoint) → Holds (typing.arguments (K x) tys ns) →
        Good (nodes_among ns) → Rises (nodes_among ns) → AllFree (K x) (Ms ns) (nodes_among ns)
    args_free tys no_node x h g r = tt
    args_free [] (a_node first_ rest) x h g r = absurd (false≢true h)
    args_free (ty ∷ tys) (a_node first_ rest) x h g r = (
      nodes_of first_,
      (
        nodes_among rest,
        (
          refl,
          (
            node_free first_ x (Passed ty) h.0 (good_left items needs q clear keeps over waits first fuel (nodes_of first_) (nodes_among rest) g)
                (rises_left (nodes_of first_) (nodes_among rest) r),
            args_free tys rest x h.1 (good_right items needs q clear keeps over waits first fuel (nodes_of first_) (nodes_among rest) g)
                (rises_right (nodes_of first_) (nodes_among rest) r),
          ),
        ),
      ),
    )

    parts_free : (tys : List TyId) (ns : Nodes) (x : Standpoint) → Holds (typing.made_parts (K x) tys ns) →
        Good (nodes_among ns) → Rises (nodes_among ns) → AllFree (K x) (Ms ns) (nodes_among ns)
    parts_free tys no_node x h g r = tt
    parts_free [] (a_node first_ rest) x h g r = absurd (false≢true h)
    parts_free (ty ∷ tys) (a_node first_ rest) x h g r = (
      nodes_of first_,
      (
        nodes_among rest,
        (
          refl,
          (
            node_free first_ x (Wanted ty) h.0 (good_left items needs q clear keeps over waits first fuel (nodes_of first_) (nodes_among rest) g)
                (rises_left (nodes_of first_) (nodes_among rest) r),
            parts_free tys rest x h.1 (good_right items needs q clear keeps over waits first fuel (nodes_of first_) (nodes_among rest) g)
                (rises_right (nodes_of first_) (nodes_among rest) r),
          ),
        ),
      ),
    )

    elements_free : (ty : TyId) (ns : Nodes) (x : Standpoint) → Holds (typing.elements_of (K x) ty ns) →
        Good (nodes_among ns) → Rises (nodes_among ns) → AllFree (K x) (Ms ns) (nodes_among ns)
    elements_free ty no_node x h g r = tt
    elements_free ty (a_node first_ rest) x h g r = (
      nodes_of first_,
      (
        nodes_among rest,
        (
          refl,
          (
            node_free first_ x (Wanted ty) h.0 (good_left items needs q clear keeps over waits first fuel (nodes_of first_) (nodes_among rest) g)
                (rises_left (nodes_of first_) (nodes_among rest) r),
            elements_free ty rest x h.1 (good_right items needs q clear keeps over waits first fuel (nodes_of first_) (nodes_among rest) g)
                (rises_right (nodes_of first_) (nodes_among rest) r),
          ),
        ),
      ),
    )

    captures_free : (tys : List TyId) (ns : Nodes) (x : Standpoint) → Holds (typing.captured (K x) tys ns) →
        Good (nodes_among ns) → Rises (nodes_among ns) → AllFree (K x) (Ms ns) (nodes_among ns)
    captures_free tys no_node x h g r = tt
    captures_free [] (a_node first_ rest) x h g r = absurd (false≢true h)
    captures_free (ty ∷ tys) (a_node first_ rest) x h g r = (
      nodes_of first_,
      (
        nodes_among rest,
        (
          refl,
          (
            node_free first_ x Taken h.0 (good_left items needs q clear keeps over waits first fuel (nodes_of first_) (nodes_among rest) g)
                (rises_left (nodes_of first_) (nodes_among rest) r),
            captures_free tys rest x h.1.1 (good_right items needs q clear keeps over waits first fuel (nodes_of first_) (nodes_among rest) g)
                (rises_right (nodes_of first_) (nodes_among rest) r),
          ),
        ),
      ),
    )

    fields_free : (tys : List TyId) (fields : Fields) (x : Standpoint) → Holds (typing.made_fields (K x) tys fields) →
        Good (nodes_of_fields fields) → Rises (nodes_of_fields fields) →
        AllFree (K x) (values_of (fields_of items q fuel fields)) (nodes_of_fields fields)
    fields_free tys no_field x h g r = tt
    fields_free tys (a_field number value rest) x h g r =
        let t = some_holds (slice_get tys number) (λ ty. typing.typed (K x) (Wanted ty) value) h.0 in (
          nodes_of value,
          (
            nodes_of_fields rest,
            (
              refl,
              (
                node_free value x (Wanted t.0) t.1.1 (good_left items needs q clear keeps over waits first fuel (nodes_of value) (nodes_of_fields rest) g)
                    (rises_left (nodes_of value) (nodes_of_fields rest) r),
                fields_free tys rest x h.1 (good_right items needs q clear keeps over waits first fuel (nodes_of value) (nodes_of_fields rest) g)
                    (rises_right (nodes_of value) (nodes_of_fields rest) r),
              ),
            ),
          ),
        )

    carried_free : (value : MaybeNode) (x : Standpoint) (a : LoopAround) → Holds (typing.carries (K x) a value) →
        Good (nodes_if_any value) → Rises (nodes_if_any value) → (m : Meaning V) → Mi value ≡ Some m →
        FreeM (K x) m (nodes_if_any value)
    carried_free absent x a h g r m e = absurd (none-some m e)
    carried_free (present value) x a h g r m e = subst (λ z. FreeM (K x) z (nodes_of value))
        (parts.some_same items needs q clear keeps fuel e) (node_free value x (Wanted a.ty) h.1 g r)

    returned_free : (value : MaybeNode) (x : Standpoint) → Holds (typing.returned (K x) value) →
        Good (nodes_if_any value) → Rises (nodes_if_any value) → (m : Meaning V) → Mi value ≡ Some m →
        FreeM (K x) m (nodes_if_any value)
    returned_free absent x h g r m e = absurd (none-some m e)
    returned_free (present value) x h g r m e = subst (λ z. FreeM (K x) z (nodes_of value))
        (parts.some_same items needs q clear keeps fuel e) (node_free value x (Wanted x.answer) h g r)

    -- the tail of a block, behind its statements
    tail_ready : (tail : MaybeNode) (y : Standpoint) → Holds (typing.tail_of (K y) tail) → Good (nodes_if_any tail) →
        Rises (nodes_if_any tail) → (x : Standpoint) → y.loops ≡ x.loops → y.answer ≡ x.answer →
        (around : LoopsAndGuards) (id : ℕ) (done ns : List Node) → Part id done ns → Part id (nodes_if_any tail) ns →
        ((z : ℕ) → Numbered done z → Numbered (nodes_if_any tail) z → ⊥) → (S T : Scopes) (v w : V) →
        Ready (K x) around ns S v → (to : Destination) → DestOk id ns to S v → AroundOk items (K y) around T →
        ((z : ℕ) → rules.Free items needs q clear keeps over waits first v S z → (Numbered done z → ⊥) → rules.Free
        items needs q clear keeps over waits first w T z) → (m : Meaning V) →
        Mi tail ≡ Some m →
        FreeM (K y) m (nodes_if_any tail) × (Ready (K y) around (nodes_if_any tail) T w
        × DestOk m.head.id (nodes_if_any tail) to T w)
    tail_ready absent y h g r x ls ans around id done ns p p' apart S T v w t to d ok j m e = absurd (none-some m e)
    tail_ready (present tail) y h g r x ls ans around id done ns p p' apart S T v w t to d ok j m e =
        subst (λ z. FreeM (K y) z (nodes_of tail) × (Ready (K y) around (nodes_of tail) T w
        × DestOk z.head.id (nodes_of tail) to T w)) (parts.some_same items needs q clear keeps fuel e) (
          node_free tail y Taken h g r,
          (
            record {
              ok = ok;
              free = λ z i. j z (t.free z (p'.within z i)) (λ k. apart z k i);
              jumps = λ z i. let c = t.jumps z (jump z i) in (
                j z c.0 (λ k. c.1 (p.within z k)),
                λ k. c.1 (p'.within z
                    k),
              );
              twos = (t.twos.0, λ loop a k. t.twos.1 loop a (subst (λ l. loop_with loop l ≡ Some a) ls k));
            },
            rules.dest_after items needs q clear keeps over waits first id (M tail).head.id done (nodes_of tail) ns
                Nothing to S T v w d p p' (λ z i. absurd i)
                (λ z fr i k. j z fr i),
          ),
        )
      where
        jump : (z : ℕ) → rules.Jump items needs q clear keeps over waits first (K y) around z → rules.Jump items needs
            q clear keeps over waits first (K x) around z
        jump z (inl i) = inl i
        jump z (inr (loop, (a, (k, i)))) = inr (loop, (a, (subst (λ l. loop_with loop l ≡ Some a) ls k, i)))

    -- ---- statements

    statements_free : (ns : Nodes) (x : Standpoint) (rest : Context → Claim) →
        Holds (typing.statements (K x) ns rest) → Good (nodes_among ns) → Rises (nodes_among ns) →
        (around : LoopsAndGuards) (S T : Scopes) (v : V) → Top S T → Ready (K x) around (nodes_among ns) T v →
        Shown over (Post items needs q clear keeps over waits first fuel around Nothing (nodes_among ns) T v (statements.Behind items needs q clear keeps over waits
        first S (K (behind x ns)) around))
        (forms.statements items q around (Ms ns) T v)
    statements_free no_node x rest h g r around S T v k t = ((k, t.ok), λ z fr i m. fr)
    statements_free (a_node (node id at ty by form) more) x rest h g r around S T v k t =
        rules.then_free items needs q clear keeps over waits first around Nothing Nothing (node id at ty by form ∷
        nodes_in form)
        (node id at ty by form ∷ nodes_in form ++ nodes_among more)
        (statements.Behind items needs q clear keeps over waits first S (K (with_names (typing.entries_in form) x))
        around)
        (statements.Behind items needs q clear keeps over waits first S (K (behind (with_names (typing.entries_in form)
        x) more)) around) T v
        ((M (node id at ty by form)).evaluate around false (Into (M (node id at ty by form)).head.id) T v)
        (forms.statements items q around (Ms more))
        (statement_free form x id at ty by h.1.0
        (good_left items needs q clear keeps over waits first fuel (node id at ty by form ∷ nodes_in form) (nodes_among more) g).1
        (rises_left (node id at ty by form ∷ nodes_in form) (nodes_among more) r) around S T v k
        (rules.ready_part items needs q clear keeps over waits first (K x) around (node id at ty by form ∷ nodes_in
        form)
        (node id at ty by form ∷ nodes_in form ++ nodes_among more) T v
        (numbered_left (node id at ty by form ∷ nodes_in form) (nodes_among more)) t))
        (numbered_left (node id at ty by form ∷ nodes_in form) (nodes_among more)) (λ z i. absurd i) other
        (λ U u e j. rules.more_free items needs q clear keeps over waits first around Nothing Nothing (nodes_among more)
        (node id at ty by form ∷ nodes_in form ++ nodes_among more) U u
        (statements.Behind items needs q clear keeps over waits first S (K (behind (with_names (typing.entries_in form)
        x) more)) around)
        (statements.Behind items needs q clear keeps over waits first S (K (behind (with_names (typing.entries_in form)
        x) more)) around)
        (forms.statements items q around (Ms more) U u)
        (statements_free more (with_names (typing.entries_in form) x) rest h.1.1
        (good_right items needs q clear keeps over waits first fuel (node id at ty by form ∷ nodes_in form) (nodes_among more) g)
        (rises_right (node id at ty by form ∷ nodes_in form) (nodes_among more) r) around S U u e.0 (record {
          ok = e.1;
          free = λ z i. j z (t.free z (numbered_right (node id at ty by form ∷ nodes_in form) (nodes_among more) z i))
              (λ m. rises_apart (node id at ty by form ∷ nodes_in form) (nodes_among more) r z m i) (λ m. m);
          jumps = λ z i. let c = t.jumps z i in (
            j z c.0 (λ m. c.1 (numbered_left (node id at ty by form ∷ nodes_in form) (nodes_among more) z m)) (λ m. m),
            λ m. c.1 (numbered_right (node id at ty by form ∷ nodes_in form) (nodes_among more) z m),
          );
          twos = t.twos;
        })) (numbered_right (node id at ty by form ∷ nodes_in form) (nodes_among more)) (λ z i. absurd i)
        (λ exit Z e. e))
      where
        other : (exit : Exit) (U : Scopes) → Rattle.soundness_cells.proofs.PassScopes.Other exit →
            statements.Behind items needs q clear keeps over waits first S (K (with_names (typing.entries_in form) x))
            around exit U →
            statements.Behind items needs q clear keeps over waits first S (K (behind (with_names (typing.entries_in
            form) x) more)) around exit U
        other exit U o e = (
          e.0,
          statements.other_ok items needs q clear keeps over waits first exit (K (behind (with_names
              (typing.entries_in form) x) more)) around U o,
        )

    statement_free : (form : Form) (x : Standpoint) (id : ℕ) (at : Pos) (ty : TyId) (by : Option Use) →
        Holds (typing.statement (K x) form) → Good (nodes_in form) → Rises (node id at ty by form ∷ nodes_in form) →
        (around : LoopsAndGuards) (S T : Scopes) (v : V) → Top S T →
        Ready (K x) around (node id at ty by form ∷ nodes_in form) T v →
        Shown over (Post items needs q clear keeps over waits first fuel around Nothing (node id at ty by form ∷ nodes_in form) T v
        (statements.Behind items needs q clear keeps over waits first S (K (with_names (typing.entries_in form) x))
        around))
        ((Of form id ty by).evaluate around false (Into (Of form id ty by).head.id) T v)
    statement_free (tree.Let pattern absent) x id at ty by h g r around S T v k t =
        turns.statement_named items needs q clear keeps over waits first fuel pattern x typing.whole (ty_of pattern)
        h.1.0 around (whole_local 0)
        (node id at ty by (tree.Let pattern absent) ∷ nodes_of pattern ++ []) S T v k t.ok
        (BoundKey ((M pattern).shape.bindings (whole_local 0))) (λ z i. i) _
        (statements.declared_free items needs q clear keeps over waits first around (node id at ty by (tree.Let pattern
        absent) ∷ nodes_of pattern ++ [])
        ((M pattern).shape.bindings (whole_local 0))
        (λ z i. inr (numbered_left (nodes_of pattern) [] z (turns.bound_in items needs q clear keeps over waits first
        fuel pattern (whole_local 0) z i))) T v
        (turns.top_deep items needs q clear keeps over waits first fuel S T k))
    statement_free (tree.Let pattern (present value)) x id at ty by h g r around S T v k t =
        let rs = inside_rises items needs q clear keeps over waits first fuel (node id at ty by (tree.Let pattern (present value))) (nodes_of pattern ++ nodes_of
        value) r in
        turns.let_free items needs q clear keeps over waits first fuel pattern value x id at ty by h.1 around S T v k t
        (node_free value x (typing.as_initialiser pattern) h.0 (good_right items needs q clear keeps over waits first fuel (nodes_of pattern) (nodes_of value) g)
        (rises_right (nodes_of pattern) (nodes_of value) rs)) rs
    statement_free (tree.Evaluate expression) x id at ty by h g r around S T v k t =
        rules.more_free items needs q clear keeps over waits first around Nothing Nothing (nodes_of expression)
        (node id at ty by (tree.Evaluate expression) ∷ nodes_of expression) T v (Extends T)
        (statements.Behind items needs q clear keeps over waits first S (K (with_names [] x)) around)
        (forms.evaluating items q (head id ty by) (M expression) around T v)
        (statements.evaluating_free items needs q clear keeps over waits first (K x) around (head id ty by) (M
        expression) (nodes_of expression)
        (node_free expression x Taken h g
        (inside_rises items needs q clear keeps over waits first fuel (node id at ty by (tree.Evaluate expression)) (nodes_of expression) r)) T v
        (rules.ready_part items needs q clear keeps over waits first (K x) around (nodes_of expression)
        (node id at ty by (tree.Evaluate expression) ∷ nodes_of expression) T v (λ z i. inr i) t)) (λ z i. inr i)
        (λ z i. absurd i) (λ exit U e. (
          top_then S T U k e,
          turns.ok_at items needs q clear keeps over waits first fuel
              x around T U e t.ok exit,
        ))
    statement_free form x id at ty by h g r around S T v k t = absurd (false≢true h)

    -- ---- arms

    arms_free : (ns : Nodes) (x : Standpoint) (m : Matched) (want : TyId) → Holds (typing.arms_of (K x) m want ns) →
        Good (nodes_among ns) → Rises (nodes_among ns) → (around : LoopsAndGuards) (matched : Place) (all : List Node) →
        arms.AllArms items needs q clear keeps over waits first (K x) around matched all (Ms ns) (nodes_among ns)
    arms_free no_node x m want h g r around matched all = tt
    arms_free (a_node (node id at ty by form) rest) x m want h g r around matched all = (
      node id at ty by form ∷ nodes_in form,
      (
        nodes_among rest,
        (
          refl,
          (
            arm_free form x m want id at ty by h.0
                (good_left items needs q clear keeps over waits first fuel (node id at ty by form ∷ nodes_in form) (nodes_among rest) g).1
                (rises_left (node id at ty by form ∷ nodes_in form) (nodes_among rest) r) around matched all,
            arms_free rest x m want h.1 (good_right items needs q clear keeps over waits first fuel (node id at ty by form ∷ nodes_in form) (nodes_among rest) g)
                (rises_right (node id at ty by form ∷ nodes_in form) (nodes_among rest) r) around matched all,
          ),
        ),
      ),
    )

    arm_free : (form : Form) (x : Standpoint) (m : Matched) (want : TyId) (id : ℕ) (at : Pos) (ty : TyId)
        (by : Option Use) → Holds (typing.arm (K x) m want (node id at ty by form)) → Good (nodes_in form) →
        Rises (node id at ty by form ∷ nodes_in form) → (around : LoopsAndGuards) (matched : Place) (all : List Node) →
        arms.ArmFree items needs q clear keeps over waits first (K x) around matched (node id at ty by form ∷ nodes_in
        form) all (Of form id ty by)
    arm_free (tree.Arm pattern guard body) x m want id at ty by h g r around matched all =
        let rs = inside_rises items needs q clear keeps over waits first fuel (node id at ty by (tree.Arm pattern guard body))
        ((nodes_of pattern ++ nodes_if_any guard) ++ nodes_of body) r in
        let r2 = rises_left (nodes_of pattern ++ nodes_if_any guard) (nodes_of body) rs in
        let g2 = good_left items needs q clear keeps over waits first fuel (nodes_of pattern ++ nodes_if_any guard) (nodes_of body) g in
        let xb = with_names (pattern_rules.entries_of pattern) x in
        let xg = with_names (in_guard (pattern_rules.entries_of pattern)) x in
        λ to otherwise S v t d two roots inside other.
        arms.arm_free items needs q clear keeps over waits first (K x) (K xg) (K xb) around (head id ty by) (M pattern)
        (Mi guard) (M body) matched to otherwise
        (nodes_of pattern) (nodes_if_any guard) (nodes_of body)
        (node id at ty by (tree.Arm pattern guard body) ∷ (nodes_of pattern ++ nodes_if_any guard) ++ nodes_of body) all
        (guard_free guard xg h.1.1.1.0 (good_right items needs q clear keeps over waits first fuel (nodes_of pattern) (nodes_if_any guard) g2)
        (rises_right (nodes_of pattern) (nodes_if_any guard) r2))
        (node_free body xb Taken h.1.1.1.1.0 (good_right items needs q clear keeps over waits first fuel (nodes_of pattern ++ nodes_if_any guard) (nodes_of body) g)
        (rises_right (nodes_of pattern ++ nodes_if_any guard) (nodes_of body) rs))
        (turns.bound_distinct items needs q clear keeps over waits first fuel pattern matched (rises_left (nodes_of
        pattern) (nodes_if_any guard) r2))
        (turns.bound_in items needs q clear keeps over waits first fuel pattern matched) (turns.pattern_tests items
        needs q clear keeps over waits first fuel pattern matched)
        (rises_apart (nodes_of pattern) (nodes_if_any guard) r2)
        (λ z i k. rises_apart (nodes_of pattern ++ nodes_if_any guard) (nodes_of body) rs z
        (numbered_left (nodes_of pattern) (nodes_if_any guard) z i) k)
        (λ z i k. rises_apart (nodes_of pattern ++ nodes_if_any guard) (nodes_of body) rs z
        (numbered_right (nodes_of pattern) (nodes_if_any guard) z i) k)
        (λ z i. inr (numbered_left (nodes_of pattern ++ nodes_if_any guard) (nodes_of body) z
        (numbered_left (nodes_of pattern) (nodes_if_any guard) z i)))
        (λ z i. inr (numbered_left (nodes_of pattern ++ nodes_if_any guard) (nodes_of body) z
        (numbered_right (nodes_of pattern) (nodes_if_any guard) z i)))
        (λ z i. inr (numbered_right (nodes_of pattern ++ nodes_if_any guard) (nodes_of body) z i)) inside S v t d two
        (λ y e. turns.guarded_around items needs q clear keeps over waits first fuel pattern x m want h.1.1.0 around S
        matched roots t.ok)
        (λ z i. i) (λ z i. i) (λ i. i) (λ i. i)
        (λ T ok f. turns.named_around items needs q clear keeps over waits first fuel pattern x m want h.1.1.0 around T
        matched ok f) other
    arm_free form x m want id at ty by h g r around matched all = absurd (false≢true h)

    guard_free : (guard : MaybeNode) (x : Standpoint) → Holds (typing.guarded (K x) guard) → Good (nodes_if_any guard) →
        Rises (nodes_if_any guard) → arms.GuardFree items needs q clear keeps over waits first (K x) (Mi guard)
        (nodes_if_any guard)
    guard_free absent x h g r = tt
    guard_free (present guard) x h g r = node_free guard x Taken h.0 g r

  -- a block, whose destination may be its own cell
  pub block_in : (stmts : Nodes) (tail : MaybeNode) (x : Standpoint) (id : ℕ) (ty : TyId) (by : Option Use) →
      Holds (typing.row (K x) id ty (tree.Block stmts tail)) → Good (nodes_among stmts ++ nodes_if_any tail) →
      Rises (nodes_among stmts ++ nodes_if_any tail) → (ns : List Node) →
      Part id (nodes_among stmts ++ nodes_if_any tail) ns → (around : LoopsAndGuards) (own : Bool) (to : Destination)
      (S : Scopes) (v : V) → Ready (K x) around ns S v → DestOk id ns to S v →
      Shown over (Post items needs q clear keeps over waits first fuel around (DestKey to) ns S v (Extends S))
      (forms.block items q (head id ty by) (Ms stmts) (Mi tail) around own to S v)
  block_in stmts tail x id ty by h g rs ns p around own to S v t d =
      let ps = kinds.part_left items needs q clear keeps over waits first fuel id (nodes_among stmts) (nodes_if_any
      tail) ns p in
      let pt = kinds.part_right items needs q clear keeps over waits first fuel id (nodes_among stmts) (nodes_if_any
      tail) ns p in
      rules.scope_free items needs q clear keeps over waits first around (DestKey to) ns id own
      (λ T w. on_value (forms.statements items q around (Ms stmts) T w)
      (forms.tail_of items q (head id ty by) (Mi tail) around to)) S v
      (rules.then_free items needs q clear keeps over waits first around Nothing (DestKey to) (nodes_among stmts) ns
      (statements.Behind items needs q clear keeps over waits first S (K (behind x stmts)) around) (OnTop S)
      (with_scope id own S) v
      (forms.statements items q around (Ms stmts) (with_scope id own S) v)
      (forms.tail_of items q (head id ty by) (Mi tail) around to)
      (statements_free stmts x (λ d. typing.tail_of d tail) h.0 (good_left items needs q clear keeps over waits first fuel (nodes_among stmts) (nodes_if_any tail) g)
      (rises_left (nodes_among stmts) (nodes_if_any tail) rs) around S (with_scope id own S) v (ext_same S)
      (rules.ready_opened items needs q clear keeps over waits first (K x) around (nodes_among stmts) id own S v
      (rules.ready_part items needs q clear keeps over waits first (K x) around (nodes_among stmts) ns S v ps.within
      t))) ps.within
      (λ z k. absurd k) (λ exit T o k. k.0)
      (λ T w k j. statements.tail_free items needs q clear keeps over waits first (K (behind x stmts)) around (head
      id ty by) (Mi tail) to (nodes_if_any tail)
      ns S T w k.0
      (tail_ready tail (behind x stmts) (facts.behind_holds items (λ key. false) q (again.no_clear items needs q
      clear keeps) (again.keeps_none items needs q clear keeps) fuel stmts x (λ d. typing.tail_of d tail) h.0)
      (good_right items needs q clear keeps over waits first fuel (nodes_among stmts) (nodes_if_any tail) g) (rises_right (nodes_among stmts) (nodes_if_any tail) rs)
      x (facts.same_loops items (λ key. false) q (again.no_clear items needs q clear keeps) (again.keeps_none items
      needs q clear keeps) fuel stmts x) (facts.same_answer items (λ key. false) q (again.no_clear items needs q
      clear keeps) (again.keeps_none items needs q clear keeps) fuel stmts x) around id (nodes_among stmts) ns
      ps pt (rises_apart (nodes_among stmts) (nodes_if_any tail) rs) S T v w t to d k.1
      (λ z fr i. j z fr i (λ y. y))) pt.within
      (λ z i. j z (d.free z i)
      (rules.dest_apart items needs q clear keeps over waits first id (nodes_among stmts) ns to S v d ps z i) (λ y.
      y)) d.two))

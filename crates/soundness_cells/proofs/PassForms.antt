-- The pass over the forms, as far as it speaks of scopes: a node of a well typed body leaves nothing behind but what
-- stands in the scopes around it, by whatever exit. One line a form, by the rules of evaluation.
use Rattle.std.proofs.Common.{◌≡◌, ◌⊎◌, inl, inr, ℕ, zero, suc, nat_lt, ◌==◌, ◌&&◌, ◌||◌, not, Bool, true, false, List, [], ◌∷◌, ◌++◌, length, Option, Some, None, is_none, is_some, slice_get, if◌then◌else◌, refl, ap, sym, ◌∙◌, subst}
use Rattle.std.specs.Prelude.{option_and_then, replicate}
use Rattle.std.specs.List.{list_all}
use Rattle.std.specs.Option.{option_map_or}
use Rattle.std.proofs.lemmas.Bool.{false≢true}
use Rattle.std.proofs.lemmas.Bool.Decides.{Decides-eqb}
use Rattle.std.proofs.lemmas.Option.{none-some}
use Rattle.mir_base.specs.declared.place_in_text.Pos.{Pos}
use Rattle.mir_base.specs.declared.trace.Why.{Why}
use Rattle.mir_ty.specs.declared.ty.Ty.{Ty}
use Rattle.mir_ty.specs.declared.ty.TyId.{TyId}
use Rattle.mir_ty.specs.declared.adt.Variant.{Variant}
use Rattle.mir_ty.specs.declared.def.ClosureDef.{ClosureDef}
use Rattle.mir_ty.specs.declared.def.Sig.{Sig}
use Rattle.mir_ty.specs.declared.def.TraitDef.{TraitDef}
use Rattle.mir_ty.specs.Facts.{needs_drop, drop_rule, in_rounds}
use Rattle.mir_ty.specs.ItemTable.{ItemTable, type_at}
use Rattle.store_model.specs.Effects as effects
use Rattle.store_model.specs.Effects.{EffectSite, Action, Effects, OfTuple, OfArray, OfVariant, OfClosure}
use Rattle.store_model.specs.Places.Place.{Step, ToPart, ToElement, ToContent, Place, whole_local}
use Rattle.typed_tree.specs.declared.node.Use.{Use}
use Rattle.typed_tree.specs.Nodes.{number_of, nodes_of, nodes_in, nodes_among, nodes_of_fields, nodes_if_any}
use Rattle.typed_tree.specs.Tree as tree
use Rattle.typed_tree.specs.Tree.{Node, node, Form, Nodes, no_node, a_node, Fields, no_field, a_field, MaybeNode, absent, present}
use Rattle.src_meaning.specs.Evaluation as evaluation
use Rattle.src_meaning.specs.Evaluation.{meaning, meaning_of, meanings, fields_of, meaning_if_any, values_of, in_number_order, insert_field}
use Rattle.src_meaning.specs.Forms as forms
use Rattle.src_meaning.specs.Forms.{Destination, Into, Coerced, coerced, LoopsAndGuards, Meaning, in_loop, loop_destination, keys_of, moved, all_moved, is_never, place_of, site_of}
use Rattle.src_meaning.specs.Scopes.{Entry, Scope, Scopes, with_scope, Exit, Value, Breaks, Continues, Returns, Panics, Run, At, Does, on_value}
use Rattle.src_meaning.specs.Shape as shapes
use Rattle.src_meaning.specs.Shape.{NodeHead, head, Shape, BoundName, shape, shape_of, kind_of, extended, place_of_key}
use Rattle.well_typed.specs.Claim.{Claim, Holds, fact, both, some, nothing}
use Rattle.well_typed.specs.Nodes as typing
use Rattle.well_typed.specs.Patterns as pattern_rules
use Rattle.well_typed.specs.Patterns.{Matched}
use Rattle.well_typed.specs.Names.{are_distinct_numbers}
use Rattle.well_typed.specs.Places.{InScope, LoopAround, Context, with_entries, within, entry_with, loop_with, ty_of, form_of, Standing, Taken, Wanted, Passed, Base, Used, Stored, borrow_by, in_guard, is_place}
use Rattle.well_typed.specs.Types as types
use Rattle.soundness_values.proofs.Leaving.{Shown, shown_more, Among}
use Rattle.soundness_cells.proofs.PassAround as named
use Rattle.soundness_cells.proofs.PassBranches as branches
use Rattle.soundness_cells.proofs.PassClear.{KeepsClear, any, Nothing, MovedByAny, operands_of}
use Rattle.soundness_cells.proofs.PassFacts as facts
use Rattle.soundness_cells.proofs.PassFacts.{Standpoint, context, with_names, in_a_loop, behind, left, right, name_alone}
use Rattle.soundness_values.proofs.PassHeads.{IsName, type_is, number_is, shape_is, named_form}
use Rattle.soundness_cells.proofs.PassLoops as loops
use Rattle.soundness_cells.proofs.PassNames as names
use Rattle.soundness_cells.proofs.PassNodes as nodes
use Rattle.soundness_cells.proofs.PassParts as parts
use Rattle.soundness_cells.proofs.PassPatterns as patterns
use Rattle.soundness_cells.proofs.PassRules as rules
use Rattle.soundness_cells.proofs.PassRules.{InList}
use Rattle.soundness_cells.proofs.PassScopes as scopes
use Rattle.soundness_cells.proofs.PassScopes.{key_of, entries_of, NamedAt, Other, seq, inside}
use Rattle.soundness_cells.proofs.PassStatements as statements
use Rattle.soundness_cells.proofs.PassSteps as steps
use Rattle.soundness_values.proofs.PlaceTypes.{some_holds, same_type}

module _ {V : Type 0} (items : ItemTable) (needs : ℕ → Bool) (q : Effects V) (clear : V → ℕ → Type 0)
    (keeps : KeepsClear q needs clear) (fuel : ℕ) where
  abbrev Held : (ℕ → Type 0) → List Entry → V → Type 0
  Held = scopes.Held items needs q clear keeps

  abbrev After : Context → LoopsAndGuards → (ℕ → Type 0) → (Scopes → Type 0) → Exit → Scopes → V → Type 0
  After = scopes.After items needs q clear keeps

  abbrev AroundOk : Context → LoopsAndGuards → Scopes → Type 0
  AroundOk = scopes.AroundOk items needs

  abbrev Inside : Bool → Scopes → Scopes → Type 0
  Inside = scopes.Inside items needs

  abbrev Grown : Bool → Scopes → Scopes → Type 0
  Grown = scopes.Grown items needs

  abbrev Grows : Scopes → Scopes → Type 0
  Grows = scopes.Grows items needs

  abbrev Lands : Scopes → ℕ → Type 0
  Lands = scopes.Lands items needs

  abbrev Typed : Entry → Type 0
  Typed = scopes.Typed items needs

  abbrev Suits : TyId → Destination → Type 0
  Suits = scopes.Suits items needs

  abbrev Sound : Context → Meaning V → Type 0
  Sound = rules.Sound items needs q clear keeps

  abbrev DoesSo : Context → LoopsAndGuards → (ℕ → Type 0) → Does V → Type 0
  DoesSo = steps.DoesSo items needs q clear keeps

  abbrev Good : List Node → Type 0
  Good = nodes.Good items needs q clear keeps fuel

  abbrev K : Standpoint → Context
  K = context items

  abbrev M : Node → Meaning V
  M = meaning items q fuel

  abbrev Ms : Nodes → List (Meaning V)
  Ms = meanings items q fuel

  abbrev Mf : Fields → List (ℕ × Meaning V)
  Mf = fields_of items q fuel

  abbrev AllSound : Context → List (Meaning V) → Type 0
  AllSound = rules.AllSound items needs q clear keeps

  -- ---- the forms

  mutual
    pub node_so : (n : Node) (x : Standpoint) (standing : Standing) → Holds (typing.typed (K x) standing n) →
        Good (nodes_of n) → Sound (K x) (M n)
    node_so (node id at ty by form) x standing h g = form_so form x id ty by h.1 g.0 g.1

    form_so : (form : Form) (x : Standpoint) (id : ℕ) (ty : TyId) (by : Option Use) → Holds (typing.row (K x) id ty form) →
        (needs_drop items ty ≡ false → needs id ≡ false) → Good (nodes_in form) →
        Sound (K x) (meaning_of items q fuel form (head id ty by) (shape_of items form (head id ty by)))
    form_so (tree.Number value) x id ty by h n g = nodes.effect_so items needs q clear keeps fuel (K x) (head id ty by) (shape_of items (tree.Number value) (head id ty by))
        (λ site. effects.Put site (effects.Number value (kind_of items ty))) n (λ a. refl) (λ site key e. e)
    form_so (tree.Truth value) x id ty by h n g = nodes.effect_so items needs q clear keeps fuel (K x) (head id ty by) (shape_of items (tree.Truth value) (head id ty by))
        (λ site. effects.Put site (effects.Truth value)) n (λ a. refl) (λ site key e. e)
    form_so tree.UnitValue x id ty by h n g = nodes.effect_so items needs q clear keeps fuel (K x) (head id ty by) (shape_of items tree.UnitValue (head id ty by))
        (λ site. effects.Put site effects.UnitValue) n (λ a. refl) (λ site key e. e)
    form_so (tree.Variable key) x id ty by h n g =
        let y = some_holds (entry_with key x.entries) (λ y. fact (types.is_same ty y.ty)) h in
        nodes.place_so items needs q clear keeps fuel (K x) (head id ty by) (shape_of items (tree.Variable key) (head id ty by)) (λ around. At Value) n
        (λ around S v ok k. ((scopes.not_grown items needs S, k), λ key' e. ok.names key y.0 y.1.0 key' e))
    form_so (tree.Captured closure part name) x id ty by h n g =
        nodes.place_so items needs q clear keeps fuel (K x) (head id ty by) (shape_of items (tree.Captured closure part name) (head id ty by))
        (λ around. At Value) n (λ around S v ok k. (
          (scopes.not_grown items needs S, k),
          λ key e. absurd (nodes.no_whole items needs q clear keeps fuel (ToPart part) (place_of_key closure around.aliases) key e),
        ))
    form_so (tree.Field base part) x id ty by h n g =
        nodes.place_so items needs q clear keeps fuel (K x) (head id ty by) (shape_of items (tree.Field base part) (head id ty by)) (M base).reach n
        (parts.part_reached items needs q clear keeps fuel (K x) (M base) (λ around. (shape items base).place around.aliases) (ToPart part)
        (node_so base x Base h.0 g))
    form_so (tree.Index base index length) x id ty by h n g =
        let b = node_so base x Base h.0 (facts.g_left items needs q clear keeps fuel (nodes_of base) (nodes_of index) g) in
        let i = node_so index x Taken h.1.0 (facts.g_right items needs q clear keeps fuel (nodes_of base) (nodes_of index) g) in
        nodes.place_so items needs q clear keeps fuel (K x) (head id ty by) (shape_of items (tree.Index base index length) (head id ty by))
        (forms.reach_element items q (head id ty by) (shape_of items (tree.Index base index length) (head id ty by)) (M base)
        (M index) length) n
        (λ around S v ok k. shown_more any (λ exit T u y. (
          y,
          branches.named_at items needs q clear keeps exit
              (λ key. extended (ToElement (number_of index)) ((shape items base).place around.aliases) ≡ whole_local key) T
              (λ key e. absurd (nodes.no_whole items needs q clear keeps fuel (ToElement (number_of index)) ((shape items base).place around.aliases) key e)),
        ))
        (forms.reach_element items q (head id ty by) (shape_of items (tree.Index base index length) (head id ty by)) (M base)
        (M index) length around S v)
        (steps.element_so items needs q clear keeps (K x) around (head id ty by)
        (shape_of items (tree.Index base index length) (head id ty by)) (M base) (M index) length b i
        (facts.free_cell items needs q clear keeps fuel (K x) index i (nodes.or_never_none items needs q clear keeps fuel (types.is_usize items (ty_of index)) (ty_of index)
        (nodes.usize_none items needs q clear keeps fuel (ty_of index)) h.1.1.0)) S v ok k))
    form_so (tree.Deref base) x id ty by h n g =
        nodes.place_so items needs q clear keeps fuel (K x) (head id ty by) (shape_of items (tree.Deref base) (head id ty by)) (M base).reach n
        (parts.part_reached items needs q clear keeps fuel (K x) (M base) (λ around. (shape items base).place around.aliases) ToContent
        (node_so base x Base h.0 g))
    form_so (tree.Not operand) x id ty by h n g =
        nodes.operands_value items needs q clear keeps fuel (K x) (head id ty by) (shape_of items (tree.Not operand) (head id ty by)) (M operand ∷ [])
        (λ site. effects.Not site (moved id (M operand).head.id)) (node_so operand x Taken h.0 g, tt) n (λ a. refl)
        (λ site key k. nodes.all_are_moved items needs q clear keeps fuel id (M operand ∷ []) key k) (λ site key e. e)
    form_so (tree.Negate operand) x id ty by h n g =
        nodes.operands_value items needs q clear keeps fuel (K x) (head id ty by) (shape_of items (tree.Negate operand) (head id ty by)) (M operand ∷ [])
        (λ site. effects.Negate site (moved id (M operand).head.id)) (node_so operand x Taken h.0 g, tt) n (λ a. refl)
        (λ site key k. nodes.all_are_moved items needs q clear keeps fuel id (M operand ∷ []) key k) (λ site key e. e)
    form_so (tree.Arithmetic operator left right) x id ty by h n g =
        nodes.operands_value items needs q clear keeps fuel (K x) (head id ty by) (shape_of items (tree.Arithmetic operator left right) (head id ty by))
        (M left ∷ M right ∷ []) (λ site. effects.Compute site operator (moved id (M left).head.id) (moved id (M right).head.id)) (
          node_so left x (Wanted ty) h.0 (facts.g_left items needs q clear keeps fuel (nodes_of left) (nodes_of right) g),
          (node_so right x (Wanted ty) h.1.0 (facts.g_right items needs q clear keeps fuel (nodes_of left) (nodes_of right) g), tt),
        ) n (λ a. refl)
        (λ site key k. nodes.all_are_moved items needs q clear keeps fuel id (M left ∷ M right ∷ []) key k) (λ site key e. e)
    form_so (tree.Comparison operator left right) x id ty by h n g =
        nodes.operands_value items needs q clear keeps fuel (K x) (head id ty by) (shape_of items (tree.Comparison operator left right) (head id ty by))
        (M left ∷ M right ∷ []) (λ site. effects.Compare site operator (moved id (M left).head.id) (moved id (M right).head.id)) (
          node_so left x Taken h.0 (facts.g_left items needs q clear keeps fuel (nodes_of left) (nodes_of right) g),
          (node_so right x Taken h.1.0 (facts.g_right items needs q clear keeps fuel (nodes_of left) (nodes_of right) g), tt),
        ) n (λ a. refl)
        (λ site key k. nodes.all_are_moved items needs q clear keeps fuel id (M left ∷ M right ∷ []) key k) (λ site key e. e)
    form_so (tree.And left right) x id ty by h n g =
        let l = node_so left x Taken h.0 (facts.g_left items needs q clear keeps fuel (nodes_of left) (nodes_of right) g) in
        let r = node_so right x Taken h.1.0 (facts.g_right items needs q clear keeps fuel (nodes_of left) (nodes_of right) g) in
        nodes.scope_so items needs q clear keeps fuel (K x) (head id ty by) (shape_of items (tree.And left right) (head id ty by))
        (evaluation.conjunction items q fuel (head id ty by) (M left) (M right)) n (λ a. refl)
        (λ around to S v ok k lands suits. let e = suits (nodes.bool_none items needs q clear keeps fuel ty h.1.1.1.1) in
        steps.condition_so items needs q clear keeps (K x) around (M left)
        (After (K x) around (λ key. key ≡ key_of to) (Grows S)) (forms.alone items q around (M right) to) (evaluation.shortcut items q fuel (head id ty by) false to) S v l
        (facts.free_cell items needs q clear keeps fuel (K x) left l (nodes.or_never_none items needs q clear keeps fuel (types.is_bool items (ty_of left)) (ty_of left)
        (nodes.bool_none items needs q clear keeps fuel (ty_of left)) h.1.1.0)) ok k
        (λ w k. facts.alone_grows items needs q clear keeps fuel (K x) around (M right) to S w r ok k (inl e) (facts.free_suits items needs q clear keeps fuel (M right).head.ty to e))
        (λ w k. scopes.deliver_so items needs q clear keeps (K x) around (Grows S) S (scopes.not_grown items needs S) (head id ty by)
        (λ site. effects.Put site (effects.Truth false)) to Nothing w (λ site key z. absurd z) (λ site key z. z) k)
        (facts.from_condition items needs q clear keeps fuel (K x) around (λ key. key ≡ key_of to) S))
    form_so (tree.Or left right) x id ty by h n g =
        let l = node_so left x Taken h.0 (facts.g_left items needs q clear keeps fuel (nodes_of left) (nodes_of right) g) in
        let r = node_so right x Taken h.1.0 (facts.g_right items needs q clear keeps fuel (nodes_of left) (nodes_of right) g) in
        nodes.scope_so items needs q clear keeps fuel (K x) (head id ty by) (shape_of items (tree.Or left right) (head id ty by))
        (evaluation.disjunction items q fuel (head id ty by) (M left) (M right)) n (λ a. refl)
        (λ around to S v ok k lands suits. let e = suits (nodes.bool_none items needs q clear keeps fuel ty h.1.1.1.1) in
        steps.condition_so items needs q clear keeps (K x) around (M left)
        (After (K x) around (λ key. key ≡ key_of to) (Grows S)) (evaluation.shortcut items q fuel (head id ty by) true to) (forms.alone items q around (M right) to) S v l
        (facts.free_cell items needs q clear keeps fuel (K x) left l (nodes.or_never_none items needs q clear keeps fuel (types.is_bool items (ty_of left)) (ty_of left)
        (nodes.bool_none items needs q clear keeps fuel (ty_of left)) h.1.1.0)) ok k
        (λ w k. scopes.deliver_so items needs q clear keeps (K x) around (Grows S) S (scopes.not_grown items needs S) (head id ty by)
        (λ site. effects.Put site (effects.Truth true)) to Nothing w (λ site key z. absurd z) (λ site key z. z) k)
        (λ w k. facts.alone_grows items needs q clear keeps fuel (K x) around (M right) to S w r ok k (inl e) (facts.free_suits items needs q clear keeps fuel (M right).head.ty to e))
        (facts.from_condition items needs q clear keeps fuel (K x) around (λ key. key ≡ key_of to) S))
    form_so (tree.Assign target value) x id ty by h n g =
        let p = node_so target x Stored h.0 (facts.g_left items needs q clear keeps fuel (nodes_of target) (nodes_of value) g) in
        let w = node_so value x (Wanted (ty_of target)) h.1.1.0 (facts.g_right items needs q clear keeps fuel (nodes_of target) (nodes_of value) g) in
        nodes.value_so items needs q clear keeps fuel (K x) (head id ty by) (shape_of items (tree.Assign target value) (head id ty by))
        (forms.assigning items q (head id ty by) (M target) (M value)) n (λ a. refl)
        (λ around own to S v ok k lands suits. loops.assigning_so items needs q clear keeps (K x) around own S ok (head id ty by) to (M target)
        (M value) v p w (suits (nodes.unit_none items needs q clear keeps fuel ty h.1.1.1))
        (λ key e. facts.stored_names items needs q clear keeps fuel target x h.0 around S ok key e) k)
    form_so (tree.Call body args) x id ty by h n g =
        let t = some_holds (slice_get items.bodies body)
        (λ sig. both (fact (types.is_same ty sig.result)) (typing.arguments (K x) sig.params args)) h.0 in
        nodes.operands_value items needs q clear keeps fuel (K x) (head id ty by) (shape_of items (tree.Call body args) (head id ty by)) (Ms args)
        (λ site. effects.Call site body (all_moved id (Ms args))) (args_so t.0.params args x t.1.1.1 g) n (λ a. refl)
        (λ site key k. nodes.all_are_moved items needs q clear keeps fuel id (Ms args) key k) (λ site key e. e)
    form_so (tree.MethodCall body receiver args) x id ty by h n g =
        let t = some_holds (slice_get items.bodies body)
        (λ sig. both (fact (types.is_same ty sig.result)) (typing.first_and_rest (λ t. typing.typed (K x) (Passed t) receiver) (λ ts. typing.arguments (K x) ts args) sig.params)) h.0 in
        nodes.operands_value items needs q clear keeps fuel (K x) (head id ty by) (shape_of items (tree.MethodCall body receiver args) (head id ty by)) (M receiver ∷ Ms args)
        (λ site. effects.Call site body (all_moved id (M receiver ∷ Ms args))) (parts.receiver_so items needs q clear keeps fuel t.0.params receiver args x t.1.1.1
        (λ ty k. node_so receiver x (Passed ty) k (facts.g_left items needs q clear keeps fuel (nodes_of receiver) (nodes_among args) g))
        (λ tys k. args_so tys args x k (facts.g_right items needs q clear keeps fuel (nodes_of receiver) (nodes_among args) g))) n (λ a. refl)
        (λ site key k. nodes.all_are_moved items needs q clear keeps fuel id (M receiver ∷ Ms args) key k) (λ site key e. e)
    form_so (tree.VirtualCall trait_no method receiver args) x id ty by h n g =
        let t = some_holds (slice_get items.traits trait_no) (λ def. some (slice_get def.methods method)
        (λ sig. both (fact (types.is_same ty sig.result)) (typing.first_and_rest (λ t. typing.typed (K x) (Passed t) receiver) (λ ts. typing.arguments (K x) ts args) sig.params))) h in
        let s = some_holds (slice_get t.0.methods method)
        (λ sig. both (fact (types.is_same ty sig.result)) (typing.first_and_rest (λ t. typing.typed (K x) (Passed t) receiver) (λ ts. typing.arguments (K x) ts args) sig.params)) t.1.1 in
        nodes.operands_value items needs q clear keeps fuel (K x) (head id ty by) (shape_of items (tree.VirtualCall trait_no method receiver args) (head id ty by)) (M receiver ∷ Ms args)
        (λ site. effects.CallVirtual site trait_no method (all_moved id (M receiver ∷ Ms args))) (parts.receiver_so items needs q clear keeps fuel s.0.params receiver args x s.1.1.1
        (λ ty k. node_so receiver x (Passed ty) k (facts.g_left items needs q clear keeps fuel (nodes_of receiver) (nodes_among args) g))
        (λ tys k. args_so tys args x k (facts.g_right items needs q clear keeps fuel (nodes_of receiver) (nodes_among args) g))) n (λ a. refl)
        (λ site key k. nodes.all_are_moved items needs q clear keeps fuel id (M receiver ∷ Ms args) key k) (λ site key e. e)
    form_so (tree.ClosureCall body callee args) x id ty by h n g =
        let t = some_holds (slice_get items.bodies body)
        (λ sig. both (fact (types.is_same ty sig.result)) (typing.first_and_rest (λ t. typing.typed (K x) (Passed t) callee) (λ ts. typing.arguments (K x) ts args) sig.params)) h.0 in
        nodes.operands_value items needs q clear keeps fuel (K x) (head id ty by) (shape_of items (tree.ClosureCall body callee args) (head id ty by)) (M callee ∷ Ms args)
        (λ site. effects.Call site body (all_moved id (M callee ∷ Ms args))) (parts.receiver_so items needs q clear keeps fuel t.0.params callee args x t.1.1.1
        (λ ty k. node_so callee x (Passed ty) k (facts.g_left items needs q clear keeps fuel (nodes_of callee) (nodes_among args) g))
        (λ tys k. args_so tys args x k (facts.g_right items needs q clear keeps fuel (nodes_of callee) (nodes_among args) g))) n (λ a. refl)
        (λ site key k. nodes.all_are_moved items needs q clear keeps fuel id (M callee ∷ Ms args) key k) (λ site key e. e)
    form_so (tree.Make adt variant fields) x id ty by h n g =
        let t = some_holds (types.variant_at items adt variant) (λ v. both
        (fact (are_distinct_numbers (pattern_rules.field_numbers fields) && length (pattern_rules.field_numbers fields) == length v.fields))
        (typing.made_fields (K x) v.fields fields)) h.1 in
        nodes.operands_value items needs q clear keeps fuel (K x) (head id ty by) (shape_of items (tree.Make adt variant fields) (head id ty by))
        (values_of (Mf fields))
        (λ site. effects.Build site (OfVariant adt variant) (all_moved id (values_of (in_number_order (Mf fields)))))
        (fields_so t.0.fields fields x t.1.1.1 g) n (λ a. refl)
        (λ site key k. nodes.all_are_moved items needs q clear keeps fuel id (values_of (in_number_order (Mf fields))) key
        (facts.in_order items needs q clear keeps fuel (Mf fields) key k)) (λ site key e. e)
    form_so (tree.Tuple parts) x id ty by h n g =
        let t = some_holds (types.tuple_of items ty) (λ tys. typing.made_parts (K x) tys parts) h in
        nodes.operands_value items needs q clear keeps fuel (K x) (head id ty by) (shape_of items (tree.Tuple parts) (head id ty by)) (Ms parts)
        (λ site. effects.Build site OfTuple (all_moved id (Ms parts))) (parts_so t.0 parts x t.1.1 g) n (λ a. refl)
        (λ site key k. nodes.all_are_moved items needs q clear keeps fuel id (Ms parts) key k) (λ site key e. e)
    form_so (tree.Array elements) x id ty by h n g =
        let t = some_holds (types.array_of items ty) (λ a. both
        (fact (pattern_rules.count_of elements == a.1)) (typing.elements_of (K x) a.0 elements)) h in
        nodes.operands_value items needs q clear keeps fuel (K x) (head id ty by) (shape_of items (tree.Array elements) (head id ty by)) (Ms elements)
        (λ site. effects.Build site OfArray (all_moved id (Ms elements))) (elements_so t.0.0 elements x t.1.1.1 g) n (λ a. refl)
        (λ site key k. nodes.all_are_moved items needs q clear keeps fuel id (Ms elements) key k) (λ site key e. e)
    form_so (tree.Closure closure captures) x id ty by h n g =
        let t = some_holds (slice_get items.closures closure) (λ def. typing.captured (K x) def.captures captures) h.1 in
        nodes.operands_value items needs q clear keeps fuel (K x) (head id ty by) (shape_of items (tree.Closure closure captures) (head id ty by)) (Ms captures)
        (λ site. effects.Build site (OfClosure closure) (all_moved id (Ms captures))) (captures_so t.0.captures captures x t.1.1 g) n (λ a. refl)
        (λ site key k. nodes.all_are_moved items needs q clear keeps fuel id (Ms captures) key k) (λ site key e. e)
    form_so (tree.NewBox content) x id ty by h n g =
        let t = some_holds (types.boxed_of items ty)
        (λ inside. both (typing.typed (K x) (Wanted inside) content) (fact (not (types.is_dyn items inside)))) h in
        nodes.operands_value items needs q clear keeps fuel (K x) (head id ty by) (shape_of items (tree.NewBox content) (head id ty by)) (M content ∷ [])
        (λ site. effects.NewBox site (moved id (M content).head.id)) (node_so content x (Wanted t.0) t.1.1.0 g, tt) n
        (λ a. refl) (λ site key k. nodes.all_are_moved items needs q clear keeps fuel id (M content ∷ []) key k) (λ site key e. e)
    form_so (tree.Print operand) x id ty by h n g =
        nodes.unit_value items needs q clear keeps fuel (K x) (head id ty by) (shape_of items (tree.Print operand) (head id ty by)) (M operand) effects.Print
        (node_so operand x Taken h.0 g) n (λ a. refl) (λ o. refl) (λ o. refl)
    form_so tree.Ask x id ty by h n g = nodes.effect_so items needs q clear keeps fuel (K x) (head id ty by) (shape_of items tree.Ask (head id ty by)) effects.Ask n
        (λ a. refl) (λ site key e. e)
    form_so (tree.DropValue operand) x id ty by h n g =
        let o = node_so operand x Taken h.0 g in
        nodes.value_so items needs q clear keeps fuel (K x) (head id ty by) (shape_of items (tree.DropValue operand) (head id ty by))
        (evaluation.drops items q fuel (head id ty by) (M operand)) n (λ a. refl)
        (λ around own to S v ok k lands suits. loops.dropping_so items needs q clear keeps (K x) around own S ok (head id ty by) to (M operand) v o
        (suits (nodes.unit_none items needs q clear keeps fuel ty h.1)) k)
    form_so (tree.Forget operand) x id ty by h n g =
        nodes.unit_value items needs q clear keeps fuel (K x) (head id ty by) (shape_of items (tree.Forget operand) (head id ty by)) (M operand) effects.Forget
        (node_so operand x Taken h.0 g) n (λ a. refl) (λ o. refl) (λ o. refl)
    form_so tree.Panic x id ty by h n g =
        nodes.value_so items needs q clear keeps fuel (K x) (head id ty by) (shape_of items tree.Panic (head id ty by))
        (λ around own to. forms.panics items q Why.Explicit) n (λ a. refl)
        (λ around own to S v ok k lands suits. branches.panics_so items needs q clear keeps (K x) around (λ key. key ≡ key_of to) (Grown own S)
        Why.Explicit S v (parts.unchanged items needs q clear keeps fuel own S) k)
    form_so (tree.Borrow unique base) x id ty by h n g =
        let b = node_so base x (Used (borrow_by unique)) h.0 g in
        nodes.value_so items needs q clear keeps fuel (K x) (head id ty by) (shape_of items (tree.Borrow unique base) (head id ty by))
        (forms.borrowing items q (head id ty by) unique (M base)) n (λ a. refl)
        (λ around own to S v ok k lands suits. steps.borrow_so items needs q clear keeps (K x) around (head id ty by) unique (M base) own to S v ok
        (λ o. lands (parts.owned items needs q clear keeps fuel own o)) k b)
    form_so (tree.Unsize trait_no operand) x id ty by h n g =
        let o = node_so operand x Taken h.0 g in
        let d = parts.leaf_node items needs q clear keeps fuel operand x Taken h.0 h.1.0 (facts.box_needs items needs q clear keeps fuel (ty_of operand) (parts.boxed_from items needs q clear keeps fuel (ty_of operand) trait_no (right _ _ h.1.1))) in
        nodes.value_so items needs q clear keeps fuel (K x) (head id ty by) (shape_of items (tree.Unsize trait_no operand) (head id ty by))
        (evaluation.coerce items q fuel (head id ty by) trait_no (M operand)) n (λ a. refl)
        (λ around own to S v ok k lands suits. parts.coerced_so items needs q clear keeps fuel (K x) operand trait_no o d
        (facts.box_needs items needs q clear keeps fuel (ty_of operand) (parts.boxed_from items needs q clear keeps fuel (ty_of operand) trait_no (right _ _ h.1.1))) around own to S v ok k
        (λ e. lands (parts.owned items needs q clear keeps fuel own e)))
    form_so (tree.Block stmts tail) x id ty by h n g =
        let t = tail_so tail (behind x stmts) (facts.behind_holds items needs q clear keeps fuel stmts x (λ d. typing.tail_of d tail) h.0)
        (facts.g_right items needs q clear keeps fuel (nodes_among stmts) (nodes_if_any tail) g) in
        nodes.value_so items needs q clear keeps fuel (K x) (head id ty by) (shape_of items (tree.Block stmts tail) (head id ty by))
        (forms.block items q (head id ty by) (Ms stmts) (meaning_if_any items q fuel tail)) n (λ a. refl)
        (λ around own to S v ok k lands suits. parts.block_so items needs q clear keeps fuel x id ty by stmts tail around own to S v
        (λ T w ok' i k'. statements_so stmts x (λ d. typing.tail_of d tail) h.0 (facts.g_left items needs q clear keeps fuel (nodes_among stmts) (nodes_if_any tail) g)
        around own S T w ok' i k') t h.1 ok k (lands (rules.or_second items needs q clear keeps own true refl)) (inr suits))
    form_so (tree.If condition consequent absent) x id ty by h n g =
        let c = node_so condition x Taken h.0 (facts.g_left items needs q clear keeps fuel (nodes_of condition) (nodes_of consequent) (facts.g_left items needs q clear keeps fuel (nodes_of condition ++ nodes_of consequent) [] g)) in
        let b = node_so consequent x Taken h.1.1.0 (facts.g_right items needs q clear keeps fuel (nodes_of condition) (nodes_of consequent) (facts.g_left items needs q clear keeps fuel (nodes_of condition ++ nodes_of consequent) [] g)) in
        nodes.scope_so items needs q clear keeps fuel (K x) (head id ty by) (shape_of items (tree.If condition consequent absent) (head id ty by))
        (evaluation.if_else items q fuel (head id ty by) (M condition) (M consequent) None) n (λ a. refl)
        (λ around to S v ok k lands suits. let e = suits (nodes.unit_none items needs q clear keeps fuel ty h.1.1.1.1) in
        parts.if_so items needs q clear keeps fuel x id ty by condition c h.1.0 (forms.alone items q around (M consequent) to)
        (forms.put_unit items q (head id ty by) to) around to S v ok k
        (λ w k. facts.alone_in items needs q clear keeps fuel (K x) around (M consequent) to S w b ok k (lands refl) (facts.free_suits items needs q clear keeps fuel (M consequent).head.ty to e))
        (λ w k. loops.unit_so items needs q clear keeps (K x) around (λ T. T ≡ S) S refl (head id ty by) to w k))
    form_so (tree.If condition consequent (present otherwise)) x id ty by h n g =
        let gc = facts.g_left items needs q clear keeps fuel (nodes_of condition ++ nodes_of consequent) (nodes_of otherwise) g in
        let c = node_so condition x Taken h.0 (facts.g_left items needs q clear keeps fuel (nodes_of condition) (nodes_of consequent) gc) in
        let b = node_so consequent x Taken h.1.1.0 (facts.g_right items needs q clear keeps fuel (nodes_of condition) (nodes_of consequent) gc) in
        let o = node_so otherwise x Taken h.1.1.1.0 (facts.g_right items needs q clear keeps fuel (nodes_of condition ++ nodes_of consequent) (nodes_of otherwise) g) in
        nodes.scope_so items needs q clear keeps fuel (K x) (head id ty by) (shape_of items (tree.If condition consequent (present otherwise)) (head id ty by))
        (evaluation.if_else items q fuel (head id ty by) (M condition) (M consequent) (Some (M otherwise))) n (λ a. refl)
        (λ around to S v ok k lands suits.
        parts.if_so items needs q clear keeps fuel x id ty by condition c h.1.0 (forms.alone items q around (M consequent) to)
        (forms.alone items q around (M otherwise) to) around to S v ok k
        (λ w k. facts.alone_in items needs q clear keeps fuel (K x) around (M consequent) to S w b ok k (lands refl)
        (facts.node_suits items needs q clear keeps fuel consequent ty to (left _ _ (left _ _ h.1.1.1.1)) suits))
        (λ w k. facts.alone_in items needs q clear keeps fuel (K x) around (M otherwise) to S w o ok k (lands refl)
        (facts.node_suits items needs q clear keeps fuel otherwise ty to (left _ _ (right _ _ (left _ _ h.1.1.1.1))) suits)))
    form_so (tree.IfLet pattern scrutinee consequent absent) x id ty by h n g =
        let g3 = facts.g_left items needs q clear keeps fuel ((nodes_of pattern ++ nodes_of scrutinee) ++ nodes_of consequent) [] g in
        let g2 = facts.g_left items needs q clear keeps fuel (nodes_of pattern ++ nodes_of scrutinee) (nodes_of consequent) g3 in
        let s = node_so scrutinee x (Used Use.Borrow) h.0 (facts.g_right items needs q clear keeps fuel (nodes_of pattern) (nodes_of scrutinee) g2) in
        let b = node_so consequent (with_names (pattern_rules.entries_of pattern) x) Taken h.1.1.0
        (facts.g_right items needs q clear keeps fuel (nodes_of pattern ++ nodes_of scrutinee) (nodes_of consequent) g3) in
        nodes.scope_so items needs q clear keeps fuel (K x) (head id ty by)
        (shape_of items (tree.IfLet pattern scrutinee consequent absent) (head id ty by))
        (evaluation.if_let items q fuel (head id ty by) (M pattern) (M scrutinee) (M consequent) None) n (λ a. refl)
        (λ around to S v ok k lands suits. parts.if_let_so items needs q clear keeps fuel x id ty by pattern scrutinee consequent s b
        (facts.pattern_here items needs q clear keeps fuel pattern (typing.matched_in false (K x) scrutinee) (ty_of scrutinee) h.1.0.1
        (facts.g_left items needs q clear keeps fuel (nodes_of pattern) (nodes_of scrutinee) g2))
        (forms.put_unit items q (head id ty by) to) around to S v ok k (lands refl)
        (facts.free_suits items needs q clear keeps fuel (M consequent).head.ty to (suits (nodes.unit_none items needs q clear keeps fuel ty h.1.1.1.1)))
        (λ w k. loops.unit_so items needs q clear keeps (K x) around (λ T. T ≡ S) S refl (head id ty by) to w k))
    form_so (tree.IfLet pattern scrutinee consequent (present otherwise)) x id ty by h n g =
        let g3 = facts.g_left items needs q clear keeps fuel ((nodes_of pattern ++ nodes_of scrutinee) ++ nodes_of consequent) (nodes_of otherwise) g in
        let g2 = facts.g_left items needs q clear keeps fuel (nodes_of pattern ++ nodes_of scrutinee) (nodes_of consequent) g3 in
        let s = node_so scrutinee x (Used Use.Borrow) h.0 (facts.g_right items needs q clear keeps fuel (nodes_of pattern) (nodes_of scrutinee) g2) in
        let b = node_so consequent (with_names (pattern_rules.entries_of pattern) x) Taken h.1.1.0
        (facts.g_right items needs q clear keeps fuel (nodes_of pattern ++ nodes_of scrutinee) (nodes_of consequent) g3) in
        let o = node_so otherwise x Taken h.1.1.1.0
        (facts.g_right items needs q clear keeps fuel ((nodes_of pattern ++ nodes_of scrutinee) ++ nodes_of consequent) (nodes_of otherwise) g) in
        nodes.scope_so items needs q clear keeps fuel (K x) (head id ty by)
        (shape_of items (tree.IfLet pattern scrutinee consequent (present otherwise)) (head id ty by))
        (evaluation.if_let items q fuel (head id ty by) (M pattern) (M scrutinee) (M consequent) (Some (M otherwise))) n
        (λ a. refl)
        (λ around to S v ok k lands suits. parts.if_let_so items needs q clear keeps fuel x id ty by pattern scrutinee consequent s b
        (facts.pattern_here items needs q clear keeps fuel pattern (typing.matched_in false (K x) scrutinee) (ty_of scrutinee) h.1.0.1
        (facts.g_left items needs q clear keeps fuel (nodes_of pattern) (nodes_of scrutinee) g2))
        (forms.alone items q around (M otherwise) to) around to S v ok k (lands refl)
        (facts.node_suits items needs q clear keeps fuel consequent ty to (left _ _ (left _ _ h.1.1.1.1)) suits)
        (λ w k. facts.alone_in items needs q clear keeps fuel (K x) around (M otherwise) to S w o ok k (lands refl)
        (facts.node_suits items needs q clear keeps fuel otherwise ty to (left _ _ (right _ _ (left _ _ h.1.1.1.1))) suits)))
    form_so (tree.Match scrutinee arms) x id ty by h n g =
        let s = node_so scrutinee x (Used Use.Borrow) h.0 (facts.g_left items needs q clear keeps fuel (nodes_of scrutinee) (nodes_among arms) g) in
        nodes.value_so items needs q clear keeps fuel (K x) (head id ty by) (shape_of items (tree.Match scrutinee arms) (head id ty by))
        (forms.matching items q (head id ty by) (M scrutinee) (Ms arms)) n (λ a. refl)
        (λ around own to S v ok k lands suits. branches.matching_so items needs q clear keeps (K x) around (head id ty by) (M scrutinee) (Ms arms) own to
        S v s (arms_so arms x (typing.matched_in false (K x) scrutinee) (ty_of scrutinee) h.1.0
        (facts.g_right items needs q clear keeps fuel (nodes_of scrutinee) (nodes_among arms) g))
        (parts.arms_suit items needs q clear keeps fuel arms ty to (left (list_all (types.fits items ty) (typing.types_in arms)) _ h.1.1.0) suits) ok
        (lands (rules.or_second items needs q clear keeps own true refl)) k)
    form_so (tree.Loop body) x id ty by h n g =
        let b = node_so body (in_a_loop (record { loop = id; ty = ty; has_value = true }) x) Taken h.0 g in
        nodes.scope_so items needs q clear keeps fuel (K x) (head id ty by) (shape_of items (tree.Loop body) (head id ty by))
        (evaluation.endless items q fuel (head id ty by) (M body)) n (λ a. refl)
        (λ around to S v ok k lands suits. parts.loop_so items needs q clear keeps fuel x id ty by body b h.1.0 around to S v ok k (lands refl) suits)
    form_so (tree.While condition body) x id ty by h n g =
        let c = node_so condition (parts.looping items needs q clear keeps fuel id ty x) Taken h.0 (facts.g_left items needs q clear keeps fuel (nodes_of condition) (nodes_of body) g) in
        let b = node_so body (parts.looping items needs q clear keeps fuel id ty x) Taken h.1.1.0 (facts.g_right items needs q clear keeps fuel (nodes_of condition) (nodes_of body) g) in
        nodes.scope_so items needs q clear keeps fuel (K x) (head id ty by) (shape_of items (tree.While condition body) (head id ty by))
        (evaluation.while_true items q fuel (head id ty by) (M condition) (M body)) n (λ a. refl)
        (λ around to S v ok k lands suits.
        parts.while_so items needs q clear keeps fuel x id ty by condition body c b h.1.0 h.1.1.1.0 around to S v ok k (lands refl) suits)
    form_so (tree.WhileLet pattern scrutinee body) x id ty by h n g =
        let g2 = facts.g_left items needs q clear keeps fuel (nodes_of pattern ++ nodes_of scrutinee) (nodes_of body) g in
        let s = node_so scrutinee (parts.looping items needs q clear keeps fuel id ty x) (Used Use.Borrow) h.0
        (facts.g_right items needs q clear keeps fuel (nodes_of pattern) (nodes_of scrutinee) g2) in
        let b = node_so body (with_names (pattern_rules.entries_of pattern) (parts.looping items needs q clear keeps fuel id ty x)) Taken h.1.1.0
        (facts.g_right items needs q clear keeps fuel (nodes_of pattern ++ nodes_of scrutinee) (nodes_of body) g) in
        nodes.scope_so items needs q clear keeps fuel (K x) (head id ty by) (shape_of items (tree.WhileLet pattern scrutinee body) (head id ty by))
        (evaluation.while_taken items q fuel (head id ty by) (M pattern) (M scrutinee) (M body)) n (λ a. refl)
        (λ around to S v ok k lands suits. parts.while_let_so items needs q clear keeps fuel x id ty by pattern scrutinee body s b h.1.1.1.0
        (facts.pattern_here items needs q clear keeps fuel pattern (typing.matched_in false (K (parts.looping items needs q clear keeps fuel id ty x)) scrutinee) (ty_of scrutinee) h.1.0.1
        (facts.g_left items needs q clear keeps fuel (nodes_of pattern) (nodes_of scrutinee) g2)) around to S v ok k (lands refl) suits)
    form_so (tree.Break loop value) x id ty by h n g =
        let t = some_holds (loop_with loop x.loops) (λ a. typing.carries (K x) a value) h.0 in
        nodes.scope_so items needs q clear keeps fuel (K x) (head id ty by) (shape_of items (tree.Break loop value) (head id ty by))
        (evaluation.breaks items q fuel loop (head id ty by) (meaning_if_any items q fuel value)) n (λ a. refl)
        (λ around to S v ok k lands suits. loops.jump_so items needs q clear keeps (K x) around (Breaks loop) (head id ty by)
        (meaning_if_any items q fuel value) (loop_destination loop around.loops) (λ key. key ≡ key_of to) tt
        (λ T w y. (y, (t.0, t.1.0)))
        (carried_so value x t.0 t.1.1 g (loop_destination loop around.loops) (ok.loops_suit loop t.0 t.1.0)) S v
        (ok.loops loop t.0 t.1.0) ok k)
    form_so (tree.Continue loop) x id ty by h n g =
        nodes.value_so items needs q clear keeps fuel (K x) (head id ty by) (shape_of items (tree.Continue loop) (head id ty by))
        (λ around own to. At (Continues loop)) n (λ a. refl) (λ around own to S v ok k lands suits. (parts.unchanged items needs q clear keeps fuel own S, k))
    form_so (tree.Return value) x id ty by h n g =
        nodes.scope_so items needs q clear keeps fuel (K x) (head id ty by) (shape_of items (tree.Return value) (head id ty by))
        (evaluation.returns items q fuel (head id ty by) (meaning_if_any items q fuel value)) n (λ a. refl)
        (λ around to S v ok k lands suits. loops.jump_so items needs q clear keeps (K x) around Returns (head id ty by)
        (meaning_if_any items q fuel value) around.answer (λ key. key ≡ key_of to) tt (λ T w y. y)
        (returned_so value x h.0 g around.answer ok.answer_suits) S v ok.answer ok k)
    form_so form x id ty by h n g = absurd (false≢true h)

    args_so : (tys : List TyId) (ns : Nodes) (x : Standpoint) → Holds (typing.arguments (K x) tys ns) →
        Good (nodes_among ns) → AllSound (K x) (Ms ns)
    args_so tys no_node x h g = tt
    args_so [] (a_node first rest) x h g = absurd (false≢true h)
    args_so (ty ∷ tys) (a_node first rest) x h g = (
      node_so first x (Passed ty) h.0 (facts.g_left items needs q clear keeps fuel (nodes_of first) (nodes_among rest) g),
      args_so tys rest x h.1 (facts.g_right items needs q clear keeps fuel (nodes_of first) (nodes_among rest) g),
    )

    parts_so : (tys : List TyId) (ns : Nodes) (x : Standpoint) → Holds (typing.made_parts (K x) tys ns) →
        Good (nodes_among ns) → AllSound (K x) (Ms ns)
    parts_so tys no_node x h g = tt
    parts_so [] (a_node first rest) x h g = absurd (false≢true h)
    parts_so (ty ∷ tys) (a_node first rest) x h g = (
      node_so first x (Wanted ty) h.0 (facts.g_left items needs q clear keeps fuel (nodes_of first) (nodes_among rest) g),
      parts_so tys rest x h.1 (facts.g_right items needs q clear keeps fuel (nodes_of first) (nodes_among rest) g),
    )

    elements_so : (ty : TyId) (ns : Nodes) (x : Standpoint) → Holds (typing.elements_of (K x) ty ns) →
        Good (nodes_among ns) → AllSound (K x) (Ms ns)
    elements_so ty no_node x h g = tt
    elements_so ty (a_node first rest) x h g = (
      node_so first x (Wanted ty) h.0 (facts.g_left items needs q clear keeps fuel (nodes_of first) (nodes_among rest) g),
      elements_so ty rest x h.1 (facts.g_right items needs q clear keeps fuel (nodes_of first) (nodes_among rest) g),
    )

    captures_so : (tys : List TyId) (ns : Nodes) (x : Standpoint) → Holds (typing.captured (K x) tys ns) →
        Good (nodes_among ns) → AllSound (K x) (Ms ns)
    captures_so tys no_node x h g = tt
    captures_so [] (a_node first rest) x h g = absurd (false≢true h)
    captures_so (ty ∷ tys) (a_node first rest) x h g = (
      node_so first x Taken h.0 (facts.g_left items needs q clear keeps fuel (nodes_of first) (nodes_among rest) g),
      captures_so tys rest x h.1.1 (facts.g_right items needs q clear keeps fuel (nodes_of first) (nodes_among rest) g),
    )

    fields_so : (tys : List TyId) (fields : Fields) (x : Standpoint) → Holds (typing.made_fields (K x) tys fields) →
        Good (nodes_of_fields fields) → AllSound (K x) (values_of (Mf fields))
    fields_so tys no_field x h g = tt
    fields_so tys (a_field number value rest) x h g =
        let t = some_holds (slice_get tys number) (λ ty. typing.typed (K x) (Wanted ty) value) h.0 in (
          node_so value x (Wanted t.0) t.1.1 (facts.g_left items needs q clear keeps fuel (nodes_of value) (nodes_of_fields rest) g),
          fields_so tys rest x h.1 (facts.g_right items needs q clear keeps fuel (nodes_of value) (nodes_of_fields rest) g),
        )

    carried_so : (value : MaybeNode) (x : Standpoint) (a : LoopAround) → Holds (typing.carries (K x) a value) →
        Good (nodes_if_any value) → (to : Destination) → Suits a.ty to → (m : Meaning V) →
        meaning_if_any items q fuel value ≡ Some m → Sound (K x) m × ((is_never items m.head.ty ≡ true) ⊎ Suits m.head.ty to)
    carried_so absent x a h g to s m e = absurd (none-some m e)
    carried_so (present value) x a h g to s m e =
        subst (λ z. Sound (K x) z × ((is_never items z.head.ty ≡ true) ⊎ Suits z.head.ty to)) (parts.some_same items needs q clear keeps fuel e)
        (node_so value x (Wanted a.ty) h.1 g, facts.node_suits items needs q clear keeps fuel value a.ty to (facts.wanted_fits items needs q clear keeps fuel (K x) a.ty value h.1) s)

    returned_so : (value : MaybeNode) (x : Standpoint) → Holds (typing.returned (K x) value) →
        Good (nodes_if_any value) → (to : Destination) → Suits x.answer to → (m : Meaning V) →
        meaning_if_any items q fuel value ≡ Some m → Sound (K x) m × ((is_never items m.head.ty ≡ true) ⊎ Suits m.head.ty to)
    returned_so absent x h g to s m e = absurd (none-some m e)
    returned_so (present value) x h g to s m e =
        subst (λ z. Sound (K x) z × ((is_never items z.head.ty ≡ true) ⊎ Suits z.head.ty to)) (parts.some_same items needs q clear keeps fuel e)
        (node_so value x (Wanted x.answer) h g, facts.node_suits items needs q clear keeps fuel value x.answer to (facts.wanted_fits items needs q clear keeps fuel (K x) x.answer value h) s)

    pub tail_so : (tail : MaybeNode) (x : Standpoint) → Holds (typing.tail_of (K x) tail) → Good (nodes_if_any tail) →
        parts.TailSo items needs q clear keeps fuel tail x
    tail_so absent x h g = tt
    tail_so (present tail) x h g = node_so tail x Taken h g

    -- ---- statements

    pub statements_so : (ns : Nodes) (x : Standpoint) (rest : Context → Claim) → Holds (typing.statements (K x) ns rest) →
        Good (nodes_among ns) → (around : LoopsAndGuards) (own : Bool) (S T : Scopes) (v : V) → AroundOk (K x) around T →
        Inside own S T → Held Nothing (entries_of T) v →
        Shown any (λ exit U u. After (K x) around Nothing (Inside own S) exit U u × facts.OkAt items needs q clear keeps fuel exit (K (behind x ns)) around U)
        (forms.statements items q around (Ms ns) T v)
    statements_so no_node x rest h g around own S T v ok i k = ((i, k), ok)
    statements_so (a_node (node id at ty by form) more) x rest h g around own S T v ok i k = seq
        (λ exit U u. After (K x) around Nothing (Inside own S) exit U u
        × facts.OkAt items needs q clear keeps fuel exit (K (with_names (typing.entries_in form) x)) around U)
        (λ exit U u. After (K x) around Nothing (Inside own S) exit U u
        × facts.OkAt items needs q clear keeps fuel exit (K (behind (with_names (typing.entries_in form) x) more)) around U)
        ((M (node id at ty by form)).evaluate around false (Into (M (node id at ty by form)).head.id) T v)
        (forms.statements items q around (Ms more))
        (statement_so form x id ty by h.1.0 (facts.g_right items needs q clear keeps fuel (node id at ty by form ∷ []) (nodes_in form)
        (facts.g_left items needs q clear keeps fuel (node id at ty by form ∷ nodes_in form) (nodes_among more) g)) around own S T v ok i k)
        (λ U u y. statements_so more (with_names (typing.entries_in form) x) rest h.1.1
        (facts.g_right items needs q clear keeps fuel (node id at ty by form ∷ nodes_in form) (nodes_among more) g) around own S U u y.1 y.0.0 y.0.1)
        (λ exit U u o y. (y.0, facts.other_ok items needs q clear keeps fuel exit (K (behind (with_names (typing.entries_in form) x) more)) around U o))

    statement_so : (form : Form) (x : Standpoint) (id : ℕ) (ty : TyId) (by : Option Use) →
        Holds (typing.statement (K x) form) → Good (nodes_in form) → (around : LoopsAndGuards) (own : Bool) (S T : Scopes) (v : V) →
        AroundOk (K x) around T → Inside own S T → Held Nothing (entries_of T) v →
        Shown any (λ exit U u. After (K x) around Nothing (Inside own S) exit U u
        × facts.OkAt items needs q clear keeps fuel exit (K (with_names (typing.entries_in form) x)) around U)
        ((meaning_of items q fuel form (head id ty by) (shape_of items form (head id ty by))).evaluate around false
        (Into (meaning_of items q fuel form (head id ty by) (shape_of items form (head id ty by))).head.id) T v)
    statement_so (tree.Let pattern absent) x id ty by h g around own S T v ok i k =
        let p = facts.pattern_here items needs q clear keeps fuel pattern typing.whole (ty_of pattern) h.1.0 (facts.g_left items needs q clear keeps fuel (nodes_of pattern) [] g) (whole_local 0) in
        parts.ended_statement items needs q clear keeps fuel x (tree.Let pattern absent) around own S T i
        (λ key. ⊥ ⊎ patterns.BoundIn items needs q clear keeps ((M pattern).shape.bindings (whole_local 0)) key)
        (λ U m bound. facts.named_ok items needs q clear keeps fuel pattern x around U (whole_local 0) p
        (scopes.around_more items needs (K x) around T U (statements.more_in_wider items needs q clear keeps T U m) ok) (λ key b. bound key (inr b)))
        (forms.declared items q ((M pattern).shape.bindings (whole_local 0)) T v)
        (statements.declared_so items needs q clear keeps (K x) around ((M pattern).shape.bindings (whole_local 0)) p.bound T T v
        (parts.unmoved items needs q clear keeps fuel own S T i) (λ key. ⊥) (λ key z. absurd z) k)
    statement_so (tree.Let pattern (present value)) x id ty by h g around own S T v ok i k =
        let w = node_so value x (typing.as_initialiser pattern) h.0 (facts.g_right items needs q clear keeps fuel (nodes_of pattern) (nodes_of value) g) in
        parts.let_so items needs q clear keeps fuel x id ty by pattern value w h.1 (facts.g_left items needs q clear keeps fuel (nodes_of pattern) (nodes_of value) g) around own S T v ok i k
    statement_so (tree.Evaluate expression) x id ty by h g around own S T v ok i k =
        let m = node_so expression x Taken h g in
        shown_more any (λ exit U u y. ((subst (Inside own S) (sym y.0) i, y.1), parts.same_ok items needs q clear keeps fuel (K x) around T ok exit U y.0))
        (forms.evaluating items q (head id ty by) (M expression) around T v)
        (statements.evaluating_so items needs q clear keeps (K x) around (head id ty by) (M expression) m T v ok k)
    statement_so form x id ty by h g around own S T v ok i k = absurd (false≢true h)

    -- ---- arms

    arms_so : (arms : Nodes) (x : Standpoint) (m : Matched) (want : TyId) → Holds (typing.arms_of (K x) m want arms) →
        Good (nodes_among arms) → branches.AllArms items needs q clear keeps (K x) (Ms arms)
    arms_so no_node x m want h g = tt
    arms_so (a_node (node id at ty by form) rest) x m want h g = (
      arm_so form x m want id at ty by h.0 (facts.g_right items needs q clear keeps fuel (node id at ty by form ∷ []) (nodes_in form)
          (facts.g_left items needs q clear keeps fuel (node id at ty by form ∷ nodes_in form) (nodes_among rest) g)),
      arms_so rest x m want h.1 (facts.g_right items needs q clear keeps fuel (node id at ty by form ∷ nodes_in form) (nodes_among rest) g),
    )

    arm_so : (form : Form) (x : Standpoint) (m : Matched) (want : TyId) (id : ℕ) (at : Pos) (ty : TyId) (by : Option Use) →
        Holds (typing.arm (K x) m want (node id at ty by form)) → Good (nodes_in form) →
        branches.ArmSo items needs q clear keeps (K x) (meaning_of items q fuel form (head id ty by) (shape_of items form (head id ty by)))
    arm_so (tree.Arm pattern guard body) x m want id at ty by h g =
        let gp = facts.g_left items needs q clear keeps fuel (nodes_of pattern) (nodes_if_any guard) (facts.g_left items needs q clear keeps fuel (nodes_of pattern ++ nodes_if_any guard) (nodes_of body) g) in
        let b = node_so body (with_names (pattern_rules.entries_of pattern) x) Taken h.1.1.1.1.0
        (facts.g_right items needs q clear keeps fuel (nodes_of pattern ++ nodes_if_any guard) (nodes_of body) g) in
        let d = guard_so guard (with_names (in_guard (pattern_rules.entries_of pattern)) x) h.1.1.1.0
        (facts.g_right items needs q clear keeps fuel (nodes_of pattern) (nodes_if_any guard) (facts.g_left items needs q clear keeps fuel (nodes_of pattern ++ nodes_if_any guard) (nodes_of body) g)) in
        λ around matched otherwise to S v ok roots lands suits k other.
        let p = facts.pattern_here items needs q clear keeps fuel pattern m want h.1.1.0 gp matched in
        branches.arm_so items needs q clear keeps (K x) (pattern_rules.entries_of pattern) (in_guard (pattern_rules.entries_of pattern)) around
        (head id ty by) (M pattern) (meaning_if_any items q fuel guard) (M body) matched otherwise to S v ok lands p.bound b
        (λ T wide bound. facts.named_ok items needs q clear keeps fuel pattern x around T matched p (scopes.around_more items needs (K x) around S T wide ok) bound)
        (parts.body_suits items needs q clear keeps fuel body ty to h.1.1.1.1.1 suits)
        (λ y e. (
          d y e,
          named.around_guarded items needs q clear keeps fuel around S matched roots (K x) (pattern_rules.entries_of pattern)
              ((M pattern).shape.bindings matched) ok p.rooted
              (named.scope_covered items needs q clear keeps fuel pattern ((M pattern).shape.bindings matched) p.covers),
        )) k other
    arm_so form x m want id at ty by h g = absurd (false≢true h)

    guard_so : (guard : MaybeNode) (x : Standpoint) → Holds (typing.guarded (K x) guard) → Good (nodes_if_any guard) →
        (m : Meaning V) → meaning_if_any items q fuel guard ≡ Some m → Sound (K x) m × (needs m.head.id ≡ false)
    guard_so absent x h g m e = absurd (none-some m e)
    guard_so (present guard) x h g m e =
        let s = node_so guard x Taken h.0 g in
        subst (λ z. Sound (K x) z × (needs z.head.id ≡ false)) (parts.some_same items needs q clear keeps fuel e) (
          s,
          facts.free_cell items needs q clear keeps fuel (K x) guard s (nodes.or_never_none items needs q clear keeps fuel (types.is_bool items (ty_of guard)) (ty_of guard)
              (nodes.bool_none items needs q clear keeps fuel (ty_of guard)) h.1),
        )

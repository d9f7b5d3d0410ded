-- What is lowered of a body is small: one line a form, and the sum over a body.
use Rattle.std.proofs.Common.{◌≡◌, ℕ, zero, suc, ◌+◌, ◌*◌, ◌≤◌, Bool, true, false, List, [], ◌∷◌, ◌++◌, length, map, Option, Some, unwrap_or, refl, sym, ap, subst, arith, length-append}
use Rattle.std.proofs.Math.Nat.{suc-mul}
use Rattle.cfg_graph.specs.declared.graph.Kind.{Kind}
use Rattle.cfg_graph.specs.declared.terminator.Term.{Term}
use Rattle.mir_base.specs.declared.trace.Why.{Why}
use Rattle.mir_ty.specs.Facts.{needs_drop}
use Rattle.store_model.specs.Effects as effects
use Rattle.store_model.specs.Effects.{EffectSite, Action, OfTuple, OfArray, OfVariant, OfClosure}
use Rattle.store_model.specs.Places.Place.{Place, whole_local}
use Rattle.typed_tree.specs.Nodes.{nodes_of, nodes_in, nodes_among, nodes_of_fields, nodes_if_any, param_nodes, body_nodes}
use Rattle.typed_tree.specs.Tree as tree
use Rattle.typed_tree.specs.Tree.{Form, Nodes, no_node, a_node, Fields, no_field, a_field, MaybeNode, absent, present, ParamTree, BodyTree}
use Rattle.src_meaning.specs.Evaluation.{in_number_order}
use Rattle.src_meaning.specs.Forms.{Destination, Into, coerced, LoopsAndGuards, in_loop, loop_destination, site_of_key, moved}
use Rattle.src_meaning.specs.Locals.OfBody.{param_key, answer_key}
use Rattle.src_meaning.specs.Scopes.{Scopes, innermost, with_entry, Exit, Breaks, Continues, Returns}
use Rattle.src_meaning.specs.Shape.{NodeHead, head, Shape, kind_of, shape, shape_of, site_at}
use Rattle.src_meaning.specs.FieldKeys.{field_keys, moved_fields}
use Rattle.lower_rules.specs.Spots.{Ways, body_ways}
use Rattle.lower_rules.specs.Build as build
use Rattle.lower_rules.specs.Build.{LoweringFrame, BlockRest, Building, ending, Lowers, nothing, jump}
use Rattle.lower_rules.specs.Laws.{LoweredIsSmall}
use Rattle.lower_rules.specs.Lower as lower
use Rattle.lower_rules.specs.Lower.{LowersArm, NodeLower, LowerIfAny, a_lower}
use Rattle.lower_rules.proofs.Sizes as sizes
use Rattle.lower_rules.proofs.ScopeSizes.{all, innermost_grew, entry_adds}
use Rattle.lower_rules.proofs.CostRules as cost_rules
use Rattle.lower_rules.proofs.PatternSizes.{times, times_add, twelve, Tested, Binds, form_pattern, inside, counted, node_shape}
use Rattle.lower_rules.proofs.CostRules.{none_cost, without, with_one, one_costs, weaker, deliver_costs, unit_costs, own_costs, operand_costs, value_costs, place_costs, scoped_value_costs, effect_costs, as_many, on_operands_cost, gives_unit_costs, single}
use Rattle.lower_rules.proofs.CostBranches.{alone_costs, condition_costs, otherwise_costs, bind_costs, scrutinised_costs, if_taken_costs, arm_costs, arms_costs, block_costs, evaluating_costs, letting_costs, jump_value_costs, ends_loop_costs, body_costs, pattern_costs}

module _ (f : LoweringFrame) (W B : ℕ) (enough : 12 * (W + 2) ≤ B) where
  abbrev C : ℕ → ℕ → Lowers → Type 0
  C = sizes.Costs f W

  abbrev T : ℕ → ℕ
  T n = times (B + 12) n

  abbrev ArmCost : ℕ → ℕ → LowersArm → Type 0
  ArmCost b e a = (c : Ways) (S : Scopes) (r : ℕ) (k : BlockRest) (s : Building) → all S + e ≤ W → length (a.build c S r k s).1.blocks ≤ length s.blocks + b

  abbrev NodeCosts : (m : ℕ) (x : NodeLower) → Type 0
  NodeCosts = cost_rules.NodeCosts f W B enough

  abbrev AllCost : ℕ → List NodeLower → Type 0
  AllCost = cost_rules.AllCost f W B enough

  abbrev IfAnyCost : ℕ → LowerIfAny → Type 0
  IfAnyCost = cost_rules.IfAnyCost f W B enough

  abbrev Shaped : ℕ → Shape → Type 0
  Shaped m s = Tested s m × Binds s m

  -- ---- the forms
  abbrev FormCosts : Form → Type 0
  FormCosts form = (h : NodeHead) → NodeCosts (length (nodes_in form)) (lower.lower_form f form h (shape_of f.items form h))

  two : (a b : tree.Node) → suc (inside a) + suc (inside b) ≡ length (nodes_of a ++ nodes_of b)
  two a b = let i = length-append (nodes_of a) (nodes_of b) in let j = counted a in let k = counted b in omega arith

  one_and : (a : tree.Node) (xs : List tree.Node) → suc (inside a) + length xs ≡ length (nodes_of a ++ xs)
  one_and a xs = let i = length-append (nodes_of a) xs in let j = counted a in omega arith

  one_of : (a : tree.Node) → suc (inside a) ≡ length (nodes_of a)
  one_of a = sym (counted a)

  shape_at : (form : Form) (h : NodeHead) (n : ℕ) → n ≡ length (nodes_in form) → Shaped n (shape_of f.items form h)
  shape_at form h n e = subst (λ m. Shaped m (shape_of f.items form h)) (sym e) (form_pattern f.items form h)

  abbrev S_of : Form → NodeHead → Shape
  S_of form h = shape_of f.items form h

  arm_form : (m : ℕ) (h : NodeHead) (s : Shape) → Shaped m s → (a : Place → LoopsAndGuards → Destination → LowersArm) → ((matched : Place) (around : LoopsAndGuards) (to : Destination) → ArmCost (B + T m) (m + m) (a matched around to)) →
      NodeCosts m (record (lower.a_pattern f h s) { arm = a })
  arm_form m h s shaped a p = let v = pattern_costs f W B enough m h s shaped in record { evaluates = v.evaluates; reaches = v.reaches; arm = p; shaped = shaped }

  on_base : (form : Form) (h : NodeHead) (base : tree.Node) → suc (inside base) ≡ length (nodes_in form) → NodeCosts (inside base) (lower.lower f base) →
      NodeCosts (length (nodes_in form)) (lower.a_place f h (S_of form h) (lower.lower f base).reaches)
  on_base form h base e c =
      as_many f W B enough (suc (inside base)) _ _ e
      (place_costs f W B enough (suc (inside base)) (T (suc (inside base))) (suc (inside base) + suc (inside base)) h (S_of form h) (shape_at form h (suc (inside base)) e) (lower.lower f base).reaches c.reaches (omega (arith, enough)) (omega arith))

  on_element : (h : NodeHead) (base index : tree.Node) (count : ℕ) → NodeCosts (inside base) (lower.lower f base) → NodeCosts (inside index) (lower.lower f index) →
      NodeCosts (length (nodes_of base ++ nodes_of index)) (lower.a_place f h (S_of (tree.Index base index count) h) (lower.reach_element f h (S_of (tree.Index base index count) h) (lower.lower f base) (lower.lower f index) count))
  on_element h base index count cb ci =
      let mb = inside base in
      let mi = inside index in
      let n = suc mb + suc mi in
      let s = S_of (tree.Index base index count) h in
      let a = times_add (B + 12) (suc mb) (suc mi) in
      as_many f W B enough n _ _ (two base index)
      (place_costs f W B enough n (T (suc mb) + (B + T mi + (W + 2 + (W + 2)))) (suc mb + suc mb + (mi + mi + (0 + 0))) h s (shape_at (tree.Index base index count) h n (two base index)) (lower.reach_element f h s (lower.lower f base) (lower.lower f index) count)
      (λ around. sizes.then_costs f W (T (suc mb)) (suc mb + suc mb) (B + T mi + (W + 2 + (W + 2))) (mi + mi + (0 + 0)) _ _ (cb.reaches around)
      (sizes.then_costs f W (B + T mi) (mi + mi) (W + 2 + (W + 2)) (0 + 0) _ _ (ci.evaluates around false (Into (lower.lower f index).head.id))
      (sizes.then_costs f W (W + 2) 0 (W + 2) 0 _ _ (sizes.act_costs f W h.id (effects.Touch (site_at h (lower.array_around f (s.place around.aliases)))))
      (sizes.act_costs f W (lower.lower f index).head.id (effects.Bounds (effects.Copied (site_of_key (lower.lower f index).head.id)) count))))) (omega (arith, enough)) (omega arith))

  on_node : (form : Form) (h : NodeHead) (x : tree.Node) → suc (inside x) ≡ length (nodes_in form) → NodeCosts (inside x) (lower.lower f x) → (action : EffectSite → Action) →
      NodeCosts (length (nodes_in form)) (lower.on_operands f h (S_of form h) (lower.lower f x ∷ []) action)
  on_node form h x e c action =
      as_many f W B enough (suc (inside x)) _ _ e (on_operands_cost f W B enough (suc (inside x)) h (S_of form h) (shape_at form h (suc (inside x)) e) (lower.lower f x ∷ []) (single f W B enough (inside x) _ c) action)

  on_nodes : (form : Form) (h : NodeHead) (x y : tree.Node) → suc (inside x) + suc (inside y) ≡ length (nodes_in form) → NodeCosts (inside x) (lower.lower f x) → NodeCosts (inside y) (lower.lower f y) → (action : EffectSite → Action) →
      NodeCosts (length (nodes_in form)) (lower.on_operands f h (S_of form h) (lower.lower f x ∷ lower.lower f y ∷ []) action)
  on_nodes form h x y e cx cy action =
      as_many f W B enough (suc (inside x) + suc (inside y)) _ _ e
      (on_operands_cost f W B enough (suc (inside x) + suc (inside y)) h (S_of form h) (shape_at form h (suc (inside x) + suc (inside y)) e) (lower.lower f x ∷ lower.lower f y ∷ []) (one_costs (inside x) (suc (inside y)) _ _ cx (single f W B enough (inside y) _ cy)) action)

  on_first : (form : Form) (h : NodeHead) (x : tree.Node) (ns : Nodes) → suc (inside x) + length (nodes_among ns) ≡ length (nodes_in form) → NodeCosts (inside x) (lower.lower f x) → AllCost (length (nodes_among ns)) (lower.lower_all f ns) →
      (action : EffectSite → Action) → NodeCosts (length (nodes_in form)) (lower.on_operands f h (S_of form h) (lower.lower f x ∷ lower.lower_all f ns) action)
  on_first form h x ns e cx cs action =
      as_many f W B enough (suc (inside x) + length (nodes_among ns)) _ _ e
      (on_operands_cost f W B enough (suc (inside x) + length (nodes_among ns)) h (S_of form h) (shape_at form h (suc (inside x) + length (nodes_among ns)) e) (lower.lower f x ∷ lower.lower_all f ns) (one_costs (inside x) (length (nodes_among ns)) _ _ cx cs) action)

  to_unit : (form : Form) (h : NodeHead) (x : tree.Node) → suc (inside x) ≡ length (nodes_in form) → NodeCosts (inside x) (lower.lower f x) → (action : effects.Operand → Action) →
      NodeCosts (length (nodes_in form)) (lower.gives_unit f h (S_of form h) (lower.lower f x) action)
  to_unit form h x e c action =
      as_many f W B enough (suc (inside x)) _ _ e (gives_unit_costs f W B enough (suc (inside x)) h (S_of form h) (shape_at form h (suc (inside x)) e) (lower.lower f x) (single f W B enough (inside x) _ c) action)

  of_jump : (form : Form) (h : NodeHead) (value : MaybeNode) → length (nodes_if_any value) ≡ length (nodes_in form) → IfAnyCost (length (nodes_if_any value)) (lower.lower_if_any f value) → (exit : Exit) (to : LoopsAndGuards → Destination) →
      NodeCosts (length (nodes_in form)) (lower.a_scope f h (S_of form h) (λ around own_to. jump f h.id exit (lower.value_of_jump f h (lower.lower_if_any f value) around (to around))))
  of_jump form h value e c exit to =
      let n = length (nodes_if_any value) in
      as_many f W B enough n _ _ e
      (scoped_value_costs f W B enough n (T n + 2 * (W + 2) + (3 * W + 1)) (n + n + 0) h (S_of form h) (shape_at form h n e) (λ around own_to. jump f h.id exit (lower.value_of_jump f h (lower.lower_if_any f value) around (to around)))
      (λ around own_to. sizes.jump_costs f W (T n + 2 * (W + 2)) (n + n) h.id exit _ (jump_value_costs f W B enough n h _ c around (to around))) (omega (arith, enough)) (omega arith))

  mutual
    pub node_costs : (n : tree.Node) → NodeCosts (inside n) (lower.lower f n)
    node_costs (tree.node id at ty by form) = form_costs form (head id ty by)

    form_costs : (form : Form) → FormCosts form
    form_costs (tree.Number value) h = effect_costs f W B enough h (S_of (tree.Number value) h) (form_pattern f.items (tree.Number value) h) (λ site. effects.Put site (effects.Number value (kind_of f.items h.ty)))
    form_costs (tree.Truth value) h = effect_costs f W B enough h (S_of (tree.Truth value) h) (form_pattern f.items (tree.Truth value) h) (λ site. effects.Put site (effects.Truth value))
    form_costs tree.UnitValue h = effect_costs f W B enough h (S_of tree.UnitValue h) (form_pattern f.items tree.UnitValue h) (λ site. effects.Put site effects.UnitValue)
    form_costs (tree.Variable key) h = place_costs f W B enough 0 0 0 h (S_of (tree.Variable key) h) (form_pattern f.items (tree.Variable key) h) (λ around. nothing) (λ around. sizes.nothing_costs f W) (omega (arith, enough)) (omega arith)
    form_costs (tree.Captured closure part name) h = place_costs f W B enough 0 0 0 h (S_of (tree.Captured closure part name) h) (form_pattern f.items (tree.Captured closure part name) h) (λ around. nothing) (λ around. sizes.nothing_costs f W) (omega (arith, enough)) (omega arith)
    form_costs (tree.Field base part) h = on_base (tree.Field base part) h base (one_of base) (node_costs base)
    form_costs (tree.Deref base) h = on_base (tree.Deref base) h base (one_of base) (node_costs base)
    form_costs (tree.Index base index count) h = on_element h base index count (node_costs base) (node_costs index)
    form_costs (tree.Not operand) h = on_node (tree.Not operand) h operand (one_of operand) (node_costs operand) (λ site. effects.Not site (moved h.id (lower.lower f operand).head.id))
    form_costs (tree.Negate operand) h = on_node (tree.Negate operand) h operand (one_of operand) (node_costs operand) (λ site. effects.Negate site (moved h.id (lower.lower f operand).head.id))
    form_costs (tree.NewBox content) h = on_node (tree.NewBox content) h content (one_of content) (node_costs content) (λ site. effects.NewBox site (moved h.id (lower.lower f content).head.id))
    form_costs (tree.Arithmetic operator left right) h = on_nodes (tree.Arithmetic operator left right) h left right (two left right) (node_costs left) (node_costs right) (λ site. effects.Compute site operator (moved h.id (lower.lower f left).head.id) (moved h.id (lower.lower f right).head.id))
    form_costs (tree.Comparison operator left right) h = on_nodes (tree.Comparison operator left right) h left right (two left right) (node_costs left) (node_costs right) (λ site. effects.Compare site operator (moved h.id (lower.lower f left).head.id) (moved h.id (lower.lower f right).head.id))
    form_costs (tree.And left right) h =
        let lc = node_costs left in
        let rc = node_costs right in
        let n = suc (inside left) + suc (inside right) in
        let a = times_add (B + 12) (suc (inside left)) (suc (inside right)) in
        as_many f W B enough n _ _ (two left right)
        (scoped_value_costs f W B enough n (B + T (inside left) + (3 + (B + T (inside right) + 2 * (W + 2)))) (inside left + inside left + (inside right + inside right + 0)) h (S_of (tree.And left right) h) (shape_at (tree.And left right) h n (two left right)) _
        (λ around to. condition_costs f W B enough (inside left) (B + T (inside right)) (inside right + inside right) (2 * (W + 2)) 0 _ lc around _ _ (alone_costs f W B enough (inside right) _ rc around to)
        (deliver_costs f W B enough h.id h (λ site. effects.Put site (effects.Truth false)) to)) (omega (arith, enough)) (omega arith))
    form_costs (tree.Or left right) h =
        let lc = node_costs left in
        let rc = node_costs right in
        let n = suc (inside left) + suc (inside right) in
        let a = times_add (B + 12) (suc (inside left)) (suc (inside right)) in
        as_many f W B enough n _ _ (two left right)
        (scoped_value_costs f W B enough n (B + T (inside left) + (3 + (2 * (W + 2) + (B + T (inside right))))) (inside left + inside left + (0 + (inside right + inside right))) h (S_of (tree.Or left right) h) (shape_at (tree.Or left right) h n (two left right)) _
        (λ around to. condition_costs f W B enough (inside left) (2 * (W + 2)) 0 (B + T (inside right)) (inside right + inside right) _ lc around _ _
        (deliver_costs f W B enough h.id h (λ site. effects.Put site (effects.Truth true)) to) (alone_costs f W B enough (inside right) _ rc around to)) (omega (arith, enough)) (omega arith))
    form_costs (tree.Assign place value) h =
        let pc = node_costs place in
        let vc = node_costs value in
        let mp = inside place in
        let mv = inside value in
        let n = suc mp + suc mv in
        let a = times_add (B + 12) (suc mp) (suc mv) in
        as_many f W B enough n _ _ (two place value)
        (value_costs f W B enough n h (S_of (tree.Assign place value) h) (shape_at (tree.Assign place value) h n (two place value)) _ (λ around own to.
        weaker f W B enough (W + 1 + (T (suc mv) + (T (suc mp) + (W + 3 + 2 * (W + 2))))) (suc mv + suc mv + (suc mp + suc mp + (0 + 0))) (B + T n) (n + n) _ (omega (arith, enough)) (omega arith)
        (sizes.scope_costs f W (T (suc mv) + (T (suc mp) + (W + 3 + 2 * (W + 2)))) (suc mv + suc mv + (suc mp + suc mp + (0 + 0))) h.id own _
        (sizes.then_costs f W (T (suc mv)) (suc mv + suc mv) (T (suc mp) + (W + 3 + 2 * (W + 2))) (suc mp + suc mp + (0 + 0)) _ _ (operand_costs f W B enough mv _ vc around)
        (sizes.then_costs f W (T (suc mp)) (suc mp + suc mp) (W + 3 + 2 * (W + 2)) (0 + 0) _ _ (pc.reaches around)
        (sizes.then_costs f W (W + 3) 0 (2 * (W + 2)) 0 _ _ (sizes.replaces_costs f W (needs_drop f.items (lower.lower f place).head.ty) (lower.site_of (lower.lower f place) around) (lower.lower f value).head.id) (unit_costs f W B enough h to)))))))
    form_costs (tree.Call body args) h = on_operands_cost f W B enough _ h (S_of (tree.Call body args) h) (form_pattern f.items (tree.Call body args) h) _ (all_costs args) (λ site. effects.Call site body (lower.all_moved h.id (lower.lower_all f args)))
    form_costs (tree.MethodCall body receiver args) h = on_first (tree.MethodCall body receiver args) h receiver args (one_and receiver (nodes_among args)) (node_costs receiver) (all_costs args) (λ site. effects.Call site body (lower.all_moved h.id (lower.lower f receiver ∷ lower.lower_all f args)))
    form_costs (tree.VirtualCall trait_no method receiver args) h =
        on_first (tree.VirtualCall trait_no method receiver args) h receiver args (one_and receiver (nodes_among args)) (node_costs receiver) (all_costs args) (λ site. effects.CallVirtual site trait_no method (lower.all_moved h.id (lower.lower f receiver ∷ lower.lower_all f args)))
    form_costs (tree.ClosureCall body callee args) h = on_first (tree.ClosureCall body callee args) h callee args (one_and callee (nodes_among args)) (node_costs callee) (all_costs args) (λ site. effects.Call site body (lower.all_moved h.id (lower.lower f callee ∷ lower.lower_all f args)))
    form_costs (tree.Make adt variant fields) h = on_operands_cost f W B enough _ h (S_of (tree.Make adt variant fields) h) (form_pattern f.items (tree.Make adt variant fields) h) _ (fields_cost fields) (λ site. effects.Build site (OfVariant adt variant) (moved_fields h.id (in_number_order (field_keys fields))))
    form_costs (tree.Tuple parts) h = on_operands_cost f W B enough _ h (S_of (tree.Tuple parts) h) (form_pattern f.items (tree.Tuple parts) h) _ (all_costs parts) (λ site. effects.Build site OfTuple (lower.all_moved h.id (lower.lower_all f parts)))
    form_costs (tree.Array elements) h = on_operands_cost f W B enough _ h (S_of (tree.Array elements) h) (form_pattern f.items (tree.Array elements) h) _ (all_costs elements) (λ site. effects.Build site OfArray (lower.all_moved h.id (lower.lower_all f elements)))
    form_costs (tree.Closure closure captures) h = on_operands_cost f W B enough _ h (S_of (tree.Closure closure captures) h) (form_pattern f.items (tree.Closure closure captures) h) _ (all_costs captures) (λ site. effects.Build site (OfClosure closure) (lower.all_moved h.id (lower.lower_all f captures)))
    form_costs (tree.Print operand) h = to_unit (tree.Print operand) h operand (one_of operand) (node_costs operand) effects.Print
    form_costs (tree.Forget operand) h = to_unit (tree.Forget operand) h operand (one_of operand) (node_costs operand) effects.Forget
    form_costs tree.Ask h = effect_costs f W B enough h (S_of tree.Ask h) (form_pattern f.items tree.Ask h) effects.Ask
    form_costs (tree.DropValue operand) h =
        let c = node_costs operand in
        let m = inside operand in
        as_many f W B enough (suc m) _ _ (one_of operand)
        (value_costs f W B enough (suc m) h (S_of (tree.DropValue operand) h) (shape_at (tree.DropValue operand) h (suc m) (one_of operand)) _ (λ around own to.
        weaker f W B enough (W + 1 + (T (suc m) + 2 * (W + 2))) (suc m + suc m + 0) (B + T (suc m)) (suc m + suc m) _ (omega (arith, enough)) (omega arith)
        (sizes.scope_costs f W (T (suc m) + 2 * (W + 2)) (suc m + suc m + 0) h.id own _ (sizes.then_costs f W (T (suc m)) (suc m + suc m) (2 * (W + 2)) 0 _ _ (operand_costs f W B enough m _ c around) (unit_costs f W B enough h to)))))
    form_costs tree.Panic h =
        value_costs f W B enough 0 h (S_of tree.Panic h) (form_pattern f.items tree.Panic h) _ (λ around own to. weaker f W B enough (W + 1) 0 (B + T 0) 0 _ (omega (arith, enough)) (omega arith) (sizes.panics_costs f W h.id Why.Explicit))
    form_costs (tree.Borrow unique base) h =
        let c = node_costs base in
        let m = inside base in
        as_many f W B enough (suc m) _ _ (one_of base)
        (value_costs f W B enough (suc m) h (S_of (tree.Borrow unique base) h) (shape_at (tree.Borrow unique base) h (suc m) (one_of base)) _ (λ around own to.
        weaker f W B enough (W + 1 + (T (suc m) + 2 * (W + 2))) (suc m + suc m + 0) (B + T (suc m)) (suc m + suc m) _ (omega (arith, enough)) (omega arith)
        (own_costs f W B enough (T (suc m) + 2 * (W + 2)) (suc m + suc m + 0) h own _ (sizes.then_costs f W (T (suc m)) (suc m + suc m) (2 * (W + 2)) 0 _ _ (c.reaches around) (deliver_costs f W B enough (lower.lower f base).head.id h (λ site. effects.Borrow (record site { node = (lower.lower f base).head.id }) unique (lower.site_of (lower.lower f base) around)) to)))))
    form_costs (tree.Unsize trait_no operand) h =
        let c = node_costs operand in
        let m = inside operand in
        as_many f W B enough (suc m) _ _ (one_of operand)
        (value_costs f W B enough (suc m) h (S_of (tree.Unsize trait_no operand) h) (shape_at (tree.Unsize trait_no operand) h (suc m) (one_of operand)) _ (λ around own to.
        weaker f W B enough (B + T m) (m + m) (B + T (suc m)) (suc m + suc m) _ (omega arith) (omega arith) (c.evaluates around own (coerced (lower.lower f operand).head.id trait_no to))))
    form_costs (tree.Block stmts tail) h =
        let n = length (nodes_among stmts) in
        let n' = length (nodes_if_any tail) in
        let e = sym (length-append (nodes_among stmts) (nodes_if_any tail)) in
        as_many f W B enough (n + n') _ _ e (value_costs f W B enough (n + n') h (S_of (tree.Block stmts tail) h) (shape_at (tree.Block stmts tail) h (n + n') e) _ (block_costs f W B enough n n' h _ (all_costs stmts) _ (if_any_costs tail)))
    form_costs (tree.Let pattern initialiser) h =
        let n = suc (inside pattern) + length (nodes_if_any initialiser) in
        let e = one_and pattern (nodes_if_any initialiser) in
        as_many f W B enough n _ _ e (value_costs f W B enough n h (S_of (tree.Let pattern initialiser) h) (shape_at (tree.Let pattern initialiser) h n e) _ (λ around own to.
        letting_costs f W B enough (inside pattern) (length (nodes_if_any initialiser)) h _ _ (node_costs pattern) (if_any_costs initialiser) around))
    form_costs (tree.Evaluate expression) h =
        let c = node_costs expression in
        let m = inside expression in
        as_many f W B enough (suc m) _ _ (one_of expression)
        (value_costs f W B enough (suc m) h (S_of (tree.Evaluate expression) h) (shape_at (tree.Evaluate expression) h (suc m) (one_of expression)) _ (λ around own to.
        weaker f W B enough (W + 1 + T (suc m)) (suc m + suc m) (B + T (suc m)) (suc m + suc m) _ (omega (arith, enough)) (omega arith) (evaluating_costs f W B enough m h _ c around)))
    form_costs (tree.If condition consequent otherwise) h =
        let cc_ = node_costs condition in
        let ct = node_costs consequent in
        let co = if_any_costs otherwise in
        let mc = inside condition in
        let mt = inside consequent in
        let o = length (nodes_if_any otherwise) in
        let n = suc mc + (suc mt + o) in
        let e1 = length-append (nodes_of condition ++ nodes_of consequent) (nodes_if_any otherwise) in
        let e2 = two condition consequent in
        let e = (let i = e1 in let j = e2 in let z : n ≡ length (nodes_of condition ++ nodes_of consequent ++ nodes_if_any otherwise) = omega arith in z) in
        let a1 = times_add (B + 12) (suc mc) (suc mt + o) in
        let a2 = times_add (B + 12) (suc mt) o in
        as_many f W B enough n _ _ e
        (scoped_value_costs f W B enough n (B + T mc + (3 + (B + T mt + (T o + 2 * (W + 2))))) (mc + mc + (mt + mt + (o + o))) h (S_of (tree.If condition consequent otherwise) h) (shape_at (tree.If condition consequent otherwise) h n e) _
        (λ around to. condition_costs f W B enough mc (B + T mt) (mt + mt) (T o + 2 * (W + 2)) (o + o) _ cc_ around _ _ (alone_costs f W B enough mt _ ct around to) (otherwise_costs f W B enough o h _ co around to)) (omega (arith, enough)) (omega arith))
    form_costs (tree.IfLet pattern scrutinee consequent otherwise) h =
        let cp = node_costs pattern in
        let cs = node_costs scrutinee in
        let ct = node_costs consequent in
        let co = if_any_costs otherwise in
        let mp = inside pattern in
        let ms = inside scrutinee in
        let mt = inside consequent in
        let o = length (nodes_if_any otherwise) in
        let n = suc mp + (suc ms + (suc mt + o)) in
        let e1 = length-append (nodes_of pattern ++ nodes_of scrutinee ++ nodes_of consequent) (nodes_if_any otherwise) in
        let e2 = length-append (nodes_of pattern ++ nodes_of scrutinee) (nodes_of consequent) in
        let e3 = two pattern scrutinee in
        let e4 = counted consequent in
        let e = (let i = e1 in let j = e2 in let k = e3 in let l = e4 in
        let z : n ≡ length (nodes_of pattern ++ nodes_of scrutinee ++ nodes_of consequent ++ nodes_if_any otherwise) = omega arith in z) in
        let a1 = times_add (B + 12) (suc mp) (suc ms + (suc mt + o)) in
        let a2 = times_add (B + 12) (suc ms) (suc mt + o) in
        let a3 = times_add (B + 12) (suc mt) o in
        let tw = twelve (B + 12) mp (omega arith) in
        as_many f W B enough n _ _ e
        (scoped_value_costs f W B enough n (T (suc ms) + (suc (mp + mp) + 3 + (6 * suc mp + (B + T mt) + (W + 1) + (T o + 2 * (W + 2) + (W + 1))))) (suc ms + suc ms + (suc mp + (mt + mt) + (o + o))) h (S_of (tree.IfLet pattern scrutinee consequent otherwise) h) (shape_at (tree.IfLet pattern scrutinee consequent otherwise) h n e) _
        (λ around to. if_taken_costs f W B enough mp ms (B + T mt) (mt + mt) (T o + 2 * (W + 2)) (o + o) h around _ _ cp cs _ _ (alone_costs f W B enough mt _ ct around to) (otherwise_costs f W B enough o h _ co around to)) (omega (arith, enough)) (omega arith))
    form_costs (tree.Match scrutinee arms) h =
        let cs = node_costs scrutinee in
        let ca = all_costs arms in
        let ms = inside scrutinee in
        let o = length (nodes_among arms) in
        let n = suc ms + o in
        let e = one_and scrutinee (nodes_among arms) in
        let a = times_add (B + 12) (suc ms) o in
        as_many f W B enough n _ _ e
        (value_costs f W B enough n h (S_of (tree.Match scrutinee arms) h) (shape_at (tree.Match scrutinee arms) h n e) _ (λ around own to.
        weaker f W B enough (W + 1 + (T (suc ms) + (T o + (W + 2)))) (suc ms + suc ms + (o + o)) (B + T n) (n + n) _ (omega (arith, enough)) (omega arith)
        (own_costs f W B enough (T (suc ms) + (T o + (W + 2))) (suc ms + suc ms + (o + o)) h own _
        (sizes.then_costs f W (T (suc ms)) (suc ms + suc ms) (T o + (W + 2)) (o + o) _ _ (scrutinised_costs f W B enough ms _ cs around) (arms_costs f W B enough h.id o _ ca (lower.place_in (lower.lower f scrutinee) around) around to)))))
    form_costs (tree.Arm pattern guard m) h =
        let cp = node_costs pattern in
        let cg = if_any_costs guard in
        let cm = node_costs m in
        let mp = inside pattern in
        let o = length (nodes_if_any guard) in
        let mm = inside m in
        let n = suc mp + (o + suc mm) in
        let e1 = length-append (nodes_of pattern ++ nodes_if_any guard) (nodes_of m) in
        let e2 = counted m in
        let e3 = one_and pattern (nodes_if_any guard) in
        let e = (let i = e1 in let j = e2 in let k = e3 in let z : n ≡ length (nodes_of pattern ++ nodes_if_any guard ++ nodes_of m) = omega arith in z) in
        as_many f W B enough n _ _ e (arm_form n h (S_of (tree.Arm pattern guard m) h) (shape_at (tree.Arm pattern guard m) h n e) _ (λ matched around to. arm_costs f W B enough mp o mm h _ _ _ cp cg cm matched around to))
    form_costs (tree.Loop m) h =
        let c = node_costs m in
        let mm = inside m in
        as_many f W B enough (suc mm) _ _ (one_of m)
        (scoped_value_costs f W B enough (suc mm) (2 + (B + T mm)) (mm + mm) h (S_of (tree.Loop m) h) (shape_at (tree.Loop m) h (suc mm) (one_of m)) _
        (λ around to. sizes.looped_costs f W (B + T mm) (mm + mm) h.id _ (body_costs f W B enough mm _ c (in_loop h.id to around))) (omega (arith, enough)) (omega arith))
    form_costs (tree.While condition m) h =
        let cc_ = node_costs condition in
        let cm = node_costs m in
        let mc = inside condition in
        let mm = inside m in
        let n = suc mc + suc mm in
        let a = times_add (B + 12) (suc mc) (suc mm) in
        as_many f W B enough n _ _ (two condition m)
        (scoped_value_costs f W B enough n (2 + (B + T mc + (3 + (B + T mm + (2 * (W + 2) + (3 * W + 1)))))) (mc + mc + (mm + mm + (0 + 0))) h (S_of (tree.While condition m) h) (shape_at (tree.While condition m) h n (two condition m)) _
        (λ around to. sizes.looped_costs f W (B + T mc + (3 + (B + T mm + (2 * (W + 2) + (3 * W + 1))))) (mc + mc + (mm + mm + (0 + 0))) h.id _
        (condition_costs f W B enough mc (B + T mm) (mm + mm) (2 * (W + 2) + (3 * W + 1)) (0 + 0) _ cc_ (in_loop h.id to around) _ _ (body_costs f W B enough mm _ cm (in_loop h.id to around)) (ends_loop_costs f W B enough h to))) (omega (arith, enough)) (omega arith))
    form_costs (tree.WhileLet pattern scrutinee m) h =
        let cp = node_costs pattern in
        let cs = node_costs scrutinee in
        let cm = node_costs m in
        let mp = inside pattern in
        let ms = inside scrutinee in
        let mm = inside m in
        let n = suc mp + (suc ms + suc mm) in
        let e1 = length-append (nodes_of pattern ++ nodes_of scrutinee) (nodes_of m) in
        let e2 = two pattern scrutinee in
        let e3 = counted m in
        let e = (let i = e1 in let j = e2 in let k = e3 in let z : n ≡ length (nodes_of pattern ++ nodes_of scrutinee ++ nodes_of m) = omega arith in z) in
        let a1 = times_add (B + 12) (suc mp) (suc ms + suc mm) in
        let a2 = times_add (B + 12) (suc ms) (suc mm) in
        let tw = twelve (B + 12) mp (omega arith) in
        let b = T (suc ms) + (suc (mp + mp) + 3 + (6 * suc mp + (B + T mm) + (W + 1) + (2 * (W + 2) + (3 * W + 1) + (W + 1)))) in
        let d = suc ms + suc ms + (suc mp + (mm + mm) + (0 + 0)) in
        as_many f W B enough n _ _ e
        (scoped_value_costs f W B enough n (2 + b) d h (S_of (tree.WhileLet pattern scrutinee m) h) (shape_at (tree.WhileLet pattern scrutinee m) h n e) _
        (λ around to. sizes.looped_costs f W b d h.id _
        (if_taken_costs f W B enough mp ms (B + T mm) (mm + mm) (2 * (W + 2) + (3 * W + 1)) (0 + 0) h (in_loop h.id to around) _ _ cp cs _ _ (body_costs f W B enough mm _ cm (in_loop h.id to around)) (ends_loop_costs f W B enough h to))) (omega (arith, enough)) (omega arith))
    form_costs (tree.Break loop value) h = of_jump (tree.Break loop value) h value refl (if_any_costs value) (Breaks loop) (λ around. loop_destination loop around.loops)
    form_costs (tree.Continue loop) h =
        value_costs f W B enough 0 h (S_of (tree.Continue loop) h) (form_pattern f.items (tree.Continue loop) h) _ (λ around own to.
        weaker f W B enough (0 + (3 * W + 1)) (0 + 0) (B + T 0) 0 _ (omega (arith, enough)) (omega arith) (sizes.jump_costs f W 0 0 h.id (Continues loop) nothing (sizes.nothing_costs f W)))
    form_costs (tree.Return value) h = of_jump (tree.Return value) h value refl (if_any_costs value) Returns (λ around. around.answer)
    form_costs other h = pattern_costs f W B enough _ h (S_of other h) (form_pattern f.items other h)

    all_costs : (ns : Nodes) → AllCost (length (nodes_among ns)) (lower.lower_all f ns)
    all_costs no_node = none_cost
    all_costs (a_node first rest) =
        subst (λ n. AllCost n (lower.lower_all f (a_node first rest))) (one_and first (nodes_among rest)) (one_costs (inside first) (length (nodes_among rest)) _ _ (node_costs first) (all_costs rest))

    fields_cost : (fs : Fields) → AllCost (length (nodes_of_fields fs)) (lower.lower_fields f fs)
    fields_cost no_field = none_cost
    fields_cost (a_field number value rest) =
        subst (λ n. AllCost n (lower.lower_fields f (a_field number value rest))) (one_and value (nodes_of_fields rest)) (one_costs (inside value) (length (nodes_of_fields rest)) _ _ (node_costs value) (fields_cost rest))

    if_any_costs : (n : MaybeNode) → IfAnyCost (length (nodes_if_any n)) (lower.lower_if_any f n)
    if_any_costs absent = without
    if_any_costs (present value) = subst (λ n. IfAnyCost n (a_lower (lower.lower f value))) (one_of value) (with_one (inside value) _ (node_costs value))

  -- ---- bodies
  names_costs : (m : ℕ) (s : Shape) → Shaped m s → (key : ℕ) (x : Bool) → s.is_binding ≡ x → C (6 * m) m (lower.names_of_param f x (s.bindings (whole_local key)))
  names_costs m s shaped key true e = weaker f W B enough 0 0 (6 * m) m _ (omega arith) (omega arith) (sizes.nothing_costs f W)
  names_costs m s shaped key false e =
      let bounds = s.bindings (whole_local key) in
      let few = shaped.1.1 e (whole_local key) in
      weaker f W B enough (6 * length bounds) (length bounds) (6 * m) m _ (omega arith) (omega arith) (bind_costs f W B enough innermost (innermost_grew 1) bounds)

  params_cost : (params : List ParamTree) → C (T (length (param_nodes params))) (length (param_nodes params) + length (param_nodes params)) (lower.params_entered f params)
  params_cost [] = sizes.nothing_costs f W
  params_cost (param ∷ params) =
      let m = inside param.pattern in
      let o = length (param_nodes params) in
      let s = shape f.items param.pattern in
      let e = one_and param.pattern (param_nodes params) in
      let a = times_add (B + 12) (suc m) o in
      let t = ap (λ n. T n) e in
      let tw = twelve (B + 12) m (omega arith) in
      weaker f W B enough (6 * 1 + (6 * m + T o)) (1 + (m + (o + o))) _ _ _ (omega arith) (omega arith)
      (sizes.changed_costs f W 1 (6 * m + T o) (m + (o + o)) (innermost (with_entry (record { key = param_key param; ty = param.ty }))) _
      (innermost_grew 1 (with_entry (record { key = param_key param; ty = param.ty })) (entry_adds (record { key = param_key param; ty = param.ty })))
      (sizes.then_costs f W (6 * m) m (T o) (o + o) _ _ (names_costs m s (node_shape f.items param.pattern) (param_key param) s.is_binding refl) (params_cost params)))

  pub function_costs : (body : BodyTree) →
      C (W + 1 + (T (length (param_nodes body.params)) + (B + T (inside body.block)))) (length (param_nodes body.params) + length (param_nodes body.params) + (inside body.block + inside body.block)) (lower.entire_function f body)
  function_costs body =
      let p = length (param_nodes body.params) in
      let m = inside body.block in
      sizes.scope_costs f W (T p + (B + T m)) (p + p + (m + m)) (answer_key body) true _
      (sizes.then_costs f W (T p) (p + p) (B + T m) (m + m) _ _ (params_cost body.params) ((node_costs body.block).evaluates (lower.around_body f body) false (Into (answer_key body))))

-- ---- a body of so many nodes
times_nodes : (k n : ℕ) → times (30 * k + 48 + 12) n ≡ 30 * (n * (k + 2))
times_nodes k zero = omega arith
times_nodes k (suc n) = let i = times_nodes k n in let j = suc-mul n (k + 2) in omega arith

at_least_once : (k x : ℕ) → k ≤ k * (x + 2)
at_least_once zero x = omega arith
at_least_once (suc k) x = let i = at_least_once k x in let j = suc-mul k (x + 2) in omega arith

length_map : {X Y : Type 0} (g : X → Y) (xs : List X) → length (map g xs) ≡ length xs
length_map g [] = refl
length_map g (x ∷ xs) = ap suc (length_map g xs)

pub lowered_is_small : LoweredIsSmall
lowered_is_small items tree =
    let f = lower.frame items tree in
    let k = length (body_nodes tree) in
    let p = length (param_nodes tree.params) in
    let m = inside tree.block in
    let counts = length-append (param_nodes tree.params) (nodes_of tree.block) in
    let block = counted tree.block in
    let begun = lower.start f tree in
    let S = lower.answer_scope f tree in
    let last = ending (Term.Goto 1) 0 in
    let x = function_costs f (k + k + 2) (30 * k + 48) (omega arith) tree (body_ways 1) S last begun (omega arith) in
    let code = (lower.entire_function f tree).build (body_ways 1) S last begun in
    let most = x.most in
    let z = sizes.set_length code.1.blocks 0 (Some (build.made Kind.Plain (length code.1.blocks) code.0)) in
    let l = length_map (λ (o : Option build.MadeBlock). (unwrap_or o lower.unmade).block) (lower.built f tree).blocks in
    let sum = times_add (30 * k + 48 + 12) p (suc m) in
    let all_nodes = ap (times (30 * k + 48 + 12)) (let i = counts in let j = block in let e : k ≡ p + suc m = omega arith in e) in
    let t = times_nodes k k in
    let once = at_least_once k k in
    omega arith

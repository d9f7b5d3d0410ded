-- What each effect keeps, each node keeps, whether it is well typed or not: one line a form.
use Rattle.std.proofs.Common.{ℕ, Bool, true, false, List, [], ◌∷◌, Option}
use Rattle.mir_base.specs.declared.trace.Why.{Why}
use Rattle.mir_ty.specs.ItemTable.{ItemTable}
use Rattle.store_model.specs.Effects as effects
use Rattle.store_model.specs.Effects.{EffectSite, Operand, Action, OfTuple, OfArray, OfVariant, OfClosure, Halt, Effects}
use Rattle.typed_tree.specs.Tree as tree
use Rattle.typed_tree.specs.Tree.{Node, node, Form, Nodes, no_node, a_node, Fields, no_field, a_field, MaybeNode, absent, present}
use Rattle.src_meaning.specs.Evaluation as evaluation
use Rattle.src_meaning.specs.Evaluation.{meaning, meaning_of, meanings, fields_of, meaning_if_any, values_of, in_number_order, to_own_key}
use Rattle.src_meaning.specs.Forms as forms
use Rattle.src_meaning.specs.Forms.{Destination, Into, coerced, LoopsAndGuards, Meaning, in_loop, loop_destination, moved, all_moved, is_never}
use Rattle.src_meaning.specs.Scopes.{Value, Breaks, Continues, Returns, At, Does}
use Rattle.src_meaning.specs.Shape.{NodeHead, head, Shape, kind_of, shape_of}
use Rattle.soundness_cells.proofs.PassKept as rules
use Rattle.soundness_cells.proofs.PassKept.{KeepsCalm}

module _ {V : Type 0} (items : ItemTable) (q : Effects V) (over : Halt → V → Type 0) (calm : V → Type 0)
    (waits : EffectSite → V → Type 0) (keeps : KeepsCalm q over calm waits) (fuel : ℕ) where
  abbrev Kept : Does V → Type 0
  Kept = rules.Kept items q over calm waits keeps

  abbrev Keeping : Meaning V → Type 0
  Keeping = rules.Keeping items q over calm waits keeps

  abbrev AllKeeping : List (Meaning V) → Type 0
  AllKeeping = rules.AllKeeping items q over calm waits keeps

  abbrev KeepingIfAny : Option (Meaning V) → Type 0
  KeepingIfAny = rules.KeepingIfAny items q over calm waits keeps

  abbrev M : Node → Meaning V
  M = meaning items q fuel

  abbrev Ms : Nodes → List (Meaning V)
  Ms = meanings items q fuel

  abbrev Mi : MaybeNode → Option (Meaning V)
  Mi = meaning_if_any items q fuel

  -- ---- nodes by their kinds

  value_keeps : (h : NodeHead) (s : Shape) (evaluate : LoopsAndGuards → Bool → Destination → Does V) →
      ((around : LoopsAndGuards) (own : Bool) (to : Destination) → Kept (evaluate around own to)) →
      Keeping (evaluation.a_value items q fuel h s evaluate)
  value_keeps h s evaluate k = record {
    evaluates = λ around own to. k around own (to_own_key (is_never items h.ty) h.id to);
    reaches = λ around. rules.temporary_kept items q over calm waits keeps h s
        (evaluation.made_in items q fuel h evaluate) around
        (k around false (to_own_key (is_never items h.ty) h.id (Into h.id)));
    arms = λ matched otherwise around to o S v c. c;
  }

  place_keeps : (h : NodeHead) (s : Shape) (reach : LoopsAndGuards → Does V) →
      ((around : LoopsAndGuards) → Kept (reach around)) → Keeping (evaluation.a_place items q fuel h s reach)
  place_keeps h s reach k = record {
    evaluates = λ around own to. rules.use_kept items q over calm waits keeps h s reach around own
        (to_own_key (is_never items h.ty) h.id to) (k around);
    reaches = k;
    arms = λ matched otherwise around to o S v c. c;
  }

  scope_keeps : (h : NodeHead) (s : Shape) (does : LoopsAndGuards → Destination → Does V) →
      ((around : LoopsAndGuards) (to : Destination) → Kept (does around to)) →
      Keeping (evaluation.a_scope items q fuel h s does)
  scope_keeps h s does k = value_keeps h s (evaluation.in_scope_of_its_own items q fuel h does)
      (λ around own to. rules.own_kept items q over calm waits keeps h own (does around to) (k around to))

  effect_keeps : (h : NodeHead) (s : Shape) (action : EffectSite → Action) →
      Keeping (evaluation.effect items q fuel h s action)
  effect_keeps h s action = scope_keeps h s (λ around. forms.deliver items q h action)
      (λ around to. rules.deliver_kept items q over calm waits keeps h action to)

  operands_keep : (h : NodeHead) (s : Shape) (ms : List (Meaning V)) (action : EffectSite → Action) → AllKeeping ms →
      Keeping (evaluation.on_operands items q fuel h s ms action)
  operands_keep h s ms action k = value_keeps h s
      (λ around own to. forms.acting items q h around own ms (forms.deliver items q h action to))
      (λ around own to. rules.acting_kept items q over calm waits keeps h around own ms
      (forms.deliver items q h action to) k (rules.deliver_kept items q over calm waits keeps h action to))

  unit_keeps : (h : NodeHead) (s : Shape) (m : Meaning V) (action : Operand → Action) → Keeping m →
      Keeping (evaluation.gives_unit items q fuel h s m action)
  unit_keeps h s m action k = value_keeps h s
      (λ around own to. forms.acting items q h around own (m ∷ [])
      (evaluation.unit_after items q fuel h (action (moved h.id m.head.id)) to))
      (λ around own to. rules.acting_kept items q over calm waits keeps h around own (m ∷ [])
      (evaluation.unit_after items q fuel h (action (moved h.id m.head.id)) to) (k, tt)
      (rules.both_kept items q over calm waits keeps (forms.acts items q (action (moved h.id m.head.id)))
      (forms.put_unit items q h to)
      (rules.acts_kept items q over calm waits keeps (action (moved h.id m.head.id)))
      (rules.unit_kept items q over calm waits keeps h to)))

  pattern_keeps : (h : NodeHead) (s : Shape) → Keeping (evaluation.a_pattern items q fuel h s)
  pattern_keeps h s = value_keeps h s (λ around own to. At Value) (λ around own to S v c. c)

  shortcut_kept : (h : NodeHead) (truth : Bool) (to : Destination) → Kept (evaluation.shortcut items q fuel h truth to)
  shortcut_kept h truth to =
      rules.deliver_kept items q over calm waits keeps h (λ site. effects.Put site (effects.Truth truth)) to

  otherwise_kept : (h : NodeHead) (o : Option (Meaning V)) (around : LoopsAndGuards) (to : Destination) →
      KeepingIfAny o → Kept (evaluation.otherwise_unit items q fuel h o around to)
  otherwise_kept h o around to k = rules.branch_kept items q over calm waits keeps around to o
      (forms.put_unit items q h to) k (rules.unit_kept items q over calm waits keeps h to)

  body_of : (m : Meaning V) (around : LoopsAndGuards) → Keeping m → Kept (evaluation.body_in items q fuel m around)
  body_of m around k = rules.alone_kept items q over calm waits keeps around m (Into m.head.id) k

  -- ---- the forms

  mutual
    pub node_keeps : (n : Node) → Keeping (M n)
    node_keeps (node id at ty by form) = form_keeps form (head id ty by) (shape_of items form (head id ty by))

    form_keeps : (form : Form) (h : NodeHead) (s : Shape) → Keeping (meaning_of items q fuel form h s)
    form_keeps (tree.Number value) h s = effect_keeps h s (λ site. effects.Put site (effects.Number value (kind_of
        items h.ty)))
    form_keeps (tree.Truth value) h s = effect_keeps h s (λ site. effects.Put site (effects.Truth value))
    form_keeps tree.UnitValue h s = effect_keeps h s (λ site. effects.Put site effects.UnitValue)
    form_keeps (tree.Variable key) h s = place_keeps h s (λ around. At Value) (λ around S v c. c)
    form_keeps (tree.Captured closure part name) h s = place_keeps h s (λ around. At Value) (λ around S v c. c)
    form_keeps (tree.Field base part) h s = place_keeps h s (M base).reach (node_keeps base).reaches
    form_keeps (tree.Index base index length) h s = place_keeps h s
        (forms.reach_element items q h s (M base) (M index) length)
        (λ around. rules.element_kept items q over calm waits keeps h s (M base) (M index) length around
        (node_keeps base) (node_keeps index))
    form_keeps (tree.Deref base) h s = place_keeps h s (M base).reach (node_keeps base).reaches
    form_keeps (tree.Not operand) h s = operands_keep h s (M operand ∷ [])
        (λ site. effects.Not site (moved h.id (M operand).head.id)) (node_keeps operand, tt)
    form_keeps (tree.Negate operand) h s = operands_keep h s (M operand ∷ [])
        (λ site. effects.Negate site (moved h.id (M operand).head.id)) (node_keeps operand, tt)
    form_keeps (tree.Arithmetic operator left right) h s = operands_keep h s (M left ∷ M right ∷ [])
        (λ site. effects.Compute site operator (moved h.id (M left).head.id) (moved h.id (M right).head.id))
        (node_keeps left, (node_keeps right, tt))
    form_keeps (tree.Comparison operator left right) h s = operands_keep h s (M left ∷ M right ∷ [])
        (λ site. effects.Compare site operator (moved h.id (M left).head.id) (moved h.id (M right).head.id))
        (node_keeps left, (node_keeps right, tt))
    form_keeps (tree.And left right) h s = scope_keeps h s (evaluation.conjunction items q fuel h (M left) (M right))
        (λ around to. rules.condition_kept items q over calm waits keeps around (M left)
        (forms.alone items q around (M right) to) (evaluation.shortcut items q fuel h false to) (node_keeps left)
        (rules.alone_kept items q over calm waits keeps around (M right) to (node_keeps right))
        (shortcut_kept h false to))
    form_keeps (tree.Or left right) h s = scope_keeps h s (evaluation.disjunction items q fuel h (M left) (M right))
        (λ around to. rules.condition_kept items q over calm waits keeps around (M left)
        (evaluation.shortcut items q fuel h true to) (forms.alone items q around (M right) to) (node_keeps left)
        (shortcut_kept h true to)
        (rules.alone_kept items q over calm waits keeps around (M right) to (node_keeps right)))
    form_keeps (tree.Assign place value) h s = value_keeps h s (forms.assigning items q h (M place) (M value))
        (λ around own to. rules.assigning_kept items q over calm waits keeps h (M place) (M value) around own to
        (node_keeps place) (node_keeps value))
    form_keeps (tree.Call body args) h s = operands_keep h s (Ms args)
        (λ site. effects.Call site body (all_moved h.id (Ms args))) (all_keep args)
    form_keeps (tree.MethodCall body receiver args) h s = operands_keep h s (M receiver ∷ Ms args)
        (λ site. effects.Call site body (all_moved h.id (M receiver ∷ Ms args))) (node_keeps receiver, all_keep args)
    form_keeps (tree.VirtualCall trait_no method receiver args) h s = operands_keep h s (M receiver ∷ Ms args)
        (λ site. effects.CallVirtual site trait_no method (all_moved h.id (M receiver ∷ Ms args)))
        (node_keeps receiver, all_keep args)
    form_keeps (tree.ClosureCall body callee args) h s = operands_keep h s (M callee ∷ Ms args)
        (λ site. effects.Call site body (all_moved h.id (M callee ∷ Ms args))) (node_keeps callee, all_keep args)
    form_keeps (tree.Make adt variant fields) h s = operands_keep h s (values_of (fields_of items q fuel fields))
        (λ site. effects.Build site (OfVariant adt variant)
        (all_moved h.id (values_of (in_number_order (fields_of items q fuel fields))))) (fields_keep fields)
    form_keeps (tree.Tuple parts) h s = operands_keep h s (Ms parts)
        (λ site. effects.Build site OfTuple (all_moved h.id (Ms parts))) (all_keep parts)
    form_keeps (tree.Array elements) h s = operands_keep h s (Ms elements)
        (λ site. effects.Build site OfArray (all_moved h.id (Ms elements))) (all_keep elements)
    form_keeps (tree.Closure closure captures) h s = operands_keep h s (Ms captures)
        (λ site. effects.Build site (OfClosure closure) (all_moved h.id (Ms captures))) (all_keep captures)
    form_keeps (tree.NewBox content) h s = operands_keep h s (M content ∷ [])
        (λ site. effects.NewBox site (moved h.id (M content).head.id)) (node_keeps content, tt)
    form_keeps (tree.Print operand) h s = unit_keeps h s (M operand) effects.Print (node_keeps operand)
    form_keeps tree.Ask h s = effect_keeps h s effects.Ask
    form_keeps (tree.DropValue operand) h s = value_keeps h s (evaluation.drops items q fuel h (M operand))
        (λ around own to. rules.dropping_kept items q over calm waits keeps h around own (M operand)
        (forms.put_unit items q h to) (node_keeps operand) (rules.unit_kept items q over calm waits keeps h to))
    form_keeps (tree.Forget operand) h s = unit_keeps h s (M operand) effects.Forget (node_keeps operand)
    form_keeps tree.Panic h s = value_keeps h s (λ around own to. forms.panics items q Why.Explicit)
        (λ around own to. rules.panics_kept items q over calm waits keeps Why.Explicit)
    form_keeps (tree.Borrow unique base) h s = value_keeps h s (forms.borrowing items q h unique (M base))
        (λ around own to. rules.borrowing_kept items q over calm waits keeps h unique (M base) around own to
        (node_keeps base))
    form_keeps (tree.Unsize trait_no operand) h s = value_keeps h s (evaluation.coerce items q fuel h trait_no (M
        operand))
        (λ around own to. (node_keeps operand).evaluates around own (coerced (M operand).head.id trait_no to))
    form_keeps (tree.Block stmts tail) h s = value_keeps h s (forms.block items q h (Ms stmts) (Mi tail))
        (λ around own to. rules.block_kept items q over calm waits keeps h (Ms stmts) (Mi tail) around own to
        (all_keep stmts) (any_keeps tail))
    form_keeps (tree.Let pattern initialiser) h s =
        value_keeps h s (λ around own to. forms.letting items q h (M pattern) (Mi initialiser) around)
        (λ around own to. rules.letting_kept items q over calm waits keeps h (M pattern) (Mi initialiser) around
        (any_keeps initialiser))
    form_keeps (tree.Evaluate expression) h s =
        value_keeps h s (λ around own to. forms.evaluating items q h (M expression) around)
        (λ around own to. rules.evaluating_kept items q over calm waits keeps h (M expression) around
        (node_keeps expression))
    form_keeps (tree.If c consequent otherwise) h s =
        scope_keeps h s (evaluation.if_else items q fuel h (M c) (M consequent) (Mi otherwise))
        (λ around to. rules.condition_kept items q over calm waits keeps around (M c)
        (forms.alone items q around (M consequent) to)
        (evaluation.otherwise_unit items q fuel h (Mi otherwise) around to) (node_keeps c)
        (rules.alone_kept items q over calm waits keeps around (M consequent) to (node_keeps consequent))
        (otherwise_kept h (Mi otherwise) around to (any_keeps otherwise)))
    form_keeps (tree.IfLet pattern scrutinee consequent otherwise) h s =
        scope_keeps h s (evaluation.if_let items q fuel h (M pattern) (M scrutinee) (M consequent) (Mi otherwise))
        (λ around to. rules.if_taken_kept items q over calm waits keeps h around (M pattern) (M scrutinee)
        (forms.alone items q around (M consequent) to)
        (evaluation.otherwise_unit items q fuel h (Mi otherwise) around to) (node_keeps scrutinee)
        (rules.alone_kept items q over calm waits keeps around (M consequent) to (node_keeps consequent))
        (otherwise_kept h (Mi otherwise) around to (any_keeps otherwise)))
    form_keeps (tree.Match scrutinee arms) h s = value_keeps h s (forms.matching items q h (M scrutinee) (Ms arms))
        (λ around own to. rules.matching_kept items q over calm waits keeps h (M scrutinee) (Ms arms) around own to
        (node_keeps scrutinee) (all_keep arms))
    form_keeps (tree.Arm pattern guard body) h s = let p = pattern_keeps h s in record {
      evaluates = p.evaluates;
      reaches = p.reaches;
      arms = λ matched otherwise around to o. rules.arm_kept items q over calm waits keeps h (M pattern) (Mi guard)
          (M body) matched otherwise around to (any_keeps guard) (node_keeps body) o;
    }
    form_keeps (tree.Loop body) h s = scope_keeps h s (evaluation.endless items q fuel h (M body))
        (λ around to. rules.turns_kept items q over calm waits keeps fuel h.id
        (evaluation.body_in items q fuel (M body) (in_loop h.id to around))
        (body_of (M body) (in_loop h.id to around) (node_keeps body)))
    form_keeps (tree.While c body) h s = scope_keeps h s (evaluation.while_true items q fuel h (M c) (M body))
        (λ around to. rules.turns_kept items q over calm waits keeps fuel h.id
        (forms.condition items q (in_loop h.id to around) (M c)
        (evaluation.body_in items q fuel (M body) (in_loop h.id to around)) (forms.ends_loop items q h to))
        (rules.condition_kept items q over calm waits keeps (in_loop h.id to around) (M c)
        (evaluation.body_in items q fuel (M body) (in_loop h.id to around)) (forms.ends_loop items q h to)
        (node_keeps c) (body_of (M body) (in_loop h.id to around) (node_keeps body))
        (rules.ends_kept items q over calm waits keeps h to)))
    form_keeps (tree.WhileLet pattern scrutinee body) h s =
        scope_keeps h s (evaluation.while_taken items q fuel h (M pattern) (M scrutinee) (M body))
        (λ around to. rules.turns_kept items q over calm waits keeps fuel h.id
        (forms.if_taken items q h (in_loop h.id to around) (M pattern) (M scrutinee)
        (evaluation.body_in items q fuel (M body) (in_loop h.id to around)) (forms.ends_loop items q h to))
        (rules.if_taken_kept items q over calm waits keeps h (in_loop h.id to around) (M pattern) (M scrutinee)
        (evaluation.body_in items q fuel (M body) (in_loop h.id to around)) (forms.ends_loop items q h to)
        (node_keeps scrutinee) (body_of (M body) (in_loop h.id to around) (node_keeps body))
        (rules.ends_kept items q over calm waits keeps h to)))
    form_keeps (tree.Break loop value) h s = scope_keeps h s (evaluation.breaks items q fuel loop h (Mi value))
        (λ around to. rules.jumping_kept items q over calm waits keeps (Breaks loop) h (Mi value) around
        (loop_destination loop around.loops) (any_keeps value))
    form_keeps (tree.Continue loop) h s = value_keeps h s (λ around own to. At (Continues loop))
        (λ around own to S v c. c)
    form_keeps (tree.Return value) h s = scope_keeps h s (evaluation.returns items q fuel h (Mi value))
        (λ around to. rules.jumping_kept items q over calm waits keeps Returns h (Mi value) around around.answer
        (any_keeps value))
    form_keeps tree.Wildcard h s = pattern_keeps h s
    form_keeps (tree.Binding name) h s = pattern_keeps h s
    form_keeps (tree.NumberPattern value) h s = pattern_keeps h s
    form_keeps (tree.TruthPattern value) h s = pattern_keeps h s
    form_keeps (tree.StructPattern fields) h s = pattern_keeps h s
    form_keeps (tree.VariantPattern variant is_test fields) h s = pattern_keeps h s
    form_keeps (tree.TuplePattern parts) h s = pattern_keeps h s
    form_keeps (tree.ArrayPattern elements) h s = pattern_keeps h s
    form_keeps (tree.OrPattern alternatives) h s = pattern_keeps h s

    all_keep : (ns : Nodes) → AllKeeping (Ms ns)
    all_keep no_node = tt
    all_keep (a_node first rest) = (node_keeps first, all_keep rest)

    fields_keep : (fields : Fields) → AllKeeping (values_of (fields_of items q fuel fields))
    fields_keep no_field = tt
    fields_keep (a_field number value rest) = (node_keeps value, fields_keep rest)

    any_keeps : (m : MaybeNode) → KeepingIfAny (Mi m)
    any_keeps absent = tt
    any_keeps (present value) = node_keeps value

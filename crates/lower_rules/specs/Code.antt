-- Where the code of a node stands: one line a form, beside the lines of `src_meaning/specs/Evaluation`; and that of a
-- body, and of a program.
use Rattle.std.specs.Prelude.{◌≡◌, ℕ, Bool, true, false, List, [], ◌∷◌}
use Rattle.cfg_graph.specs.declared.terminator.Term.{Term}
use Rattle.mir_base.specs.declared.trace.Why.{Why}
use Rattle.store_model.specs.Effects as effects
use Rattle.store_model.specs.Effects.{EffectSite, Operand, Action, OfTuple, OfArray, OfVariant, OfClosure}
use Rattle.store_model.specs.Places.Place.{Place, whole_local}
use Rattle.typed_tree.specs.Tree as tree
use Rattle.typed_tree.specs.Tree.{Node, node, Form, Nodes, no_node, a_node, Fields, no_field, a_field, MaybeNode, absent, present, ParamTree, BodyTree, ProgramTree}
use Rattle.src_meaning.specs.Evaluation.{in_number_order, to_own_key}
use Rattle.src_meaning.specs.Forms.{Destination, Into, coerced, LoopsAndGuards, in_loop, loop_destination, moved, is_never}
use Rattle.src_meaning.specs.Locals.OfBody.{param_key, answer_key}
use Rattle.src_meaning.specs.Scopes.{Scopes, innermost, with_scope, with_entry, with_pending}
use Rattle.src_meaning.specs.Shape.{NodeHead, head, Shape, BoundName, kind_of, shape, shape_of}
use Rattle.src_meaning.specs.FieldKeys.{field_keys, moved_fields}
use Rattle.lower_rules.specs.Rules.{EvaluatesAt, ReachesAt, NodeCode, CodeIfAny, no_code, a_code, all_moved, Delivers, PutsUnit, InOwnScope, AloneAt, ActingAt, DroppingAt, TemporaryAt, UseAt, ElementAt, BorrowAt, UnitAfterAt, AssignAt, ConditionAt, BranchAt, BindsAt, PanicsAt, IfTakenAt, MatchAt, ArmAt, BlockAt, EvaluatingAt, LetAt, LoopAt, JumpValueAt}
use Rattle.lower_rules.specs.Spots.{CodeTarget, CodePos, Ways, ways_of, body_ways, CodeSpot, Then, After, Nothing, StepAt, TermAt, Joins, InScope, JumpAt, node_at}

module _ (t : CodeTarget) where
  abbrev pub MakesIntoAt : Type 1
  MakesIntoAt = LoopsAndGuards → Ways → Destination → CodeSpot

  abbrev pub made_in : NodeHead → EvaluatesAt → EvaluatesAt
  made_in h P around c own to = P around c own (to_own_key (is_never t.items h.ty) h.id to)

  abbrev pub no_arm : Place → CodePos → LoopsAndGuards → Ways → Destination → CodeSpot
  no_arm matched rest around c to = Joins t Nothing

  abbrev pub a_value : NodeHead → Shape → EvaluatesAt → NodeCode
  a_value h s P = record {
    head = h;
    shape = s;
    evaluates = made_in h P;
    reaches = TemporaryAt t h s (made_in h P);
    arm = no_arm;
  }

  abbrev pub a_place : NodeHead → Shape → ReachesAt → NodeCode
  a_place h s P = record {
    head = h;
    shape = s;
    evaluates = made_in h (UseAt t h s P);
    reaches = P;
    arm = no_arm;
  }

  abbrev pub in_scope_of_its_own : NodeHead → MakesIntoAt → EvaluatesAt
  in_scope_of_its_own h P around c own to = InOwnScope t h own (P around c to)

  abbrev pub a_scope : NodeHead → Shape → MakesIntoAt → NodeCode
  a_scope h s P = a_value h s (in_scope_of_its_own h P)

  abbrev pub effect : NodeHead → Shape → (EffectSite → Action) → NodeCode
  effect h s action = a_scope h s (λ around c. Delivers t h action)

  abbrev pub on_operands : NodeHead → Shape → List NodeCode → (EffectSite → Action) → NodeCode
  on_operands h s ms action =
      a_value h s (λ around c own to. ActingAt t h around c own ms (Delivers t h action to))

  abbrev pub on_one : NodeHead → Shape → NodeCode → (EffectSite → Operand → Action) → NodeCode
  on_one h s m action = on_operands h s (m ∷ []) (λ site. action site (moved h.id m.head.id))

  abbrev pub on_two : NodeHead → Shape → NodeCode → NodeCode → (EffectSite → Operand → Operand → Action) → NodeCode
  on_two h s m m' action =
      on_operands h s (m ∷ m' ∷ []) (λ site. action site (moved h.id m.head.id) (moved h.id m'.head.id))

  abbrev pub on_all : NodeHead → Shape → List NodeCode → (EffectSite → List Operand → Action) → NodeCode
  on_all h s ms action = on_operands h s ms (λ site. action site (all_moved h.id ms))

  abbrev pub gives_unit : NodeHead → Shape → NodeCode → (Operand → Action) → NodeCode
  gives_unit h s m action =
      a_value h s (λ around c own to.
      ActingAt t h around c own (m ∷ []) (UnitAfterAt t h (action (moved h.id m.head.id)) to))

  abbrev pub drops : NodeHead → NodeCode → EvaluatesAt
  drops h m around c own to = DroppingAt t h around c own m (PutsUnit t h to)

  abbrev pub a_statement : NodeHead → Shape → ReachesAt → NodeCode
  a_statement h s P = a_value h s (λ around c own to. P around c)

  abbrev pub a_pattern : NodeHead → Shape → NodeCode
  a_pattern h s = a_value h s (λ around c own to. Nothing)

  abbrev pub shortcut : NodeHead → Bool → Destination → CodeSpot
  shortcut h truth to = Delivers t h (λ site. effects.Put site (effects.Truth truth)) to

  abbrev pub conjunction : NodeHead → NodeCode → NodeCode → MakesIntoAt
  conjunction h left right around c to =
      ConditionAt t around c left (AloneAt t around c right to) (shortcut h false to)

  abbrev pub disjunction : NodeHead → NodeCode → NodeCode → MakesIntoAt
  disjunction h left right around c to =
      ConditionAt t around c left (shortcut h true to) (AloneAt t around c right to)

  abbrev pub otherwise_unit : NodeHead → CodeIfAny → MakesIntoAt
  otherwise_unit h otherwise around c to = BranchAt t around c to otherwise (PutsUnit t h to)

  abbrev pub if_else : NodeHead → NodeCode → NodeCode → CodeIfAny → MakesIntoAt
  if_else h condition consequent otherwise around c to =
      ConditionAt t around c condition (AloneAt t around c consequent to) (otherwise_unit h otherwise around c to)

  abbrev pub if_let : NodeHead → NodeCode → NodeCode → NodeCode → CodeIfAny → MakesIntoAt
  if_let h pattern scrutinee consequent otherwise around c to =
      IfTakenAt t h around c pattern scrutinee
      (AloneAt t around c consequent to)
      (otherwise_unit h otherwise around c to)

  -- the body of a loop
  abbrev pub body_in : NodeCode → LoopsAndGuards → Ways → CodeSpot
  body_in m around c = AloneAt t around c m (Into m.head.id)

  -- the end of a loop with a condition
  abbrev pub ends_loop : NodeHead → Destination → Ways → CodeSpot
  ends_loop h to c = JumpAt t (ways_of h.id c).breaks (PutsUnit t h to)

  abbrev pub endless : NodeHead → NodeCode → MakesIntoAt
  endless h m around c to = LoopAt t h.id (body_in m (in_loop h.id to around)) c

  abbrev pub while_true : NodeHead → NodeCode → NodeCode → MakesIntoAt
  while_true h condition m around c to = LoopAt t h.id
      (λ c. ConditionAt t (in_loop h.id to around) c condition
      (body_in m (in_loop h.id to around) c)
      (ends_loop h to c)) c

  abbrev pub while_taken : NodeHead → NodeCode → NodeCode → NodeCode → MakesIntoAt
  while_taken h pattern scrutinee m around c to = LoopAt t h.id
      (λ c. IfTakenAt t h (in_loop h.id to around) c pattern scrutinee
      (body_in m (in_loop h.id to around) c)
      (ends_loop h to c)) c

  abbrev pub breaks : ℕ → NodeHead → CodeIfAny → MakesIntoAt
  breaks loop h m around c to =
      JumpAt t (ways_of loop c).breaks (JumpValueAt t h m around c (loop_destination loop around.loops))

  abbrev pub returns : NodeHead → CodeIfAny → MakesIntoAt
  returns h m around c to = JumpAt t c.returns (JumpValueAt t h m around c around.answer)

  abbrev pub coerce : NodeHead → ℕ → NodeCode → EvaluatesAt
  coerce h trait_no m around c own to = m.evaluates around c own (coerced m.head.id trait_no to)

  abbrev mutual
    pub code : Node → NodeCode
    code (node id at ty by form) = code_of form (head id ty by) (shape_of t.items form (head id ty by))

    pub code_of : Form → NodeHead → Shape → NodeCode
    code_of (tree.Number value) h s =
        effect h s (λ site. effects.Put site (effects.Number value (kind_of t.items h.ty)))
    code_of (tree.Truth value) h s = effect h s (λ site. effects.Put site (effects.Truth value))
    code_of tree.UnitValue h s = effect h s (λ site. effects.Put site effects.UnitValue)
    code_of (tree.Variable key) h s = a_place h s (λ around c. Nothing)
    code_of (tree.Captured closure part name) h s = a_place h s (λ around c. Nothing)
    code_of (tree.Field base part) h s = a_place h s (code base).reaches
    code_of (tree.Index base index length) h s = a_place h s (ElementAt t h s (code base) (code index) length)
    code_of (tree.Deref base) h s = a_place h s (code base).reaches
    code_of (tree.Not operand) h s = on_one h s (code operand) effects.Not
    code_of (tree.Negate operand) h s = on_one h s (code operand) effects.Negate
    code_of (tree.Arithmetic operator left right) h s =
        on_two h s (code left) (code right) (λ site. effects.Compute site operator)
    code_of (tree.Comparison operator left right) h s =
        on_two h s (code left) (code right) (λ site. effects.Compare site operator)
    code_of (tree.And left right) h s = a_scope h s (conjunction h (code left) (code right))
    code_of (tree.Or left right) h s = a_scope h s (disjunction h (code left) (code right))
    code_of (tree.Assign place value) h s = a_value h s (AssignAt t h (code place) (code value))
    code_of (tree.Call body args) h s = on_all h s (codes_of args) (λ site. effects.Call site body)
    code_of (tree.MethodCall body receiver args) h s =
        on_all h s (code receiver ∷ codes_of args) (λ site. effects.Call site body)
    code_of (tree.VirtualCall trait_no method receiver args) h s =
        on_all h s (code receiver ∷ codes_of args) (λ site. effects.CallVirtual site trait_no method)
    code_of (tree.ClosureCall body callee args) h s =
        on_all h s (code callee ∷ codes_of args) (λ site. effects.Call site body)
    code_of (tree.Make adt variant fields) h s =
        on_operands h s (field_codes fields)
        (λ site. effects.Build site (OfVariant adt variant) (moved_fields h.id (in_number_order (field_keys fields))))
    code_of (tree.Tuple parts) h s = on_all h s (codes_of parts) (λ site. effects.Build site OfTuple)
    code_of (tree.Array elements) h s = on_all h s (codes_of elements) (λ site. effects.Build site OfArray)
    code_of (tree.Closure closure captures) h s =
        on_all h s (codes_of captures) (λ site. effects.Build site (OfClosure closure))
    code_of (tree.NewBox content) h s = on_one h s (code content) effects.NewBox
    code_of (tree.Print operand) h s = gives_unit h s (code operand) effects.Print
    code_of tree.Ask h s = effect h s effects.Ask
    code_of (tree.DropValue operand) h s = a_value h s (drops h (code operand))
    code_of (tree.Forget operand) h s = gives_unit h s (code operand) effects.Forget
    code_of tree.Panic h s = a_value h s (λ around c own to. PanicsAt t Why.Explicit)
    code_of (tree.Borrow unique base) h s = a_value h s (BorrowAt t h unique (code base))
    code_of (tree.Unsize trait_no operand) h s = a_value h s (coerce h trait_no (code operand))
    code_of (tree.Block stmts tail) h s = a_value h s (BlockAt t h (codes_of stmts) (code_if_any tail))
    code_of (tree.Let pattern initialiser) h s =
        a_statement h s (LetAt t h (code pattern) (code_if_any initialiser))
    code_of (tree.Evaluate expression) h s = a_statement h s (EvaluatingAt t h (code expression))
    code_of (tree.If condition consequent otherwise) h s =
        a_scope h s (if_else h (code condition) (code consequent) (code_if_any otherwise))
    code_of (tree.IfLet pattern scrutinee consequent otherwise) h s =
        a_scope h s (if_let h (code pattern) (code scrutinee) (code consequent) (code_if_any otherwise))
    code_of (tree.Match scrutinee arms) h s = a_value h s (MatchAt t h (code scrutinee) (codes_of arms))
    code_of (tree.Arm pattern guard m) h s =
        record (a_pattern h s) { arm = ArmAt t h (code pattern) (code_if_any guard) (code m) }
    code_of (tree.Loop m) h s = a_scope h s (endless h (code m))
    code_of (tree.While condition m) h s = a_scope h s (while_true h (code condition) (code m))
    code_of (tree.WhileLet pattern scrutinee m) h s =
        a_scope h s (while_taken h (code pattern) (code scrutinee) (code m))
    code_of (tree.Break loop value) h s = a_scope h s (breaks loop h (code_if_any value))
    code_of (tree.Continue loop) h s =
        a_value h s (λ around c own to. JumpAt t (ways_of loop c).continues Nothing)
    code_of (tree.Return value) h s = a_scope h s (returns h (code_if_any value))
    code_of tree.Wildcard h s = a_pattern h s
    code_of (tree.Binding name) h s = a_pattern h s
    code_of (tree.NumberPattern value) h s = a_pattern h s
    code_of (tree.TruthPattern value) h s = a_pattern h s
    code_of (tree.StructPattern fields) h s = a_pattern h s
    code_of (tree.VariantPattern variant is_test fields) h s = a_pattern h s
    code_of (tree.TuplePattern parts) h s = a_pattern h s
    code_of (tree.ArrayPattern elements) h s = a_pattern h s
    code_of (tree.OrPattern alternatives) h s = a_pattern h s

    pub codes_of : Nodes → List NodeCode
    codes_of no_node = []
    codes_of (a_node first rest) = code first ∷ codes_of rest

    pub field_codes : Fields → List NodeCode
    field_codes no_field = []
    field_codes (a_field number value rest) = code value ∷ field_codes rest

    pub code_if_any : MaybeNode → CodeIfAny
    code_if_any absent = no_code
    code_if_any (present value) = a_code (code value)

  -- Bodies.

  abbrev pub NamesAt : Bool → List BoundName → CodeSpot
  NamesAt true bounds = Nothing
  NamesAt false bounds = BindsAt t innermost bounds

  abbrev pub ParamsAt : List ParamTree → CodeSpot
  ParamsAt [] = Nothing
  ParamsAt (param ∷ params) =
      After (innermost (with_entry (record { key = param_key param; ty = param.ty })))
      (Then (NamesAt (shape t.items param.pattern).is_binding
      ((shape t.items param.pattern).bindings (whole_local (param_key param))))
      (ParamsAt params))

  abbrev pub around_body : BodyTree → LoopsAndGuards
  around_body body = record { answer = Into (answer_key body); loops = []; aliases = [] }

  abbrev pub answer_scope : BodyTree → Scopes
  answer_scope body =
      innermost (with_pending (record { key = answer_key body; ty = body.answer }))
      (with_scope (answer_key body) false [])

  -- the entire function: the parameters, and the block into the result
  abbrev pub FunctionAt : BodyTree → (returns : ℕ) → CodeSpot
  FunctionAt body n =
      InScope t (answer_key body) true (Then (ParamsAt body.params)
      ((code body.block).evaluates (around_body body) (body_ways n) false (Into (answer_key body))))

  -- the code of a body, from its first block to one that returns
  abbrev pub BodyAt : BodyTree → Type 0
  BodyAt body =
      (returns : ℕ) × StepAt t 0 × StepAt t returns × TermAt t Term.Return (returns, 0)
      × (node_at t (returns, 0) ≡ answer_key body) × (t.local_of (answer_key body) ≡ 0)
      × Joins t (FunctionAt body returns) (answer_scope body) (0, 0) (answer_scope body) (returns, 0)

-- What a typed node does: one line a form, over any effects (The Rust Reference, "Expressions", "Statements",
-- "Patterns"). The lines are made of the rules of `Forms`.
use Rattle.std.specs.Prelude.{ℕ, nat_lt, Bool, true, false, List, [], ◌∷◌, map, Option, Some, None, if◌then◌else◌}
use Rattle.mir_base.specs.declared.trace.Why.{Why}
use Rattle.mir_ty.specs.ItemTable.{ItemTable}
use Rattle.store_model.specs.Effects as effects
use Rattle.store_model.specs.Effects.{EffectSite, Operand, Action, OfTuple, OfArray, OfVariant, OfClosure, Effects}
use Rattle.store_model.specs.Places.Place.{Place}
use Rattle.typed_tree.specs.Tree as tree
use Rattle.typed_tree.specs.Tree.{Node, node, Form, Nodes, no_node, a_node, Fields, no_field, a_field, MaybeNode, absent, present}
use Rattle.src_meaning.specs.Scopes.{Value, Breaks, Continues, Returns, At, Does, ◌>>◌}
use Rattle.src_meaning.specs.Shape.{NodeHead, head, Shape, kind_of, shape_of}
use Rattle.src_meaning.specs.Forms as forms
use Rattle.src_meaning.specs.Forms.{Destination, Into, coerced, LoopsAndGuards, in_loop, loop_destination, Meaning, moved, all_moved, is_never}

-- fields in the order of their numbers, which is that of the parts
abbrev pub insert_field : {A : Type 0} → ℕ → A → List (ℕ × A) → List (ℕ × A)
insert_field n a [] = (n, a) ∷ []
insert_field n a (f ∷ fields) = if nat_lt n f.0 then (n, a) ∷ f ∷ fields else f ∷ insert_field n a fields

abbrev pub in_number_order : {A : Type 0} → List (ℕ × A) → List (ℕ × A)
in_number_order [] = []
in_number_order (f ∷ fields) = insert_field f.0 f.1 (in_number_order fields)

abbrev pub values_of : {W : Type 0} → List (ℕ × Meaning W) → List (Meaning W)
values_of fields = map (λ f. f.1) fields

-- what is made by a node of type `!` is made nowhere
abbrev pub to_own_key : Bool → ℕ → Destination → Destination
to_own_key true id to = Into id
to_own_key false id to = to

module _ {W : Type 0} (items : ItemTable) (p : Effects W) (fuel : ℕ) where
  abbrev pub Evaluates : Type 0
  Evaluates = LoopsAndGuards → Bool → Destination → Does W

  abbrev pub MakesInto : Type 0
  MakesInto = LoopsAndGuards → Destination → Does W

  abbrev pub made_in : NodeHead → Evaluates → Evaluates
  made_in h evaluate around own to = evaluate around own (to_own_key (is_never items h.ty) h.id to)

  -- only arms are arms
  abbrev pub no_arm : Place → Does W → LoopsAndGuards → Destination → Does W
  no_arm matched otherwise around to = At Value

  abbrev pub a_value : NodeHead → Shape → Evaluates → Meaning W
  a_value h s evaluate = record {
    head = h;
    shape = s;
    evaluate = made_in h evaluate;
    reach = forms.temporary items p h s (made_in h evaluate);
    arm = no_arm;
  }

  abbrev pub a_place : NodeHead → Shape → (LoopsAndGuards → Does W) → Meaning W
  a_place h s reach = record {
    head = h;
    shape = s;
    evaluate = made_in h (forms.use_of_place items p h s reach);
    reach = reach;
    arm = no_arm;
  }

  abbrev pub in_scope_of_its_own : NodeHead → MakesInto → Evaluates
  in_scope_of_its_own h does around own to = forms.in_own_scope items p h own (does around to)

  abbrev pub a_scope : NodeHead → Shape → MakesInto → Meaning W
  a_scope h s does = a_value h s (in_scope_of_its_own h does)

  -- one effect, whose answer goes to the destination; one effect after the operands are made
  abbrev pub effect : NodeHead → Shape → (EffectSite → Action) → Meaning W
  effect h s action = a_scope h s (λ around. forms.deliver items p h action)

  abbrev pub on_operands : NodeHead → Shape → List (Meaning W) → (EffectSite → Action) → Meaning W
  on_operands h s ms action =
      a_value h s (λ around own to. forms.acting items p h around own ms (forms.deliver items p h action to))

  abbrev pub on_one : NodeHead → Shape → Meaning W → (EffectSite → Operand → Action) → Meaning W
  on_one h s m action = on_operands h s (m ∷ []) (λ site. action site (moved h.id m.head.id))

  abbrev pub on_two : NodeHead → Shape → Meaning W → Meaning W → (EffectSite → Operand → Operand → Action) → Meaning W
  on_two h s m m' action =
      on_operands h s (m ∷ m' ∷ []) (λ site. action site (moved h.id m.head.id) (moved h.id m'.head.id))

  abbrev pub on_all : NodeHead → Shape → List (Meaning W) → (EffectSite → List Operand → Action) → Meaning W
  on_all h s ms action = on_operands h s ms (λ site. action site (all_moved h.id ms))

  -- the fields are made in the order in which they are written, and stand in the order of their numbers
  abbrev pub on_fields : NodeHead → Shape → List (ℕ × Meaning W) → (EffectSite → List Operand → Action) → Meaning W
  on_fields h s fields action =
      on_operands h s (values_of fields) (λ site. action site (all_moved h.id (values_of (in_number_order fields))))

  -- an action without an answer gives `()`
  abbrev pub unit_after : NodeHead → Action → Destination → Does W
  unit_after h action to = do
    forms.acts items p action
    forms.put_unit items p h to

  abbrev pub gives_unit : NodeHead → Shape → Meaning W → (Operand → Action) → Meaning W
  gives_unit h s m action =
      a_value h s (λ around own to.
      forms.acting items p h around own (m ∷ []) (unit_after h (action (moved h.id m.head.id)) to))

  abbrev pub drops : NodeHead → Meaning W → Evaluates
  drops h m around own to = forms.dropping items p h around own m (forms.put_unit items p h to)

  abbrev pub a_statement : NodeHead → Shape → (LoopsAndGuards → Does W) → Meaning W
  a_statement h s does = a_value h s (λ around own to. does around)

  -- a pattern is not evaluated: its shape has its tests and its names
  abbrev pub a_pattern : NodeHead → Shape → Meaning W
  a_pattern h s = a_value h s (λ around own to. At Value)

  abbrev pub shortcut : NodeHead → Bool → Destination → Does W
  shortcut h truth to = forms.deliver items p h (λ site. effects.Put site (effects.Truth truth)) to

  -- `left && right` is `if left { right } else { false }`, `left || right` is `if left { true } else { right }`
  abbrev pub conjunction : NodeHead → Meaning W → Meaning W → MakesInto
  conjunction h left right around to =
      forms.condition items p around left (forms.alone items p around right to) (shortcut h false to)

  abbrev pub disjunction : NodeHead → Meaning W → Meaning W → MakesInto
  disjunction h left right around to =
      forms.condition items p around left (shortcut h true to) (forms.alone items p around right to)

  -- the branch that is there, or `()`
  abbrev pub otherwise_unit : NodeHead → Option (Meaning W) → MakesInto
  otherwise_unit h otherwise around to = forms.branch items p around to otherwise (forms.put_unit items p h to)

  abbrev pub if_else : NodeHead → Meaning W → Meaning W → Option (Meaning W) → MakesInto
  if_else h c consequent otherwise around to =
      forms.condition items p around c (forms.alone items p around consequent to) (otherwise_unit h otherwise around to)

  abbrev pub if_let : NodeHead → Meaning W → Meaning W → Meaning W → Option (Meaning W) → MakesInto
  if_let h pattern scrutinee consequent otherwise around to =
      forms.if_taken items p h around pattern scrutinee
      (forms.alone items p around consequent to)
      (otherwise_unit h otherwise around to)

  -- the body of a loop
  abbrev pub body_in : Meaning W → LoopsAndGuards → Does W
  body_in body around = forms.alone items p around body (Into body.head.id)

  abbrev pub endless : NodeHead → Meaning W → MakesInto
  endless h body around to = forms.turns items p fuel h.id (body_in body (in_loop h.id to around))

  abbrev pub while_true : NodeHead → Meaning W → Meaning W → MakesInto
  while_true h c body around to = forms.turns items p fuel h.id
      (forms.condition items p (in_loop h.id to around) c
      (body_in body (in_loop h.id to around))
      (forms.ends_loop items p h to))

  abbrev pub while_taken : NodeHead → Meaning W → Meaning W → Meaning W → MakesInto
  while_taken h pattern scrutinee body around to = forms.turns items p fuel h.id
      (forms.if_taken items p h (in_loop h.id to around) pattern scrutinee
      (body_in body (in_loop h.id to around))
      (forms.ends_loop items p h to))

  abbrev pub breaks : ℕ → NodeHead → Option (Meaning W) → MakesInto
  breaks loop h m around to = forms.jumping items p (Breaks loop) h m around (loop_destination loop around.loops)

  abbrev pub returns : NodeHead → Option (Meaning W) → MakesInto
  returns h m around to = forms.jumping items p Returns h m around around.answer

  abbrev pub coerce : NodeHead → ℕ → Meaning W → Evaluates
  coerce h trait_no m around own to = m.evaluate around own (coerced m.head.id trait_no to)

  abbrev mutual
    pub meaning : Node → Meaning W
    meaning (node id at ty by form) = meaning_of form (head id ty by) (shape_of items form (head id ty by))

    pub meaning_of : Form → NodeHead → Shape → Meaning W
    meaning_of (tree.Number value) h s =
        effect h s (λ site. effects.Put site (effects.Number value (kind_of items h.ty)))
    meaning_of (tree.Truth value) h s = effect h s (λ site. effects.Put site (effects.Truth value))
    meaning_of tree.UnitValue h s = effect h s (λ site. effects.Put site effects.UnitValue)
    meaning_of (tree.Variable key) h s = a_place h s (λ around. At Value)
    meaning_of (tree.Captured closure part name) h s = a_place h s (λ around. At Value)
    meaning_of (tree.Field base part) h s = a_place h s (meaning base).reach
    meaning_of (tree.Index base index length) h s =
        a_place h s (forms.reach_element items p h s (meaning base) (meaning index) length)
    meaning_of (tree.Deref base) h s = a_place h s (meaning base).reach
    meaning_of (tree.Not operand) h s = on_one h s (meaning operand) effects.Not
    meaning_of (tree.Negate operand) h s = on_one h s (meaning operand) effects.Negate
    meaning_of (tree.Arithmetic operator left right) h s =
        on_two h s (meaning left) (meaning right) (λ site. effects.Compute site operator)
    meaning_of (tree.Comparison operator left right) h s =
        on_two h s (meaning left) (meaning right) (λ site. effects.Compare site operator)
    meaning_of (tree.And left right) h s = a_scope h s (conjunction h (meaning left) (meaning right))
    meaning_of (tree.Or left right) h s = a_scope h s (disjunction h (meaning left) (meaning right))
    meaning_of (tree.Assign place value) h s = a_value h s (forms.assigning items p h (meaning place) (meaning value))
    meaning_of (tree.Call body args) h s = on_all h s (meanings args) (λ site. effects.Call site body)
    meaning_of (tree.MethodCall body receiver args) h s =
        on_all h s (meaning receiver ∷ meanings args) (λ site. effects.Call site body)
    meaning_of (tree.VirtualCall trait_no method receiver args) h s =
        on_all h s (meaning receiver ∷ meanings args) (λ site. effects.CallVirtual site trait_no method)
    meaning_of (tree.ClosureCall body callee args) h s =
        on_all h s (meaning callee ∷ meanings args) (λ site. effects.Call site body)
    meaning_of (tree.Make adt variant fields) h s =
        on_fields h s (fields_of fields) (λ site. effects.Build site (OfVariant adt variant))
    meaning_of (tree.Tuple parts) h s = on_all h s (meanings parts) (λ site. effects.Build site OfTuple)
    meaning_of (tree.Array elements) h s = on_all h s (meanings elements) (λ site. effects.Build site OfArray)
    meaning_of (tree.Closure closure captures) h s =
        on_all h s (meanings captures) (λ site. effects.Build site (OfClosure closure))
    meaning_of (tree.NewBox content) h s = on_one h s (meaning content) effects.NewBox
    meaning_of (tree.Print operand) h s = gives_unit h s (meaning operand) effects.Print
    meaning_of tree.Ask h s = effect h s effects.Ask
    meaning_of (tree.DropValue operand) h s = a_value h s (drops h (meaning operand))
    meaning_of (tree.Forget operand) h s = gives_unit h s (meaning operand) effects.Forget
    meaning_of tree.Panic h s = a_value h s (λ around own to. forms.panics items p Why.Explicit)
    meaning_of (tree.Borrow unique base) h s = a_value h s (forms.borrowing items p h unique (meaning base))
    meaning_of (tree.Unsize trait_no operand) h s = a_value h s (coerce h trait_no (meaning operand))
    meaning_of (tree.Block stmts tail) h s =
        a_value h s (forms.block items p h (meanings stmts) (meaning_if_any tail))
    meaning_of (tree.Let pattern initialiser) h s =
        a_statement h s (forms.letting items p h (meaning pattern) (meaning_if_any initialiser))
    meaning_of (tree.Evaluate expression) h s = a_statement h s (forms.evaluating items p h (meaning expression))
    meaning_of (tree.If c consequent otherwise) h s =
        a_scope h s (if_else h (meaning c) (meaning consequent) (meaning_if_any otherwise))
    meaning_of (tree.IfLet pattern scrutinee consequent otherwise) h s =
        a_scope h s (if_let h (meaning pattern) (meaning scrutinee) (meaning consequent) (meaning_if_any otherwise))
    meaning_of (tree.Match scrutinee arms) h s =
        a_value h s (forms.matching items p h (meaning scrutinee) (meanings arms))
    meaning_of (tree.Arm pattern guard body) h s =
        record (a_pattern h s) { arm = forms.arm items p h (meaning pattern) (meaning_if_any guard) (meaning body) }
    meaning_of (tree.Loop body) h s = a_scope h s (endless h (meaning body))
    meaning_of (tree.While c body) h s = a_scope h s (while_true h (meaning c) (meaning body))
    meaning_of (tree.WhileLet pattern scrutinee body) h s =
        a_scope h s (while_taken h (meaning pattern) (meaning scrutinee) (meaning body))
    meaning_of (tree.Break loop value) h s = a_scope h s (breaks loop h (meaning_if_any value))
    meaning_of (tree.Continue loop) h s = a_value h s (λ around own to. At (Continues loop))
    meaning_of (tree.Return value) h s = a_scope h s (returns h (meaning_if_any value))
    meaning_of tree.Wildcard h s = a_pattern h s
    meaning_of (tree.Binding name) h s = a_pattern h s
    meaning_of (tree.NumberPattern value) h s = a_pattern h s
    meaning_of (tree.TruthPattern value) h s = a_pattern h s
    meaning_of (tree.StructPattern fields) h s = a_pattern h s
    meaning_of (tree.VariantPattern variant is_test fields) h s = a_pattern h s
    meaning_of (tree.TuplePattern parts) h s = a_pattern h s
    meaning_of (tree.ArrayPattern elements) h s = a_pattern h s
    meaning_of (tree.OrPattern alternatives) h s = a_pattern h s

    pub meanings : Nodes → List (Meaning W)
    meanings no_node = []
    meanings (a_node first rest) = meaning first ∷ meanings rest

    pub fields_of : Fields → List (ℕ × Meaning W)
    fields_of no_field = []
    fields_of (a_field number value rest) = (number, meaning value) ∷ fields_of rest

    pub meaning_if_any : MaybeNode → Option (Meaning W)
    meaning_if_any absent = None
    meaning_if_any (present value) = Some (meaning value)

-- What a form does, given what its parts do: the lines of `src_meaning/specs/Evaluation` in which the meanings of the
-- parts are left open. With those of the evaluation in them they are the evaluation.
use Rattle.std.specs.Prelude.{ℕ, List, [], ◌∷◌, Option, Some, None}
use Rattle.mir_base.specs.declared.trace.Why.{Why}
use Rattle.mir_ty.specs.ItemTable.{ItemTable}
use Rattle.src_meaning.specs.Evaluation as evaluation
use Rattle.src_meaning.specs.Forms as forms
use Rattle.src_meaning.specs.Forms.{Meaning}
use Rattle.src_meaning.specs.Scopes.{Value, Continues, At}
use Rattle.src_meaning.specs.Shape.{NodeHead, head, Shape, kind_of, shape_of}
use Rattle.store_model.specs.Effects as effects
use Rattle.store_model.specs.Effects.{OfTuple, OfArray, OfVariant, OfClosure, Effects}
use Rattle.typed_tree.specs.Tree as tree
use Rattle.typed_tree.specs.Tree.{Node, node, Form, Nodes, no_node, a_node, Fields, no_field, a_field, MaybeNode, absent, present}

module _ {W : Type 0} (items : ItemTable) (p : Effects W) (fuel : ℕ) (part : Node → Meaning W) where
  abbrev pub each_part : Nodes → List (Meaning W)
  each_part no_node = []
  each_part (a_node first rest) = part first ∷ each_part rest

  abbrev pub each_field : Fields → List (ℕ × Meaning W)
  each_field no_field = []
  each_field (a_field number value rest) = (number, part value) ∷ each_field rest

  abbrev pub if_any : MaybeNode → Option (Meaning W)
  if_any absent = None
  if_any (present value) = Some (part value)

  -- one line a form
  abbrev pub meaning_with : Form → NodeHead → Shape → Meaning W
  meaning_with (tree.Number value) h s =
      evaluation.effect items p fuel h s (λ site. effects.Put site (effects.Number value (kind_of items h.ty)))
  meaning_with (tree.Truth value) h s =
      evaluation.effect items p fuel h s (λ site. effects.Put site (effects.Truth value))
  meaning_with tree.UnitValue h s = evaluation.effect items p fuel h s (λ site. effects.Put site effects.UnitValue)
  meaning_with (tree.Variable key) h s = evaluation.a_place items p fuel h s (λ around. At Value)
  meaning_with (tree.Captured closure number name) h s = evaluation.a_place items p fuel h s (λ around. At Value)
  meaning_with (tree.Field base number) h s = evaluation.a_place items p fuel h s (part base).reach
  meaning_with (tree.Index base index length) h s =
      evaluation.a_place items p fuel h s (forms.reach_element items p h s (part base) (part index) length)
  meaning_with (tree.Deref base) h s = evaluation.a_place items p fuel h s (part base).reach
  meaning_with (tree.Not operand) h s = evaluation.on_one items p fuel h s (part operand) effects.Not
  meaning_with (tree.Negate operand) h s = evaluation.on_one items p fuel h s (part operand) effects.Negate
  meaning_with (tree.Arithmetic operator left right) h s =
      evaluation.on_two items p fuel h s (part left) (part right) (λ site. effects.Compute site operator)
  meaning_with (tree.Comparison operator left right) h s =
      evaluation.on_two items p fuel h s (part left) (part right) (λ site. effects.Compare site operator)
  meaning_with (tree.And left right) h s =
      evaluation.a_scope items p fuel h s (evaluation.conjunction items p fuel h (part left) (part right))
  meaning_with (tree.Or left right) h s =
      evaluation.a_scope items p fuel h s (evaluation.disjunction items p fuel h (part left) (part right))
  meaning_with (tree.Assign place value) h s =
      evaluation.a_value items p fuel h s (forms.assigning items p h (part place) (part value))
  meaning_with (tree.Call body args) h s =
      evaluation.on_all items p fuel h s (each_part args) (λ site. effects.Call site body)
  meaning_with (tree.MethodCall body receiver args) h s =
      evaluation.on_all items p fuel h s (part receiver ∷ each_part args) (λ site. effects.Call site body)
  meaning_with (tree.VirtualCall trait_no method receiver args) h s =
      evaluation.on_all items p fuel h s (part receiver ∷ each_part args)
      (λ site. effects.CallVirtual site trait_no method)
  meaning_with (tree.ClosureCall body callee args) h s =
      evaluation.on_all items p fuel h s (part callee ∷ each_part args) (λ site. effects.Call site body)
  meaning_with (tree.Make adt variant fields) h s =
      evaluation.on_fields items p fuel h s (each_field fields) (λ site. effects.Build site (OfVariant adt variant))
  meaning_with (tree.Tuple parts) h s =
      evaluation.on_all items p fuel h s (each_part parts) (λ site. effects.Build site OfTuple)
  meaning_with (tree.Array elements) h s =
      evaluation.on_all items p fuel h s (each_part elements) (λ site. effects.Build site OfArray)
  meaning_with (tree.Closure closure captures) h s =
      evaluation.on_all items p fuel h s (each_part captures) (λ site. effects.Build site (OfClosure closure))
  meaning_with (tree.NewBox content) h s = evaluation.on_one items p fuel h s (part content) effects.NewBox
  meaning_with (tree.Print operand) h s = evaluation.gives_unit items p fuel h s (part operand) effects.Print
  meaning_with tree.Ask h s = evaluation.effect items p fuel h s effects.Ask
  meaning_with (tree.DropValue operand) h s =
      evaluation.a_value items p fuel h s (evaluation.drops items p fuel h (part operand))
  meaning_with (tree.Forget operand) h s = evaluation.gives_unit items p fuel h s (part operand) effects.Forget
  meaning_with tree.Panic h s =
      evaluation.a_value items p fuel h s (λ around own to. forms.panics items p Why.Explicit)
  meaning_with (tree.Borrow unique base) h s =
      evaluation.a_value items p fuel h s (forms.borrowing items p h unique (part base))
  meaning_with (tree.Unsize trait_no operand) h s =
      evaluation.a_value items p fuel h s (evaluation.coerce items p fuel h trait_no (part operand))
  meaning_with (tree.Block stmts tail) h s =
      evaluation.a_value items p fuel h s (forms.block items p h (each_part stmts) (if_any tail))
  meaning_with (tree.Let pattern initialiser) h s =
      evaluation.a_statement items p fuel h s (forms.letting items p h (part pattern) (if_any initialiser))
  meaning_with (tree.Evaluate expression) h s =
      evaluation.a_statement items p fuel h s (forms.evaluating items p h (part expression))
  meaning_with (tree.If c consequent otherwise) h s =
      evaluation.a_scope items p fuel h s (evaluation.if_else items p fuel h (part c) (part consequent) (if_any otherwise))
  meaning_with (tree.IfLet pattern scrutinee consequent otherwise) h s =
      evaluation.a_scope items p fuel h s
      (evaluation.if_let items p fuel h (part pattern) (part scrutinee) (part consequent) (if_any otherwise))
  meaning_with (tree.Match scrutinee arms) h s =
      evaluation.a_value items p fuel h s (forms.matching items p h (part scrutinee) (each_part arms))
  meaning_with (tree.Arm pattern guard body) h s =
      record (evaluation.a_pattern items p fuel h s) { arm = forms.arm items p h (part pattern) (if_any guard) (part body) }
  meaning_with (tree.Loop body) h s =
      evaluation.a_scope items p fuel h s (evaluation.endless items p fuel h (part body))
  meaning_with (tree.While c body) h s =
      evaluation.a_scope items p fuel h s (evaluation.while_true items p fuel h (part c) (part body))
  meaning_with (tree.WhileLet pattern scrutinee body) h s =
      evaluation.a_scope items p fuel h s (evaluation.while_taken items p fuel h (part pattern) (part scrutinee) (part body))
  meaning_with (tree.Break loop value) h s =
      evaluation.a_scope items p fuel h s (evaluation.breaks items p fuel loop h (if_any value))
  meaning_with (tree.Continue loop) h s = evaluation.a_value items p fuel h s (λ around own to. At (Continues loop))
  meaning_with (tree.Return value) h s =
      evaluation.a_scope items p fuel h s (evaluation.returns items p fuel h (if_any value))
  -- a pattern
  meaning_with form h s = evaluation.a_pattern items p fuel h s

  -- a node, of whose parts each does this
  abbrev pub with_parts : Node → Meaning W
  with_parts (node id at ty by form) = meaning_with form (head id ty by) (shape_of items form (head id ty by))

-- The evaluation with a view around each of its nodes, so that worked runs can be tested node by node. With a view
-- that changes nothing it is the evaluation.
use Rattle.std.specs.Prelude.{ℕ, true, false, List, [], ◌∷◌, Option, Some, None}
use Rattle.mir_base.specs.declared.trace.Why.{Why}
use Rattle.mir_ty.specs.ItemTable.{ItemTable}
use Rattle.store_model.specs.Effects as effects
use Rattle.store_model.specs.Effects.{OfTuple, OfArray, OfVariant, OfClosure, Out, Effects}
use Rattle.typed_tree.specs.Tree as tree
use Rattle.typed_tree.specs.Tree.{Node, node, Form, Nodes, no_node, a_node, Fields, no_field, a_field, MaybeNode, absent, present, BodyTree}
use Rattle.src_meaning.specs.Evaluation as evaluation
use Rattle.src_meaning.specs.Forms as forms
use Rattle.src_meaning.specs.Forms.{Into, Meaning}
use Rattle.src_meaning.specs.Locals.OfBody.{answer_key}
use Rattle.src_meaning.specs.Programs.{params_entered, body_end, around_body, answer_scope}
use Rattle.src_meaning.specs.Scopes.{Value, Continues, At, Does, ◌>>◌, in_scope}
use Rattle.src_meaning.specs.Shape.{NodeHead, head, Shape, kind_of, shape_of}

module _ {W : Type 0} (items : ItemTable) (p : Effects W) (fuel : ℕ) (view : Node → Meaning W → Meaning W) where
  abbrev mutual
    pub meaning : Node → Meaning W
    meaning (node id at ty by form) =
        view (node id at ty by form) (meaning_of form (head id ty by) (shape_of items form (head id ty by)))

    pub meaning_of : Form → NodeHead → Shape → Meaning W
    meaning_of (tree.Number value) h s =
        evaluation.effect items p fuel h s (λ site. effects.Put site (effects.Number value (kind_of items h.ty)))
    meaning_of (tree.Truth value) h s =
        evaluation.effect items p fuel h s (λ site. effects.Put site (effects.Truth value))
    meaning_of tree.UnitValue h s = evaluation.effect items p fuel h s (λ site. effects.Put site effects.UnitValue)
    meaning_of (tree.Variable key) h s = evaluation.a_place items p fuel h s (λ around. At Value)
    meaning_of (tree.Captured closure part name) h s = evaluation.a_place items p fuel h s (λ around. At Value)
    meaning_of (tree.Field base part) h s = evaluation.a_place items p fuel h s (meaning base).reach
    meaning_of (tree.Index base index length) h s =
        evaluation.a_place items p fuel h s (forms.reach_element items p h s (meaning base) (meaning index) length)
    meaning_of (tree.Deref base) h s = evaluation.a_place items p fuel h s (meaning base).reach
    meaning_of (tree.Not operand) h s = evaluation.on_one items p fuel h s (meaning operand) effects.Not
    meaning_of (tree.Negate operand) h s = evaluation.on_one items p fuel h s (meaning operand) effects.Negate
    meaning_of (tree.Arithmetic operator left right) h s =
        evaluation.on_two items p fuel h s (meaning left) (meaning right) (λ site. effects.Compute site operator)
    meaning_of (tree.Comparison operator left right) h s =
        evaluation.on_two items p fuel h s (meaning left) (meaning right) (λ site. effects.Compare site operator)
    meaning_of (tree.And left right) h s =
        evaluation.a_scope items p fuel h s (evaluation.conjunction items p fuel h (meaning left) (meaning right))
    meaning_of (tree.Or left right) h s =
        evaluation.a_scope items p fuel h s (evaluation.disjunction items p fuel h (meaning left) (meaning right))
    meaning_of (tree.Assign place value) h s =
        evaluation.a_value items p fuel h s (forms.assigning items p h (meaning place) (meaning value))
    meaning_of (tree.Call body args) h s =
        evaluation.on_all items p fuel h s (meanings args) (λ site. effects.Call site body)
    meaning_of (tree.MethodCall body receiver args) h s =
        evaluation.on_all items p fuel h s (meaning receiver ∷ meanings args) (λ site. effects.Call site body)
    meaning_of (tree.VirtualCall trait_no method receiver args) h s =
        evaluation.on_all items p fuel h s (meaning receiver ∷ meanings args) (λ site. effects.CallVirtual site trait_no method)
    meaning_of (tree.ClosureCall body callee args) h s =
        evaluation.on_all items p fuel h s (meaning callee ∷ meanings args) (λ site. effects.Call site body)
    meaning_of (tree.Make adt variant fields) h s =
        evaluation.on_fields items p fuel h s (fields_of fields) (λ site. effects.Build site (OfVariant adt variant))
    meaning_of (tree.Tuple parts) h s =
        evaluation.on_all items p fuel h s (meanings parts) (λ site. effects.Build site OfTuple)
    meaning_of (tree.Array elements) h s =
        evaluation.on_all items p fuel h s (meanings elements) (λ site. effects.Build site OfArray)
    meaning_of (tree.Closure closure captures) h s =
        evaluation.on_all items p fuel h s (meanings captures) (λ site. effects.Build site (OfClosure closure))
    meaning_of (tree.NewBox content) h s = evaluation.on_one items p fuel h s (meaning content) effects.NewBox
    meaning_of (tree.Print operand) h s = evaluation.gives_unit items p fuel h s (meaning operand) effects.Print
    meaning_of tree.Ask h s = evaluation.effect items p fuel h s effects.Ask
    meaning_of (tree.DropValue operand) h s =
        evaluation.a_value items p fuel h s (evaluation.drops items p fuel h (meaning operand))
    meaning_of (tree.Forget operand) h s = evaluation.gives_unit items p fuel h s (meaning operand) effects.Forget
    meaning_of tree.Panic h s =
        evaluation.a_value items p fuel h s (λ around own to. forms.panics items p Why.Explicit)
    meaning_of (tree.Borrow unique base) h s =
        evaluation.a_value items p fuel h s (forms.borrowing items p h unique (meaning base))
    meaning_of (tree.Unsize trait_no operand) h s =
        evaluation.a_value items p fuel h s (evaluation.coerce items p fuel h trait_no (meaning operand))
    meaning_of (tree.Block stmts tail) h s =
        evaluation.a_value items p fuel h s (forms.block items p h (meanings stmts) (meaning_if_any tail))
    meaning_of (tree.Let pattern initialiser) h s =
        evaluation.a_statement items p fuel h s (forms.letting items p h (meaning pattern) (meaning_if_any initialiser))
    meaning_of (tree.Evaluate expression) h s =
        evaluation.a_statement items p fuel h s (forms.evaluating items p h (meaning expression))
    meaning_of (tree.If c consequent otherwise) h s =
        evaluation.a_scope items p fuel h s (evaluation.if_else items p fuel h (meaning c) (meaning consequent) (meaning_if_any otherwise))
    meaning_of (tree.IfLet pattern scrutinee consequent otherwise) h s =
        evaluation.a_scope items p fuel h s (evaluation.if_let items p fuel h (meaning pattern) (meaning scrutinee) (meaning consequent) (meaning_if_any otherwise))
    meaning_of (tree.Match scrutinee arms) h s =
        evaluation.a_value items p fuel h s (forms.matching items p h (meaning scrutinee) (meanings arms))
    meaning_of (tree.Arm pattern guard body) h s =
        record (evaluation.a_pattern items p fuel h s) {
          arm =
              forms.arm items p h (meaning pattern) (meaning_if_any guard) (meaning body);
        }
    meaning_of (tree.Loop body) h s =
        evaluation.a_scope items p fuel h s (evaluation.endless items p fuel h (meaning body))
    meaning_of (tree.While c body) h s =
        evaluation.a_scope items p fuel h s (evaluation.while_true items p fuel h (meaning c) (meaning body))
    meaning_of (tree.WhileLet pattern scrutinee body) h s =
        evaluation.a_scope items p fuel h s (evaluation.while_taken items p fuel h (meaning pattern) (meaning scrutinee) (meaning body))
    meaning_of (tree.Break loop value) h s =
        evaluation.a_scope items p fuel h s (evaluation.breaks items p fuel loop h (meaning_if_any value))
    meaning_of (tree.Continue loop) h s = evaluation.a_value items p fuel h s (λ around own to. At (Continues loop))
    meaning_of (tree.Return value) h s =
        evaluation.a_scope items p fuel h s (evaluation.returns items p fuel h (meaning_if_any value))
    meaning_of other h s = evaluation.a_pattern items p fuel h s

    pub meanings : Nodes → List (Meaning W)
    meanings no_node = []
    meanings (a_node first rest) = meaning first ∷ meanings rest

    pub fields_of : Fields → List (ℕ × Meaning W)
    fields_of no_field = []
    fields_of (a_field number value rest) = (number, meaning value) ∷ fields_of rest

    pub meaning_if_any : MaybeNode → Option (Meaning W)
    meaning_if_any absent = None
    meaning_if_any (present value) = Some (meaning value)

  abbrev pub viewed_function : BodyTree → Does W
  viewed_function body = in_scope items p (answer_key body) true do
    params_entered items p fuel body.params
    (meaning body.block).evaluate (around_body items p fuel body) false (Into (answer_key body))

  -- a body within its activation
  abbrev pub viewed_activation : BodyTree → W → Out W
  viewed_activation body w =
      body_end items p fuel (answer_key body) (viewed_function body (answer_scope items p fuel body) w)

-- The numbers of a body's nodes: they are numbered as they are met, and once the body is whole each stands at its place
-- in the text.
use Rattle.std.specs.Prelude.{ℕ, suc, ◌==◌, List, [], ◌∷◌, map, if◌then◌else◌}
use Rattle.typed_tree.specs.Nodes.{numbers_of}
use Rattle.typed_tree.specs.Tree.{Node, node, Nodes, no_node, a_node, Fields, no_field, a_field, MaybeNode, absent, present, Form, Number, Truth, UnitValue, Variable, Captured, Field, Index, Deref, Not, Negate, Arithmetic, Comparison, And, Or, Assign, Call, MethodCall, VirtualCall, ClosureCall, Make, Tuple, Array, Closure, NewBox, Print, Ask, DropValue, Forget, Panic, Borrow, Unsize, Block, Let, Evaluate, If, IfLet, Match, Arm, Loop, While, WhileLet, Break, Continue, Return, Wildcard, Binding, NumberPattern, TruthPattern, StructPattern, VariantPattern, TuplePattern, ArrayPattern, OrPattern, ParamTree, BodyTree}

module _ (f : ℕ → ℕ) where
  abbrev mutual
    -- the same node with other numbers, its own and those of the entries and loops that it means
    pub renumbered : Node → Node
    renumbered (node id at ty by form) = node (f id) at ty by (form_renumbered form)

    pub form_renumbered : Form → Form
    form_renumbered (Number value) = Number value
    form_renumbered (Truth value) = Truth value
    form_renumbered UnitValue = UnitValue
    form_renumbered (Variable key) = Variable (f key)
    form_renumbered (Captured closure part name) = Captured (f closure) part name
    form_renumbered (Field base part) = Field (renumbered base) part
    form_renumbered (Index base index length_) = Index (renumbered base) (renumbered index) length_
    form_renumbered (Deref base) = Deref (renumbered base)
    form_renumbered (Not operand) = Not (renumbered operand)
    form_renumbered (Negate operand) = Negate (renumbered operand)
    form_renumbered (Arithmetic operator left right) = Arithmetic operator (renumbered left) (renumbered right)
    form_renumbered (Comparison operator left right) = Comparison operator (renumbered left) (renumbered right)
    form_renumbered (And left right) = And (renumbered left) (renumbered right)
    form_renumbered (Or left right) = Or (renumbered left) (renumbered right)
    form_renumbered (Assign place value) = Assign (renumbered place) (renumbered value)
    form_renumbered (Call body args) = Call body (nodes_renumbered args)
    form_renumbered (MethodCall body receiver args) = MethodCall body (renumbered receiver) (nodes_renumbered args)
    form_renumbered (VirtualCall trait_no method receiver args) =
        VirtualCall trait_no method (renumbered receiver) (nodes_renumbered args)
    form_renumbered (ClosureCall body callee args) = ClosureCall body (renumbered callee) (nodes_renumbered args)
    form_renumbered (Make adt variant fields) = Make adt variant (fields_renumbered fields)
    form_renumbered (Tuple parts) = Tuple (nodes_renumbered parts)
    form_renumbered (Array elements) = Array (nodes_renumbered elements)
    form_renumbered (Closure closure captures) = Closure closure (nodes_renumbered captures)
    form_renumbered (NewBox content) = NewBox (renumbered content)
    form_renumbered (Print operand) = Print (renumbered operand)
    form_renumbered Ask = Ask
    form_renumbered (DropValue operand) = DropValue (renumbered operand)
    form_renumbered (Forget operand) = Forget (renumbered operand)
    form_renumbered Panic = Panic
    form_renumbered (Borrow unique base) = Borrow unique (renumbered base)
    form_renumbered (Unsize trait_no operand) = Unsize trait_no (renumbered operand)
    form_renumbered (Block statements tail) = Block (nodes_renumbered statements) (maybe_renumbered tail)
    form_renumbered (Let pattern initialiser) = Let (renumbered pattern) (maybe_renumbered initialiser)
    form_renumbered (Evaluate expression) = Evaluate (renumbered expression)
    form_renumbered (If condition body otherwise) =
        If (renumbered condition) (renumbered body) (maybe_renumbered otherwise)
    form_renumbered (IfLet pattern scrutinee body otherwise) =
        IfLet (renumbered pattern) (renumbered scrutinee) (renumbered body) (maybe_renumbered otherwise)
    form_renumbered (Match scrutinee arms) = Match (renumbered scrutinee) (nodes_renumbered arms)
    form_renumbered (Arm pattern guard body) = Arm (renumbered pattern) (maybe_renumbered guard) (renumbered body)
    form_renumbered (Loop body) = Loop (renumbered body)
    form_renumbered (While condition body) = While (renumbered condition) (renumbered body)
    form_renumbered (WhileLet pattern scrutinee body) =
        WhileLet (renumbered pattern) (renumbered scrutinee) (renumbered body)
    form_renumbered (Break loop value) = Break (f loop) (maybe_renumbered value)
    form_renumbered (Continue loop) = Continue (f loop)
    form_renumbered (Return value) = Return (maybe_renumbered value)
    form_renumbered Wildcard = Wildcard
    form_renumbered (Binding name) = Binding name
    form_renumbered (NumberPattern value) = NumberPattern value
    form_renumbered (TruthPattern value) = TruthPattern value
    form_renumbered (StructPattern fields) = StructPattern (fields_renumbered fields)
    form_renumbered (VariantPattern variant is_test fields) = VariantPattern variant is_test (fields_renumbered fields)
    form_renumbered (TuplePattern parts) = TuplePattern (nodes_renumbered parts)
    form_renumbered (ArrayPattern elements) = ArrayPattern (nodes_renumbered elements)
    form_renumbered (OrPattern alternatives) = OrPattern (nodes_renumbered alternatives)

    pub nodes_renumbered : Nodes → Nodes
    nodes_renumbered no_node = no_node
    nodes_renumbered (a_node first rest) = a_node (renumbered first) (nodes_renumbered rest)

    pub fields_renumbered : Fields → Fields
    fields_renumbered no_field = no_field
    fields_renumbered (a_field number value rest) = a_field number (renumbered value) (fields_renumbered rest)

    pub maybe_renumbered : MaybeNode → MaybeNode
    maybe_renumbered absent = absent
    maybe_renumbered (present value) = present (renumbered value)

-- where a number stands in a list
abbrev pub place_among : List ℕ → ℕ → ℕ
place_among [] k = 0
place_among (n ∷ ns) k = if n == k then 0 else suc (place_among ns k)

abbrev pub param_renumbered : (ℕ → ℕ) → ParamTree → ParamTree
param_renumbered f param = record param { pattern = renumbered f param.pattern }

-- a body whose nodes are numbered as they were met, numbered in text order
abbrev pub in_text_order : BodyTree → BodyTree
in_text_order body =
    let f = place_among (numbers_of body) in
    record body { params = map (param_renumbered f) body.params; block = renumbered f body.block }

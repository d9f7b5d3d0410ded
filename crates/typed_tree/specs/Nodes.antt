-- The nodes of a body in text order, and what their numbers have to be.
use Rattle.std.specs.Prelude.{◌≡◌, ◌≢◌, ℕ, ◌==◌, List, [], ◌∷◌, ◌++◌, Option, map, Contains}
use Rattle.std.specs.List.{find, AllPairs}
use Rattle.std.specs.List.Sorted.{IsStrictlyIncreasing}
use Rattle.typed_tree.specs.Tree.{Node, node, Nodes, no_node, a_node, Fields, no_field, a_field, MaybeNode, absent, present, Form, Number, Truth, UnitValue, Variable, Captured, Field, Index, Deref, Not, Negate, Arithmetic, Comparison, And, Or, Assign, Call, MethodCall, VirtualCall, ClosureCall, Make, Tuple, Array, Closure, NewBox, Print, Ask, DropValue, Forget, Panic, Borrow, Unsize, Block, Let, Evaluate, If, IfLet, Match, Arm, Loop, While, WhileLet, Break, Continue, Return, Wildcard, Binding, NumberPattern, TruthPattern, StructPattern, VariantPattern, TuplePattern, ArrayPattern, OrPattern, ParamTree, BodyTree}

-- the number of a node
abbrev pub number_of : Node → ℕ
number_of (node id at ty by form) = id

abbrev mutual
  -- a node, and then the nodes of its children in the order in which they are written
  pub nodes_of : Node → List Node
  nodes_of (node id at ty by form) = node id at ty by form ∷ nodes_in form

  -- the nodes of the children of a form
  pub nodes_in : Form → List Node
  nodes_in (Number value) = []
  nodes_in (Truth value) = []
  nodes_in UnitValue = []
  nodes_in (Variable key) = []
  nodes_in (Captured closure part name) = []
  nodes_in (Field base part) = nodes_of base
  nodes_in (Index base index length) = nodes_of base ++ nodes_of index
  nodes_in (Deref base) = nodes_of base
  nodes_in (Not operand) = nodes_of operand
  nodes_in (Negate operand) = nodes_of operand
  nodes_in (Arithmetic operator left right) = nodes_of left ++ nodes_of right
  nodes_in (Comparison operator left right) = nodes_of left ++ nodes_of right
  nodes_in (And left right) = nodes_of left ++ nodes_of right
  nodes_in (Or left right) = nodes_of left ++ nodes_of right
  nodes_in (Assign place value) = nodes_of place ++ nodes_of value
  nodes_in (Call body args) = nodes_among args
  nodes_in (MethodCall body receiver args) = nodes_of receiver ++ nodes_among args
  nodes_in (VirtualCall trait_no method receiver args) = nodes_of receiver ++ nodes_among args
  nodes_in (ClosureCall body callee args) = nodes_of callee ++ nodes_among args
  nodes_in (Make adt variant fields) = nodes_of_fields fields
  nodes_in (Tuple parts) = nodes_among parts
  nodes_in (Array elements) = nodes_among elements
  nodes_in (Closure closure captures) = nodes_among captures
  nodes_in (NewBox content) = nodes_of content
  nodes_in (Print operand) = nodes_of operand
  nodes_in Ask = []
  nodes_in (DropValue operand) = nodes_of operand
  nodes_in (Forget operand) = nodes_of operand
  nodes_in Panic = []
  nodes_in (Borrow unique base) = nodes_of base
  nodes_in (Unsize trait_no operand) = nodes_of operand
  nodes_in (Block statements tail) = nodes_among statements ++ nodes_if_any tail
  nodes_in (Let pattern initialiser) = nodes_of pattern ++ nodes_if_any initialiser
  nodes_in (Evaluate expression) = nodes_of expression
  nodes_in (If condition then otherwise) = nodes_of condition ++ nodes_of then ++ nodes_if_any otherwise
  nodes_in (IfLet pattern scrutinee then otherwise) =
      nodes_of pattern ++ nodes_of scrutinee ++ nodes_of then ++ nodes_if_any otherwise
  nodes_in (Match scrutinee arms) = nodes_of scrutinee ++ nodes_among arms
  nodes_in (Arm pattern guard body) = nodes_of pattern ++ nodes_if_any guard ++ nodes_of body
  nodes_in (Loop body) = nodes_of body
  nodes_in (While condition body) = nodes_of condition ++ nodes_of body
  nodes_in (WhileLet pattern scrutinee body) = nodes_of pattern ++ nodes_of scrutinee ++ nodes_of body
  nodes_in (Break from value) = nodes_if_any value
  nodes_in (Continue from) = []
  nodes_in (Return value) = nodes_if_any value
  nodes_in Wildcard = []
  nodes_in (Binding name) = []
  nodes_in (NumberPattern value) = []
  nodes_in (TruthPattern value) = []
  nodes_in (StructPattern fields) = nodes_of_fields fields
  nodes_in (VariantPattern variant is_test fields) = nodes_of_fields fields
  nodes_in (TuplePattern parts) = nodes_among parts
  nodes_in (ArrayPattern elements) = nodes_among elements
  nodes_in (OrPattern alternatives) = nodes_among alternatives

  -- the nodes of some nodes, of some fields, and of a node if there is one
  pub nodes_among : Nodes → List Node
  nodes_among no_node = []
  nodes_among (a_node first rest) = nodes_of first ++ nodes_among rest

  pub nodes_of_fields : Fields → List Node
  nodes_of_fields no_field = []
  nodes_of_fields (a_field number value rest) = nodes_of value ++ nodes_of_fields rest

  pub nodes_if_any : MaybeNode → List Node
  nodes_if_any absent = []
  nodes_if_any (present value) = nodes_of value

-- the nodes of the patterns of parameters
abbrev pub param_nodes : List ParamTree → List Node
param_nodes [] = []
param_nodes (param ∷ rest) = nodes_of param.pattern ++ param_nodes rest

-- the nodes of a body: those of its parameters' patterns, and then those of its block
abbrev pub body_nodes : BodyTree → List Node
body_nodes body = param_nodes body.params ++ nodes_of body.block

-- the numbers of a body's nodes
abbrev pub numbers_of : BodyTree → List ℕ
numbers_of body = map number_of (body_nodes body)

-- no two nodes of a body have one number
abbrev pub HasDistinctNumbers : BodyTree → Type 0
HasDistinctNumbers body = AllPairs (λ a b. a ≢ b) (numbers_of body)

-- the numbers of a body's nodes rise in text order
abbrev pub IsNumberedInOrder : BodyTree → Type 0
IsNumberedInOrder body = IsStrictlyIncreasing (numbers_of body)

-- a body has this node, and the node has this number
abbrev pub IsNodeWith : BodyTree → ℕ → Node → Type 0
IsNodeWith body id found = Contains (body_nodes body) found × (number_of found ≡ id)

-- the first of some nodes that has a number
abbrev pub first_with : ℕ → List Node → Option Node
first_with id nodes = find (λ candidate. number_of candidate == id) nodes

-- What a contract sees of a typed program: its plain tree, without the places in memory where the nodes lie.
use Rattle.std.specs.Prelude.{ℕ, List, [], ◌∷◌, Option, Some, None, map, Box}
use Rattle.std.specs.declared.alloc.Global.{Global}
use Rattle.std.specs.Borrow.{Bor}
use Rattle.typed_tree.specs.declared.node.Node.{Node, Node-F, fold-Node}
use Rattle.typed_tree.specs.declared.node.NumberedField.{NumberedField, NumberedField-F, fold-NumberedField}
use Rattle.typed_tree.specs.declared.node.Form.{Form, Form-F, fold-Form}
use Rattle.typed_tree.specs.declared.body.Param.{Param}
use Rattle.typed_tree.specs.declared.body.TBody.{TBody}
use Rattle.typed_tree.specs.declared.body.Typed.{Typed}
use Rattle.typed_tree.specs.Tree as plain
use Rattle.typed_tree.specs.Tree.{node, Nodes, no_node, a_node, Fields, no_field, a_field, MaybeNode, absent, present, Number, Truth, UnitValue, Variable, Captured, Field, Index, Deref, Not, Negate, Arithmetic, Comparison, And, Or, Assign, Call, MethodCall, VirtualCall, ClosureCall, Make, Tuple, Array, Closure, NewBox, Print, Ask, DropValue, Forget, Panic, Borrow, Unsize, Block, Let, Evaluate, If, IfLet, Match, Arm, Loop, While, WhileLet, Break, Continue, Return, Wildcard, Binding, NumberPattern, TruthPattern, StructPattern, VariantPattern, TuplePattern, ArrayPattern, OrPattern, ParamTree, BodyTree, ProgramTree}

-- the same nodes, fields or node as parts of a plain tree
abbrev pub nodes_from : List plain.Node → Nodes
nodes_from [] = no_node
nodes_from (first ∷ rest) = a_node first (nodes_from rest)

abbrev pub fields_from : List (ℕ × plain.Node) → Fields
fields_from [] = no_field
fields_from (first ∷ rest) = a_field first.0 first.1 (fields_from rest)

abbrev pub maybe_from : Option (Box plain.Node Global) → MaybeNode
maybe_from None = absent
maybe_from (Some boxed) = present boxed.value

-- one layer of a form, whose children are plain trees already
abbrev pub form_layer : Form-F plain.Form plain.Node (ℕ × plain.Node) → plain.Form
form_layer (Form-F.Number value) = Number value
form_layer (Form-F.Truth value) = Truth value
form_layer Form-F.UnitValue = UnitValue
form_layer (Form-F.Variable key) = Variable key.0
form_layer (Form-F.Captured closure part name) = Captured closure.0 part name
form_layer (Form-F.Field base part) = Field base.value part
form_layer (Form-F.Index base index length) = Index base.value index.value length
form_layer (Form-F.Deref base) = Deref base.value
form_layer (Form-F.Not operand) = Not operand.value
form_layer (Form-F.Negate operand) = Negate operand.value
form_layer (Form-F.Arithmetic operator left right) = Arithmetic operator left.value right.value
form_layer (Form-F.Comparison operator left right) = Comparison operator left.value right.value
form_layer (Form-F.And left right) = And left.value right.value
form_layer (Form-F.Or left right) = Or left.value right.value
form_layer (Form-F.Assign place value) = Assign place.value value.value
form_layer (Form-F.Call body args) = Call body (nodes_from args)
form_layer (Form-F.MethodCall body receiver args) = MethodCall body receiver.value (nodes_from args)
form_layer (Form-F.VirtualCall trait_no method receiver args) =
    VirtualCall trait_no method receiver.value (nodes_from args)
form_layer (Form-F.ClosureCall body callee args) = ClosureCall body callee.value (nodes_from args)
form_layer (Form-F.Make adt variant fields) = Make adt variant (fields_from fields)
form_layer (Form-F.Tuple parts) = Tuple (nodes_from parts)
form_layer (Form-F.Array elements) = Array (nodes_from elements)
form_layer (Form-F.Closure closure captures) = Closure closure (nodes_from captures)
form_layer (Form-F.NewBox content) = NewBox content.value
form_layer (Form-F.Print operand) = Print operand.value
form_layer Form-F.Ask = Ask
form_layer (Form-F.DropValue operand) = DropValue operand.value
form_layer (Form-F.Forget operand) = Forget operand.value
form_layer Form-F.Panic = Panic
form_layer (Form-F.Borrow unique base) = Borrow unique base.value
form_layer (Form-F.Unsize trait_no operand) = Unsize trait_no operand.value
form_layer (Form-F.Block statements tail) = Block (nodes_from statements) (maybe_from tail)
form_layer (Form-F.Let pattern initialiser) = Let pattern.value (maybe_from initialiser)
form_layer (Form-F.Evaluate expression) = Evaluate expression.value
form_layer (Form-F.If condition then otherwise) = If condition.value then.value (maybe_from otherwise)
form_layer (Form-F.IfLet pattern scrutinee then otherwise) =
    IfLet pattern.value scrutinee.value then.value (maybe_from otherwise)
form_layer (Form-F.Match scrutinee arms) = Match scrutinee.value (nodes_from arms)
form_layer (Form-F.Arm pattern guard body) = Arm pattern.value (maybe_from guard) body.value
form_layer (Form-F.Loop body) = Loop body.value
form_layer (Form-F.While condition body) = While condition.value body.value
form_layer (Form-F.WhileLet pattern scrutinee body) = WhileLet pattern.value scrutinee.value body.value
form_layer (Form-F.Break from value) = Break from.0 (maybe_from value)
form_layer (Form-F.Continue from) = Continue from.0
form_layer (Form-F.Return value) = Return (maybe_from value)
form_layer Form-F.Wildcard = Wildcard
form_layer (Form-F.Binding name) = Binding name
form_layer (Form-F.NumberPattern value) = NumberPattern value
form_layer (Form-F.TruthPattern value) = TruthPattern value
form_layer (Form-F.StructPattern fields) = StructPattern (fields_from fields)
form_layer (Form-F.VariantPattern variant is_test fields) = VariantPattern variant is_test (fields_from fields)
form_layer (Form-F.TuplePattern parts) = TuplePattern (nodes_from parts)
form_layer (Form-F.ArrayPattern elements) = ArrayPattern (nodes_from elements)
form_layer (Form-F.OrPattern alternatives) = OrPattern (nodes_from alternatives)

-- one layer of a node, and of a field
abbrev pub node_layer : Node-F plain.Form plain.Node (ℕ × plain.Node) → plain.Node
node_layer n = node n.id.0 n.at n.ty n.by n.form

abbrev pub field_layer : NumberedField-F plain.Form plain.Node (ℕ × plain.Node) → ℕ × plain.Node
field_layer field = (field.number, field.value)

-- the plain tree of a node
abbrev pub tree_of : Node → plain.Node
tree_of = fold-Node plain.Form plain.Node (ℕ × plain.Node) form_layer node_layer field_layer

-- the plain form of a form
abbrev pub form_of : Form → plain.Form
form_of = fold-Form plain.Form plain.Node (ℕ × plain.Node) form_layer node_layer field_layer

-- a field's number, and the plain tree of its value
abbrev pub field_of : NumberedField → ℕ × plain.Node
field_of = fold-NumberedField plain.Form plain.Node (ℕ × plain.Node) form_layer node_layer field_layer

-- the plain tree of a node, if there is one
abbrev pub maybe_of : Option (Box Node Global) → MaybeNode
maybe_of None = absent
maybe_of (Some boxed) = present (tree_of boxed.value)

-- the plain trees of a parameter, a body and a program
abbrev pub param_tree : Param → ParamTree
param_tree param = record { pattern = tree_of param.pattern; ty = param.ty }

abbrev pub body_of : TBody → BodyTree
body_of body = record {
  number = body.number;
  params = map param_tree body.params;
  answer = body.result;
  block = tree_of body.block;
}

abbrev pub program_of : Typed → ProgramTree
program_of program = record { items = program.items; bodies = map body_of program.bodies }

-- the plain tree of a node that was found
abbrev pub tree_found : Option (Bor Node) → Option plain.Node
tree_found None = None
tree_found (Some found) = Some (tree_of found.now)

-- Forms by the function that goes over their parts; of the others none has parts.
use Rattle.std.specs.Prelude.{Bool, true, false}
use Rattle.typed_tree.specs.Tree
use Rattle.typed_tree.specs.Tree.{Form}

-- one or two operands
abbrev pub has_operands : Form → Bool
has_operands (Tree.Not operand) = true
has_operands (Tree.Negate operand) = true
has_operands (Tree.NewBox content) = true
has_operands (Tree.Print operand) = true
has_operands (Tree.DropValue operand) = true
has_operands (Tree.Forget operand) = true
has_operands (Tree.Unsize trait_no operand) = true
has_operands (Tree.Arithmetic operator left right) = true
has_operands (Tree.Comparison operator left right) = true
has_operands (Tree.And left right) = true
has_operands (Tree.Or left right) = true
has_operands form = false

-- a place that is reached
abbrev pub has_place : Form → Bool
has_place (Tree.Field base part) = true
has_place (Tree.Deref base) = true
has_place (Tree.Borrow unique base) = true
has_place (Tree.Index base index length) = true
has_place (Tree.Assign place value) = true
has_place form = false

-- any number of nodes or fields
abbrev pub has_members : Form → Bool
has_members (Tree.Call body args) = true
has_members (Tree.MethodCall body receiver args) = true
has_members (Tree.VirtualCall trait_no method receiver args) = true
has_members (Tree.ClosureCall body callee args) = true
has_members (Tree.Make adt variant fields) = true
has_members (Tree.Tuple parts) = true
has_members (Tree.Array elements) = true
has_members (Tree.Closure closure captures) = true
has_members (Tree.StructPattern fields) = true
has_members (Tree.VariantPattern variant is_test fields) = true
has_members (Tree.TuplePattern parts) = true
has_members (Tree.ArrayPattern elements) = true
has_members (Tree.OrPattern alternatives) = true
has_members form = false

-- branches and arms
abbrev pub has_branches : Form → Bool
has_branches (Tree.If condition then otherwise) = true
has_branches (Tree.IfLet pattern scrutinee then otherwise) = true
has_branches (Tree.Match scrutinee arms) = true
has_branches (Tree.Arm pattern guard body) = true
has_branches form = false

-- blocks, statements, loops and jumps
abbrev pub has_statements : Form → Bool
has_statements (Tree.Block statements tail) = true
has_statements (Tree.Let pattern initialiser) = true
has_statements (Tree.Evaluate expression) = true
has_statements (Tree.Loop body) = true
has_statements (Tree.While condition body) = true
has_statements (Tree.WhileLet pattern scrutinee body) = true
has_statements (Tree.Break loop value) = true
has_statements (Tree.Return value) = true
has_statements form = false

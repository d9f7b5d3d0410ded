-- Forms by the function that makes their code.
use Rattle.std.specs.Prelude.{Bool, true, false, ◌≡◌}
use Rattle.mir_ty.specs.ItemTable.{ItemTable}
use Rattle.typed_tree.specs.Tree
use Rattle.typed_tree.specs.Tree.{Form}
use Rattle.lower_code.specs.declared.code.Code.{Code}
use Rattle.lower_code.specs.declared.context.Context.{Context}
use Rattle.lower_code.specs.Ops.{onto}
use Rattle.lower_code.specs.View.{ops_of, form_code}

-- literals, and what else has no parts that are evaluated
abbrev pub is_leaf : Form → Bool
is_leaf (Tree.Number value) = true
is_leaf (Tree.Truth value) = true
is_leaf Tree.UnitValue = true
is_leaf (Tree.Variable key) = true
is_leaf (Tree.Captured closure part name) = true
is_leaf Tree.Ask = true
is_leaf Tree.Panic = true
is_leaf (Tree.Continue loop) = true
is_leaf form = false

-- parts of places, and what reaches a place
abbrev pub reaches_place : Form → Bool
reaches_place (Tree.Field base part) = true
reaches_place (Tree.Index base index count) = true
reaches_place (Tree.Deref base) = true
reaches_place (Tree.Borrow unique base) = true
reaches_place (Tree.Assign place value) = true
reaches_place form = false

abbrev pub is_operator : Form → Bool
is_operator (Tree.Not operand) = true
is_operator (Tree.Negate operand) = true
is_operator (Tree.Arithmetic operator left right) = true
is_operator (Tree.Comparison operator left right) = true
is_operator (Tree.NewBox content) = true
is_operator (Tree.Print operand) = true
is_operator (Tree.Forget operand) = true
is_operator (Tree.DropValue operand) = true
is_operator (Tree.Unsize trait_no operand) = true
is_operator form = false

-- calls, and values that are made of any number of operands
abbrev pub is_call : Form → Bool
is_call (Tree.Call body args) = true
is_call (Tree.MethodCall body receiver args) = true
is_call (Tree.VirtualCall trait_no method receiver args) = true
is_call (Tree.ClosureCall body callee args) = true
is_call (Tree.Make adt variant fields) = true
is_call (Tree.Tuple parts) = true
is_call (Tree.Array elements) = true
is_call (Tree.Closure closure captures) = true
is_call form = false

abbrev pub is_branch : Form → Bool
is_branch (Tree.And left right) = true
is_branch (Tree.Or left right) = true
is_branch (Tree.If condition then otherwise) = true
is_branch (Tree.IfLet pattern scrutinee then otherwise) = true
is_branch (Tree.Match scrutinee arms) = true
is_branch form = false

abbrev pub is_loop_or_jump : Form → Bool
is_loop_or_jump (Tree.Loop body) = true
is_loop_or_jump (Tree.While condition body) = true
is_loop_or_jump (Tree.WhileLet pattern scrutinee body) = true
is_loop_or_jump (Tree.Break loop value) = true
is_loop_or_jump (Tree.Return value) = true
is_loop_or_jump form = false

abbrev pub is_statement : Form → Bool
is_statement (Tree.Block stmts tail) = true
is_statement (Tree.Let pattern initialiser) = true
is_statement (Tree.Evaluate expression) = true
is_statement form = false

-- the code of a form of a group is put behind what stands there; of one that is not in it, nothing is said but that
abbrev pub IsCodeIn : (Form → Bool) → ItemTable → Form → Context → (before after : Code) → Bool → Type 0
IsCodeIn group items form at before after false = (group form ≡ false) × (after ≡ before)
IsCodeIn group items form at before after true = ops_of after ≡ onto (form_code items form at) (ops_of before)

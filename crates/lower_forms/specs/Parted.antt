-- The forms in small groups, one a function of the code, and which groups go together.
use Rattle.std.specs.Prelude.{Bool, true, false, ◌||◌}
use Rattle.typed_tree.specs.Tree as Tree
use Rattle.typed_tree.specs.Tree.{Form}

-- parts of places
abbrev pub is_part : Form → Bool
is_part (Tree.Field base part) = true
is_part (Tree.Index base index count) = true
is_part (Tree.Deref base) = true
is_part form = false

-- what borrows a place, or stores into it
abbrev pub is_reaching : Form → Bool
is_reaching (Tree.Borrow unique base) = true
is_reaching (Tree.Assign place value) = true
is_reaching form = false

abbrev pub reaches_any : Form → Bool
reaches_any form = is_part form || is_reaching form

-- what makes a value of one operand, uses one up, or makes a value of two
abbrev pub is_unary : Form → Bool
is_unary (Tree.Not operand) = true
is_unary (Tree.Negate operand) = true
is_unary (Tree.NewBox content) = true
is_unary (Tree.Unsize trait_no operand) = true
is_unary form = false

abbrev pub uses_one : Form → Bool
uses_one (Tree.Print operand) = true
uses_one (Tree.Forget operand) = true
uses_one (Tree.DropValue operand) = true
uses_one form = false

abbrev pub is_binary : Form → Bool
is_binary (Tree.Arithmetic operator left right) = true
is_binary (Tree.Comparison operator left right) = true
is_binary form = false

abbrev pub is_any_operator : Form → Bool
is_any_operator form = is_unary form || uses_one form || is_binary form

-- what takes any number of operands
abbrev pub is_call : Form → Bool
is_call (Tree.Call body args) = true
is_call (Tree.MethodCall body receiver args) = true
is_call (Tree.VirtualCall trait_no method receiver args) = true
is_call (Tree.ClosureCall body callee args) = true
is_call form = false

abbrev pub is_made : Form → Bool
is_made (Tree.Make adt variant fields) = true
is_made (Tree.Tuple parts) = true
is_made (Tree.Array elements) = true
is_made (Tree.Closure closure captures) = true
is_made form = false

abbrev pub takes_any : Form → Bool
takes_any form = is_call form || is_made form

-- branches, loops, and the ways out of loops and bodies
abbrev pub is_condition : Form → Bool
is_condition (Tree.And left right) = true
is_condition (Tree.Or left right) = true
is_condition (Tree.If condition then otherwise) = true
is_condition form = false

abbrev pub is_on_pattern : Form → Bool
is_on_pattern (Tree.IfLet pattern scrutinee then otherwise) = true
is_on_pattern (Tree.Match scrutinee arms) = true
is_on_pattern form = false

abbrev pub is_plain_loop : Form → Bool
is_plain_loop (Tree.Loop body) = true
is_plain_loop (Tree.While condition body) = true
is_plain_loop form = false

abbrev pub is_while_let : Form → Bool
is_while_let (Tree.WhileLet pattern scrutinee body) = true
is_while_let form = false

abbrev pub is_jump : Form → Bool
is_jump (Tree.Break loop value) = true
is_jump (Tree.Return value) = true
is_jump form = false

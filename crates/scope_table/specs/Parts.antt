-- Which scopes a form opens for its parts, and how it runs each part there (The Rust Reference, "Destructors", "Drop
-- scopes"): one line a form. The rows of the table are those of the parts in these scopes.
use Rattle.std.specs.Prelude.{◌≡◌, Bool, true, false, List, [], ◌∷◌, ◌++◌}
use Rattle.mir_base.specs.declared.place_in_text.NodeId.{NodeId}
use Rattle.scope_table.specs.declared.row.ScopeRow.{ScopeRow}
use Rattle.scope_table.specs.declared.row.Within.{Within}
use Rattle.scope_table.specs.Table.{nothing, named, both_in, inner, row, entry_in, reached_in, pending_in, pending_if_value, name_in, let_name, alone, alone_rows, pattern_rows, rows, rows_in, arm_rows, arm_rows_of, is_arm, where_true, where_false, form_of}
use Rattle.typed_tree.specs.Nodes.{number_of}
use Rattle.typed_tree.specs.Tree.{Node, Form, Nodes, no_node, a_node, Fields, no_field, a_field, MaybeNode, absent, present, Field, Index, Deref, Not, Negate, Arithmetic, Comparison, And, Or, Assign, Call, MethodCall, VirtualCall, ClosureCall, Make, Tuple, Array, Closure, NewBox, Print, DropValue, Forget, Borrow, Unsize, Block, Let, Evaluate, If, IfLet, Match, Arm, Loop, While, WhileLet, Break, Return, Binding}

-- how a form runs a part
pub data Role : Type 0 where
  Evaluated : Role  -- its value goes into a destination
  ByItself : Role  -- so, as a scope for temporaries of its own
  AsOperand : Role  -- its value becomes an entry of the innermost scope
  OfStatement : Role  -- its value is that of an expression statement
  OfLet : Role  -- it is what a `let` takes apart: a place, or a temporary of the statement
  Reached : Role  -- it is a place, or a temporary
  AsArm : Role  -- it is an arm of a `match`
  Names : Role  -- the names of this pattern become entries of the innermost scope

pub record Step : Type 0 where
  pub role : Role
  pub part : Node

abbrev pub as_a : Role → Node → Step
as_a role part = record { role = role; part = part }

-- Steps, in their order, in scopes that the form opens within those around it: the innermost first, each by whether
-- temporaries go to it. All have the number of the form.
pub record Inside : Type 0 where
  pub opened : List Bool
  pub steps : List Step

abbrev pub inside : List Bool → List Step → Inside
inside opened steps = record { opened = opened; steps = steps }

abbrev pub if_any : Role → MaybeNode → List Step
if_any role absent = []
if_any role (present value) = as_a role value ∷ []

abbrev pub each : Role → Nodes → List Step
each role no_node = []
each role (a_node first rest) = as_a role first ∷ each role rest

abbrev pub each_field : Role → Fields → List Step
each_field role no_field = []
each_field role (a_field number value rest) = as_a role value ∷ each_field role rest

-- a form that is run by itself is a scope for temporaries; else what has no scope here is in those around the form
abbrev pub own_scope_if : Bool → List Bool
own_scope_if true = true ∷ []
own_scope_if false = []

abbrev pub role_of_coerced : Bool → Role
role_of_coerced true = ByItself
role_of_coerced false = Evaluated

-- the value of a `let` of one name, and of another
abbrev pub let_role : Form → Role
let_role (Binding text) = Evaluated
let_role form = OfLet

abbrev pub let_steps : Form → MaybeNode → List Step
let_steps pattern absent = []
let_steps pattern (present value) = as_a (let_role pattern) value ∷ []

-- one scope, which is for temporaries where the form is run by itself: that of operands, of a block
abbrev pub scope_for : Bool → List Step → List Inside
scope_for own steps = inside (own ∷ []) steps ∷ []

-- no scope but the one of a form that is run by itself
abbrev pub no_scope : Bool → List Step → List Inside
no_scope own steps = inside (own_scope_if own) steps ∷ []

-- the scope of a statement
abbrev pub statement_scope : List Step → List Inside
statement_scope steps = inside (true ∷ []) steps ∷ []

-- the scope of a scrutinee, its names and what follows where they are taken
abbrev pub scrutinee_scope : Bool → List Step → List Inside
scrutinee_scope own steps = inside (true ∷ own_scope_if own) steps ∷ []

-- the scope of an arm
abbrev pub arm_scope : List Step → List Inside
arm_scope steps = inside (false ∷ []) steps ∷ []

-- The parts of a form, where it is run by itself and where it is not. The names of a `let` are entries of the
-- innermost scope around it, and no part.
abbrev pub parts : (by_itself : Bool) → Form → List Inside
parts own (Field base part) = no_scope own (as_a Reached base ∷ [])
parts own (Index base index length) = no_scope own (as_a Reached base ∷ as_a Evaluated index ∷ [])
parts own (Deref base) = no_scope own (as_a Reached base ∷ [])
parts own (Not operand) = scope_for own (as_a AsOperand operand ∷ [])
parts own (Negate operand) = scope_for own (as_a AsOperand operand ∷ [])
parts own (Arithmetic operator left right) = scope_for own (as_a AsOperand left ∷ as_a AsOperand right ∷ [])
parts own (Comparison operator left right) = scope_for own (as_a AsOperand left ∷ as_a AsOperand right ∷ [])
parts own (And left right) = no_scope own (as_a ByItself left ∷ as_a ByItself right ∷ [])
parts own (Or left right) = no_scope own (as_a ByItself left ∷ as_a ByItself right ∷ [])
parts own (Assign place value) = scope_for own (as_a AsOperand value ∷ as_a Reached place ∷ [])
parts own (Call body args) = scope_for own (each AsOperand args)
parts own (MethodCall body receiver args) = scope_for own (as_a AsOperand receiver ∷ each AsOperand args)
parts own (VirtualCall trait_no method receiver args) =
    scope_for own (as_a AsOperand receiver ∷ each AsOperand args)
parts own (ClosureCall body callee args) = scope_for own (as_a AsOperand callee ∷ each AsOperand args)
parts own (Make adt variant fields) = scope_for own (each_field AsOperand fields)
parts own (Tuple elements) = scope_for own (each AsOperand elements)
parts own (Array elements) = scope_for own (each AsOperand elements)
parts own (Closure closure captures) = scope_for own (each AsOperand captures)
parts own (NewBox content) = scope_for own (as_a AsOperand content ∷ [])
parts own (Print operand) = scope_for own (as_a AsOperand operand ∷ [])
parts own (DropValue operand) = scope_for own (as_a AsOperand operand ∷ [])
parts own (Forget operand) = scope_for own (as_a AsOperand operand ∷ [])
parts own (Borrow unique base) = no_scope own (as_a Reached base ∷ [])
parts own (Unsize trait_no operand) = inside [] (as_a (role_of_coerced own) operand ∷ []) ∷ []
parts own (Block statements tail) = scope_for own (each Evaluated statements ++ if_any ByItself tail)
parts own (Let pattern initialiser) = statement_scope (let_steps (form_of pattern) initialiser)
parts own (Evaluate expression) = statement_scope (as_a OfStatement expression ∷ [])
parts own (If condition then otherwise) =
    no_scope own (as_a ByItself condition ∷ as_a ByItself then ∷ if_any ByItself otherwise)
parts own (IfLet pattern scrutinee then otherwise) =
    scrutinee_scope own (as_a Reached scrutinee ∷ as_a Names pattern ∷ as_a ByItself then ∷ [])
    ++ no_scope own (if_any ByItself otherwise)
parts own (Match scrutinee arms) = no_scope own (as_a Reached scrutinee ∷ each AsArm arms)
parts own (Arm pattern guard body) =
    inside [] (if_any ByItself guard) ∷ arm_scope (as_a Names pattern ∷ as_a ByItself body ∷ [])
parts own (Loop body) = no_scope own (as_a ByItself body ∷ [])
parts own (While condition body) = no_scope own (as_a ByItself condition ∷ as_a ByItself body ∷ [])
parts own (WhileLet pattern scrutinee body) =
    scrutinee_scope own (as_a Reached scrutinee ∷ as_a Names pattern ∷ as_a ByItself body ∷ [])
parts own (Break loop value) = no_scope own (if_any Evaluated value)
parts own (Return value) = no_scope own (if_any Evaluated value)
parts own form = []

-- what the table takes as the nearest temporary scope and the innermost scope in scopes that a form opens
abbrev pub within : NodeId → List Bool → Within → Within
within id [] w = w
within id (true ∷ opened) w = both_in id
within id (false ∷ opened) w = inner id (within id opened w)

-- the rows of a part
abbrev pub rows_of : Within → Role → Node → List ScopeRow
rows_of w Evaluated n = rows w nothing n
rows_of w ByItself n = alone_rows n
rows_of w AsOperand n = rows w (entry_in w.innermost n) n
rows_of w OfStatement n = rows w (pending_in w.innermost) n
rows_of w OfLet n = rows w (pending_if_value w.innermost n) n
rows_of w Reached n = rows w (reached_in w.temporary n) n
rows_of w AsArm n = arm_rows w.temporary n
rows_of w Names n = pattern_rows w.temporary (name_in w.innermost) n

abbrev pub rows_of_steps : Within → List Step → List ScopeRow
rows_of_steps w [] = []
rows_of_steps w (step ∷ steps) = rows_of w step.role step.part ++ rows_of_steps w steps

abbrev pub rows_of_parts : NodeId → Within → List Inside → List ScopeRow
rows_of_parts id w [] = []
rows_of_parts id w (group ∷ groups) = rows_of_steps (within id group.opened w) group.steps ++ rows_of_parts id w groups

-- the names of a `let`
abbrev pub names_of_let : Within → NodeId → Form → List ScopeRow
names_of_let w id (Let pattern absent) = pattern_rows id (name_in w.innermost) pattern
names_of_let w id (Let pattern (present value)) =
    pattern_rows id (let_name id w.innermost (form_of pattern)) pattern
names_of_let w id form = []

-- what the table takes for a node that is run by itself, and for one that is not
abbrev pub within_node : Bool → Node → Within → Within
within_node true n w = alone n
within_node false n w = w

-- The rows in a node are those of its parts, and then those of the names of a `let`. Of an arm, its own row is before
-- them.
pub record HasRowsOfItsParts (by_itself : Bool) (w : Within) (n : Node) : Type 0 where
  pub of_form : rows_in (within_node by_itself n w) (named (number_of n)) (form_of n)
      ≡ where_false (is_arm (form_of n)) (rows_of_parts (named (number_of n)) w (parts by_itself (form_of n)))
      ++ names_of_let (within_node by_itself n w) (named (number_of n)) (form_of n)
  pub of_arm : arm_rows_of w.temporary (named (number_of n)) (form_of n)
      ≡ where_true (is_arm (form_of n)) (row (named (number_of n)) w.temporary nothing
      ∷ rows_of_parts (named (number_of n)) w (parts by_itself (form_of n)))

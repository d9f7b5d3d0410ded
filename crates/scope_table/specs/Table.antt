-- The scopes of the nodes of a body (The Rust Reference, "Destructors": "Drop scopes", "Scopes of function parameters",
-- "Scopes of local variables", "Temporary scopes"). A scope is named by the node whose scope it is, that of the entire
-- function by the block of its body.
use Rattle.std.specs.Prelude.{ℕ, Bool, true, false, List, [], ◌∷◌, ◌++◌, map, Option, Some, None}
use Rattle.mir_base.specs.declared.place_in_text.NodeId.{NodeId}
use Rattle.scope_table.specs.declared.row.MadeAround.{MadeAround}
use Rattle.scope_table.specs.declared.row.ScopeRow.{ScopeRow}
use Rattle.scope_table.specs.declared.row.Within.{Within}
use Rattle.src_meaning.specs.Locals.OfBody.{is_place_form}
use Rattle.typed_tree.specs.Nodes.{number_of, nodes_of, nodes_in}
use Rattle.typed_tree.specs.Tree.{Node, node, Form, Nodes, no_node, a_node, Fields, no_field, a_field, MaybeNode, absent, present, Field, Index, Deref, Not, Negate, Arithmetic, Comparison, And, Or, Assign, Call, MethodCall, VirtualCall, ClosureCall, Make, Tuple, Array, Closure, NewBox, Print, DropValue, Forget, Borrow, Unsize, Block, Let, Evaluate, If, IfLet, Match, Arm, Loop, While, WhileLet, Break, Return, Wildcard, Binding, NumberPattern, TruthPattern, StructPattern, VariantPattern, TuplePattern, ArrayPattern, OrPattern, ParamTree, BodyTree}

abbrev pub nothing : MadeAround
nothing = record { destination = None; entry = None }

-- the number of a node, as contracts see it
abbrev pub named : ℕ → NodeId
named id = record { 0 = id }

abbrev pub both_in : NodeId → Within
both_in scope = record { temporary = scope; innermost = scope }

abbrev pub inner : NodeId → Within → Within
inner scope w = record w { innermost = scope }

abbrev pub row : NodeId → NodeId → MadeAround → ScopeRow
row id temporary made = record { node = id; temporary = temporary; destination = made.destination; entry = made.entry }

-- a block, a branch, a `match` or a loop makes its value in a destination, which is pending until it is complete
abbrev pub has_destination : Form → Bool
has_destination (Block statements tail) = true
has_destination (If condition then otherwise) = true
has_destination (IfLet pattern scrutinee then otherwise) = true
has_destination (Match scrutinee arms) = true
has_destination (Loop body) = true
has_destination (While condition body) = true
has_destination (WhileLet pattern scrutinee body) = true
has_destination form = false

abbrev pub form_of : Node → Form
form_of (node id at ty by form) = form

abbrev pub if_true : Bool → NodeId → Option NodeId
if_true true scope = Some scope
if_true false scope = None

-- a value that becomes an entry of a scope: an operand, a temporary
abbrev pub entry_in : NodeId → Node → MadeAround
entry_in scope n = record { destination = if_true (has_destination (form_of n)) scope; entry = Some scope }

abbrev pub made_if_value : Bool → MadeAround → MadeAround
made_if_value true made = nothing
made_if_value false made = made

-- a place that is reached makes nothing; a value in its stead is a temporary
abbrev pub reached_in : NodeId → Node → MadeAround
reached_in scope n = made_if_value (is_place_form (form_of n)) (entry_in scope n)

-- a value that is made in a destination which is pending in any case
abbrev pub pending_in : NodeId → MadeAround
pending_in scope = record { destination = Some scope; entry = Some scope }

-- a coercion has no scope of its own: its operand has
abbrev mutual
  pub own_scope : Node → NodeId
  own_scope (node id at ty by form) = own_scope_of (named id) form

  pub own_scope_of : NodeId → Form → NodeId
  own_scope_of id (Unsize trait_no operand) = own_scope operand
  own_scope_of id form = id

-- the temporary scope of a statement is the statement
abbrev pub temporary_of : NodeId → Form → NodeId → NodeId
temporary_of id (Let pattern initialiser) scope = id
temporary_of id (Evaluate expression) scope = id
temporary_of id form scope = scope

-- nodes that make nothing
abbrev pub idle : NodeId → List Node → List ScopeRow
idle scope nodes = map (λ n. row (named (number_of n)) scope nothing) nodes

abbrev pub alone : Node → Within
alone n = both_in (own_scope n)

-- what a form of a pattern makes, where a name makes this
abbrev pub by_name : MadeAround → Form → MadeAround
by_name name (Binding text) = name
by_name name form = nothing

abbrev pub has_parts : Form → Bool
has_parts (StructPattern fields) = true
has_parts (VariantPattern variant is_test fields) = true
has_parts (TuplePattern parts) = true
has_parts (ArrayPattern elements) = true
has_parts form = false

abbrev pub is_arm : Form → Bool
is_arm (Arm pattern guard body) = true
is_arm form = false

-- what stands in a pattern or an arm where an expression is evaluated
abbrev pub is_idle : Form → Bool
is_idle (Arm pattern guard body) = true
is_idle Wildcard = true
is_idle (Binding name) = true
is_idle (NumberPattern value) = true
is_idle (TruthPattern value) = true
is_idle (StructPattern fields) = true
is_idle (VariantPattern variant is_test fields) = true
is_idle (TuplePattern parts) = true
is_idle (ArrayPattern elements) = true
is_idle (OrPattern alternatives) = true
is_idle form = false

abbrev pub where_true : Bool → List ScopeRow → List ScopeRow
where_true true rows = rows
where_true false rows = []

abbrev pub where_false : Bool → List ScopeRow → List ScopeRow
where_false true rows = []
where_false false rows = rows

-- A pattern of which each name makes this. Alternatives have no names.
abbrev mutual
  pub pattern_rows : (temporary : NodeId) (name : MadeAround) → Node → List ScopeRow
  pattern_rows t name (node id at ty by form) =
      row (named id) t (by_name name form)
      ∷ part_rows t name form ++ where_false (has_parts form) (idle t (nodes_in form))

  pub part_rows : (temporary : NodeId) (name : MadeAround) → Form → List ScopeRow
  part_rows t name (StructPattern fields) = pattern_rows_of_fields t name fields
  part_rows t name (VariantPattern variant is_test fields) = pattern_rows_of_fields t name fields
  part_rows t name (TuplePattern parts) = pattern_rows_among t name parts
  part_rows t name (ArrayPattern elements) = pattern_rows_among t name elements
  part_rows t name form = []

  pub pattern_rows_of_fields : (temporary : NodeId) (name : MadeAround) → Fields → List ScopeRow
  pattern_rows_of_fields t name no_field = []
  pattern_rows_of_fields t name (a_field number value rest) =
      pattern_rows t name value ++ pattern_rows_of_fields t name rest

  pub pattern_rows_among : (temporary : NodeId) (name : MadeAround) → Nodes → List ScopeRow
  pattern_rows_among t name no_node = []
  pattern_rows_among t name (a_node first rest) = pattern_rows t name first ++ pattern_rows_among t name rest

-- what is in a pattern
abbrev pub pattern_rows_in : (temporary : NodeId) (name : MadeAround) → Form → List ScopeRow
pattern_rows_in t name form = part_rows t name form ++ where_false (has_parts form) (idle t (nodes_in form))

-- a name of a pattern is an entry of a scope; that of a `let` with one name is pending in the statement before
abbrev pub name_in : NodeId → MadeAround
name_in scope = record { destination = None; entry = Some scope }

abbrev pub let_name : NodeId → NodeId → Form → MadeAround
let_name id scope (Binding text) = record { destination = Some id; entry = Some scope }
let_name id scope form = name_in scope

-- the value of a `let`: that of one name is made in the name; another is a place, or a temporary of the statement
abbrev pub pending_if_value : NodeId → Node → MadeAround
pending_if_value scope n = made_if_value (is_place_form (form_of n)) (pending_in scope)

abbrev pub initial : NodeId → Form → Node → MadeAround
initial id (Binding text) n = nothing
initial id form n = pending_if_value id n

-- The rows of a node and those below it, in the order in which they are complete: what is in it, and what it makes for
-- what is around it. A node that is a temporary scope of its own is the nearest and the innermost scope for what is in
-- it.
abbrev mutual
  pub rows : Within → MadeAround → Node → List ScopeRow
  rows w made (node id at ty by form) =
      rows_in w (named id) form ++ where_true (is_idle form) (idle w.temporary (nodes_in form))
      ++ row (named id) (temporary_of (named id) form w.temporary) made ∷ []

  pub rows_in : Within → NodeId → Form → List ScopeRow
  rows_in w id (Field base part) = rows w (reached_in w.temporary base) base
  rows_in w id (Index base index length) = rows w (reached_in w.temporary base) base ++ rows w nothing index
  rows_in w id (Deref base) = rows w (reached_in w.temporary base) base
  rows_in w id (Not operand) = rows (inner id w) (entry_in id operand) operand
  rows_in w id (Negate operand) = rows (inner id w) (entry_in id operand) operand
  rows_in w id (Arithmetic operator left right) =
      rows (inner id w) (entry_in id left) left ++ rows (inner id w) (entry_in id right) right
  rows_in w id (Comparison operator left right) =
      rows (inner id w) (entry_in id left) left ++ rows (inner id w) (entry_in id right) right
  rows_in w id (And left right) = rows (alone left) nothing left ++ rows (alone right) nothing right
  rows_in w id (Or left right) = rows (alone left) nothing left ++ rows (alone right) nothing right
  rows_in w id (Assign place value) =
      rows (inner id w) (entry_in id value) value ++ rows (inner id w) (reached_in w.temporary place) place
  rows_in w id (Call body args) = operand_rows (inner id w) id args
  rows_in w id (MethodCall body receiver args) =
      rows (inner id w) (entry_in id receiver) receiver ++ operand_rows (inner id w) id args
  rows_in w id (VirtualCall trait_no method receiver args) =
      rows (inner id w) (entry_in id receiver) receiver ++ operand_rows (inner id w) id args
  rows_in w id (ClosureCall body callee args) =
      rows (inner id w) (entry_in id callee) callee ++ operand_rows (inner id w) id args
  rows_in w id (Make adt variant fields) = field_rows (inner id w) id fields
  rows_in w id (Tuple parts) = operand_rows (inner id w) id parts
  rows_in w id (Array elements) = operand_rows (inner id w) id elements
  rows_in w id (Closure closure captures) = operand_rows (inner id w) id captures
  rows_in w id (NewBox content) = rows (inner id w) (entry_in id content) content
  rows_in w id (Print operand) = rows (inner id w) (entry_in id operand) operand
  rows_in w id (DropValue operand) = rows (inner id w) (entry_in id operand) operand
  rows_in w id (Forget operand) = rows (inner id w) (entry_in id operand) operand
  rows_in w id (Borrow unique base) = rows w (reached_in w.temporary base) base
  rows_in w id (Unsize trait_no operand) = rows w nothing operand
  rows_in w id (Block statements tail) = statement_rows (inner id w) statements ++ alone_if_any tail
  rows_in w id (Let pattern initialiser) = let_rows id w.innermost pattern initialiser
  rows_in w id (Evaluate expression) = rows (both_in id) (pending_in id) expression
  rows_in w id (If condition then otherwise) =
      rows (alone condition) nothing condition ++ rows (alone then) nothing then ++ alone_if_any otherwise
  rows_in w id (IfLet pattern scrutinee then otherwise) =
      rows (both_in id) (reached_in id scrutinee) scrutinee ++ pattern_rows id (name_in id) pattern
      ++ rows (alone then) nothing then ++ alone_if_any otherwise
  rows_in w id (Match scrutinee arms) =
      rows w (reached_in w.temporary scrutinee) scrutinee ++ rows_of_arms w.temporary arms
  rows_in w id (Loop body) = rows (alone body) nothing body
  rows_in w id (While condition body) = rows (alone condition) nothing condition ++ rows (alone body) nothing body
  rows_in w id (WhileLet pattern scrutinee body) =
      rows (both_in id) (reached_in id scrutinee) scrutinee ++ pattern_rows id (name_in id) pattern
      ++ rows (alone body) nothing body
  rows_in w id (Break loop value) = rows_if_any w value
  rows_in w id (Return value) = rows_if_any w value
  rows_in w id form = []

  pub alone_if_any : MaybeNode → List ScopeRow
  alone_if_any absent = []
  alone_if_any (present value) = rows (alone value) nothing value

  pub rows_if_any : Within → MaybeNode → List ScopeRow
  rows_if_any w absent = []
  rows_if_any w (present value) = rows w nothing value

  pub operand_rows : Within → NodeId → Nodes → List ScopeRow
  operand_rows w id no_node = []
  operand_rows w id (a_node first rest) = rows w (entry_in id first) first ++ operand_rows w id rest

  pub field_rows : Within → NodeId → Fields → List ScopeRow
  field_rows w id no_field = []
  field_rows w id (a_field number value rest) = rows w (entry_in id value) value ++ field_rows w id rest

  pub statement_rows : Within → Nodes → List ScopeRow
  statement_rows w no_node = []
  statement_rows w (a_node first rest) = rows w nothing first ++ statement_rows w rest

  -- a `let` without a value makes its names at once
  pub let_rows : (id scope : NodeId) → Node → MaybeNode → List ScopeRow
  let_rows id scope pattern absent = pattern_rows id (name_in scope) pattern
  let_rows id scope pattern (present value) =
      rows (both_in id) (initial id (form_of pattern) value) value
      ++ pattern_rows id (let_name id scope (form_of pattern)) pattern

  pub arm_rows : NodeId → Node → List ScopeRow
  arm_rows t (node id at ty by form) =
      arm_rows_of t (named id) form ++ where_false (is_arm form) (idle t (nodes_of (node id at ty by form)))

  pub arm_rows_of : (temporary id : NodeId) → Form → List ScopeRow
  arm_rows_of t id (Arm pattern guard body) =
      row id t nothing ∷ alone_if_any guard ++ pattern_rows t (name_in id) pattern ++ rows (alone body) nothing body
  arm_rows_of t id form = []

  pub rows_of_arms : NodeId → Nodes → List ScopeRow
  rows_of_arms t no_node = []
  rows_of_arms t (a_node first rest) = arm_rows t first ++ rows_of_arms t rest

-- a node that is a temporary scope of its own
abbrev pub alone_rows : Node → List ScopeRow
alone_rows n = rows (alone n) nothing n

-- a scrutinee, and the names of its pattern, which are entries of the same scope
abbrev pub matched_rows : (id : NodeId) (scrutinee pattern : Node) → List ScopeRow
matched_rows id scrutinee pattern =
    rows (both_in id) (reached_in id scrutinee) scrutinee ++ pattern_rows id (name_in id) pattern

-- a parameter is an entry of the entire function, and then the names of its pattern are
abbrev pub param_rows : NodeId → Node → List ScopeRow
param_rows scope (node id at ty by form) =
    row (named id) scope (name_in scope) ∷ pattern_rows_in scope (name_in scope) form

abbrev pub rows_of_params : NodeId → List ParamTree → List ScopeRow
rows_of_params scope [] = []
rows_of_params scope (param ∷ params) = param_rows scope param.pattern ++ rows_of_params scope params

-- the result of a body is pending until the body returns
abbrev pub answer_in : NodeId → MadeAround
answer_in scope = record { destination = Some scope; entry = None }

abbrev pub entire_function : BodyTree → NodeId
entire_function body = named (number_of body.block)

-- the rows of the nodes of a body, in the order of evaluation: a node comes behind what is in it
abbrev pub scope_rows : BodyTree → List ScopeRow
scope_rows body =
    rows_of_params (entire_function body) body.params
    ++ rows (both_in (entire_function body)) (answer_in (entire_function body)) body.block

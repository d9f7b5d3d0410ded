-- The scopes of entries that a node makes: those around it, and its own.
use Rattle.std.proofs.Common.{ℕ, Bool, true, false, List, [], ◌∷◌, ◌++◌}
use Rattle.mir_base.specs.declared.place_in_text.NodeId.{NodeId}
use Rattle.scope_table.proofs.Entering.{OfEntry, AllEntries, entries_append}
use Rattle.scope_table.specs.declared.row.MadeAround.{MadeAround}
use Rattle.scope_table.specs.declared.row.ScopeRow.{ScopeRow}
use Rattle.scope_table.specs.declared.row.Within.{Within}
use Rattle.scope_table.specs.Table.{nothing, named, both_in, inner, row, entry_in, made_if_value, reached_in, pending_in, own_scope, own_scope_of, temporary_of, idle, alone, by_name, has_parts, is_arm, is_idle, where_true, where_false, pattern_rows, part_rows, pattern_rows_of_fields, pattern_rows_among, name_in, let_name, initial, rows, rows_in, alone_if_any, rows_if_any, operand_rows, field_rows, statement_rows, let_rows, arm_rows, arm_rows_of, rows_of_arms, form_of}
use Rattle.src_meaning.specs.Locals.OfBody.{is_place_form}
use Rattle.typed_tree.specs.Nodes.{number_of, nodes_of, nodes_in, nodes_among, nodes_of_fields, nodes_if_any}
use Rattle.typed_tree.specs.Tree.{Node, node, Form, Nodes, no_node, a_node, Fields, no_field, a_field, MaybeNode, absent, present, Number, Truth, UnitValue, Variable, Captured, Field, Index, Deref, Not, Negate, Arithmetic, Comparison, And, Or, Assign, Call, MethodCall, VirtualCall, ClosureCall, Make, Tuple, Array, Closure, NewBox, Print, Ask, DropValue, Forget, Panic, Borrow, Unsize, Block, Let, Evaluate, If, IfLet, Match, Arm, Loop, While, WhileLet, Break, Continue, Return, Wildcard, Binding, NumberPattern, TruthPattern, StructPattern, VariantPattern, TuplePattern, ArrayPattern, OrPattern}

module _ (P : ℕ → Type 0) where
  abbrev pub AllNumbers : List Node → Type 0
  AllNumbers [] = Unit {0}
  AllNumbers (n ∷ nodes) = P (number_of n) × AllNumbers nodes

  pub numbers_left : (A B : List Node) → AllNumbers (A ++ B) → AllNumbers A
  numbers_left [] B all = tt
  numbers_left (n ∷ A) B all = (all.0, numbers_left A B all.1)

  pub numbers_right : (A B : List Node) → AllNumbers (A ++ B) → AllNumbers B
  numbers_right [] B all = all
  numbers_right (n ∷ A) B all = numbers_right A B all.1

  idle_rows : (t : NodeId) (nodes : List Node) → AllEntries P (idle t nodes)
  idle_rows t [] = tt
  idle_rows t (n ∷ nodes) = (tt, idle_rows t nodes)

  pub idle_where : (b : Bool) (t : NodeId) (nodes : List Node) → AllEntries P (where_true b (idle t nodes))
  idle_where true t nodes = idle_rows t nodes
  idle_where false t nodes = tt

  pub idle_unless : (b : Bool) (t : NodeId) (nodes : List Node) → AllEntries P (where_false b (idle t nodes))
  idle_unless true t nodes = tt
  idle_unless false t nodes = idle_rows t nodes

  if_value : (b : Bool) (made : MadeAround) → OfEntry P made.entry → OfEntry P (made_if_value b made).entry
  if_value true made h = tt
  if_value false made h = h

  pub of_reached : (scope : NodeId) (n : Node) → P scope.0 → OfEntry P (reached_in scope n).entry
  of_reached scope n h = if_value (is_place_form (form_of n)) (entry_in scope n) h

  both : (A B : List ScopeRow) → AllEntries P A → AllEntries P B → AllEntries P (A ++ B)
  both A B a b = entries_append P A B a b

  mutual
    pub own_in : (n : Node) → AllNumbers (nodes_of n) → P (own_scope n).0
    own_in (node id at ty by form) all = own_of id form all

    own_of : (id : ℕ) (form : Form) → P id × AllNumbers (nodes_in form) → P (own_scope_of (named id) form).0
    own_of id (Unsize trait_no operand) all = own_in operand all.1
    own_of id other all = all.0

  -- the names of a pattern
  module _ (t : NodeId) (name : MadeAround) (h : OfEntry P name.entry) where
    mutual
      pub in_pattern : (n : Node) → AllEntries P (pattern_rows t name n)
      in_pattern (node id at ty by form) =
          both (row (named id) t (by_name name form) ∷ part_rows t name form) (where_false (has_parts form) (idle t (nodes_in form))) (of_name form, in_parts form) (idle_unless (has_parts form) t (nodes_in form))

      of_name : (form : Form) → OfEntry P (by_name name form).entry
      of_name (Binding name) = h
      of_name other = tt

      in_parts : (form : Form) → AllEntries P (part_rows t name form)
      in_parts (StructPattern fields) = in_fields fields
      in_parts (VariantPattern variant is_test fields) = in_fields fields
      in_parts (TuplePattern parts) = in_each parts
      in_parts (ArrayPattern elements) = in_each elements
      in_parts other = tt

      in_fields : (fields : Fields) → AllEntries P (pattern_rows_of_fields t name fields)
      in_fields no_field = tt
      in_fields (a_field number value rest) = both (pattern_rows t name value) (pattern_rows_of_fields t name rest) (in_pattern value) (in_fields rest)

      in_each : (nodes : Nodes) → AllEntries P (pattern_rows_among t name nodes)
      in_each no_node = tt
      in_each (a_node first rest) = both (pattern_rows t name first) (pattern_rows_among t name rest) (in_pattern first) (in_each rest)

  let_entry : (id scope : NodeId) (form : Form) → P scope.0 → OfEntry P (let_name id scope form).entry
  let_entry id scope (Number value) h = h
  let_entry id scope other h = h

  initial_entry : (id : NodeId) (form : Form) (n : Node) → P id.0 → OfEntry P (initial id form n).entry
  initial_entry id (Binding name) n h = tt
  initial_entry id other n h = if_value (is_place_form (form_of n)) (pending_in id) h

  mutual
    -- of a node, in scopes of which this holds
    pub in_node : (w : Within) (made : MadeAround) (n : Node) → P w.temporary.0 → P w.innermost.0 → OfEntry P made.entry → AllNumbers (nodes_of n) → AllEntries P (rows w made n)
    in_node w made (node id at ty by form) t i m all =
        let own = row (named id) (temporary_of (named id) form w.temporary) made in
        both (rows_in w (named id) form ++ where_true (is_idle form) (idle w.temporary (nodes_in form))) (own ∷ [])
        (both (rows_in w (named id) form) (where_true (is_idle form) (idle w.temporary (nodes_in form))) (in_form w id form t i all.0 all.1) (idle_where (is_idle form) w.temporary (nodes_in form)))
        (m, tt)

    pub alone_any : (o : MaybeNode) → AllNumbers (nodes_if_any o) → AllEntries P (alone_if_any o)
    alone_any absent all = tt
    alone_any (present value) all = in_node (alone value) nothing value (own_in value all) (own_in value all) tt all

    pub rows_any : (w : Within) (o : MaybeNode) → P w.temporary.0 → P w.innermost.0 → AllNumbers (nodes_if_any o) → AllEntries P (rows_if_any w o)
    rows_any w absent t i all = tt
    rows_any w (present value) t i all = in_node w nothing value t i tt all

    operands_in : (w : Within) (id : ℕ) (nodes : Nodes) → P w.temporary.0 → P id → AllNumbers (nodes_among nodes) → AllEntries P (operand_rows (inner (named id) w) (named id) nodes)
    operands_in w id no_node t o all = tt
    operands_in w id (a_node first rest) t o all =
        both (rows (inner (named id) w) (entry_in (named id) first) first) (operand_rows (inner (named id) w) (named id) rest)
        (in_node (inner (named id) w) (entry_in (named id) first) first t o o (numbers_left (nodes_of first) (nodes_among rest) all))
        (operands_in w id rest t o (numbers_right (nodes_of first) (nodes_among rest) all))

    fields_in : (w : Within) (id : ℕ) (fields : Fields) → P w.temporary.0 → P id → AllNumbers (nodes_of_fields fields) → AllEntries P (field_rows (inner (named id) w) (named id) fields)
    fields_in w id no_field t o all = tt
    fields_in w id (a_field number value rest) t o all =
        both (rows (inner (named id) w) (entry_in (named id) value) value) (field_rows (inner (named id) w) (named id) rest)
        (in_node (inner (named id) w) (entry_in (named id) value) value t o o (numbers_left (nodes_of value) (nodes_of_fields rest) all))
        (fields_in w id rest t o (numbers_right (nodes_of value) (nodes_of_fields rest) all))

    statements_in : (w : Within) (nodes : Nodes) → P w.temporary.0 → P w.innermost.0 → AllNumbers (nodes_among nodes) → AllEntries P (statement_rows w nodes)
    statements_in w no_node t i all = tt
    statements_in w (a_node first rest) t i all =
        both (rows w nothing first) (statement_rows w rest)
        (in_node w nothing first t i tt (numbers_left (nodes_of first) (nodes_among rest) all))
        (statements_in w rest t i (numbers_right (nodes_of first) (nodes_among rest) all))

    let_in : (id : ℕ) (scope : NodeId) (pattern : Node) (o : MaybeNode) → P id → P scope.0 → AllNumbers (nodes_if_any o) → AllEntries P (let_rows (named id) scope pattern o)
    let_in id scope pattern absent own i all = in_pattern (named id) (name_in scope) i pattern
    let_in id scope pattern (present value) own i all =
        both (rows (both_in (named id)) (initial (named id) (form_of pattern) value) value)
        (pattern_rows (named id) (let_name (named id) scope (form_of pattern)) pattern)
        (in_node (both_in (named id)) (initial (named id) (form_of pattern) value) value own own (initial_entry (named id) (form_of pattern) value own) all)
        (in_pattern (named id) (let_name (named id) scope (form_of pattern)) (let_entry (named id) scope (form_of pattern) i) pattern)

    arm_in : (t : NodeId) (n : Node) → AllNumbers (nodes_of n) → AllEntries P (arm_rows t n)
    arm_in t (node id at ty by form) all =
        both (arm_rows_of t (named id) form) (where_false (is_arm form) (idle t (nodes_of (node id at ty by form))))
        (arm_of t id form all.0 all.1) (idle_unless (is_arm form) t (nodes_of (node id at ty by form)))

    arm_of : (t : NodeId) (id : ℕ) (form : Form) → P id → AllNumbers (nodes_in form) → AllEntries P (arm_rows_of t (named id) form)
    arm_of t id (Arm pattern guard body) own all =
        let before = numbers_left (nodes_of pattern ++ nodes_if_any guard) (nodes_of body) all in
        let last = numbers_right (nodes_of pattern ++ nodes_if_any guard) (nodes_of body) all in
        both ((row (named id) t nothing ∷ alone_if_any guard) ++ pattern_rows t (name_in (named id)) pattern) (rows (alone body) nothing body)
        (both (row (named id) t nothing ∷ alone_if_any guard) (pattern_rows t (name_in (named id)) pattern)
        (tt, alone_any guard (numbers_right (nodes_of pattern) (nodes_if_any guard) before))
        (in_pattern t (name_in (named id)) own pattern))
        (in_node (alone body) nothing body (own_in body last) (own_in body last) tt last)
    arm_of t id other own all = tt

    pub arms_in : (t : NodeId) (nodes : Nodes) → AllNumbers (nodes_among nodes) → AllEntries P (rows_of_arms t nodes)
    arms_in t no_node all = tt
    arms_in t (a_node first rest) all =
        both (arm_rows t first) (rows_of_arms t rest)
        (arm_in t first (numbers_left (nodes_of first) (nodes_among rest) all))
        (arms_in t rest (numbers_right (nodes_of first) (nodes_among rest) all))

    pub in_form : (w : Within) (id : ℕ) (form : Form) → P w.temporary.0 → P w.innermost.0 → P id → AllNumbers (nodes_in form) → AllEntries P (rows_in w (named id) form)
    in_form w id (Field base part) t i own all = in_node w (reached_in w.temporary base) base t i (of_reached w.temporary base t) all
    in_form w id (Index base index length) t i own all =
        both (rows w (reached_in w.temporary base) base) (rows w nothing index)
        (in_node w (reached_in w.temporary base) base t i (of_reached w.temporary base t) (numbers_left (nodes_of base) (nodes_of index) all))
        (in_node w nothing index t i tt (numbers_right (nodes_of base) (nodes_of index) all))
    in_form w id (Deref base) t i own all = in_node w (reached_in w.temporary base) base t i (of_reached w.temporary base t) all
    in_form w id (Not operand) t i own all = in_node (inner (named id) w) (entry_in (named id) operand) operand t own own all
    in_form w id (Negate operand) t i own all = in_node (inner (named id) w) (entry_in (named id) operand) operand t own own all
    in_form w id (Arithmetic operator left right) t i own all =
        both (rows (inner (named id) w) (entry_in (named id) left) left) (rows (inner (named id) w) (entry_in (named id) right) right)
        (in_node (inner (named id) w) (entry_in (named id) left) left t own own (numbers_left (nodes_of left) (nodes_of right) all))
        (in_node (inner (named id) w) (entry_in (named id) right) right t own own (numbers_right (nodes_of left) (nodes_of right) all))
    in_form w id (Comparison operator left right) t i own all =
        both (rows (inner (named id) w) (entry_in (named id) left) left) (rows (inner (named id) w) (entry_in (named id) right) right)
        (in_node (inner (named id) w) (entry_in (named id) left) left t own own (numbers_left (nodes_of left) (nodes_of right) all))
        (in_node (inner (named id) w) (entry_in (named id) right) right t own own (numbers_right (nodes_of left) (nodes_of right) all))
    in_form w id (And left right) t i own all =
        both (rows (alone left) nothing left) (rows (alone right) nothing right)
        (in_node (alone left) nothing left (own_in left (numbers_left (nodes_of left) (nodes_of right) all)) (own_in left (numbers_left (nodes_of left) (nodes_of right) all)) tt (numbers_left (nodes_of left) (nodes_of right) all))
        (in_node (alone right) nothing right (own_in right (numbers_right (nodes_of left) (nodes_of right) all)) (own_in right (numbers_right (nodes_of left) (nodes_of right) all)) tt (numbers_right (nodes_of left) (nodes_of right) all))
    in_form w id (Or left right) t i own all =
        both (rows (alone left) nothing left) (rows (alone right) nothing right)
        (in_node (alone left) nothing left (own_in left (numbers_left (nodes_of left) (nodes_of right) all)) (own_in left (numbers_left (nodes_of left) (nodes_of right) all)) tt (numbers_left (nodes_of left) (nodes_of right) all))
        (in_node (alone right) nothing right (own_in right (numbers_right (nodes_of left) (nodes_of right) all)) (own_in right (numbers_right (nodes_of left) (nodes_of right) all)) tt (numbers_right (nodes_of left) (nodes_of right) all))
    in_form w id (Assign target value) t i own all =
        both (rows (inner (named id) w) (entry_in (named id) value) value) (rows (inner (named id) w) (reached_in w.temporary target) target)
        (in_node (inner (named id) w) (entry_in (named id) value) value t own own (numbers_right (nodes_of target) (nodes_of value) all))
        (in_node (inner (named id) w) (reached_in w.temporary target) target t own (of_reached w.temporary target t) (numbers_left (nodes_of target) (nodes_of value) all))
    in_form w id (Call body args) t i own all = operands_in w id args t own all
    in_form w id (MethodCall body receiver args) t i own all =
        both (rows (inner (named id) w) (entry_in (named id) receiver) receiver) (operand_rows (inner (named id) w) (named id) args)
        (in_node (inner (named id) w) (entry_in (named id) receiver) receiver t own own (numbers_left (nodes_of receiver) (nodes_among args) all))
        (operands_in w id args t own (numbers_right (nodes_of receiver) (nodes_among args) all))
    in_form w id (VirtualCall trait_no method receiver args) t i own all =
        both (rows (inner (named id) w) (entry_in (named id) receiver) receiver) (operand_rows (inner (named id) w) (named id) args)
        (in_node (inner (named id) w) (entry_in (named id) receiver) receiver t own own (numbers_left (nodes_of receiver) (nodes_among args) all))
        (operands_in w id args t own (numbers_right (nodes_of receiver) (nodes_among args) all))
    in_form w id (ClosureCall body callee args) t i own all =
        both (rows (inner (named id) w) (entry_in (named id) callee) callee) (operand_rows (inner (named id) w) (named id) args)
        (in_node (inner (named id) w) (entry_in (named id) callee) callee t own own (numbers_left (nodes_of callee) (nodes_among args) all))
        (operands_in w id args t own (numbers_right (nodes_of callee) (nodes_among args) all))
    in_form w id (Make adt variant fields) t i own all = fields_in w id fields t own all
    in_form w id (Tuple parts) t i own all = operands_in w id parts t own all
    in_form w id (Array elements) t i own all = operands_in w id elements t own all
    in_form w id (Closure closure captures) t i own all = operands_in w id captures t own all
    in_form w id (NewBox content) t i own all = in_node (inner (named id) w) (entry_in (named id) content) content t own own all
    in_form w id (Print operand) t i own all = in_node (inner (named id) w) (entry_in (named id) operand) operand t own own all
    in_form w id (DropValue operand) t i own all = in_node (inner (named id) w) (entry_in (named id) operand) operand t own own all
    in_form w id (Forget operand) t i own all = in_node (inner (named id) w) (entry_in (named id) operand) operand t own own all
    in_form w id (Borrow unique base) t i own all = in_node w (reached_in w.temporary base) base t i (of_reached w.temporary base t) all
    in_form w id (Unsize trait_no operand) t i own all = in_node w nothing operand t i tt all
    in_form w id (Block statements tail) t i own all =
        both (statement_rows (inner (named id) w) statements) (alone_if_any tail)
        (statements_in (inner (named id) w) statements t own (numbers_left (nodes_among statements) (nodes_if_any tail) all))
        (alone_any tail (numbers_right (nodes_among statements) (nodes_if_any tail) all))
    in_form w id (Let pattern initialiser) t i own all = let_in id w.innermost pattern initialiser own i (numbers_right (nodes_of pattern) (nodes_if_any initialiser) all)
    in_form w id (Evaluate expression) t i own all = in_node (both_in (named id)) (pending_in (named id)) expression own own own all
    in_form w id (If condition consequent otherwise) t i own all =
        let before = numbers_left (nodes_of condition ++ nodes_of consequent) (nodes_if_any otherwise) all in
        both (rows (alone condition) nothing condition ++ rows (alone consequent) nothing consequent) (alone_if_any otherwise)
        (both (rows (alone condition) nothing condition) (rows (alone consequent) nothing consequent)
        (in_node (alone condition) nothing condition (own_in condition (numbers_left (nodes_of condition) (nodes_of consequent) before)) (own_in condition (numbers_left (nodes_of condition) (nodes_of consequent) before)) tt (numbers_left (nodes_of condition) (nodes_of consequent) before))
        (in_node (alone consequent) nothing consequent (own_in consequent (numbers_right (nodes_of condition) (nodes_of consequent) before)) (own_in consequent (numbers_right (nodes_of condition) (nodes_of consequent) before)) tt (numbers_right (nodes_of condition) (nodes_of consequent) before)))
        (alone_any otherwise (numbers_right (nodes_of condition ++ nodes_of consequent) (nodes_if_any otherwise) all))
    in_form w id (IfLet pattern scrutinee consequent otherwise) t i own all =
        let before = numbers_left ((nodes_of pattern ++ nodes_of scrutinee) ++ nodes_of consequent) (nodes_if_any otherwise) all in
        both ((rows (both_in (named id)) (reached_in (named id) scrutinee) scrutinee ++ pattern_rows (named id) (name_in (named id)) pattern) ++ rows (alone consequent) nothing consequent) (alone_if_any otherwise)
        (both (rows (both_in (named id)) (reached_in (named id) scrutinee) scrutinee ++ pattern_rows (named id) (name_in (named id)) pattern) (rows (alone consequent) nothing consequent)
        (both (rows (both_in (named id)) (reached_in (named id) scrutinee) scrutinee) (pattern_rows (named id) (name_in (named id)) pattern)
        (in_node (both_in (named id)) (reached_in (named id) scrutinee) scrutinee own own (of_reached (named id) scrutinee own) (numbers_right (nodes_of pattern) (nodes_of scrutinee) (numbers_left (nodes_of pattern ++ nodes_of scrutinee) (nodes_of consequent) before)))
        (in_pattern (named id) (name_in (named id)) own pattern))
        (in_node (alone consequent) nothing consequent (own_in consequent (numbers_right (nodes_of pattern ++ nodes_of scrutinee) (nodes_of consequent) before)) (own_in consequent (numbers_right (nodes_of pattern ++ nodes_of scrutinee) (nodes_of consequent) before)) tt (numbers_right (nodes_of pattern ++ nodes_of scrutinee) (nodes_of consequent) before)))
        (alone_any otherwise (numbers_right ((nodes_of pattern ++ nodes_of scrutinee) ++ nodes_of consequent) (nodes_if_any otherwise) all))
    in_form w id (Match scrutinee arms) t i own all =
        both (rows w (reached_in w.temporary scrutinee) scrutinee) (rows_of_arms w.temporary arms)
        (in_node w (reached_in w.temporary scrutinee) scrutinee t i (of_reached w.temporary scrutinee t) (numbers_left (nodes_of scrutinee) (nodes_among arms) all))
        (arms_in w.temporary arms (numbers_right (nodes_of scrutinee) (nodes_among arms) all))
    in_form w id (Loop body) t i own all = in_node (alone body) nothing body (own_in body all) (own_in body all) tt all
    in_form w id (While condition body) t i own all =
        both (rows (alone condition) nothing condition) (rows (alone body) nothing body)
        (in_node (alone condition) nothing condition (own_in condition (numbers_left (nodes_of condition) (nodes_of body) all)) (own_in condition (numbers_left (nodes_of condition) (nodes_of body) all)) tt (numbers_left (nodes_of condition) (nodes_of body) all))
        (in_node (alone body) nothing body (own_in body (numbers_right (nodes_of condition) (nodes_of body) all)) (own_in body (numbers_right (nodes_of condition) (nodes_of body) all)) tt (numbers_right (nodes_of condition) (nodes_of body) all))
    in_form w id (WhileLet pattern scrutinee body) t i own all =
        both (rows (both_in (named id)) (reached_in (named id) scrutinee) scrutinee ++ pattern_rows (named id) (name_in (named id)) pattern) (rows (alone body) nothing body)
        (both (rows (both_in (named id)) (reached_in (named id) scrutinee) scrutinee) (pattern_rows (named id) (name_in (named id)) pattern)
        (in_node (both_in (named id)) (reached_in (named id) scrutinee) scrutinee own own (of_reached (named id) scrutinee own) (numbers_right (nodes_of pattern) (nodes_of scrutinee) (numbers_left (nodes_of pattern ++ nodes_of scrutinee) (nodes_of body) all)))
        (in_pattern (named id) (name_in (named id)) own pattern))
        (in_node (alone body) nothing body (own_in body (numbers_right (nodes_of pattern ++ nodes_of scrutinee) (nodes_of body) all)) (own_in body (numbers_right (nodes_of pattern ++ nodes_of scrutinee) (nodes_of body) all)) tt (numbers_right (nodes_of pattern ++ nodes_of scrutinee) (nodes_of body) all))
    in_form w id (Break loop value) t i own all = rows_any w value t i all
    in_form w id (Return value) t i own all = rows_any w value t i all
    in_form w id other t i own all = tt

  pub of_alone : (n : Node) → AllNumbers (nodes_of n) → AllEntries P (rows (alone n) nothing n)
  of_alone n all = in_node (alone n) nothing n (own_in n all) (own_in n all) tt all

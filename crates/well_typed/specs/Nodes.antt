-- When a node of a typed body is well typed: one row a form (The Rust Reference, "Expressions", "Statements"). A row
-- asks nothing but what its children are by themselves, the entries in scope, the loops around it and the items.
use Rattle.std.specs.Prelude.{ℕ, nat_lt, Bool, true, false, ◌==◌, ◌&&◌, ◌||◌, not, List, [], ◌∷◌, Option, Some, None, is_none, is_some, length, slice_get, option_and_then, if◌then◌else◌}
use Rattle.std.specs.List.{list_any, filter_map}
use Rattle.std.specs.Option.{option_map_or}
use Rattle.mir_ty.specs.DropBodies.{is_drop_body}
use Rattle.mir_ty.specs.declared.ty.TyId.{TyId}
use Rattle.mir_ty.specs.ItemTable.{ItemTable, type_at}
use Rattle.mir_ty.specs.Parts.{field_ty}
use Rattle.typed_tree.specs.declared.node.Use.{Use}
use Rattle.typed_tree.specs.Nodes.{nodes_of}
use Rattle.typed_tree.specs.Tree.{Node, node, Form, Nodes, no_node, a_node, Fields, no_field, a_field, MaybeNode, absent, present, Number, Truth, UnitValue, Variable, Captured, Field, Index, Deref, Not, Negate, Arithmetic, Comparison, And, Or, Assign, Call, MethodCall, VirtualCall, ClosureCall, Make, Tuple, Array, Closure, NewBox, Print, Ask, DropValue, Forget, Panic, Borrow, Unsize, Block, Let, Evaluate, If, IfLet, Match, Arm, Loop, While, WhileLet, Break, Continue, Return, Binding}
use Rattle.well_typed.specs.Claim.{Claim, fact, ◌&◌, some, nothing}
use Rattle.well_typed.specs.Names.{are_distinct, are_distinct_numbers}
use Rattle.well_typed.specs.Patterns.{Matched, pattern, names_of, entries_of, field_numbers, count_of}
use Rattle.well_typed.specs.Places.{InScope, LoopAround, Context, with_entries, within, in_guard, entry_with, loop_with, ty_of, form_of, is_place, may_move, is_behind_shared, borrow_by, Standing, Taken, Wanted, Passed, Base, Used, Stored, stands}
use Rattle.well_typed.specs.Types.{is_same, is_unit, is_bool, is_never, is_int, is_signed, is_i32, is_usize, is_number_of, is_dyn, fits, is_common, adt_of, tuple_of, array_of, boxed_of, closure_of, reference_of, inside_of, is_reference, trait_of, has_fields, variant_at, implements}

-- only what makes a box is coerced: blocks, branches and loops pass the type that is required of them on
abbrev pub is_leaf : Form → Bool
is_leaf (Block statements tail) = false
is_leaf (If condition body otherwise) = false
is_leaf (IfLet pattern scrutinee body otherwise) = false
is_leaf (Match scrutinee arms) = false
is_leaf (Loop body) = false
is_leaf (Unsize trait_no operand) = false
is_leaf _ = true

abbrev pub is_one_name : Node → Bool
is_one_name (node id at ty by (Binding name)) = true
is_one_name _ = false

-- a place that a pattern without names takes apart is not used
abbrev pub is_unused_place : Node → Bool
is_unused_place (node id at ty by form) = is_place form && is_none by

-- a statement whose expression or initialiser has the type `!`
abbrev pub ends_by : ItemTable → Form → Bool
ends_by items (Let p (present value)) = is_never items (ty_of value) && not (is_unused_place value)
ends_by items (Evaluate expression) = is_never items (ty_of expression)
ends_by items _ = false

abbrev pub ends_in : ItemTable → Nodes → Bool
ends_in items no_node = false
ends_in items (a_node first rest) = ends_by items (form_of first) || ends_in items rest

-- A block has the type of its tail. Without a tail it has the type `!` where some statement's expression or initialiser
-- has it, and else `()`.
abbrev pub is_block_ty : ItemTable → TyId → Nodes → MaybeNode → Bool
is_block_ty items ty statements (present tail) = is_same ty (ty_of tail)
is_block_ty items ty statements absent = if ends_in items statements then is_never items ty else is_unit items ty

-- what the breaks out of a loop carry
abbrev pub carried_by : ℕ → Node → Option MaybeNode
carried_by loop (node id at ty by (Break from value)) = if loop == from then Some value else None
carried_by loop _ = None

abbrev pub carried : ℕ → Node → List MaybeNode
carried loop body = filter_map (carried_by loop) (nodes_of body)

-- a break without a value carries `()`
abbrev pub carries_ty : ItemTable → TyId → MaybeNode → Bool
carries_ty items ty absent = is_unit items ty
carries_ty items ty (present value) = is_same ty (ty_of value)

-- a loop has the type of its breaks, and `!` without any that has another
abbrev pub is_loop_ty : ItemTable → TyId → List MaybeNode → Bool
is_loop_ty items ty values = is_never items ty || list_any (carries_ty items ty) values

-- a body that is entered by a call of its function is not that of a `Drop` impl, and not that of a closure
abbrev pub is_closure_body : ItemTable → ℕ → Bool
is_closure_body items body = list_any (λ def. def.body == body) items.closures

abbrev pub types_in : Nodes → List TyId
types_in no_node = []
types_in (a_node first rest) = ty_of first ∷ types_in rest

abbrev pub matched_in : Bool → Context → Node → Matched
matched_in takes_all c scrutinee = record { takes_all = takes_all; may_move = may_move c scrutinee }

abbrev pub fits_bool : ItemTable → TyId → Bool
fits_bool items ty = is_bool items ty || is_never items ty

abbrev pub fits_unit : ItemTable → TyId → Bool
fits_unit items ty = is_unit items ty || is_never items ty

-- operands of one type, where `!` takes the type of the other
abbrev pub are_operands : ItemTable → (TyId → Bool) → TyId → TyId → Bool
are_operands items test a b = (test a && fits items a b) || (test b && fits items b a)

abbrev pub int_or_bool : ItemTable → TyId → Bool
int_or_bool items ty = is_int items ty || is_bool items ty

abbrev pub is_variable : Form → Bool
is_variable (Variable key) = true
is_variable (Captured closure part name) = true
is_variable _ = false

-- the entries of a statement
abbrev pub entries_in : Form → List InScope
entries_in (Let pattern value) = entries_of pattern
entries_in _ = []

abbrev loop_around : ℕ → TyId → Bool → LoopAround
loop_around id ty has_value = record { loop = id; ty = ty; has_value = has_value }

-- a struct or enum of a type, and an impl of a trait by the content of a box
abbrev pub box_implements : ItemTable → TyId → TyId → ℕ → Bool
box_implements items to from trait_no =
    option_map_or (λ n. n == trait_no) (option_and_then (trait_of items) (boxed_of items to)) false &&
    option_map_or (λ adt. implements items adt trait_no) (option_and_then (adt_of items) (boxed_of items from)) false

-- the first of some types and the others
abbrev pub first_and_rest : (TyId → Claim) → (List TyId → Claim) → List TyId → Claim
first_and_rest first rest [] = fact false
first_and_rest first rest (ty ∷ tys) = first ty & rest tys

-- a pattern of `if let` or `while let`
abbrev pub of_scrutinee : Context → Node → Node → Claim
of_scrutinee c p scrutinee =
    fact (are_distinct (names_of p)) & pattern c.items (matched_in false c scrutinee) (ty_of scrutinee) p

-- One name takes the value of the initialiser. Another pattern takes its place apart, or a temporary; a place that is
-- taken apart is of the pattern's own type, so none of type `!` is. The type of the pattern is in the table: it is
-- written or is that of the value.
abbrev pub as_initialiser : Node → Standing
as_initialiser p = if is_one_name p then Wanted (ty_of p) else Base

abbrev pub whole : Matched
whole = record { takes_all = true; may_move = true }

abbrev pub of_let : Context → Node → Node → Claim
of_let c p value =
    fact (are_distinct (names_of p)) &
    pattern c.items (if is_one_name p then whole else matched_in true c value) (ty_of p) p &
    fact (fits c.items (ty_of p) (ty_of value) && not (is_reference c.items (ty_of value))) &
    fact (is_one_name p || (not (is_place (form_of value)) || is_same (ty_of value) (ty_of p))) &
    fact (is_some (type_at c.items (ty_of p)))

abbrev mutual
  -- a node as it stands
  pub typed : Context → Standing → Node → Claim
  typed c standing (node id at ty by form) = stands c standing ty by form & row c id ty form

  pub row : Context → ℕ → TyId → Form → Claim
  row c id ty (Number value) = fact (is_number_of c.items ty value)
  row c id ty (Truth value) = fact (is_bool c.items ty)
  row c id ty UnitValue = fact (is_unit c.items ty)
  row c id ty (Variable key) = some (entry_with key c.entries) (λ x. fact (is_same ty x.ty))
  row c id ty (Captured closure part name) =
      some c.closure (λ x. fact (x.key == closure) & some (field_ty c.items x.ty 0 part) (λ t. fact (is_same ty t)))
  row c id ty (Field base part) =
      typed c Base base & fact (has_fields c.items (ty_of base)) &
      some (field_ty c.items (ty_of base) 0 part) (λ t. fact (is_same ty t))
  row c id ty (Index base index count) =
      typed c Base base & typed c Taken index & fact (is_usize c.items (ty_of index) || is_never c.items (ty_of
      index)) &
      some (array_of c.items (ty_of base)) (λ a. fact (is_same ty a.0 && count == a.1))
  row c id ty (Deref base) = typed c Base base & some (inside_of c.items (ty_of base)) (λ t. fact (is_same ty t))
  row c id ty (Not operand) =
      typed c Taken operand & fact (fits_bool c.items (ty_of operand)) & fact (is_bool c.items ty)
  row c id ty (Negate operand) = typed c Taken operand & fact (is_same ty (ty_of operand)) & fact (is_signed c.items ty)
  row c id ty (Arithmetic operator left right) =
      typed c (Wanted ty) left & typed c (Wanted ty) right & fact (is_int c.items ty) &
      fact (is_same ty (ty_of left) || is_same ty (ty_of right))
  row c id ty (Comparison operator left right) =
      typed c Taken left & typed c Taken right &
      fact (are_operands c.items (int_or_bool c.items) (ty_of left) (ty_of right)) & fact (is_bool c.items ty)
  row c id ty (And left right) =
      typed c Taken left & typed c Taken right & fact (fits_bool c.items (ty_of left)) &
      fact (fits_bool c.items (ty_of right)) & fact (is_bool c.items ty)
  row c id ty (Or left right) =
      typed c Taken left & typed c Taken right & fact (fits_bool c.items (ty_of left)) &
      fact (fits_bool c.items (ty_of right)) & fact (is_bool c.items ty)
  row c id ty (Assign place value) =
      typed c Stored place & fact (not (is_behind_shared c place)) & typed c (Wanted (ty_of place)) value &
      fact (is_unit c.items ty)
  row c id ty (Call body args) =
      some (slice_get c.items.bodies body) (λ sig. fact (is_same ty sig.result) & arguments c sig.params args) &
      fact (not (is_drop_body c.items body) && not (is_closure_body c.items body))
  row c id ty (MethodCall body receiver args) =
      some (slice_get c.items.bodies body) (λ sig. fact (is_same ty sig.result) &
      first_and_rest (λ t. typed c (Passed t) receiver) (λ ts. arguments c ts args) sig.params) &
      fact (not (is_drop_body c.items body) && not (is_closure_body c.items body))
  row c id ty (VirtualCall trait_no method receiver args) =
      some (slice_get c.items.traits trait_no) (λ def. some (slice_get def.methods method) (λ sig.
      fact (is_same ty sig.result) & first_and_rest (λ t. typed c (Passed t) receiver) (λ ts. arguments c ts args)
      sig.params))
  row c id ty (ClosureCall body callee args) =
      some (slice_get c.items.bodies body) (λ sig. fact (is_same ty sig.result) &
      first_and_rest (λ t. typed c (Passed t) callee) (λ ts. arguments c ts args) sig.params) & fact (is_closure_body
      c.items body)
  row c id ty (Make adt variant fields) =
      fact (option_map_or (λ n. n == adt) (adt_of c.items ty) false) &
      some (variant_at c.items adt variant) (λ v.
      fact (are_distinct_numbers (field_numbers fields) && length (field_numbers fields) == length v.fields) &
      made_fields c v.fields fields)
  row c id ty (Tuple parts) = some (tuple_of c.items ty) (λ tys. made_parts c tys parts)
  row c id ty (Array elements) =
      some (array_of c.items ty) (λ a. fact (count_of elements == a.1) & elements_of c a.0 elements)
  row c id ty (Closure closure captures) =
      fact (option_map_or (λ n. n == closure) (closure_of c.items ty) false) &
      some (slice_get c.items.closures closure) (λ def. captured c def.captures captures)
  row c id ty (NewBox content) =
      some (boxed_of c.items ty) (λ inside. typed c (Wanted inside) content & fact (not (is_dyn c.items inside)))
  row c id ty (Print operand) =
      typed c Taken operand & fact (is_i32 c.items (ty_of operand) || is_never c.items (ty_of operand)) &
      fact (is_unit c.items ty)
  row c id ty Ask = fact (is_i32 c.items ty)
  row c id ty (DropValue operand) = typed c Taken operand & fact (is_unit c.items ty)
  row c id ty (Forget operand) = typed c Taken operand & fact (is_unit c.items ty)
  row c id ty Panic = fact (is_never c.items ty)
  row c id ty (Borrow unique base) =
      typed c (Used (borrow_by unique)) base & fact (not (unique && is_behind_shared c base)) &
      some (reference_of c.items ty) (λ r. fact (is_same (ty_of base) r.1) & fact (if unique then r.0 else not r.0))
  row c id ty (Unsize trait_no operand) =
      typed c Taken operand & fact (is_leaf (form_of operand)) &
      fact (box_implements c.items ty (ty_of operand) trait_no)
  row c id ty (Block stmts tail) = statements c stmts (λ d. tail_of d tail) & fact (is_block_ty c.items ty stmts tail)
  row c id ty (If condition body absent) =
      typed c Taken condition & fact (fits_bool c.items (ty_of condition)) & typed c Taken body &
      fact (fits_unit c.items (ty_of body)) & fact (is_unit c.items ty)
  row c id ty (If condition body (present otherwise)) =
      typed c Taken condition & fact (fits_bool c.items (ty_of condition)) & typed c Taken body &
      typed c Taken otherwise & fact (is_common c.items ty (ty_of body ∷ ty_of otherwise ∷ []))
  row c id ty (IfLet p scrutinee body absent) =
      typed c (Used Use.Borrow) scrutinee & of_scrutinee c p scrutinee & typed (with_entries (entries_of p) c) Taken
      body &
      fact (fits_unit c.items (ty_of body)) & fact (is_unit c.items ty)
  row c id ty (IfLet p scrutinee body (present otherwise)) =
      typed c (Used Use.Borrow) scrutinee & of_scrutinee c p scrutinee & typed (with_entries (entries_of p) c) Taken
      body & typed c Taken otherwise &
      fact (is_common c.items ty (ty_of body ∷ ty_of otherwise ∷ []))
  row c id ty (Match scrutinee arms) =
      typed c (Used Use.Borrow) scrutinee &
      arms_of c (matched_in false c scrutinee) (ty_of scrutinee) arms & fact (is_common c.items ty (types_in arms)) &
      fact (nat_lt 0 (count_of arms))
  row c id ty (Loop body) =
      typed (within (loop_around id ty true) c) Taken body & fact (fits_unit c.items (ty_of body)) &
      fact (is_loop_ty c.items ty (carried id body))
  row c id ty (While condition body) =
      typed (within (loop_around id ty false) c) Taken condition & fact (fits_bool c.items (ty_of condition)) &
      typed (within (loop_around id ty false) c) Taken body & fact (fits_unit c.items (ty_of body)) &
      fact (is_unit c.items ty)
  row c id ty (WhileLet p scrutinee body) =
      typed (within (loop_around id ty false) c) (Used Use.Borrow) scrutinee & of_scrutinee c p scrutinee &
      typed (with_entries (entries_of p) (within (loop_around id ty false) c)) Taken body &
      fact (fits_unit c.items (ty_of body)) & fact (is_unit c.items ty)
  row c id ty (Break loop value) = some (loop_with loop c.loops) (λ a. carries c a value) & fact (is_never c.items ty)
  row c id ty (Continue loop) = some (loop_with loop c.loops) (λ a. nothing) & fact (is_never c.items ty)
  row c id ty (Return value) = returned c value & fact (is_never c.items ty)
  row c id ty _ = fact false

  pub carries : Context → LoopAround → MaybeNode → Claim
  carries c a absent = fact (is_unit c.items a.ty)
  carries c a (present value) = fact a.has_value & typed c (Wanted a.ty) value

  pub returned : Context → MaybeNode → Claim
  returned c absent = fact (is_unit c.items c.answer)
  returned c (present value) = typed c (Wanted c.answer) value

  pub tail_of : Context → MaybeNode → Claim
  tail_of c absent = nothing
  tail_of c (present tail) = typed c Taken tail

  -- arguments for parameters of these types, as many as there are
  pub arguments : Context → List TyId → Nodes → Claim
  arguments c [] no_node = nothing
  arguments c (ty ∷ tys) (a_node first rest) = typed c (Passed ty) first & arguments c tys rest
  arguments c tys nodes = fact false

  pub made_parts : Context → List TyId → Nodes → Claim
  made_parts c [] no_node = nothing
  made_parts c (ty ∷ tys) (a_node first rest) = typed c (Wanted ty) first & made_parts c tys rest
  made_parts c tys nodes = fact false

  pub made_fields : Context → List TyId → Fields → Claim
  made_fields c tys no_field = nothing
  made_fields c tys (a_field number value rest) =
      some (slice_get tys number) (λ ty. typed c (Wanted ty) value) & made_fields c tys rest

  pub elements_of : Context → TyId → Nodes → Claim
  elements_of c ty no_node = nothing
  elements_of c ty (a_node first rest) = typed c (Wanted ty) first & elements_of c ty rest

  -- captures are uses of variables
  pub captured : Context → List TyId → Nodes → Claim
  captured c [] no_node = nothing
  captured c (ty ∷ tys) (a_node first rest) =
      typed c Taken first & fact (is_variable (form_of first) && is_same ty (ty_of first)) & captured c tys rest
  captured c tys nodes = fact false

  pub arms_of : Context → Matched → TyId → Nodes → Claim
  arms_of c m ty no_node = nothing
  arms_of c m ty (a_node first rest) = arm c m ty first & arms_of c m ty rest

  pub arm : Context → Matched → TyId → Node → Claim
  arm c m want (node id at ty by (Arm p guard body)) =
      fact (is_none by) & fact (are_distinct (names_of p)) & pattern c.items m want p &
      guarded (with_entries (in_guard (entries_of p)) c) guard & typed (with_entries (entries_of p) c) Taken body &
      fact (is_same ty (ty_of body))
  arm c m want _ = fact false

  pub guarded : Context → MaybeNode → Claim
  guarded c absent = nothing
  guarded c (present guard) = typed c Taken guard & fact (fits_bool c.items (ty_of guard))

  -- statements one after the other, each in the scope of those before it, and what is behind them
  pub statements : Context → Nodes → (Context → Claim) → Claim
  statements c no_node behind = behind c
  statements c (a_node (node id at ty by form) rest) behind =
      fact (is_none by && is_unit c.items ty) & statement c form & statements (with_entries (entries_in form) c) rest
      behind

  pub statement : Context → Form → Claim
  -- without a value no reference is bound: nothing could be stored into it before it is used
  statement c (Let p absent) =
      fact (are_distinct (names_of p)) & pattern c.items whole (ty_of p) p &
      fact (is_some (type_at c.items (ty_of p))) & fact (not (is_reference c.items (ty_of p)))
  statement c (Let p (present value)) =
      typed c (as_initialiser p) value & of_let c p value
  statement c (Evaluate expression) = typed c Taken expression
  statement c _ = fact false

-- The locals of a body, under whose numbers its cells go: the result is 0, the parameters follow, and then, in text
-- order, the other nodes whose values are made in a cell of their own (the rustc development guide, "MIR data types",
-- for the locals of a body).
use Rattle.std.specs.Prelude.{ℕ, ◌+◌, ◌==◌, Bool, true, false, not, ◌&&◌, ◌||◌, List, [], ◌∷◌, ◌++◌, length, map, position, slice_get, Option, Some}
use Rattle.std.specs.Option.{option_map_or}
use Rattle.mir_ty.specs.declared.ty.TyId.{TyId}
use Rattle.mir_ty.specs.ItemTable.{ItemTable}
use Rattle.store_model.specs.Places.TypeForms.{is_bool}
use Rattle.typed_tree.specs.Nodes.{number_of}
use Rattle.typed_tree.specs.Tree.{Node, node, Form, Nodes, no_node, a_node, Fields, no_field, a_field, MaybeNode, absent, present, Number, Truth, UnitValue, Variable, Captured, Field, Index, Deref, Not, Negate, Arithmetic, Comparison, And, Or, Assign, Call, MethodCall, VirtualCall, ClosureCall, Make, Tuple, Array, Closure, NewBox, Print, Ask, DropValue, Forget, Panic, Borrow, Unsize, Block, Let, Evaluate, If, IfLet, Match, Arm, Loop, While, WhileLet, Break, Continue, Return, Wildcard, Binding, NumberPattern, TruthPattern, StructPattern, VariantPattern, TuplePattern, ArrayPattern, OrPattern, ParamTree, BodyTree}
use Rattle.src_meaning.specs.Forms.{is_never}
use Rattle.src_meaning.specs.Scopes.{Entry}

-- The key of a parameter is its pattern's number, that of the result the block's.
abbrev pub param_key : ParamTree → ℕ
param_key param = number_of param.pattern

abbrev pub answer_key : BodyTree → ℕ
answer_key body = number_of body.block

abbrev pub is_place_form : Form → Bool
is_place_form (Variable key) = true
is_place_form (Captured closure part name) = true
is_place_form (Field base part) = true
is_place_form (Index base index length) = true
is_place_form (Deref base) = true
is_place_form form = false

abbrev is_call : Form → Bool
is_call (Call body args) = true
is_call (MethodCall body receiver args) = true
is_call (VirtualCall trait_no method receiver args) = true
is_call (ClosureCall body callee args) = true
is_call form = false

-- statements and arms have no value of their own, and of patterns only names and tests of literals make an entry
abbrev has_value : Form → Bool
has_value (Let pattern initialiser) = false
has_value (Evaluate expression) = false
has_value (Arm pattern guard body) = false
has_value Wildcard = false
has_value (StructPattern fields) = false
has_value (VariantPattern variant is_test fields) = false
has_value (TuplePattern parts) = false
has_value (ArrayPattern elements) = false
has_value (OrPattern alternatives) = false
has_value form = true

abbrev is_name : Form → Bool
is_name (Binding name) = true
is_name form = false

abbrev is_literal_pattern : Form → Bool
is_literal_pattern (NumberPattern value) = true
is_literal_pattern (TruthPattern value) = true
is_literal_pattern form = false

-- of type `!` a call and the use of a place name a cell, and a name has one; nothing else is made there
abbrev is_made_of_never : Form → Bool
is_made_of_never form = is_place_form form || (is_call form || is_name form)

abbrev if_made : Bool → Entry → List Entry
if_made true e = e ∷ []
if_made false e = []

module _ (items : ItemTable) where
  abbrev pub bool_ty : TyId
  bool_ty = record {
    0 = option_map_or (λ n. n) (position (λ ty. is_bool (Some ty)) items.types) (length items.types);
  }

  abbrev cell_ty : Bool → TyId → TyId
  cell_ty true ty = bool_ty
  cell_ty false ty = ty

  -- the cell of a node: the test of a literal pattern stands there
  abbrev cell_of : ℕ → TyId → Form → Entry
  cell_of id ty form = record { key = id; ty = cell_ty (is_literal_pattern form) ty }

  -- a node is given a destination of its own, or that of what is around it
  abbrev is_made : (own never : Bool) → Form → Bool
  is_made own true form = is_made_of_never form
  is_made own false form = own && has_value form

  abbrev mutual
    pub cells : (own : Bool) → Node → List Entry
    cells own (node id at ty by form) =
        if_made (is_made own (is_never items ty) form) (cell_of id ty form) ++ cells_in form

    -- a place is reached, and makes nothing itself; a value that is reached is a temporary
    pub reached_cells : Node → List Entry
    reached_cells (node id at ty by form) =
        if_made (not (is_place_form form) && is_made true (is_never items ty) form) (cell_of id ty form)
        ++ cells_in form

    pub cells_in : Form → List Entry
    cells_in (Number value) = []
    cells_in (Truth value) = []
    cells_in UnitValue = []
    cells_in (Variable key) = []
    cells_in (Captured closure part name) = []
    cells_in (Field base part) = reached_cells base
    cells_in (Index base index length) = reached_cells base ++ cells true index
    cells_in (Deref base) = reached_cells base
    cells_in (Not operand) = cells true operand
    cells_in (Negate operand) = cells true operand
    cells_in (Arithmetic operator left right) = cells true left ++ cells true right
    cells_in (Comparison operator left right) = cells true left ++ cells true right
    cells_in (And left right) = cells true left ++ cells false right
    cells_in (Or left right) = cells true left ++ cells false right
    cells_in (Assign place value) = reached_cells place ++ cells true value
    cells_in (Call body args) = all_cells args
    cells_in (MethodCall body receiver args) = cells true receiver ++ all_cells args
    cells_in (VirtualCall trait_no method receiver args) = cells true receiver ++ all_cells args
    cells_in (ClosureCall body callee args) = cells true callee ++ all_cells args
    cells_in (Make adt variant fields) = cells_of_fields fields
    cells_in (Tuple parts) = all_cells parts
    cells_in (Array elements) = all_cells elements
    cells_in (Closure closure captures) = all_cells captures
    cells_in (NewBox content) = cells true content
    cells_in (Print operand) = cells true operand
    cells_in Ask = []
    cells_in (DropValue operand) = cells true operand
    cells_in (Forget operand) = cells true operand
    cells_in Panic = []
    cells_in (Borrow unique base) = reached_cells base
    cells_in (Unsize trait_no operand) = cells true operand
    cells_in (Block statements tail) = all_cells statements ++ cells_if_any false tail
    cells_in (Let pattern initialiser) = cells true pattern ++ initial_cells pattern initialiser
    cells_in (Evaluate expression) = cells true expression
    cells_in (If c consequent otherwise) = cells true c ++ cells false consequent ++ cells_if_any false otherwise
    cells_in (IfLet pattern scrutinee consequent otherwise) =
        cells true pattern ++ reached_cells scrutinee ++ cells false consequent ++ cells_if_any false otherwise
    cells_in (Match scrutinee arms) = reached_cells scrutinee ++ all_cells arms
    cells_in (Arm pattern guard body) = cells true pattern ++ cells_if_any true guard ++ cells false body
    cells_in (Loop body) = cells true body
    cells_in (While c body) = cells true c ++ cells true body
    cells_in (WhileLet pattern scrutinee body) = cells true pattern ++ reached_cells scrutinee ++ cells true body
    cells_in (Break loop value) = cells_if_any false value
    cells_in (Continue loop) = []
    cells_in (Return value) = cells_if_any false value
    cells_in Wildcard = []
    cells_in (Binding name) = []
    cells_in (NumberPattern value) = []
    cells_in (TruthPattern value) = []
    cells_in (StructPattern fields) = cells_of_fields fields
    cells_in (VariantPattern variant is_test fields) = cells_of_fields fields
    cells_in (TuplePattern parts) = all_cells parts
    cells_in (ArrayPattern elements) = all_cells elements
    cells_in (OrPattern alternatives) = all_cells alternatives

    pub all_cells : Nodes → List Entry
    all_cells no_node = []
    all_cells (a_node first rest) = cells true first ++ all_cells rest

    pub cells_of_fields : Fields → List Entry
    cells_of_fields no_field = []
    cells_of_fields (a_field number value rest) = cells true value ++ cells_of_fields rest

    pub cells_if_any : (own : Bool) → MaybeNode → List Entry
    cells_if_any own absent = []
    cells_if_any own (present value) = cells own value

    -- the value of a `let` of one name is made in the cell of the name
    pub initial_cells : Node → MaybeNode → List Entry
    initial_cells pattern absent = []
    initial_cells (node id at ty by (Binding name)) (present value) = cells false value
    initial_cells pattern (present value) = reached_cells value

  abbrev form_of : Node → Form
  form_of (node id at ty by form) = form

  abbrev param_entry : ParamTree → Entry
  param_entry param = record { key = param_key param; ty = param.ty }

  abbrev param_cells : List ParamTree → List Entry
  param_cells [] = []
  param_cells (param ∷ params) = cells_in (form_of param.pattern) ++ param_cells params

  abbrev pub locals : BodyTree → List Entry
  locals body =
      (record { key = answer_key body; ty = body.answer })
      ∷ map param_entry body.params ++ param_cells body.params ++ cells_in (form_of body.block)

  abbrev pub local_keys : BodyTree → List ℕ
  local_keys body = map (λ e. e.key) (locals body)

  abbrev pub local_tys : BodyTree → List TyId
  local_tys body = map (λ e. e.ty) (locals body)

-- the local of a key; one that is no local's has a number past them
abbrev pub local_among : List ℕ → ℕ → ℕ
local_among keys key = option_map_or (λ n. n) (position (λ k. k == key) keys) (length keys + key)

abbrev pub local_of : ItemTable → BodyTree → ℕ → ℕ
local_of items body = local_among (local_keys items body)

abbrev pub local_ty : ItemTable → BodyTree → ℕ → Option TyId
local_ty items body = slice_get (local_tys items body)

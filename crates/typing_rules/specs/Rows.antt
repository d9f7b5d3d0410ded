-- One row a form. A row has the checks of the node's children, each of which waits for the type that is required of it,
-- and asks nothing else of them than the typed nodes that they give.
use Rattle.std.specs.Prelude.{ℕ, zero, suc, ℤ, pos, negsuc, ◌^◌, ◌-◌, Bool, true, false, ◌==◌, ◌&&◌, ◌||◌, not, List, [], ◌∷◌, Option, Some, None, if◌then◌else◌, option_and_then, option_map, length, slice_get, map, nat_le, is_some, is_none, drop}
use Rattle.std.specs.List.{list_all, position as position_of}
use Rattle.std.specs.Option.{option_map_or}
use Rattle.std.specs.Str.{bytes_eq}
use Rattle.mir_base.specs.declared.int_kind.IntKind.{IntKind}
use Rattle.mir_base.specs.declared.operator.Cmp.{Cmp}
use Rattle.mir_base.specs.declared.operator.Math.{Math}
use Rattle.mir_base.specs.declared.place_in_text.Pos.{Pos}
use Rattle.mir_base.specs.declared.rule.Rule.{Rule}
use Rattle.mir_ty.specs.declared.def.Sig.{Sig}
use Rattle.mir_ty.specs.declared.ty.Ty.{Ty}
use Rattle.mir_ty.specs.declared.ty.TyId.{TyId}
use Rattle.mir_ty.specs.Facts.{is_copy}
use Rattle.mir_ty.specs.ItemTable.{ItemTable}
use Rattle.typed_tree.specs.declared.node.Use.{Use}
use Rattle.typed_tree.specs.Tree as tree
use Rattle.typed_tree.specs.Tree.{Node, node, Form, Nodes, no_node, a_node, Fields, no_field, a_field, MaybeNode, absent, present}
use Rattle.well_typed.specs.Places.{ty_of, form_of, is_place}
use Rattle.well_typed.specs.Types.{is_same, is_unit, is_bool, is_never, is_int, is_dyn, kind_of, tuple_of, array_of, boxed_of, closure_of, inside_of, reference_of, is_reference, fits}
use Rattle.typing_rules.specs.Check.{Check, ◌>>=◌, ◌>>◌, ◌<$>◌, pure, breaks, obeys, known, the_items, number, interned, breaks_out, types_of_breaks}
use Rattle.typing_rules.specs.Places.{place_in_text, used, a_node_of, unit, bool, never, int, Fit, Fits, Coerced, Differs, fit, agrees, wanted, is_any, is_fixed, is_behind_shared, in_own_guard, variable_place, Member, through}
use Rattle.typing_rules.specs.Scope.{Env, NamedEntry, LabelledLoop}
use Rattle.src_ast.specs.Syntax.{Word}

-- a check of an expression, which waits for the type that is required of it
abbrev pub Typer : Type 0
Typer = Option TyId → Check Node

-- ---- required types

abbrev pub unsized : TyId → ℕ → Node → Check Node
unsized expected trait_no n = do
  id ← number
  pure (a_node_of id (place_in_text n) expected (tree.Unsize trait_no n))

-- a leaf of the type that is required, coerced to it where it is a box of a trait's implementor
abbrev pub fitted_by : TyId → Node → Fit → Check Node
fitted_by expected n Fits = pure n
fitted_by expected n (Coerced trait_no) = unsized expected trait_no n
fitted_by expected n Differs = breaks Rule.T03 (place_in_text n)

abbrev pub fitted : Option TyId → Node → Check Node
fitted None n = pure n
fitted (Some expected) n = do
  items ← the_items
  fitted_by expected n (fit items expected (ty_of n))

-- a node that has passed its required type on has that type, or `!`
abbrev pub settled : Option TyId → Node → Check Node
settled expected n = do
  items ← the_items
  obeys Rule.T03 (place_in_text n) (agrees items expected (ty_of n))
  pure n

-- ---- literals

abbrev pub chosen : Option IntKind → Option IntKind → IntKind
chosen (Some suffix) expected = suffix
chosen None (Some kind) = kind
chosen None None = IntKind.I32

-- a number, and the number with a `-` before it
abbrev pub negative : ℕ → ℤ
negative zero = pos 0
negative (suc n) = negsuc n

abbrev pub literal_value : Bool → ℕ → ℤ
literal_value is_negative value = if is_negative then negative value else pos value

abbrev pub is_signed_kind : IntKind → Bool
is_signed_kind IntKind.I32 = true
is_signed_kind IntKind.I64 = true
is_signed_kind _ = false

-- how great a number may be, and how great behind a `-`
abbrev pub most : IntKind → Bool → ℕ
most IntKind.I32 is_negative = if is_negative then 2 ^ 31 else 2 ^ 31 - 1
most IntKind.I64 is_negative = if is_negative then 2 ^ 63 else 2 ^ 63 - 1
most IntKind.U32 is_negative = if is_negative then 0 else 2 ^ 32 - 1
most _ is_negative = if is_negative then 0 else 2 ^ 64 - 1

-- a number of a type that was chosen
abbrev pub literal_end : ℕ → Pos → IntKind → Bool → ℕ → Option TyId → Check Node
literal_end id at kind is_negative value expected = do
  obeys Rule.T03 at (not is_negative || is_signed_kind kind)
  n ← fitted expected (a_node_of id at (int kind) (tree.Number (literal_value is_negative value)))
  obeys Rule.T17 at (nat_le value (most kind is_negative))
  pure n

-- its suffix, else the required integer type, else `i32`
abbrev pub literal : Pos → Bool → ℕ → Option IntKind → Typer
literal at is_negative value suffix expected = do
  id ← number
  items ← the_items
  let kind = chosen suffix (option_and_then (kind_of items) expected)
  literal_end id at kind is_negative value expected

-- a leaf of a type that it has whatever is required
abbrev pub leaf : Pos → TyId → Form → Typer
leaf at ty form expected = do
  id ← number
  fitted expected (a_node_of id at ty form)

-- ---- places

abbrev pub taking : ItemTable → TyId → Use
taking items ty = if is_copy items ty then Use.Copy else Use.Move

-- a place that may be copied or moved out of, where these bindings stand in their own guard
abbrev pub may_be_taken : ItemTable → List ℕ → Node → Bool
may_be_taken items keys p = is_copy items (ty_of p) || not (is_fixed items keys p || is_dyn items (ty_of p))

-- a place in a value context is copied where its type is Copy, and moved out of otherwise
abbrev pub taken : Env → Option TyId → Node → Check Node
taken env expected place = do
  items ← the_items
  let ty = ty_of place
  n ← fitted expected (used (taking items ty) place)
  obeys Rule.T07 (place_in_text place) (may_be_taken items (in_own_guard env.variables) place)
  obeys Rule.T08 (place_in_text place) (not (is_reference items ty))
  pure n

-- a reference variable does not stand by itself
abbrev pub no_reference : Node → Check Node
no_reference n = do
  items ← the_items
  obeys Rule.T08 (place_in_text n) (not (is_reference items (ty_of n)))
  pure n

abbrev pub field_end : Member (ℕ × TyId) → ℕ → Pos → Node → Check Node
field_end member id at base = do
  found ← through member at base
  f ← known Rule.T12 at found.1
  pure (a_node_of id at f.1 (tree.Field found.0 f.0))

abbrev pub field : Pos → (ItemTable → TyId → Option (ℕ × TyId)) → Check Node → Check Node
field at member base = do
  id ← number
  b ← base
  field_end member id at b

abbrev pub deref_end : ℕ → Pos → Node → Check Node
deref_end id at b = do
  items ← the_items
  ty ← known Rule.T03 at (inside_of items (ty_of b))
  pure (a_node_of id at ty (tree.Deref b))

abbrev pub deref : Pos → Check Node → Check Node
deref at base = do
  id ← number
  b ← base
  deref_end id at b

abbrev pub element_end : ℕ → Pos → Node → Node → Check Node
element_end id at b i = do
  items ← the_items
  a ← known Rule.T03 at (array_of items (ty_of b))
  pure (a_node_of id at a.0 (tree.Index b i a.1))

abbrev pub element : Pos → Check Node → Typer → Check Node
element at base index = do
  id ← number
  b ← base >>= no_reference
  i ← index (Some (int IntKind.Usize))
  element_end id at b i

-- ---- operators

abbrev pub not_end : ℕ → Pos → Option TyId → Node → Check Node
not_end id at expected n = do
  items ← the_items
  obeys Rule.T03 at (fits items bool (ty_of n))
  fitted expected (a_node_of id at bool (tree.Not n))

abbrev pub not_row : Pos → Typer → Typer
not_row at operand expected = do
  id ← number
  n ← operand None
  not_end id at expected n

abbrev pub if_int : ItemTable → TyId → Option TyId
if_int items ty = if is_int items ty then Some ty else None

abbrev pub negate_end : ℕ → Pos → Option TyId → Node → Check Node
negate_end id at expected n = do
  obeys Rule.T03 at (is_same (ty_of n) (int IntKind.I32) || is_same (ty_of n) (int IntKind.I64))
  fitted expected (a_node_of id at (ty_of n) (tree.Negate n))

abbrev pub negate : Pos → Typer → Typer
negate at operand expected = do
  id ← number
  items ← the_items
  n ← operand (wanted if_int items expected)
  negate_end id at expected n

abbrev pub unless_never : ItemTable → TyId → Option TyId
unless_never items ty = if is_never items ty then None else Some ty

-- Where the left operand is a literal without a suffix and no type is required of it, the right one is typed first and
-- requires its type of the left.
abbrev pub left_last : Typer → Typer → Check (Node × Node)
left_last left right = do
  r ← right None
  items ← the_items
  l ← left (unless_never items (ty_of r))
  pure (l, r)

-- The type of the left operand, where it is an integer type, is required of the right one.
abbrev pub left_first : Option TyId → Typer → Typer → Check (Node × Node)
left_first expected left right = do
  l ← left expected
  items ← the_items
  r ← right (if_int items (ty_of l))
  pure (l, r)

abbrev pub operands : Bool → Option TyId → Typer → Typer → Check (Node × Node)
operands true None left right = left_last left right
operands _ expected left right = left_first expected left right

-- branches and operands have one type, where `!` takes the other's
abbrev pub one_of_two : ItemTable → TyId → TyId → Option TyId
one_of_two items a b =
    if is_never items a then Some b else (if is_never items b || is_same a b then Some a else None)

abbrev pub one_type : ItemTable → List TyId → Option TyId
one_type items [] = Some never
one_type items (ty ∷ tys) = option_and_then (one_of_two items ty) (one_type items tys)

abbrev pub int_or_bool : ItemTable → TyId → Option TyId
int_or_bool items ty = if is_bool items ty then Some ty else if_int items ty

abbrev pub arithmetic_end : ℕ → Pos → Math → Option TyId → Node → Node → Check Node
arithmetic_end id at operator expected l r = do
  items ← the_items
  ty ← known Rule.T03 at (option_and_then (if_int items) (one_of_two items (ty_of l) (ty_of r)))
  fitted expected (a_node_of id at ty (tree.Arithmetic operator l r))

abbrev pub arithmetic : Pos → Math → Bool → Typer → Typer → Typer
arithmetic at operator is_literal left right expected = do
  id ← number
  before ← the_items
  both ← operands is_literal (wanted if_int before expected) left right
  arithmetic_end id at operator expected both.0 both.1

abbrev pub comparison_end : ℕ → Pos → Cmp → Option TyId → Node → Node → Check Node
comparison_end id at operator expected l r = do
  items ← the_items
  _ ← known Rule.T03 at (option_and_then (int_or_bool items) (one_of_two items (ty_of l) (ty_of r)))
  fitted expected (a_node_of id at bool (tree.Comparison operator l r))

abbrev pub comparison : Pos → Cmp → Bool → Typer → Typer → Typer
comparison at operator is_literal left right expected = do
  id ← number
  both ← operands is_literal None left right
  comparison_end id at operator expected both.0 both.1

abbrev pub logic_end : ℕ → Pos → (Node → Node → Form) → Option TyId → Node → Node → Check Node
logic_end id at form expected l r = do
  items ← the_items
  obeys Rule.T03 at (fits items bool (ty_of l) && fits items bool (ty_of r))
  fitted expected (a_node_of id at bool (form l r))

-- `&&`, `||`
abbrev pub logic : Pos → (Node → Node → Form) → Typer → Typer → Typer
logic at form left right expected = do
  id ← number
  l ← left None
  r ← right None
  logic_end id at form expected l r

abbrev pub own_in : List ℕ → Form → Bool
own_in keys (tree.Variable key) = is_any key keys
own_in keys _ = false

-- a place, and no binding inside its own guard, of which these are the keys
abbrev pub may_be_stored : List ℕ → Node → Bool
may_be_stored keys p = is_place (form_of p) && not (own_in keys (form_of p))

abbrev pub store_end : Env → ℕ → Pos → Option TyId → Node → Node → Check Node
store_end env id at expected p v = do
  items ← the_items
  obeys Rule.T03 at (not (is_dyn items (ty_of p)))
  n ← fitted expected (a_node_of id at unit (tree.Assign (used Use.Store p) v))
  obeys Rule.T05 at (may_be_stored (in_own_guard env.variables) p)
  obeys Rule.T08 (place_in_text p) (not (is_behind_shared items p))
  pure n

-- what is stored into is a place, and no binding inside its own guard
abbrev pub store : Env → Pos → Check Node → Typer → Typer
store env at place value expected = do
  id ← number
  p ← place >>= no_reference
  v ← value (Some (ty_of p))
  store_end env id at expected p v

-- ---- references

abbrev pub borrow_by : Bool → Use
borrow_by unique = if unique then Use.BorrowMut else Use.Borrow

-- a place is used so, and a value becomes a temporary
abbrev pub used_if_place : Use → Node → Node
used_if_place by n = if is_place (form_of n) then used by n else n

abbrev pub reference_ty : Bool → TyId → Ty
reference_ty unique to = if unique then Ty.Unique to else Ty.Shared to

abbrev pub is_same_truth : Bool → Bool → Bool
is_same_truth a b = if a then b else not b

-- an argument for a reference parameter: the parameter's type, whether it is unique, and the type that it names
abbrev pub Referrer : Type 0
Referrer = TyId → Bool → TyId → Check Node

abbrev pub borrow_of : ℕ → Pos → Bool → Node → Check Node
borrow_of id at unique base = do
  ty ← interned (reference_ty unique (ty_of base))
  pure (a_node_of id at ty (tree.Borrow unique (used_if_place (borrow_by unique) base)))

abbrev pub borrow_allowed_end : ℕ → Pos → Bool → Node → Check Node
borrow_allowed_end id at unique b = do
  items ← the_items
  obeys Rule.T08 (place_in_text b) (not (unique && is_behind_shared items b))
  borrow_of id at unique b

abbrev pub borrow_end : ℕ → Pos → Bool → Bool → TyId → Node → Check Node
borrow_end id at unique is_unique to b = do
  items ← the_items
  obeys Rule.T03 at (is_same (ty_of b) to && is_same_truth unique is_unique)
  obeys Rule.T08 (place_in_text b) (not (unique && is_behind_shared items b))
  borrow_of id at unique b

-- `&e` and `&mut e`
abbrev pub borrow : Pos → Bool → Check Node → Referrer
borrow at unique base expected is_unique to = do
  id ← number
  b ← base >>= no_reference
  borrow_end id at unique is_unique to b

-- the type of a borrow is a reference, which is the type that is required of it, if one is
abbrev pub is_reference_to : Bool → TyId → Option (Bool × TyId) → Bool
is_reference_to unique to None = false
is_reference_to unique to (Some r) = is_same r.1 to && is_same_truth r.0 unique

abbrev pub agrees_borrow : ItemTable → Bool → TyId → Option TyId → Bool
agrees_borrow items unique to None = true
agrees_borrow items unique to (Some expected) = is_reference_to unique to (reference_of items expected)

abbrev pub borrow_alone_end : Pos → Bool → Option TyId → Node → Check Node
borrow_alone_end at unique expected b = do
  items ← the_items
  obeys Rule.T03 at (agrees_borrow items unique (ty_of b) expected)
  breaks Rule.T08 at

-- `&e` and `&mut e` where they are no argument for a reference parameter
abbrev pub borrow_alone : Pos → Bool → Check Node → Typer
borrow_alone at unique base expected = do
  b ← base >>= no_reference
  borrow_alone_end at unique expected b

abbrev pub passes : Bool → TyId → Option (Bool × TyId) → Bool
passes is_unique to None = false
passes is_unique to (Some r) = is_same r.1 to && (r.0 || not is_unique)

-- a borrow of what a reference variable names
abbrev pub passed_on_end : Pos → NamedEntry → Bool → TyId → Check Node
passed_on_end at x is_unique to = do
  id ← number
  through_id ← number
  v ← variable_place at x
  borrow_of id at is_unique (a_node_of through_id at to (tree.Deref v))

-- a reference variable that is passed on borrows what it names, by `&mut` where the parameter is `&mut T`
abbrev pub passed_on : Pos → NamedEntry → Referrer
passed_on at x expected is_unique to = do
  items ← the_items
  obeys Rule.T03 at (passes is_unique to (reference_of items x.ty))
  passed_on_end at x is_unique to

abbrev pub argument_by : TyId → Typer → Referrer → Option (Bool × TyId) → Check Node
argument_by ty by_value by_reference None = by_value (Some ty)
argument_by ty by_value by_reference (Some r) = by_reference ty r.0 r.1

abbrev pub argument : TyId → Typer → Referrer → Check Node
argument ty by_value by_reference = do
  items ← the_items
  argument_by ty by_value by_reference (reference_of items ty)

-- ---- calls

-- the node of a call, once its arguments are checked
abbrev pub call_end : ℕ → Pos → TyId → Form → Bool → Bool → Option TyId → Check Node
call_end id at answer form is_count may_be_called expected = do
  n ← fitted expected (a_node_of id at answer form)
  obeys Rule.T04 at is_count
  obeys Rule.T13 at may_be_called
  pure n

abbrev pub counted_call_end : ℕ → Pos → TyId → Form → Rule → Bool → Option TyId → Check Node
counted_call_end id at answer form rule is_count expected = do
  n ← fitted expected (a_node_of id at answer form)
  obeys rule at is_count
  pure n

abbrev pub call : Pos → (Nodes → Form) → TyId → ℕ → List TyId → (List TyId → Check Nodes) → Bool → Typer
call at form answer count params args may_be_called expected = do
  id ← number
  given ← args params
  call_end id at answer (form given) (count == length params) may_be_called expected

-- what cannot be called, once its arguments are typed
abbrev pub no_call : Pos → Rule → (List TyId → Check Nodes) → Typer
no_call at rule args expected = do
  given ← args []
  breaks rule at

-- a method of a struct or an enum by its body, or of a trait object by its trait and number; and its head
pub data Method : Type 0 where
  OfAdt : (body : ℕ) (is_drop : Bool) (head : Sig) → Method
  OfTrait : (trait_no method : ℕ) (head : Sig) → Method

abbrev pub head_of : Method → Sig
head_of (OfAdt body is_drop head) = head
head_of (OfTrait trait_no method head) = head

abbrev pub is_drop_method : Method → Bool
is_drop_method (OfAdt body is_drop head) = is_drop
is_drop_method (OfTrait trait_no method head) = false

abbrev pub method_form : Method → Node → Nodes → Form
method_form (OfAdt body is_drop head) receiver args = tree.MethodCall body receiver args
method_form (OfTrait trait_no method head) receiver args = tree.VirtualCall trait_no method receiver args

abbrev pub received_by : Env → Pos → Node → Option (Bool × TyId) → Check Node
received_by env at base None = if is_place (form_of base) then taken env None base else pure base
received_by env at base (Some r) = do
  id ← number
  borrow_of id at r.0 base

-- `self` by reference borrows the place that was found, `self` by value takes it
abbrev pub received : Env → Pos → Node → TyId → Check Node
received env at base self = do
  items ← the_items
  received_by env at base (reference_of items self)

abbrev pub is_unique_borrow : Form → Bool
is_unique_borrow (tree.Borrow unique base) = unique
is_unique_borrow _ = false

-- the node of a method's call, once its receiver and its arguments are checked: whether there are as many as
-- parameters; the receiver's place, and whether it is borrowed by `&mut` behind `&`; whether the method may be called
abbrev pub method_call_end : ℕ → Pos → TyId → Form → Bool → Pos → Bool → Bool → Option TyId → Check Node
method_call_end id at answer form is_count place is_refused may_be_called expected = do
  n ← fitted expected (a_node_of id at answer form)
  obeys Rule.T04 at is_count
  obeys Rule.T08 place (not is_refused)
  obeys Rule.T13 at may_be_called
  pure n

abbrev pub with_self : Env → Pos → ℕ → Node → Method → ℕ → (List TyId → Check Nodes) → Option TyId → List TyId → Check
    Node
with_self env at id base method count args expected [] = args [] >> breaks Rule.T12 at
with_self env at id base method count args expected (self ∷ params) = do
  receiver ← received env (place_in_text base) base self
  given ← args params
  items ← the_items
  method_call_end id at (head_of method).result (method_form method receiver given) (count == length params)
      (place_in_text base) (is_unique_borrow (form_of receiver) && is_behind_shared items base)
      (not (is_drop_method method)) expected

-- the first parameter is of the type, or a reference to it
abbrev pub takes_self : ItemTable → TyId → List TyId → Bool
takes_self items own [] = false
takes_self items own (self ∷ params) =
    is_same self own || option_map_or (λ r. is_same r.1 own) (reference_of items self) false

-- a function of the type that has no `self` is no method of a value; methods of traits have one
abbrev pub has_self : Env → Method → Bool
has_self env (OfAdt body is_drop head) = is_some (position_of (bytes_eq head.name) env.methods)
has_self env (OfTrait trait_no method head) = true

abbrev pub with_method : Env → Pos → ℕ → Node → Option Method → ℕ → (List TyId → Check Nodes) → Option TyId → Check Node
with_method env at id base None count args expected = args [] >> breaks Rule.T12 at
with_method env at id base (Some method) count args expected = do
  items ← the_items
  if has_self env method && takes_self items (ty_of base) (head_of method).params then
      with_self env at id base method count args expected (head_of method).params
      else (args [] >> breaks Rule.T12 at)

-- a method of a value that was checked, with what checks its arguments
abbrev pub method_end : Env → ℕ → Pos → Member Method → Option TyId → Node → ℕ → (List TyId → Check Nodes) → Check Node
method_end env id at named expected base count args = do
  found ← through named (place_in_text base) base
  with_method env at id found.0 found.1 count args expected

abbrev pub method_call : Env → Pos → (ItemTable → TyId → Option Method) → ℕ → Check Node → (List TyId → Check Nodes)
    → Typer
method_call env at named count receiver args expected = do
  id ← number
  base ← receiver
  method_end env id at named expected base count args

abbrev pub with_closure : Pos → ℕ → Node → ℕ → (List TyId → Check Nodes) → Option TyId → ℕ → Option Sig → Check Node
with_closure at id c count args expected body None = args [] >> breaks Rule.T13 at
with_closure at id c count args expected body (Some head) = do
  given ← args (drop 1 head.params)
  counted_call_end id at head.result (tree.ClosureCall body c given) Rule.T04
      (count == length (drop 1 head.params)) expected

-- a closure that was checked, with what checks its arguments
abbrev pub closure_end : ℕ → Pos → Option TyId → Node → ℕ → (List TyId → Check Nodes) → Check Node
closure_end id at expected c count args = do
  items ← the_items
  let def = option_and_then (slice_get items.closures) (closure_of items (ty_of c))
  let body = option_map_or (λ d. d.body) def 0
  with_closure at id c count args expected body (option_and_then (λ d. slice_get items.bodies d.body) def)

-- a value that is called is a closure
abbrev pub closure_call : Pos → ℕ → Check Node → (List TyId → Check Nodes) → Typer
closure_call at count callee args expected = do
  id ← number
  c ← callee
  closure_end id at expected c count args

-- ---- built-in calls

abbrev pub with_one : Nodes → (Node → Form) → Form
with_one (a_node first rest) form = form first
with_one no_node form = tree.UnitValue

-- a built-in with parameters of these types; none where any type will do
abbrev pub built_in : Pos → TyId → (Nodes → Form) → ℕ → ℕ → Check Nodes → Typer
built_in at answer form count wants args expected = do
  id ← number
  given ← args
  counted_call_end id at answer (form given) Rule.T04 (count == wants) expected

abbrev pub print_form : Nodes → Form
print_form ns = with_one ns tree.Print

abbrev pub drop_form : Nodes → Form
drop_form ns = with_one ns tree.DropValue

abbrev pub forget_form : Nodes → Form
forget_form ns = with_one ns tree.Forget

abbrev pub ask_form : Nodes → Form
ask_form ns = tree.Ask

-- ---- constructors

-- a part has the type that is required of it, else its own
abbrev pub part_ty : Option TyId → Node → TyId
part_ty None n = ty_of n
part_ty (Some ty) n = ty

abbrev pub box_wanted : ItemTable → TyId → Option TyId
box_wanted items ty = option_and_then (λ inside. if is_dyn items inside then None else Some inside) (boxed_of items ty)

abbrev pub first_node : Nodes → Option Node
first_node no_node = None
first_node (a_node first rest) = Some first

abbrev pub box_of_end : ℕ → Pos → ℕ → Option TyId → TyId → Node → Check Node
box_of_end id at count expected inside c = do
  ty ← interned (Ty.Boxed inside)
  n ← fitted expected (a_node_of id at ty (tree.NewBox c))
  obeys Rule.T04 at (count == 1)
  pure n

abbrev pub box_end : ℕ → Pos → ℕ → Option TyId → Option TyId → Node → Check Node
box_end id at count expected content c = box_of_end id at count expected (part_ty content c) c

abbrev pub box_by : Pos → ℕ → ℕ → Option TyId → Option TyId → Option Node → Check Node
box_by at id count expected content None = breaks Rule.T04 at
box_by at id count expected content (Some c) = box_end id at count expected content c

abbrev pub listed : Option TyId → List TyId
listed None = []
listed (Some ty) = ty ∷ []

-- `Box::new(e)`
abbrev pub new_box : Pos → ℕ → (List TyId → Check Nodes) → Typer
new_box at count args expected = do
  id ← number
  items ← the_items
  let content = wanted box_wanted items expected
  given ← args (listed content)
  box_by at id count expected content (first_node given)

abbrev pub numbered_fields : ℕ → Nodes → Fields
numbered_fields k no_node = no_field
numbered_fields k (a_node first rest) = a_field k first (numbered_fields (suc k) rest)

-- `S(a)`, `E::V(a)`
abbrev pub make : ℕ → ℕ → Nodes → Form
make adt variant given = tree.Make adt variant (numbered_fields 0 given)

-- the numbers of the fields that are given, none where there is no such field
abbrev pub Given : Type 0
Given = List (Option ℕ)

abbrev pub is_given : ℕ → Given → Bool
is_given k [] = false
is_given k (None ∷ given) = is_given k given
is_given k (Some n ∷ given) = k == n || is_given k given

abbrev pub all_given : ℕ → Given → Bool
all_given zero given = true
all_given (suc n) given = is_given n given && all_given n given

abbrev pub are_known : Given → Bool
are_known given = list_all is_some given

abbrev pub made_end : ℕ → Pos → ℕ → ℕ → TyId → Bool → Option TyId → Fields × Given → Check Node
made_end id at adt variant ty is_whole expected fs = do
  n ← fitted expected (a_node_of id at ty (tree.Make adt variant fs.0))
  obeys Rule.T04 at is_whole
  obeys Rule.T12 at (are_known fs.1)
  pure n

abbrev pub struct_end : ℕ → Pos → ℕ → ℕ → TyId → ℕ → Option TyId → Fields × Given → Check Node
struct_end id at adt variant ty count expected fs =
    made_end id at adt variant ty (all_given count fs.1 && length fs.1 == count) expected fs

-- `S { f: a }`: each field once
abbrev pub struct_row : Pos → ℕ → ℕ → List TyId → Check (Fields × Given) → Typer
struct_row at adt variant types fields expected = do
  id ← number
  ty ← interned (Ty.Adt adt)
  fs ← fields
  struct_end id at adt variant ty (length types) expected fs

-- these types as those that are required of so many parts, where they are as many
abbrev pub if_as_many : ℕ → List TyId → List (Option TyId)
if_as_many count types = if length types == count then map Some types else []

-- parts, each with its type; where a tuple of as many is required, its parts are
abbrev pub parts_wanted : ItemTable → ℕ → Option TyId → List (Option TyId)
parts_wanted items count expected =
    option_map_or (if_as_many count) (option_and_then (tuple_of items) expected) []

abbrev pub tuple_end : ℕ → Pos → ℕ → List TyId → Nodes → Option TyId → Check Node
tuple_end id at count tys parts expected = do
  ty ← interned (Ty.Tuple tys)
  n ← fitted expected (a_node_of id at ty (tree.Tuple parts))
  obeys Rule.T19 at (nat_le count 12)
  pure n

abbrev pub tuple_row : Pos → ℕ → (List (Option TyId) → Check (Nodes × List TyId)) → Typer
tuple_row at count parts expected = do
  id ← number
  before ← the_items
  ps ← parts (parts_wanted before count expected)
  tuple_end id at count ps.1 ps.0 expected

abbrev pub element_wanted : ItemTable → TyId → Option TyId
element_wanted items ty = option_map (λ a. a.0) (array_of items ty)

abbrev pub element_ty : ItemTable → Option TyId → List TyId → Option TyId
element_ty items None tys = one_type items tys
element_ty items (Some ty) tys = Some ty

abbrev pub array_end : ℕ → Pos → ℕ → TyId → Nodes → Option TyId → Check Node
array_end id at count element elements expected = do
  ty ← interned (Ty.Array element count)
  n ← fitted expected (a_node_of id at ty (tree.Array elements))
  obeys Rule.T19 at (nat_le count 32)
  pure n

-- an array, once its elements have a type: it has elements, or a type is required of it
abbrev pub counted_array_end : ℕ → Pos → ℕ → TyId → Nodes → Option TyId → Check Node
counted_array_end id at count element elements expected = do
  obeys Rule.T16 at (is_some expected || not (count == 0))
  array_end id at count element elements expected

abbrev pub elements_end : ℕ → Pos → ℕ → Option TyId → Nodes → List TyId → Option TyId → Check Node
elements_end id at count wants elements types expected = do
  items ← the_items
  element ← known Rule.T03 at (element_ty items wants types)
  counted_array_end id at count element elements expected

abbrev pub array_row : Pos → ℕ → (Option TyId → Check (Nodes × List TyId)) → Typer
array_row at count elements expected = do
  id ← number
  before ← the_items
  let wants = wanted element_wanted before expected
  es ← elements wants
  elements_end id at count wants es.0 es.1 expected

-- ---- blocks and branches

-- without a tail a block has the type `!` where some statement's expression or initialiser has it, else `()`
abbrev pub block_ty : MaybeNode → Bool → TyId
block_ty (present tail) ends = ty_of tail
block_ty absent ends = if ends then never else unit

abbrev pub block : Pos → Check (Nodes × Bool × Env) → (Env → Option TyId → Check MaybeNode) → Typer
block at statements tail expected = do
  id ← number
  done ← statements
  last ← tail done.2 expected
  settled expected (a_node_of id at (block_ty last done.1) (tree.Block done.0 last))

-- a condition is `bool`
abbrev pub condition : Typer → Check Node
condition c = c (Some bool)

abbrev pub if_alone : Pos → Typer → Typer → Typer
if_alone at c body expected = do
  id ← number
  n ← condition c
  b ← body (Some unit)
  settled expected (a_node_of id at unit (tree.If n b absent))

abbrev pub if_else_end : ℕ → Pos → Option TyId → Node → Node → Node → Check Node
if_else_end id at expected n b o = do
  items ← the_items
  ty ← known Rule.T03 at (one_of_two items (ty_of b) (ty_of o))
  settled expected (a_node_of id at ty (tree.If n b (present o)))

abbrev pub if_else : Pos → Typer → Typer → Typer → Typer
if_else at c body otherwise expected = do
  id ← number
  n ← condition c
  b ← body expected
  o ← otherwise expected
  if_else_end id at expected n b o

-- a scrutinee is a place, which is borrowed, or a temporary
abbrev pub scrutinised : Check Node → Check Node
scrutinised scrutinee = (used_if_place Use.Borrow) <$> (scrutinee >>= no_reference)

-- what a pattern is told of its place
pub record PatternContext : Type 0 where
  pub is_fixed : Bool
  pub takes_all : Bool

abbrev pub pattern_context : Env → Bool → Node → ItemTable → PatternContext
pattern_context env takes_all place items =
    record { is_fixed = is_fixed items (in_own_guard env.variables) place; takes_all = takes_all }

-- a pattern for a place of a type; its bindings
abbrev pub Matcher : Type 0
Matcher = PatternContext → TyId → Check (Node × List NamedEntry)

abbrev pub if_let_alone : Env → Pos → Check Node → Matcher → (List NamedEntry → Typer) → Typer
if_let_alone env at scrutinee pattern body expected = do
  id ← number
  s ← scrutinised scrutinee
  items ← the_items
  p ← pattern (pattern_context env false s items) (ty_of s)
  b ← body p.1 (Some unit)
  settled expected (a_node_of id at unit (tree.IfLet p.0 s b absent))

abbrev pub if_let_else_end : ℕ → Pos → Option TyId → Node → Node → Node → Node → Check Node
if_let_else_end id at expected s p b o = do
  items ← the_items
  ty ← known Rule.T03 at (one_of_two items (ty_of b) (ty_of o))
  settled expected (a_node_of id at ty (tree.IfLet p s b (present o)))

abbrev pub if_let_else : Env → Pos → Check Node → Matcher → (List NamedEntry → Typer) → Typer → Typer
if_let_else env at scrutinee pattern body otherwise expected = do
  id ← number
  s ← scrutinised scrutinee
  before ← the_items
  p ← pattern (pattern_context env false s before) (ty_of s)
  b ← body p.1 expected
  o ← otherwise expected
  if_let_else_end id at expected s p.0 b o

-- an arm of its pattern, guard and body
abbrev pub arm_end : ℕ → Node → MaybeNode → Node → Check Node
arm_end id p g b = pure (a_node_of id (place_in_text p) (ty_of b) (tree.Arm p g b))

abbrev pub arm : Check (Node × List NamedEntry) → (List NamedEntry → Check MaybeNode) → (List NamedEntry → Typer) →
    Typer
arm pattern guard body expected = do
  id ← number
  p ← pattern
  g ← guard p.1
  b ← body p.1 expected
  arm_end id p.0 g b

abbrev pub match_end : ℕ → Pos → Option TyId → Node → Nodes → List TyId → Check Node
match_end id at expected s arms tys = do
  items ← the_items
  ty ← known Rule.T03 at (one_type items tys)
  settled expected (a_node_of id at ty (tree.Match s arms))

abbrev pub match_row : Env → Pos → Check Node → (PatternContext → TyId → Option TyId → Check (Nodes × List TyId)) →
    Typer
match_row env at scrutinee arms expected = do
  id ← number
  s ← scrutinised scrutinee
  before ← the_items
  rows ← arms (pattern_context env false s before) (ty_of s) expected
  match_end id at expected s rows.0 rows.1

-- ---- loops and jumps

abbrev pub loop_around : Option Word → ℕ → Bool → Option TyId → LabelledLoop
loop_around label id has_value expected =
    record { label = label; loop = id; has_value = has_value; expected = expected }

abbrev pub loop_end : ℕ → Pos → Option TyId → Node → Check Node
loop_end id at expected b = do
  tys ← types_of_breaks id
  items ← the_items
  ty ← known Rule.T03 at (one_type items tys)
  settled expected (a_node_of id at ty (tree.Loop b))

-- the type of its breaks, `!` without any
abbrev pub loop_row : Pos → Option Word → (LabelledLoop → Typer) → Typer
loop_row at label body expected = do
  id ← number
  b ← body (loop_around label id true expected) (Some unit)
  loop_end id at expected b

-- the condition of a `while` and the scrutinee of a `while let` count as inside the loop
abbrev pub while_row : Pos → Option Word → (LabelledLoop → Typer) → (LabelledLoop → Typer) → Typer
while_row at label c body expected = do
  id ← number
  n ← condition (c (loop_around label id false None))
  b ← body (loop_around label id false None) (Some unit)
  settled expected (a_node_of id at unit (tree.While n b))

abbrev pub while_let_row : Env → Pos → Option Word → (LabelledLoop → Check Node) → Matcher →
    (LabelledLoop → List NamedEntry → Typer)
    → Typer
while_let_row env at label scrutinee pattern body expected = do
  id ← number
  s ← scrutinised (scrutinee (loop_around label id false None))
  items ← the_items
  p ← pattern (pattern_context env false s items) (ty_of s)
  b ← body (loop_around label id false None) p.1 (Some unit)
  settled expected (a_node_of id at unit (tree.WhileLet p.0 s b))

-- what a `break` carries: nothing is required outside a loop and in a `while`
abbrev pub carried : Option LabelledLoop → Option TyId
carried None = None
carried (Some a) = a.expected

abbrev pub ty_carried : MaybeNode → TyId
ty_carried absent = unit
ty_carried (present n) = ty_of n

abbrev pub may_carry : MaybeNode → LabelledLoop → Bool
may_carry absent a = true
may_carry (present n) a = a.has_value

abbrev pub break_out_end : ℕ → Pos → Option TyId → ℕ → MaybeNode → Check Node
break_out_end id at expected loop v = do
  breaks_out loop (ty_carried v)
  settled expected (a_node_of id at never (tree.Break loop v))

-- a jump out of the loop with this number, if it is known
abbrev pub break_end : ℕ → Pos → Option TyId → Option LabelledLoop → MaybeNode → Check Node
break_end id at expected to v = do
  a ← known Rule.T06 at to
  obeys Rule.T06 at (may_carry v a)
  break_out_end id at expected a.loop v

abbrev pub break_row : Pos → Option LabelledLoop → (Option TyId → Check MaybeNode) → Typer
break_row at to value expected = do
  id ← number
  v ← value (carried to)
  break_end id at expected to v

abbrev pub continue_end : ℕ → Pos → Option TyId → Option LabelledLoop → Check Node
continue_end id at expected to = do
  a ← known Rule.T06 at to
  settled expected (a_node_of id at never (tree.Continue a.loop))

abbrev pub continue_row : Pos → Option LabelledLoop → Typer
continue_row at to expected = do
  id ← number
  continue_end id at expected to

abbrev pub is_some_node : MaybeNode → Bool
is_some_node absent = false
is_some_node (present n) = true

abbrev pub return_end : ℕ → Pos → TyId → Option TyId → MaybeNode → Check Node
return_end id at answer expected v = do
  items ← the_items
  obeys Rule.T03 at (is_some_node v || is_unit items answer)
  settled expected (a_node_of id at never (tree.Return v))

abbrev pub return_row : Pos → TyId → (Option TyId → Check MaybeNode) → Typer
return_row at answer value expected = do
  id ← number
  v ← value (Some answer)
  return_end id at answer expected v

-- ---- statements

-- the initialiser of another pattern than one name: a place that is taken apart where it stands, unless it is coerced;
-- or a value. A place of type `!` has no parts to be taken, so there the pattern is `_`
abbrev pub as_part : Env → Option TyId → Node → Fit → Check Node
as_part env expected place Fits = no_reference place
as_part env expected place how = taken env expected place

abbrev pub place_for_parts : Env → Bool → Option TyId → Node → Check Node
place_for_parts env takes_any None place = no_reference place
place_for_parts env takes_any (Some expected) place = do
  items ← the_items
  obeys Rule.T03 (place_in_text place) (takes_any || (is_same (ty_of place) expected || not (is_never items (ty_of
      place))))
  as_part env (Some expected) place (fit items expected (ty_of place))

abbrev pub is_unused_place : Node → Bool
is_unused_place (node id at ty by form) = is_place form && is_none by

-- a place that is taken apart stands as it is, so as `!` where that fits
abbrev pub matched_ty : TyId → Node → TyId
matched_ty ty n = if is_unused_place n then ty_of n else ty

abbrev pub let_ty : Option TyId → MaybeNode → Option TyId
let_ty (Some ty) absent = Some ty
let_ty (Some ty) (present n) = Some (matched_ty ty n)
let_ty None absent = None
let_ty None (present n) = Some (ty_of n)

abbrev pub ends_by : ItemTable → MaybeNode → Bool
ends_by items absent = false
ends_by items (present n) = is_never items (ty_of n) && not (is_unused_place n)

-- what the pattern of a `let` is told: one name takes the whole value
abbrev pub of_value : Env → Bool → MaybeNode → ItemTable → PatternContext
of_value env is_one_name absent items = record { is_fixed = false; takes_all = true }
of_value env true (present n) items = record { is_fixed = false; takes_all = true }
of_value env false (present n) items = pattern_context env true n items

-- a `let` for a place of a type
abbrev pub let_of_type : ℕ → Pos → PatternContext → TyId → MaybeNode → Matcher → (List NamedEntry → Env) →
    Check (Node × Bool × Env)
let_of_type id at e ty v pattern behind = do
  p ← pattern e ty
  after ← the_items
  pure (a_node_of id at unit (tree.Let p.0 v), ends_by after v, behind p.1)

abbrev pub let_end : ℕ → Pos → Env → Bool → Option TyId → MaybeNode → Matcher → (List NamedEntry → Env) →
    Check (Node × Bool × Env)
let_end id at env is_one_name declared v pattern behind = do
  ty ← known Rule.T16 at (let_ty declared v)
  items ← the_items
  let_of_type id at (of_value env is_one_name v items) ty v pattern behind

abbrev pub let_row : Pos → Env → Bool → Check (Option TyId) → (Option TyId → Check MaybeNode) → Matcher →
    (List NamedEntry → Env) → Check (Node × Bool × Env)
let_row at env is_one_name written value pattern behind = do
  id ← number
  declared ← written
  v ← value declared
  let_end id at env is_one_name declared v pattern behind

abbrev pub evaluate_end : Env → ℕ → Pos → Bool → Node → Check (Node × Bool × Env)
evaluate_end env id at has_semicolon n = do
  items ← the_items
  obeys Rule.T03 (place_in_text n) (has_semicolon || (is_unit items (ty_of n) || is_never items (ty_of n)))
  pure (a_node_of id at unit (tree.Evaluate n), is_never items (ty_of n), env)

-- a blocklike statement without `;` is `()` or `!`
abbrev pub evaluate : Pos → Env → Bool → Typer → Check (Node × Bool × Env)
evaluate at env has_semicolon e = do
  id ← number
  n ← e None
  evaluate_end env id at has_semicolon n

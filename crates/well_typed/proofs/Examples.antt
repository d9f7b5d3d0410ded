-- Programs that are well typed, each beside one that breaks a single rule, told apart by computation.
use Rattle.std.proofs.Common.{◌≡◌, ℕ, Bool, true, false, List, [], ◌∷◌, Option, Some, None, refl, pos}
use Rattle.std.specs.Prelude.{codes, take, drop, ◌++◌}
use Rattle.mir_base.specs.declared.int_kind.IntKind.{IntKind}
use Rattle.mir_base.specs.declared.operator.Cmp.{Cmp}
use Rattle.mir_base.specs.declared.operator.Math.{Math}
use Rattle.mir_base.specs.declared.place_in_text.Pos.{Pos}
use Rattle.mir_ty.specs.declared.adt.Adt.{Adt}
use Rattle.mir_ty.specs.declared.adt.Variant.{Variant}
use Rattle.mir_ty.specs.declared.def.Sig.{Sig}
use Rattle.mir_ty.specs.declared.ty.Ty.{Ty}
use Rattle.mir_ty.specs.declared.ty.TyId.{TyId}
use Rattle.mir_ty.specs.ItemTable.{ItemTable}
use Rattle.typed_tree.specs.declared.node.Use.{Use}
use Rattle.typed_tree.specs.Tree.{Node, node, Form, Nodes, no_node, a_node, no_field, a_field, absent, present, Number, Truth, Variable, Captured, Field, Index, Deref, Arithmetic, Comparison, Assign, Call, VirtualCall, ClosureCall, Make, Tuple, Array, Closure, NewBox, Print, Panic, Borrow, Unsize, Block, Let, Evaluate, If, Match, Arm, Loop, While, Break, Return, Wildcard, Binding, NumberPattern, VariantPattern, TuplePattern, ParamTree, BodyTree, ProgramTree}
use Rattle.well_typed.specs.Program.{is_well_typed}

-- ---- words

abbrev here : Pos
here = record { line = 1; col = 1 }

abbrev n : ℕ → TyId → Form → Node
n id ty form = node id here ty None form

abbrev used : ℕ → TyId → Use → Form → Node
used id ty by form = node id here ty (Some by) form

abbrev nodes : List Node → Nodes
nodes [] = no_node
nodes (first ∷ rest) = a_node first (nodes rest)

abbrev name : Form
name = Binding (codes "x")

abbrev other_name : Form
other_name = Binding (codes "y")

abbrev ty_no : ℕ → TyId
ty_no k = record { 0 = k }

abbrev i32 : TyId
i32 = ty_no 0

abbrev unit : TyId
unit = ty_no 1

abbrev bool : TyId
bool = ty_no 2

abbrev never : TyId
never = ty_no 3

abbrev d_ty : TyId
d_ty = ty_no 4

abbrev unique_d_ty : TyId
unique_d_ty = ty_no 5

abbrev shared_d_ty : TyId
shared_d_ty = ty_no 6

abbrev e_ty : TyId
e_ty = ty_no 7

abbrev boxed_d_ty : TyId
boxed_d_ty = ty_no 8

abbrev dyn_ty : TyId
dyn_ty = ty_no 9

abbrev shared_dyn_ty : TyId
shared_dyn_ty = ty_no 10

abbrev boxed_dyn_ty : TyId
boxed_dyn_ty = ty_no 11

abbrev pair_ty : TyId
pair_ty = ty_no 12

abbrev array_ty : TyId
array_ty = ty_no 13

abbrev usize : TyId
usize = ty_no 14

abbrev closure_ty : TyId
closure_ty = ty_no 15

abbrev i64 : TyId
i64 = ty_no 16

abbrev c_ty : TyId
c_ty = ty_no 17

abbrev boxed_c_ty : TyId
boxed_c_ty = ty_no 18

abbrev h_ty : TyId
h_ty = ty_no 19

abbrev unique_h_ty : TyId
unique_h_ty = ty_no 20

-- struct D(i32); impl Drop for D; enum E { A, B(D, i32) }; #[derive(Clone, Copy)] struct C(i32); struct H(D); impl
-- Drop for H
abbrev variant : List ℕ → List TyId → List (List ℕ) → Variant
variant name fields names = record { name = name; fields = fields; field_names = names }

abbrev struct : List ℕ → TyId → Bool → Option ℕ → Adt
struct name field copy drop_body =
    record {
      name = name;
      is_enum = false;
      variants = variant name (field ∷ []) (codes "0" ∷ []) ∷ [];
      copy = copy;
      drop_body = drop_body;
    }

abbrev head : List ℕ → List TyId → TyId → Sig
head name params answer = record { name = name; params = params; result = answer }

-- trait Show { fn show(&self); } impl Show for D
abbrev items : ItemTable
items = record {
  types = Ty.Int IntKind.I32 ∷ Ty.Unit ∷ Ty.Bool ∷ Ty.Never ∷ Ty.Adt 0 ∷ Ty.Unique d_ty ∷ Ty.Shared d_ty ∷ Ty.Adt 1 ∷
      Ty.Boxed d_ty ∷ Ty.Dyn 0 ∷ Ty.Shared dyn_ty ∷ Ty.Boxed dyn_ty ∷ Ty.Tuple (d_ty ∷ i32 ∷ []) ∷ Ty.Array d_ty 1 ∷
      Ty.Int IntKind.Usize ∷ Ty.Closure 0 ∷ Ty.Int IntKind.I64 ∷ Ty.Adt 2 ∷ Ty.Boxed c_ty ∷ Ty.Adt 3 ∷ Ty.Unique h_ty
      ∷ [];
  adts = struct (codes "D") i32 false (Some 0) ∷
      record {
        name = codes "E";
        is_enum = true;
        variants = variant (codes "A") [] [] ∷
            variant (codes "B") (d_ty ∷ i32 ∷ []) (codes "0" ∷ codes "1" ∷ []) ∷ [];
        copy = false;
        drop_body = None;
      } ∷
      struct (codes "C") i32 true None ∷ struct (codes "H") d_ty false (Some 7) ∷ [];
  traits = record { name = codes "Show"; methods = head (codes "show") (shared_dyn_ty ∷ []) unit ∷ [] } ∷ [];
  impls = record { trait_no = 0; adt = 0; bodies = 4 ∷ [] } ∷ [];
  closures = record { captures = d_ty ∷ []; body = 5 } ∷ [];
  bodies = head (codes "D::drop") (unique_d_ty ∷ []) unit ∷ head (codes "take") (d_ty ∷ []) unit ∷
      head (codes "look") (shared_d_ty ∷ []) unit ∷ head (codes "change") (unique_d_ty ∷ []) unit ∷
      head (codes "D::show") (shared_d_ty ∷ []) unit ∷ head (codes "main::closure#1") (closure_ty ∷ i32 ∷ []) unit ∷
      head (codes "main") [] unit ∷ head (codes "H::drop") (unique_h_ty ∷ []) unit ∷ [];
}

abbrev param : TyId → Use → ℕ → ParamTree
param ty by id = record { pattern = used id ty by name; ty = ty }

abbrev empty : ℕ → Node
empty id = n id unit (Block no_node absent)

abbrev with_param : ℕ → TyId → Use → Node → BodyTree
with_param number ty by block = record { number = number; params = param ty by 0 ∷ []; answer = unit; block = block }

abbrev closure_params : List ParamTree
closure_params = param closure_ty Use.Move 0 ∷ record { pattern = used 1 i32 Use.Copy other_name; ty = i32 } ∷ []

-- the bodies, of which those of `look`, of `change`, of the closure and of `main` are given
abbrev with_bodies : ItemTable → Node → Node → Node → Node → ProgramTree
with_bodies items look change closure main = record {
  items = items;
  bodies = with_param 0 unique_d_ty Use.Copy (empty 1) ∷ with_param 1 d_ty Use.Move (empty 1) ∷
      with_param 2 shared_d_ty Use.Copy look ∷ with_param 3 unique_d_ty Use.Copy change ∷
      with_param 4 shared_d_ty Use.Copy (empty 1) ∷
      record { number = 5; params = closure_params; answer = unit; block = closure } ∷
      record { number = 6; params = []; answer = unit; block = main } ∷ with_param 7 unique_h_ty Use.Copy (empty 1) ∷ [];
}

abbrev of_main : Node → Bool
of_main block = is_well_typed (with_bodies items (empty 1) (empty 1) (empty 2) block)

abbrev of_look : Node → Bool
of_look block = is_well_typed (with_bodies items block (empty 1) (empty 2) (empty 0))

abbrev of_change : Node → Bool
of_change block = is_well_typed (with_bodies items (empty 1) block (empty 2) (empty 0))

abbrev of_closure : Node → Bool
of_closure block = is_well_typed (with_bodies items (empty 1) (empty 1) block (empty 0))

abbrev of_items : ItemTable → Bool
of_items items = is_well_typed (with_bodies items (empty 1) (empty 1) (empty 2) (empty 0))

-- print(1), print(1_i64)
printed_stands : of_main (n 0 unit (Block (nodes ((n 1 unit (Evaluate (n 2 unit (Print (n 3 i32 (Number (pos 1)))))))
    ∷ [])) absent)) ≡ true
printed_stands = refl

printed_breaks : of_main (n 0 unit (Block (nodes ((n 1 unit (Evaluate (n 2 unit (Print (n 3 i64 (Number (pos 1)))))))
    ∷ [])) absent)) ≡ false
printed_breaks = refl

-- a number is within its type
range_stands : of_main (n 0 unit (Block (nodes ((n 1 unit (Evaluate (n 2 unit (Print (n 3 i32 (Number (pos
    2147483647))))))) ∷ [])) absent)) ≡ true
range_stands = refl

range_breaks : of_main (n 0 unit (Block (nodes ((n 1 unit (Evaluate (n 2 unit (Print (n 3 i32 (Number (pos
    2147483648))))))) ∷ [])) absent)) ≡ false
range_breaks = refl

-- a `let` is of a type of the table
let_type_stands : of_main (n 0 unit (Block (nodes ((n 1 unit (Let (used 2 i32 Use.Copy name) absent)) ∷ [])) absent)) ≡
    true
let_type_stands = refl

let_type_breaks : of_main (n 0 unit (Block (nodes ((n 1 unit (Let (used 2 (ty_no 99) Use.Move name) absent)) ∷ []))
    absent)) ≡ false
let_type_breaks = refl

-- operands have one integer type
sum_stands : of_main (n 0 unit (Block (nodes ((n 1 unit (Evaluate (n 2 i32 (Arithmetic Math.Add (n 3 i32 (Number (pos
    1))) (n 4 i32 (Number (pos 2))))))) ∷ [])) absent)) ≡ true
sum_stands = refl

sum_breaks : of_main (n 0 unit (Block (nodes ((n 1 unit (Evaluate (n 2 i32 (Arithmetic Math.Add (n 3 i32 (Number (pos
    1))) (n 4 i64 (Number (pos 2))))))) ∷ [])) absent)) ≡ false
sum_breaks = refl

-- take(D(1)), take()
count_stands : of_main (n 0 unit (Block (nodes ((n 1 unit (Evaluate (n 2 unit (Call 1 (nodes ((n 3 d_ty (Make 0 0
    (a_field 0 (n 4 i32 (Number (pos 1))) no_field))) ∷ [])))))) ∷ [])) absent)) ≡ true
count_stands = refl

count_breaks : of_main (n 0 unit (Block (nodes ((n 1 unit (Evaluate (n 2 unit (Call 1 (nodes ([])))))) ∷ []))
    absent)) ≡ false
count_breaks = refl

-- take(D(1)), take(1)
argument_stands : of_main (n 0 unit (Block (nodes ((n 1 unit (Evaluate (n 2 unit (Call 1 (nodes ((n 3 d_ty (Make 0 0
    (a_field 0 (n 4 i32 (Number (pos 1))) no_field))) ∷ [])))))) ∷ [])) absent)) ≡ true
argument_stands = refl

argument_breaks : of_main (n 0 unit (Block (nodes ((n 1 unit (Evaluate (n 2 unit (Call 1 (nodes ((n 3 i32 (Number
    (pos 1))) ∷ [])))))) ∷ [])) absent)) ≡ false
argument_breaks = refl

-- what is not Copy is moved
moved_stands : of_main (n 0 unit (Block (nodes ((n 1 unit (Let (used 2 d_ty Use.Move name) (present (n 3 d_ty (Make 0
    0 (a_field 0 (n 4 i32 (Number (pos 1))) no_field)))))) ∷ (n 5 unit (Evaluate (n 6 unit (Call 1 (nodes ((used 7
    d_ty Use.Move (Variable 2)) ∷ [])))))) ∷ [])) absent)) ≡ true
moved_stands = refl

moved_breaks : of_main (n 0 unit (Block (nodes ((n 1 unit (Let (used 2 d_ty Use.Move name) (present (n 3 d_ty (Make 0
    0 (a_field 0 (n 4 i32 (Number (pos 1))) no_field)))))) ∷ (n 5 unit (Evaluate (n 6 unit (Call 1 (nodes ((used 7
    d_ty Use.Copy (Variable 2)) ∷ [])))))) ∷ [])) absent)) ≡ false
moved_breaks = refl

-- a variable is an entry in scope
key_stands : of_main (n 0 unit (Block (nodes ((n 1 unit (Let (used 2 d_ty Use.Move name) (present (n 3 d_ty (Make 0 0
    (a_field 0 (n 4 i32 (Number (pos 1))) no_field)))))) ∷ (n 5 unit (Evaluate (n 6 unit (Call 1 (nodes ((used 7 d_ty
    Use.Move (Variable 2)) ∷ [])))))) ∷ [])) absent)) ≡ true
key_stands = refl

key_breaks : of_main (n 0 unit (Block (nodes ((n 1 unit (Let (used 2 d_ty Use.Move name) (present (n 3 d_ty (Make 0 0
    (a_field 0 (n 4 i32 (Number (pos 1))) no_field)))))) ∷ (n 5 unit (Evaluate (n 6 unit (Call 1 (nodes ((used 7 d_ty
    Use.Move (Variable 3)) ∷ [])))))) ∷ [])) absent)) ≡ false
key_breaks = refl

-- an entry ends with its block
inner_stands : of_main (n 0 unit (Block (nodes ((n 1 unit (Evaluate (n 2 unit (Block (nodes ((n 3 unit (Let (used 4
    d_ty Use.Move name) (present (n 5 d_ty (Make 0 0 (a_field 0 (n 6 i32 (Number (pos 1))) no_field)))))) ∷ []))
    absent)))) ∷ (n 7 unit (Let (used 8 d_ty Use.Move name) (present (n 9 d_ty (Make 0 0 (a_field 0 (n 10 i32
    (Number (pos 1))) no_field)))))) ∷ [])) absent)) ≡ true
inner_stands = refl

inner_breaks : of_main (n 0 unit (Block (nodes ((n 1 unit (Evaluate (n 2 unit (Block (nodes ((n 3 unit (Let (used 4
    d_ty Use.Move name) (present (n 5 d_ty (Make 0 0 (a_field 0 (n 6 i32 (Number (pos 1))) no_field)))))) ∷ []))
    absent)))) ∷ (n 7 unit (Evaluate (n 8 unit (Call 1 (nodes ((used 9 d_ty Use.Move (Variable 4)) ∷ [])))))) ∷
    [])) absent)) ≡ false
inner_breaks = refl

-- a place is stored into
stored_stands : of_main (n 0 unit (Block (nodes ((n 1 unit (Let (used 2 d_ty Use.Move name) (present (n 3 d_ty (Make
    0 0 (a_field 0 (n 4 i32 (Number (pos 1))) no_field)))))) ∷ (n 5 unit (Evaluate (n 6 unit (Assign (used 7 d_ty
    Use.Store (Variable 2)) (n 8 d_ty (Make 0 0 (a_field 0 (n 9 i32 (Number (pos 1))) no_field))))))) ∷ []))
    absent)) ≡ true
stored_stands = refl

stored_breaks : of_main (n 0 unit (Block (nodes ((n 1 unit (Let (used 2 d_ty Use.Move name) (present (n 3 d_ty (Make
    0 0 (a_field 0 (n 4 i32 (Number (pos 1))) no_field)))))) ∷ (n 5 unit (Evaluate (n 6 unit (Assign (n 7 d_ty (Make
    0 0 (a_field 0 (n 8 i32 (Number (pos 1))) no_field))) (n 9 d_ty (Make 0 0 (a_field 0 (n 10 i32 (Number (pos
    1))) no_field))))))) ∷ [])) absent)) ≡ false
stored_breaks = refl

-- what is stored has the type of the place
stored_type_stands : of_main (n 0 unit (Block (nodes ((n 1 unit (Let (used 2 d_ty Use.Move name) (present (n 3 d_ty
    (Make 0 0 (a_field 0 (n 4 i32 (Number (pos 1))) no_field)))))) ∷ (n 5 unit (Evaluate (n 6 unit (Assign (used 7
    d_ty Use.Store (Variable 2)) (n 8 d_ty (Make 0 0 (a_field 0 (n 9 i32 (Number (pos 1))) no_field))))))) ∷ []))
    absent)) ≡ true
stored_type_stands = refl

stored_type_breaks : of_main (n 0 unit (Block (nodes ((n 1 unit (Let (used 2 d_ty Use.Move name) (present (n 3 d_ty
    (Make 0 0 (a_field 0 (n 4 i32 (Number (pos 1))) no_field)))))) ∷ (n 5 unit (Evaluate (n 6 unit (Assign (used 7
    d_ty Use.Store (Variable 2)) (n 8 i32 (Number (pos 1))))))) ∷ [])) absent)) ≡ false
stored_type_breaks = refl

-- a break leaves a loop around it
jump_stands : of_main (n 0 unit (Block (nodes ((n 1 unit (Evaluate (n 2 unit (Loop (n 3 never (Block (nodes ((n 4
    unit (Evaluate (n 5 never (Break 2 absent)))) ∷ [])) absent)))))) ∷ [])) absent)) ≡ true
jump_stands = refl

jump_breaks : of_main (n 0 unit (Block (nodes ((n 1 unit (Evaluate (n 2 unit (Loop (n 3 never (Block (nodes ((n 4
    unit (Evaluate (n 5 never (Break 1 absent)))) ∷ [])) absent)))))) ∷ [])) absent)) ≡ false
jump_breaks = refl

-- a loop without breaks has the type `!`
endless_stands : of_main (n 0 never (Block (nodes ((n 1 unit (Evaluate (n 2 never (Loop (n 3 unit (Block (nodes ([]))
    absent)))))) ∷ [])) absent)) ≡ true
endless_stands = refl

endless_breaks : of_main (n 0 unit (Block (nodes ((n 1 unit (Evaluate (n 2 i32 (Loop (n 3 unit (Block (nodes ([]))
    absent)))))) ∷ [])) absent)) ≡ false
endless_breaks = refl

-- a break carries a value out of a `loop` alone
carried_stands : of_main (n 0 unit (Block (nodes ((n 1 unit (Evaluate (n 2 i32 (Loop (n 3 never (Block (nodes ((n 4
    unit (Evaluate (n 5 never (Break 2 (present (n 6 i32 (Number (pos 1)))))))) ∷ [])) absent)))))) ∷ [])) absent)) ≡
    true
carried_stands = refl

carried_breaks : of_main (n 0 unit (Block (nodes ((n 1 unit (Evaluate (n 2 unit (While (n 3 bool (Truth true)) (n 4
    never (Block (nodes ((n 5 unit (Evaluate (n 6 never (Break 2 (present (n 7 i32 (Number (pos 1)))))))) ∷ []))
    absent)))))) ∷ [])) absent)) ≡ false
carried_breaks = refl

-- nothing is moved out of an element
element_stands : of_main (n 0 unit (Block (nodes ((n 1 unit (Let (used 2 array_ty Use.Move name) (present (n 3
    array_ty (Array (nodes ((n 4 d_ty (Make 0 0 (a_field 0 (n 5 i32 (Number (pos 1))) no_field))) ∷ []))))))) ∷ (n 6
    unit (Evaluate (n 7 unit (Print (used 8 i32 Use.Copy (Field (n 9 d_ty (Index (n 10 array_ty (Variable 2)) (n
    11 usize (Number (pos 0))) 1)) 0)))))) ∷ [])) absent)) ≡ true
element_stands = refl

element_breaks : of_main (n 0 unit (Block (nodes ((n 1 unit (Let (used 2 array_ty Use.Move name) (present (n 3
    array_ty (Array (nodes ((n 4 d_ty (Make 0 0 (a_field 0 (n 5 i32 (Number (pos 1))) no_field))) ∷ []))))))) ∷ (n 6
    unit (Evaluate (n 7 unit (Call 1 (nodes ((used 8 d_ty Use.Move (Index (n 9 array_ty (Variable 2)) (n 10 usize
    (Number (pos 0))) 1)) ∷ [])))))) ∷ [])) absent)) ≡ false
element_breaks = refl

-- an index is a `usize`
index_stands : of_main (n 0 unit (Block (nodes ((n 1 unit (Let (used 2 array_ty Use.Move name) (present (n 3 array_ty
    (Array (nodes ((n 4 d_ty (Make 0 0 (a_field 0 (n 5 i32 (Number (pos 1))) no_field))) ∷ []))))))) ∷ (n 6 unit
    (Evaluate (n 7 unit (Print (used 8 i32 Use.Copy (Field (n 9 d_ty (Index (n 10 array_ty (Variable 2)) (n 11
    usize (Number (pos 0))) 1)) 0)))))) ∷ [])) absent)) ≡ true
index_stands = refl

index_breaks : of_main (n 0 unit (Block (nodes ((n 1 unit (Let (used 2 array_ty Use.Move name) (present (n 3 array_ty
    (Array (nodes ((n 4 d_ty (Make 0 0 (a_field 0 (n 5 i32 (Number (pos 1))) no_field))) ∷ []))))))) ∷ (n 6 unit
    (Evaluate (n 7 unit (Print (used 8 i32 Use.Copy (Field (n 9 d_ty (Index (n 10 array_ty (Variable 2)) (n 11
    i32 (Number (pos 0))) 1)) 0)))))) ∷ [])) absent)) ≡ false
index_breaks = refl

-- nothing is moved out of a field of a type with a `Drop` impl
part_stands : of_main (n 0 unit (Block (nodes ((n 1 unit (Let (used 2 pair_ty Use.Move name) (present (n 3 pair_ty
    (Tuple (nodes ((n 4 d_ty (Make 0 0 (a_field 0 (n 5 i32 (Number (pos 1))) no_field))) ∷ (n 6 i32 (Number (pos 2)))
    ∷ []))))))) ∷ (n 7 unit (Evaluate (n 8 unit (Call 1 (nodes ((used 9 d_ty Use.Move (Field (n 10 pair_ty
    (Variable 2)) 0)) ∷ [])))))) ∷ [])) absent)) ≡ true
part_stands = refl

part_breaks : of_main (n 0 unit (Block (nodes ((n 1 unit (Let (used 2 h_ty Use.Move name) (present (n 3 h_ty (Make 3
    0 (a_field 0 (n 4 d_ty (Make 0 0 (a_field 0 (n 5 i32 (Number (pos 1))) no_field))) no_field)))))) ∷ (n 6 unit
    (Evaluate (n 7 unit (Call 1 (nodes ((used 8 d_ty Use.Move (Field (n 9 h_ty (Variable 2)) 0)) ∷ [])))))) ∷
    [])) absent)) ≡ false
part_breaks = refl

-- a type has its fields alone
member_stands : of_main (n 0 unit (Block (nodes ((n 1 unit (Let (used 2 pair_ty Use.Move name) (present (n 3 pair_ty
    (Tuple (nodes ((n 4 d_ty (Make 0 0 (a_field 0 (n 5 i32 (Number (pos 1))) no_field))) ∷ (n 6 i32 (Number (pos 2)))
    ∷ []))))))) ∷ (n 7 unit (Evaluate (n 8 unit (Print (used 9 i32 Use.Copy (Field (n 10 pair_ty (Variable 2))
    1)))))) ∷ [])) absent)) ≡ true
member_stands = refl

member_breaks : of_main (n 0 unit (Block (nodes ((n 1 unit (Let (used 2 pair_ty Use.Move name) (present (n 3 pair_ty
    (Tuple (nodes ((n 4 d_ty (Make 0 0 (a_field 0 (n 5 i32 (Number (pos 1))) no_field))) ∷ (n 6 i32 (Number (pos 2)))
    ∷ []))))))) ∷ (n 7 unit (Evaluate (n 8 unit (Print (used 9 i32 Use.Copy (Field (n 10 pair_ty (Variable 2))
    2)))))) ∷ [])) absent)) ≡ false
member_breaks = refl

-- no `Drop` body is called
called_stands : of_main (n 0 unit (Block (nodes ((n 1 unit (Evaluate (n 2 unit (Call 1 (nodes ((n 3 d_ty (Make 0 0
    (a_field 0 (n 4 i32 (Number (pos 1))) no_field))) ∷ [])))))) ∷ [])) absent)) ≡ true
called_stands = refl

called_breaks : of_main (n 0 unit (Block (nodes ((n 1 unit (Let (used 2 d_ty Use.Move name) (present (n 3 d_ty (Make
    0 0 (a_field 0 (n 4 i32 (Number (pos 1))) no_field)))))) ∷ (n 5 unit (Evaluate (n 6 unit (Call 0 (nodes ((n 7
    unique_d_ty (Borrow true (used 8 d_ty Use.BorrowMut (Variable 2)))) ∷ [])))))) ∷ [])) absent)) ≡ false
called_breaks = refl

-- a borrow is an argument
borrowed_stands : of_main (n 0 unit (Block (nodes ((n 1 unit (Let (used 2 d_ty Use.Move name) (present (n 3 d_ty
    (Make 0 0 (a_field 0 (n 4 i32 (Number (pos 1))) no_field)))))) ∷ (n 5 unit (Evaluate (n 6 unit (Call 2 (nodes ((n
    7 shared_d_ty (Borrow false (used 8 d_ty Use.Borrow (Variable 2)))) ∷ [])))))) ∷ [])) absent)) ≡ true
borrowed_stands = refl

borrowed_breaks : of_main (n 0 unit (Block (nodes ((n 1 unit (Let (used 2 d_ty Use.Move name) (present (n 3 d_ty
    (Make 0 0 (a_field 0 (n 4 i32 (Number (pos 1))) no_field)))))) ∷ (n 5 unit (Evaluate (n 6 shared_d_ty (Borrow
    false (used 7 d_ty Use.Borrow (Variable 2)))))) ∷ [])) absent)) ≡ false
borrowed_breaks = refl

-- an argument is of the reference that is asked for
referred_stands : of_main (n 0 unit (Block (nodes ((n 1 unit (Let (used 2 d_ty Use.Move name) (present (n 3 d_ty
    (Make 0 0 (a_field 0 (n 4 i32 (Number (pos 1))) no_field)))))) ∷ (n 5 unit (Evaluate (n 6 unit (Call 2 (nodes ((n
    7 shared_d_ty (Borrow false (used 8 d_ty Use.Borrow (Variable 2)))) ∷ [])))))) ∷ [])) absent)) ≡ true
referred_stands = refl

referred_breaks : of_main (n 0 unit (Block (nodes ((n 1 unit (Let (used 2 d_ty Use.Move name) (present (n 3 d_ty
    (Make 0 0 (a_field 0 (n 4 i32 (Number (pos 1))) no_field)))))) ∷ (n 5 unit (Evaluate (n 6 unit (Call 2 (nodes ((n
    7 unique_d_ty (Borrow true (used 8 d_ty Use.BorrowMut (Variable 2)))) ∷ [])))))) ∷ [])) absent)) ≡ false
referred_breaks = refl

-- the names of one pattern differ
names_stands : of_main (n 0 unit (Block (nodes ((n 1 unit (Let (n 2 pair_ty (TuplePattern (nodes ((used 3 d_ty
    Use.Move name) ∷ (used 4 i32 Use.Copy other_name) ∷ [])))) (present (n 5 pair_ty (Tuple (nodes ((n 6 d_ty (Make 0
    0 (a_field 0 (n 7 i32 (Number (pos 1))) no_field))) ∷ (n 8 i32 (Number (pos 2))) ∷ []))))))) ∷ [])) absent))
    ≡ true
names_stands = refl

names_breaks : of_main (n 0 unit (Block (nodes ((n 1 unit (Let (n 2 pair_ty (TuplePattern (nodes ((used 3 d_ty
    Use.Move name) ∷ (used 4 i32 Use.Copy name) ∷ [])))) (present (n 5 pair_ty (Tuple (nodes ((n 6 d_ty (Make 0 0
    (a_field 0 (n 7 i32 (Number (pos 1))) no_field))) ∷ (n 8 i32 (Number (pos 2))) ∷ []))))))) ∷ [])) absent)) ≡
    false
names_breaks = refl

-- the pattern of a `let` takes all values
taken_apart_stands : of_main (n 0 unit (Block (nodes ((n 1 unit (Let (n 2 pair_ty (TuplePattern (nodes ((used 3 d_ty
    Use.Move name) ∷ (n 4 i32 Wildcard) ∷ [])))) (present (n 5 pair_ty (Tuple (nodes ((n 6 d_ty (Make 0 0 (a_field 0
    (n 7 i32 (Number (pos 1))) no_field))) ∷ (n 8 i32 (Number (pos 2))) ∷ []))))))) ∷ [])) absent)) ≡ true
taken_apart_stands = refl

taken_apart_breaks : of_main (n 0 unit (Block (nodes ((n 1 unit (Let (n 2 pair_ty (TuplePattern (nodes ((used 3 d_ty
    Use.Move name) ∷ (used 4 i32 Use.Test (NumberPattern (pos 2))) ∷ [])))) (present (n 5 pair_ty (Tuple (nodes ((n 6
    d_ty (Make 0 0 (a_field 0 (n 7 i32 (Number (pos 1))) no_field))) ∷ (n 8 i32 (Number (pos 2))) ∷ []))))))) ∷
    [])) absent)) ≡ false
taken_apart_breaks = refl

-- a box is coerced to a trait that its content implements
coerced_stands : of_main (n 0 unit (Block (nodes ((n 1 unit (Let (used 2 boxed_dyn_ty Use.Move name) (present (n 3
    boxed_dyn_ty (Unsize 0 (n 4 boxed_d_ty (NewBox (n 5 d_ty (Make 0 0 (a_field 0 (n 6 i32 (Number (pos 1)))
    no_field)))))))))) ∷ [])) absent)) ≡ true
coerced_stands = refl

coerced_breaks : of_main (n 0 unit (Block (nodes ((n 1 unit (Let (used 2 boxed_dyn_ty Use.Move name) (present (n 3
    boxed_dyn_ty (Unsize 0 (n 4 boxed_c_ty (NewBox (n 5 c_ty (Make 2 0 (a_field 0 (n 6 i32 (Number (pos 1)))
    no_field)))))))))) ∷ [])) absent)) ≡ false
coerced_breaks = refl

-- a block has the type of its tail
block_type_stands : of_main (n 0 unit (Block (nodes ((n 1 unit (Evaluate (n 2 i32 (Block (nodes ([])) (present (n 3
    i32 (Number (pos 1)))))))) ∷ [])) absent)) ≡ true
block_type_stands = refl

block_type_breaks : of_main (n 0 unit (Block (nodes ((n 1 unit (Evaluate (n 2 i32 (Block (nodes ((n 3 unit (Evaluate
    (n 4 i32 (Number (pos 1))))) ∷ [])) absent)))) ∷ [])) absent)) ≡ false
block_type_breaks = refl

-- branches have one type, `!` aside
branches_stands : of_main (n 0 unit (Block (nodes ((n 1 unit (Evaluate (n 2 i32 (If (n 3 bool (Truth true)) (n 4 i32
    (Block (nodes ([])) (present (n 5 i32 (Number (pos 1)))))) (present (n 6 never (Block (nodes ([])) (present (n 7
    never Panic))))))))) ∷ [])) absent)) ≡ true
branches_stands = refl

branches_breaks : of_main (n 0 unit (Block (nodes ((n 1 unit (Evaluate (n 2 i32 (If (n 3 bool (Truth true)) (n 4 i32
    (Block (nodes ([])) (present (n 5 i32 (Number (pos 1)))))) (present (n 6 unit (Block (nodes ([])) absent))))))) ∷
    [])) absent)) ≡ false
branches_breaks = refl

-- a result has the type of the head
returned_stands : of_main (n 0 never (Block (nodes ((n 1 unit (Evaluate (n 2 never (Return absent)))) ∷ [])) absent))
    ≡ true
returned_stands = refl

returned_breaks : of_main (n 0 never (Block (nodes ((n 1 unit (Evaluate (n 2 never (Return (present (n 3 i32 (Number
    (pos 1)))))))) ∷ [])) absent)) ≡ false
returned_breaks = refl

-- a block whose statement ends has the type `!`
returned_type_stands : of_main (n 0 never (Block (nodes ((n 1 unit (Evaluate (n 2 never (Return absent)))) ∷ []))
    absent)) ≡ true
returned_type_stands = refl

returned_type_breaks : of_main (n 0 unit (Block (nodes ((n 1 unit (Evaluate (n 2 never (Return absent)))) ∷ []))
    absent)) ≡ false
returned_type_breaks = refl

-- the numbers of nodes rise
order_stands : of_main (n 0 unit (Block (nodes ((n 1 unit (Evaluate (n 2 unit (Print (n 3 i32 (Number (pos 1))))))) ∷
    (n 4 unit (Evaluate (n 5 unit (Print (n 6 i32 (Number (pos 2))))))) ∷ [])) absent)) ≡ true
order_stands = refl

order_breaks : of_main (n 0 unit (Block (nodes ((n 1 unit (Evaluate (n 2 unit (Print (n 7 i32 (Number (pos 1))))))) ∷
    (n 3 unit (Evaluate (n 4 unit (Print (n 5 i32 (Number (pos 2))))))) ∷ [])) absent)) ≡ false
order_breaks = refl

-- nothing is moved out of a binding inside its own guard
guard_stands : of_main (n 0 unit (Block (nodes ((n 1 unit (Evaluate (n 2 unit (Match (n 3 e_ty (Make 1 0 no_field))
    (nodes ((n 4 unit (Arm (used 5 e_ty Use.Test (VariantPattern 1 true (a_field 0 (used 6 d_ty Use.Move name)
    (a_field 1 (used 7 i32 Use.Copy other_name) no_field)))) (present (n 8 bool (Comparison Cmp.Eq (used 9 i32
    Use.Copy (Variable 7)) (n 10 i32 (Number (pos 1)))))) (n 11 unit (Call 1 (nodes ((used 12 d_ty Use.Move
    (Variable 6)) ∷ [])))))) ∷ (n 13 unit (Arm (n 14 e_ty Wildcard) absent (n 15 unit (Block (nodes ([]))
    absent)))) ∷ [])))))) ∷ [])) absent)) ≡ true
guard_stands = refl

guard_breaks : of_main (n 0 unit (Block (nodes ((n 1 unit (Evaluate (n 2 unit (Match (n 3 e_ty (Make 1 0 no_field))
    (nodes ((n 4 unit (Arm (used 5 e_ty Use.Test (VariantPattern 1 true (a_field 0 (used 6 d_ty Use.Move name)
    (a_field 1 (used 7 i32 Use.Copy other_name) no_field)))) (present (n 8 bool (Block (nodes ((n 9 unit
    (Evaluate (n 10 unit (Call 1 (nodes ((used 11 d_ty Use.Move (Variable 6)) ∷ [])))))) ∷ [])) (present (n
    12 bool (Truth true)))))) (n 13 unit (Block (nodes ([])) absent)))) ∷ (n 14 unit (Arm (n 15 e_ty
    Wildcard) absent (n 16 unit (Block (nodes ([])) absent)))) ∷ [])))))) ∷ [])) absent)) ≡ false
guard_breaks = refl

-- arms have one type
arms_stands : of_main (n 0 unit (Block (nodes ((n 1 unit (Evaluate (n 2 unit (Match (n 3 e_ty (Make 1 0 no_field))
    (nodes ((n 4 unit (Arm (used 5 e_ty Use.Test (VariantPattern 1 true (a_field 0 (used 6 d_ty Use.Move name)
    (a_field 1 (used 7 i32 Use.Copy other_name) no_field)))) absent (n 8 unit (Block (nodes ([])) absent)))) ∷ (n
    9 unit (Arm (n 10 e_ty Wildcard) absent (n 11 unit (Block (nodes ([])) absent)))) ∷ [])))))) ∷ []))
    absent)) ≡ true
arms_stands = refl

arms_breaks : of_main (n 0 unit (Block (nodes ((n 1 unit (Evaluate (n 2 unit (Match (n 3 e_ty (Make 1 0 no_field))
    (nodes ((n 4 i32 (Arm (used 5 e_ty Use.Test (VariantPattern 1 true (a_field 0 (used 6 d_ty Use.Move name)
    (a_field 1 (used 7 i32 Use.Copy other_name) no_field)))) absent (n 8 i32 (Number (pos 1))))) ∷ (n 9 unit (Arm
    (n 10 e_ty Wildcard) absent (n 11 unit (Block (nodes ([])) absent)))) ∷ [])))))) ∷ [])) absent)) ≡ false
arms_breaks = refl

-- a variant of more than one is tested
tested_stands : of_main (n 0 unit (Block (nodes ((n 1 unit (Evaluate (n 2 unit (Match (n 3 e_ty (Make 1 0 no_field))
    (nodes ((n 4 unit (Arm (used 5 e_ty Use.Test (VariantPattern 1 true (a_field 0 (used 6 d_ty Use.Move name)
    (a_field 1 (used 7 i32 Use.Copy other_name) no_field)))) absent (n 8 unit (Block (nodes ([])) absent)))) ∷ (n
    9 unit (Arm (n 10 e_ty Wildcard) absent (n 11 unit (Block (nodes ([])) absent)))) ∷ [])))))) ∷ []))
    absent)) ≡ true
tested_stands = refl

tested_breaks : of_main (n 0 unit (Block (nodes ((n 1 unit (Evaluate (n 2 unit (Match (n 3 e_ty (Make 1 0 no_field))
    (nodes ((n 4 unit (Arm (n 5 e_ty (VariantPattern 1 false (a_field 0 (used 6 d_ty Use.Move name) (a_field 1 (used
    7 i32 Use.Copy other_name) no_field)))) absent (n 8 unit (Block (nodes ([])) absent)))) ∷ (n 9 unit (Arm (n
    10 e_ty Wildcard) absent (n 11 unit (Block (nodes ([])) absent)))) ∷ [])))))) ∷ [])) absent)) ≡ false
tested_breaks = refl

-- a trait has its methods alone
virtual_stands : of_main (n 0 unit (Block (nodes ((n 1 unit (Let (used 2 boxed_dyn_ty Use.Move name) (present (n 3
    boxed_dyn_ty (Unsize 0 (n 4 boxed_d_ty (NewBox (n 5 d_ty (Make 0 0 (a_field 0 (n 6 i32 (Number (pos 1)))
    no_field)))))))))) ∷ (n 7 unit (Evaluate (n 8 unit (VirtualCall 0 0 (n 9 shared_dyn_ty (Borrow false (used 10
    dyn_ty Use.Borrow (Deref (n 11 boxed_dyn_ty (Variable 2)))))) no_node)))) ∷ [])) absent)) ≡ true
virtual_stands = refl

virtual_breaks : of_main (n 0 unit (Block (nodes ((n 1 unit (Let (used 2 boxed_dyn_ty Use.Move name) (present (n 3
    boxed_dyn_ty (Unsize 0 (n 4 boxed_d_ty (NewBox (n 5 d_ty (Make 0 0 (a_field 0 (n 6 i32 (Number (pos 1)))
    no_field)))))))))) ∷ (n 7 unit (Evaluate (n 8 unit (VirtualCall 0 1 (n 9 shared_dyn_ty (Borrow false (used 10
    dyn_ty Use.Borrow (Deref (n 11 boxed_dyn_ty (Variable 2)))))) no_node)))) ∷ [])) absent)) ≡ false
virtual_breaks = refl

-- nothing is moved out of a `dyn` box
out_of_dyn_stands : of_main (n 0 unit (Block (nodes ((n 1 unit (Let (used 2 boxed_dyn_ty Use.Move name) (present (n 3
    boxed_dyn_ty (Unsize 0 (n 4 boxed_d_ty (NewBox (n 5 d_ty (Make 0 0 (a_field 0 (n 6 i32 (Number (pos 1)))
    no_field)))))))))) ∷ (n 7 unit (Evaluate (used 8 boxed_dyn_ty Use.Move (Variable 2)))) ∷ [])) absent)) ≡ true
out_of_dyn_stands = refl

out_of_dyn_breaks : of_main (n 0 unit (Block (nodes ((n 1 unit (Let (used 2 boxed_dyn_ty Use.Move name) (present (n 3
    boxed_dyn_ty (Unsize 0 (n 4 boxed_d_ty (NewBox (n 5 d_ty (Make 0 0 (a_field 0 (n 6 i32 (Number (pos 1)))
    no_field)))))))))) ∷ (n 7 unit (Evaluate (used 8 dyn_ty Use.Move (Deref (n 9 boxed_dyn_ty (Variable 2)))))) ∷
    [])) absent)) ≡ false
out_of_dyn_breaks = refl

-- a closure is called by its own body
closure_stands : of_main (n 0 unit (Block (nodes ((n 1 unit (Let (used 2 d_ty Use.Move name) (present (n 3 d_ty (Make
    0 0 (a_field 0 (n 4 i32 (Number (pos 1))) no_field)))))) ∷ (n 5 unit (Let (used 6 closure_ty Use.Move other_name)
    (present (n 7 closure_ty (Closure 0 (nodes ((used 8 d_ty Use.Move (Variable 2)) ∷ []))))))) ∷ (n 9 unit
    (Evaluate (n 10 unit (ClosureCall 5 (used 11 closure_ty Use.Move (Variable 6)) (nodes ((n 12 i32 (Number
    (pos 4))) ∷ [])))))) ∷ [])) absent)) ≡ true
closure_stands = refl

closure_breaks : of_main (n 0 unit (Block (nodes ((n 1 unit (Let (used 2 d_ty Use.Move name) (present (n 3 d_ty (Make
    0 0 (a_field 0 (n 4 i32 (Number (pos 1))) no_field)))))) ∷ (n 5 unit (Let (used 6 closure_ty Use.Move other_name)
    (present (n 7 closure_ty (Closure 0 (nodes ((used 8 d_ty Use.Move (Variable 2)) ∷ []))))))) ∷ (n 9 unit
    (Evaluate (n 10 unit (ClosureCall 1 (used 11 closure_ty Use.Move (Variable 6)) (nodes ((n 12 i32 (Number
    (pos 4))) ∷ [])))))) ∷ [])) absent)) ≡ false
closure_breaks = refl

-- a closure has its captures alone
captured_stands : of_closure (n 2 unit (Block (nodes ((n 3 unit (Evaluate (n 4 unit (Call 1 (nodes ((used 5 d_ty
    Use.Move (Captured 0 0 (codes "x"))) ∷ [])))))) ∷ [])) absent)) ≡ true
captured_stands = refl

captured_breaks : of_closure (n 2 unit (Block (nodes ((n 3 unit (Evaluate (n 4 unit (Call 1 (nodes ((used 5 d_ty
    Use.Move (Captured 0 1 (codes "x"))) ∷ [])))))) ∷ [])) absent)) ≡ false
captured_breaks = refl

-- nothing is moved out from behind a reference
behind_stands : of_look (n 1 unit (Block (nodes ((n 2 unit (Evaluate (n 3 unit (Print (used 4 i32 Use.Copy (Field (n
    5 d_ty (Deref (n 6 shared_d_ty (Variable 0)))) 0)))))) ∷ [])) absent)) ≡ true
behind_stands = refl

behind_breaks : of_look (n 1 unit (Block (nodes ((n 2 unit (Evaluate (n 3 unit (Call 1 (nodes ((used 4 d_ty Use.Move
    (Deref (n 5 shared_d_ty (Variable 0)))) ∷ [])))))) ∷ [])) absent)) ≡ false
behind_breaks = refl

-- what is behind `&` is not stored into
behind_unique_stands : of_change (n 1 unit (Block (nodes ((n 2 unit (Evaluate (n 3 unit (Assign (used 4 i32 Use.Store
    (Field (n 5 d_ty (Deref (n 6 unique_d_ty (Variable 0)))) 0)) (n 7 i32 (Number (pos 1))))))) ∷ [])) absent)) ≡ true
behind_unique_stands = refl

behind_shared_breaks : of_look (n 1 unit (Block (nodes ((n 2 unit (Evaluate (n 3 unit (Assign (used 4 i32 Use.Store
    (Field (n 5 d_ty (Deref (n 6 shared_d_ty (Variable 0)))) 0)) (n 7 i32 (Number (pos 1))))))) ∷ [])) absent)) ≡ false
behind_shared_breaks = refl

-- a reference is passed on as a borrow, and is not used by itself
reference_stands : of_look (n 1 unit (Block (nodes ((n 2 unit (Evaluate (n 3 unit (Call 2 (nodes ((n 4 shared_d_ty
    (Borrow false (used 5 d_ty Use.Borrow (Deref (n 6 shared_d_ty (Variable 0)))))) ∷ [])))))) ∷ [])) absent)) ≡ true
reference_stands = refl

reference_breaks : of_look (n 1 unit (Block (nodes ((n 2 unit (Evaluate (used 3 shared_d_ty Use.Copy (Variable 0))))
    ∷ [])) absent)) ≡ false
reference_breaks = refl

-- the items as they are
items_all : of_items (items) ≡ true
items_all = refl

-- no type is Copy beside a `Drop` impl
items_copies_a_drop : of_items (record items {
  adts =
      struct (codes "D") i32 true (Some 0) ∷ drop 1 items.adts;
}) ≡ false
items_copies_a_drop = refl

-- no type is Copy with a part that is not
items_copies_a_part : of_items (record items {
  adts =
      take 3 items.adts ++ struct (codes "H") d_ty true None ∷ [];
}) ≡ false
items_copies_a_part = refl

-- items have names that differ
items_one_name : of_items (record items {
  adts =
      take 3 items.adts ++ struct (codes "D") d_ty false (Some 7) ∷ [];
}) ≡ false
items_one_name = refl

-- no item has the name of what is built in
items_reserved : of_items (record items {
  adts =
      take 2 items.adts ++ struct (codes "Box") i32 true None ∷ drop 3 items.adts;
}) ≡ false
items_reserved = refl

-- no struct holds itself
items_endless : of_items (record items {
  adts =
      take 3 items.adts ++ struct (codes "H") h_ty false (Some 7) ∷ [];
}) ≡ false
items_endless = refl

-- no field is a reference
items_reference_field : of_items (record items {
  adts =
      take 3 items.adts ++ struct (codes "H") shared_d_ty false (Some 7) ∷ [];
}) ≡ false
items_reference_field = refl

-- an array has 32 elements at most
items_long_array : of_items (record items { types = items.types ++ Ty.Array i32 33 ∷ [] }) ≡ false
items_long_array = refl

-- an impl has each method of its trait
items_no_method : of_items (record items { impls = record { trait_no = 0; adt = 0; bodies = [] } ∷ [] }) ≡ false
items_no_method = refl

-- a trait has one impl for a type
items_two_impls : of_items (record items { impls = items.impls ++ items.impls }) ≡ false
items_two_impls = refl

-- there is a body `main`
items_no_main : of_items (record items {
  bodies =
      take 6 items.bodies ++ head (codes "other") [] unit ∷ drop 7 items.bodies;
}) ≡ false
items_no_main = refl

-- equal types have one number
items_two_types : of_items (record items { types = items.types ++ Ty.Int IntKind.I32 ∷ [] }) ≡ false
items_two_types = refl

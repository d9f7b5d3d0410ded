-- A closure holds its captures in the order of its list, and is taken by its call.
use Rattle.std.proofs.Common.{◌≡◌, refl, [], ◌∷◌, pos}
use Rattle.std.specs.Prelude.{codes}
use Rattle.mir_base.specs.declared.trace.End.{End}
use Rattle.mir_base.specs.declared.trace.Event.TheVariants.{Call as call, Return as return, Make as make, Dropped as drop, Printed as printed}
use Rattle.mir_ty.specs.declared.ty.Ty.{Ty}
use Rattle.mir_ty.specs.declared.ty.TyId.{TyId}
use Rattle.mir_ty.specs.ItemTable.{ItemTable}
use Rattle.typed_tree.specs.declared.node.Use.{Use}
use Rattle.typed_tree.specs.Tree.{absent, Number, Variable, Captured, Call, ClosureCall, Closure, Print, Block, BodyTree, ProgramTree}
use Rattle.src_meaning.specs.Programs.{source}
use Rattle.src_meaning.proofs.Examples.Words.{a_name, i32, unit, n, used, nodes, let_, stmt, body, param, ty_no, head}
use Rattle.src_meaning.proofs.Examples.WithD.{d_ty, d, drop_d, take, with_d}

abbrev closure_ty : TyId
closure_ty = ty_no 7

abbrev items : ItemTable
items = with_d (record {
  types = Ty.Closure 0 ∷ [];
  adts = [];
  traits = [];
  impls = [];
  closures = (record { captures = d_ty ∷ d_ty ∷ []; body = 3 }) ∷ [];
  bodies = head (codes "main") [] unit ∷ head (codes "main::closure#1") (closure_ty ∷ i32 ∷ []) unit ∷ [];
})

-- fn main() { let a = D(1); let b = D(2); let c = move [b, a] |n: i32| { print(n); take(a); }; c(4); }
abbrev main_called : BodyTree
main_called = body 2 [] unit
    (n 0 unit (Block (nodes (
    (let_ 1 (used 2 d_ty Use.Move a_name) (d 3 (pos 1)))
    ∷ (let_ 5 (used 6 d_ty Use.Move a_name) (d 7 (pos 2)))
    ∷ (let_ 9 (used 10 closure_ty Use.Move a_name)
    (n 11 closure_ty (Closure 0 (nodes ((used 12 d_ty Use.Move (Variable 6)) ∷
    (used 13 d_ty Use.Move (Variable 2)) ∷ [])))))
    ∷ (stmt 14 (n 15 unit (ClosureCall 3 (used 16 closure_ty Use.Move (Variable 10))
    (nodes ((n 17 i32 (Number (pos 4))) ∷ [])))))
    ∷ [])) absent))

-- the same without c(4);
abbrev main_dropped : BodyTree
main_dropped = body 2 [] unit
    (n 0 unit (Block (nodes (
    (let_ 1 (used 2 d_ty Use.Move a_name) (d 3 (pos 1)))
    ∷ (let_ 5 (used 6 d_ty Use.Move a_name) (d 7 (pos 2)))
    ∷ (let_ 9 (used 10 closure_ty Use.Move a_name)
    (n 11 closure_ty (Closure 0 (nodes ((used 12 d_ty Use.Move (Variable 6)) ∷
    (used 13 d_ty Use.Move (Variable 2)) ∷ [])))))
    ∷ [])) absent))

abbrev closure_1 : BodyTree
closure_1 =
    body 3 (param (used 0 closure_ty Use.Move a_name) closure_ty ∷ param (used 1 i32 Use.Copy a_name) i32 ∷ []) unit
    (n 2 unit (Block (nodes (
    (stmt 3 (n 4 unit (Print (used 5 i32 Use.Copy (Variable 1)))))
    ∷ (stmt 6 (n 7 unit (Call 1 (nodes ((used 8 d_ty Use.Move (Captured 0 1 (codes "x"))) ∷ [])))))
    ∷ [])) absent))

abbrev pub called : ProgramTree
called = record { items = items; bodies = drop_d ∷ take ∷ main_called ∷ closure_1 ∷ [] }

abbrev pub dropped : ProgramTree
dropped = record { items = items; bodies = drop_d ∷ take ∷ main_dropped ∷ closure_1 ∷ [] }

a_call_takes_the_closure : source called [] 100
    ≡ (
      call 2 ∷ make 0 1 ∷ make 0 2 ∷ call 3 ∷ printed (pos 4) ∷ call 1 ∷ drop 0 1 ∷ return 0 ∷ return 1 ∷
          drop 0 2 ∷ return 0 ∷ return 3 ∷ return 2 ∷ [],
      End.Returned,
    )
a_call_takes_the_closure = refl

captures_are_dropped_in_the_order_of_the_list : source dropped [] 100
    ≡ (call 2 ∷ make 0 1 ∷ make 0 2 ∷ drop 0 2 ∷ return 0 ∷ drop 0 1 ∷ return 0 ∷ return 2 ∷ [], End.Returned)
captures_are_dropped_in_the_order_of_the_list = refl

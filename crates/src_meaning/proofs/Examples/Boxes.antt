-- A box is freed after what is left of its content, and `forget` runs no destructor.
use Rattle.std.proofs.Common.{◌≡◌, refl, [], ◌∷◌, pos}
use Rattle.std.specs.Prelude.{codes}
use Rattle.mir_base.specs.declared.trace.End.{End}
use Rattle.mir_base.specs.declared.trace.Event.TheVariants.{Call as call, Return as return, Make as make, Boxed as box, Dropped as drop, Freed as free, ForgotMade as forgot_made, ForgotBox as forgot_box}
use Rattle.mir_ty.specs.declared.ty.Ty.{Ty}
use Rattle.mir_ty.specs.declared.ty.TyId.{TyId}
use Rattle.mir_ty.specs.ItemTable.{ItemTable}
use Rattle.typed_tree.specs.declared.node.Use.{Use}
use Rattle.typed_tree.specs.Tree.{absent, Variable, Field, Deref, Call, Tuple, NewBox, Forget, Block, BodyTree, ProgramTree}
use Rattle.src_meaning.specs.Programs.{source}
use Rattle.src_meaning.proofs.Examples.Words.{a_name, unit, n, used, nodes, let_, stmt, body, ty_no, head}
use Rattle.src_meaning.proofs.Examples.WithD.{d_ty, d, drop_d, take, with_d}

abbrev tuple_d_d_ty : TyId
tuple_d_d_ty = ty_no 7

abbrev boxed_tuple_d_d_ty : TyId
boxed_tuple_d_d_ty = ty_no 8

abbrev boxed_d_ty : TyId
boxed_d_ty = ty_no 9

abbrev tuple_d_boxed_d_ty : TyId
tuple_d_boxed_d_ty = ty_no 10

abbrev items : ItemTable
items = with_d (record {
  types = Ty.Tuple (d_ty ∷ d_ty ∷ []) ∷ Ty.Boxed tuple_d_d_ty ∷ Ty.Boxed d_ty ∷ Ty.Tuple (d_ty ∷ boxed_d_ty ∷ []) ∷ [];
  adts = [];
  traits = [];
  impls = [];
  closures = [];
  bodies = head (codes "main") [] unit ∷ [];
})

-- fn main() { let b = Box::new((D(1), D(2))); take(b.0); }
abbrev main_part : BodyTree
main_part = body 2 [] unit
    (n 0 unit (Block (nodes (
    (let_ 1 (used 2 boxed_tuple_d_d_ty Use.Move a_name)
    (n 3 boxed_tuple_d_d_ty (NewBox (n 4 tuple_d_d_ty (Tuple (nodes ((d 5 (pos 1)) ∷ (d 7 (pos 2)) ∷ [])))))))
    ∷ (stmt 9 (n 10 unit (Call 1 (nodes (
    (used 11 d_ty Use.Move (Field (n 12 tuple_d_d_ty (Deref (n 13 boxed_tuple_d_d_ty (Variable 2)))) 0))
    ∷ [])))))
    ∷ [])) absent))

abbrev pub part : ProgramTree
part = record { items = items; bodies = drop_d ∷ take ∷ main_part ∷ [] }

a_box_is_freed_without_a_moved_part : source part [] 100
    ≡ (
      call 2 ∷ make 0 1 ∷ make 0 2 ∷ box 3 ∷ call 1 ∷ drop 0 1 ∷ return 0 ∷ return 1 ∷ drop 0 2 ∷ return 0 ∷
          free 3 ∷ return 2 ∷ [],
      End.Returned,
    )
a_box_is_freed_without_a_moved_part = refl

-- fn main() { forget((D(1), Box::new(D(2)))); }
abbrev main_forget : BodyTree
main_forget = body 2 [] unit
    (n 0 unit (Block (nodes (
    (stmt 1 (n 2 unit (Forget (n 3 tuple_d_boxed_d_ty
    (Tuple (nodes ((d 4 (pos 1)) ∷ (n 6 boxed_d_ty (NewBox (d 7 (pos 2)))) ∷ [])))))))
    ∷ [])) absent))

abbrev pub forgotten : ProgramTree
forgotten = record { items = items; bodies = drop_d ∷ take ∷ main_forget ∷ [] }

forget_tells_of_each_part : source forgotten [] 100
    ≡ (
      call 2 ∷ make 0 1 ∷ make 0 2 ∷ box 3 ∷ forgot_made 0 1 ∷ forgot_made 0 2 ∷ forgot_box 3 ∷ return 2 ∷ [],
      End.Returned,
    )
forget_tells_of_each_part = refl

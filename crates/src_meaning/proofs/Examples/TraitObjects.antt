-- A trait object is called and dropped by the impl of the value in its box.
use Rattle.std.proofs.Common.{◌≡◌, refl, [], ◌∷◌, pos}
use Rattle.std.specs.Prelude.{Some, false, codes}
use Rattle.mir_base.specs.declared.operator.Cmp.{Cmp}
use Rattle.mir_base.specs.declared.trace.End.{End}
use Rattle.mir_base.specs.declared.trace.Event.TheVariants.{Call as call, Return as return, Unwind as unwind, Make as make, Boxed as box, Dropped as drop, Freed as free, Printed as printed, Asked as asked, Panicked as panic}
use Rattle.mir_base.specs.declared.trace.Why.{Why}
use Rattle.mir_ty.specs.declared.ty.Ty.{Ty}
use Rattle.mir_ty.specs.declared.ty.TyId.{TyId}
use Rattle.mir_ty.specs.ItemTable.{ItemTable}
use Rattle.typed_tree.specs.declared.node.Use.{Use}
use Rattle.typed_tree.specs.Tree.{no_node, absent, present, Number, Variable, Field, Deref, Comparison, Call, VirtualCall, Make, NewBox, Print, Ask, Panic, Borrow, Unsize, Block, If, BodyTree, ProgramTree}
use Rattle.src_meaning.specs.Programs.{source}
use Rattle.src_meaning.proofs.Examples.Words.{a_name, i32, unit, bool, never, n, used, nodes, fields, stmt, body, param, ty_no, struct, head}
use Rattle.src_meaning.proofs.Examples.WithD.{d_ty, shared_d_ty, d, drop_d, take, with_d}

abbrev e_ty : TyId
e_ty = ty_no 7

abbrev unique_e_ty : TyId
unique_e_ty = ty_no 8

abbrev shared_e_ty : TyId
shared_e_ty = ty_no 9

abbrev dyn_show_ty : TyId
dyn_show_ty = ty_no 10

abbrev boxed_dyn_show_ty : TyId
boxed_dyn_show_ty = ty_no 11

abbrev shared_dyn_show_ty : TyId
shared_dyn_show_ty = ty_no 12

abbrev boxed_d_ty : TyId
boxed_d_ty = ty_no 13

abbrev boxed_e_ty : TyId
boxed_e_ty = ty_no 14

abbrev items : ItemTable
items = with_d (record {
  types = Ty.Adt 1 ∷ Ty.Unique e_ty ∷ Ty.Shared e_ty ∷ Ty.Dyn 0 ∷ Ty.Boxed dyn_show_ty ∷ Ty.Shared dyn_show_ty ∷
      Ty.Boxed d_ty ∷ Ty.Boxed e_ty ∷ [];
  adts = struct (codes "E") (i32 ∷ []) (Some 2) ∷ [];
  traits = (record { name = codes "Show"; methods = head (codes "show") (shared_dyn_show_ty ∷ []) unit ∷ [] }) ∷ [];
  impls =
      (record { trait_no = 0; adt = 0; bodies = 3 ∷ [] }) ∷ (record { trait_no = 0; adt = 1; bodies = 4 ∷ [] }) ∷ [];
  closures = [];
  bodies = head (codes "E::drop") (unique_e_ty ∷ []) unit ∷ head (codes "D::show") (shared_d_ty ∷ []) unit ∷
      head (codes "E::show") (shared_e_ty ∷ []) unit ∷ head (codes "pick") [] boxed_dyn_show_ty ∷
      head (codes "run") (boxed_dyn_show_ty ∷ []) unit ∷ head (codes "main") [] unit ∷ [];
})

abbrev drop_e : BodyTree
drop_e = body 2 (param (used 0 unique_e_ty Use.Copy a_name) unique_e_ty ∷ []) unit (n 1 unit (Block no_node absent))

-- fn show(&self) { print(self.0); }
abbrev show_d : BodyTree
show_d = body 3 (param (used 0 shared_d_ty Use.Copy a_name) shared_d_ty ∷ []) unit
    (n 1 unit (Block (nodes (
    (stmt 2 (n 3 unit (Print (used 4 i32 Use.Copy (Field (n 5 d_ty (Deref (n 6 shared_d_ty (Variable 0)))) 0)))))
    ∷ [])) absent))

-- fn show(&self) { print(9); }
abbrev show_e : BodyTree
show_e = body 4 (param (used 0 shared_e_ty Use.Copy a_name) shared_e_ty ∷ []) unit
    (n 1 unit (Block (nodes ((stmt 2 (n 3 unit (Print (n 4 i32 (Number (pos 9)))))) ∷ [])) absent))

-- fn pick() -> Box<dyn Show> { if ask() == 0 { Box::new(D(1)) } else { Box::new(E(2)) } }
abbrev pick : BodyTree
pick = body 5 [] boxed_dyn_show_ty
    (n 0 boxed_dyn_show_ty (Block no_node
    (present (n 1 boxed_dyn_show_ty (If (n 2 bool (Comparison Cmp.Eq (n 3 i32 Ask) (n 4 i32 (Number (pos 0)))))
    (n 5 boxed_dyn_show_ty (Block no_node
    (present (n 6 boxed_dyn_show_ty (Unsize 0 (n 7 boxed_d_ty (NewBox (d 8 (pos 1)))))))))
    (present (n 10 boxed_dyn_show_ty (Block no_node
    (present (n 11 boxed_dyn_show_ty (Unsize 0
    (n 12 boxed_e_ty (NewBox (n 13 e_ty (Make 1 0 (fields ((0, (n 14 i32 (Number (pos 2)))) ∷ [])))))))))))))))))

-- fn run(b: Box<dyn Show>) { b.show(); panic!(); }
abbrev run : BodyTree
run = body 6 (param (used 0 boxed_dyn_show_ty Use.Move a_name) boxed_dyn_show_ty ∷ []) unit
    (n 1 never (Block (nodes (
    (stmt 2 (n 3 unit (VirtualCall 0 0 (n 4 shared_dyn_show_ty
    (Borrow false (used 5 dyn_show_ty Use.Borrow (Deref (n 6 boxed_dyn_show_ty (Variable 0)))))) no_node)))
    ∷ (stmt 7 (n 8 never Panic))
    ∷ [])) absent))

-- fn main() { run(pick()); }
abbrev main_ : BodyTree
main_ = body 7 [] unit
    (n 0 unit (Block (nodes ((stmt 1 (n 2 unit (Call 6 (nodes ((n 3 boxed_dyn_show_ty (Call 5 no_node)) ∷ []))))) ∷
    [])) absent))

abbrev pub shown : ProgramTree
shown = record { items = items; bodies = drop_d ∷ take ∷ drop_e ∷ show_d ∷ show_e ∷ pick ∷ run ∷ main_ ∷ [] }

by_the_impl_of_e : source shown (pos 1 ∷ []) 100
    ≡ (
      call 7 ∷ call 5 ∷ asked (pos 1) ∷ make 1 1 ∷ box 2 ∷ return 5 ∷ call 6 ∷ call 4 ∷ printed (pos 9) ∷
          return 4 ∷ panic Why.Explicit ∷ drop 1 1 ∷ return 2 ∷ free 2 ∷ unwind 6 ∷ unwind 7 ∷ [],
      End.Panicked,
    )
by_the_impl_of_e = refl

by_the_impl_of_d : source shown (pos 0 ∷ []) 100
    ≡ (
      call 7 ∷ call 5 ∷ asked (pos 0) ∷ make 0 1 ∷ box 2 ∷ return 5 ∷ call 6 ∷ call 3 ∷ printed (pos 1) ∷
          return 3 ∷ panic Why.Explicit ∷ drop 0 1 ∷ return 0 ∷ free 2 ∷ unwind 6 ∷ unwind 7 ∷ [],
      End.Panicked,
    )
by_the_impl_of_d = refl

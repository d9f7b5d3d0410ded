-- A virtual call and the drop of a trait object go by the impl number in the box.
use Rattle.std.proofs.Common.{◌≡◌, refl, [], ◌∷◌, pos}
use Rattle.std.specs.Prelude.{ℕ, Some, false, codes}
use Rattle.cfg_graph.specs.declared.graph.Body.{Body}
use Rattle.cfg_graph.specs.declared.graph.Graph.{Graph}
use Rattle.cfg_graph.specs.declared.graph.Kind.{Kind}
use Rattle.cfg_graph.specs.declared.place.Operand.{Operand}
use Rattle.cfg_graph.specs.declared.place.Step.{Step}
use Rattle.cfg_graph.specs.declared.statement.Stmt.{Stmt}
use Rattle.cfg_graph.specs.declared.terminator.Term.{Term}
use Rattle.cfg_graph.specs.declared.terminator.Unwind.{Unwind}
use Rattle.cfg_meaning.proofs.Examples.Words.{i32, unit, block, body, at, within, ty_no, struct, head, gives_unit}
use Rattle.cfg_meaning.specs.Programs.{graph_run}
use Rattle.mir_base.specs.declared.int_kind.IntKind.{IntKind}
use Rattle.mir_base.specs.declared.trace.End.{End}
use Rattle.mir_base.specs.declared.trace.Event.TheVariants.{Call as call, Return as return, Make as make, Boxed as box, Dropped as drop, Freed as free, Printed as printed}
use Rattle.mir_ty.specs.declared.ty.Ty.{Ty}
use Rattle.mir_ty.specs.declared.ty.TyId.{TyId}
use Rattle.mir_ty.specs.ItemTable.{ItemTable}

abbrev d_ty : TyId
d_ty = ty_no 2

abbrev unique_d_ty : TyId
unique_d_ty = ty_no 3

abbrev e_ty : TyId
e_ty = ty_no 4

abbrev unique_e_ty : TyId
unique_e_ty = ty_no 5

abbrev shared_d_ty : TyId
shared_d_ty = ty_no 6

abbrev shared_e_ty : TyId
shared_e_ty = ty_no 7

abbrev dyn_show_ty : TyId
dyn_show_ty = ty_no 8

abbrev object_ty : TyId
object_ty = ty_no 9

abbrev shared_show_ty : TyId
shared_show_ty = ty_no 10

abbrev boxed_d_ty : TyId
boxed_d_ty = ty_no 11

abbrev boxed_e_ty : TyId
boxed_e_ty = ty_no 12

abbrev items : ItemTable
items = record {
  types = Ty.Int IntKind.I32 ∷ Ty.Unit ∷ Ty.Adt 0 ∷ Ty.Unique d_ty ∷ Ty.Adt 1 ∷ Ty.Unique e_ty ∷ Ty.Shared d_ty ∷
      Ty.Shared e_ty
      ∷ Ty.Dyn 0 ∷ Ty.Boxed dyn_show_ty ∷ Ty.Shared dyn_show_ty ∷ Ty.Boxed d_ty ∷ Ty.Boxed e_ty ∷ [];
  adts = struct (codes "D") (i32 ∷ []) (Some 0) ∷ struct (codes "E") (i32 ∷ []) (Some 1) ∷ [];
  traits = (record { name = codes "Show"; methods = head (codes "show") (shared_show_ty ∷ []) unit ∷ [] }) ∷ [];
  impls =
      (record { trait_no = 0; adt = 0; bodies = 2 ∷ [] }) ∷ (record { trait_no = 0; adt = 1; bodies = 3 ∷ [] }) ∷ [];
  closures = [];
  bodies =
      head (codes "D::drop") (unique_d_ty ∷ []) unit
      ∷ head (codes "E::drop") (unique_e_ty ∷ []) unit
      ∷ head (codes "D::show") (shared_d_ty ∷ []) unit
      ∷ head (codes "E::show") (shared_e_ty ∷ []) unit
      ∷ head (codes "main") [] unit
      ∷ [];
}

-- prints its number
abbrev shows : TyId → Body
shows self = body 1 (unit ∷ self ∷ [])
    (block Kind.Plain 0 (Stmt.Print (Operand.Copied (within 1 (Step.Inside ∷ Step.Part 0 ∷ []))) ∷
    Stmt.Put (at 0) Operand.Unit ∷ []) Term.Return ∷ [])

-- boxes a value of the struct with this number, shows it as a trait object, and drops the box
abbrev main : ℕ → TyId → TyId → Body
main number adt boxed = body 0 (unit ∷ adt ∷ boxed ∷ object_ty ∷ shared_show_ty ∷ [])
    (block Kind.Plain 2
    (Stmt.Make (at 1) number 0 (Operand.Number (pos 5) IntKind.I32 ∷ [])
    ∷ Stmt.NewBox (at 2) (Operand.Moved (at 1))
    ∷ Stmt.Unsize (at 3) 0 (Operand.Moved (at 2))
    ∷ Stmt.Borrow (at 4) false (within 3 (Step.Inside ∷ [])) ∷ [])
    (Term.Virtual (at 0) 0 0 (Operand.Copied (at 4) ∷ []) 1 (Unwind.Block 3))
    ∷ block Kind.Plain 1 [] (Term.DropAt (at 3) 2 Unwind.Resume)
    ∷ block Kind.Plain 0 (Stmt.Put (at 0) Operand.Unit ∷ []) Term.Return
    ∷ block Kind.Cleanup 1 [] (Term.DropAt (at 3) 4 Unwind.Abort)
    ∷ block Kind.Cleanup 0 [] Term.Resume ∷ [])

abbrev of : ℕ → TyId → TyId → Graph
of number adt boxed = record {
  items = items;
  bodies = gives_unit unique_d_ty ∷ gives_unit unique_e_ty ∷
      shows shared_d_ty ∷ shows shared_e_ty ∷ main number adt boxed ∷ [];
}

by_the_first_impl : graph_run (of 0 d_ty boxed_d_ty) [] 100
    ≡ (
      call 4 ∷ make 0 1 ∷ box 2 ∷ call 2 ∷ printed (pos 5) ∷ return 2 ∷ drop 0 1 ∷ return 0 ∷ free 2 ∷ return 4 ∷ [],
      End.Returned,
    )
by_the_first_impl = refl

by_the_second_impl : graph_run (of 1 e_ty boxed_e_ty) [] 100
    ≡ (
      call 4 ∷ make 1 1 ∷ box 2 ∷ call 3 ∷ printed (pos 5) ∷ return 3 ∷ drop 1 1 ∷ return 1 ∷ free 2 ∷ return 4 ∷ [],
      End.Returned,
    )
by_the_second_impl = refl

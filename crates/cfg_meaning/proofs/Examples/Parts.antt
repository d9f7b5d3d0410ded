-- A part that was moved: a raw drop drops the rest, and a strict one is stuck. References that lose their place.
use Rattle.std.proofs.Common.{◌≡◌, refl, [], ◌∷◌, pos}
use Rattle.std.specs.Prelude.{Some, true, codes}
use Rattle.cfg_graph.specs.declared.graph.Body.{Body}
use Rattle.cfg_graph.specs.declared.graph.Graph.{Graph}
use Rattle.cfg_graph.specs.declared.graph.Kind.{Kind}
use Rattle.cfg_graph.specs.declared.place.Operand.{Operand}
use Rattle.cfg_graph.specs.declared.place.Step.{Step}
use Rattle.cfg_graph.specs.declared.statement.Stmt.{Stmt}
use Rattle.cfg_graph.specs.declared.terminator.Term.{Term}
use Rattle.cfg_graph.specs.declared.terminator.Unwind.{Unwind}
use Rattle.cfg_meaning.proofs.Examples.Words.{i32, unit, block, body, at, within, ty_no, struct, head, gives_unit}
use Rattle.cfg_meaning.specs.Programs.{graph_run, raw_graph_run}
use Rattle.mir_base.specs.declared.int_kind.IntKind.{IntKind}
use Rattle.mir_base.specs.declared.trace.End.{End}
use Rattle.mir_base.specs.declared.trace.Event.TheVariants.{Call as call, Return as return, Make as make, Dropped as drop}
use Rattle.mir_ty.specs.declared.ty.Ty.{Ty}
use Rattle.mir_ty.specs.declared.ty.TyId.{TyId}
use Rattle.mir_ty.specs.ItemTable.{ItemTable}

abbrev d_ty : TyId
d_ty = ty_no 2

abbrev unique_d_ty : TyId
unique_d_ty = ty_no 3

abbrev pair_ty : TyId
pair_ty = ty_no 4

abbrev unique_i32_ty : TyId
unique_i32_ty = ty_no 5

abbrev items : ItemTable
items = record {
  types = Ty.Int IntKind.I32 ∷ Ty.Unit ∷ Ty.Adt 0 ∷ Ty.Unique d_ty ∷ Ty.Tuple (d_ty ∷ d_ty ∷ []) ∷ Ty.Unique i32 ∷ [];
  adts = struct (codes "D") (i32 ∷ []) (Some 0) ∷ [];
  traits = [];
  impls = [];
  closures = [];
  bodies = head (codes "D::drop") (unique_d_ty ∷ []) unit ∷ head (codes "main") [] unit ∷ [];
}

abbrev drop_d : Body
drop_d = gives_unit unique_d_ty

abbrev one : Operand
one = Operand.Number (pos 1) IntKind.I32

-- the first part of a pair is moved away and forgotten, and the pair is dropped
abbrev main : Body
main = body 0 (unit ∷ d_ty ∷ d_ty ∷ pair_ty ∷ [])
    (block Kind.Plain 1
    (Stmt.Make (at 1) 0 0 (one ∷ []) ∷ Stmt.Make (at 2) 0 0 (one ∷ []) ∷
    Stmt.Tuple (at 3) (Operand.Moved (at 1) ∷ Operand.Moved (at 2) ∷ [])
    ∷ Stmt.Put (at 1) (Operand.Moved (within 3 (Step.Part 0 ∷ []))) ∷ [])
    (Term.DropAt (at 3) 1 Unwind.Resume)
    ∷ block Kind.Plain 0 (Stmt.Put (at 0) Operand.Unit ∷ []) Term.Return ∷ [])

abbrev moved_part : Graph
moved_part = record { items = items; bodies = drop_d ∷ main ∷ [] }

the_rest_is_dropped : raw_graph_run moved_part [] 100
    ≡ (call 1 ∷ make 0 1 ∷ make 0 2 ∷ drop 0 2 ∷ return 0 ∷ return 1 ∷ [], End.Returned)
the_rest_is_dropped = refl

a_strict_drop_is_stuck : graph_run moved_part [] 100 ≡ (call 1 ∷ make 0 1 ∷ make 0 2 ∷ [], End.Stuck 1 0)
a_strict_drop_is_stuck = refl

-- a reference to a number of a value that is moved away before it is used
abbrev lost : Body
lost = body 0 (unit ∷ d_ty ∷ d_ty ∷ unique_i32_ty ∷ [])
    (block Kind.Plain 1
    (Stmt.Make (at 1) 0 0 (one ∷ []) ∷ Stmt.Borrow (at 3) true (within 1 (Step.Part 0 ∷ [])) ∷
    Stmt.Put (at 2) (Operand.Moved (at 1))
    ∷ Stmt.Print (Operand.Copied (within 3 (Step.Inside ∷ []))) ∷ [])
    (Term.Goto 1)
    ∷ block Kind.Plain 0 (Stmt.Put (at 0) Operand.Unit ∷ []) Term.Return ∷ [])

a_reference_that_has_lost_its_place : raw_graph_run (record { items = items; bodies = drop_d ∷ lost ∷ [] }) [] 100
    ≡ (call 1 ∷ make 0 1 ∷ [], End.Stuck 1 0)
a_reference_that_has_lost_its_place = refl

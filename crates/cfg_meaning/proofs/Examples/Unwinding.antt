-- Destructors that panic: on the calm way the rest is dropped in cleanup blocks, and in a cleanup block the run aborts.
use Rattle.std.proofs.Common.{◌≡◌, refl, [], ◌∷◌, pos, negsuc}
use Rattle.std.specs.Prelude.{Some, codes}
use Rattle.cfg_graph.specs.declared.graph.Body.{Body}
use Rattle.cfg_graph.specs.declared.graph.Graph.{Graph}
use Rattle.cfg_graph.specs.declared.graph.Kind.{Kind}
use Rattle.cfg_graph.specs.declared.place.Operand.{Operand}
use Rattle.cfg_graph.specs.declared.place.Step.{Step}
use Rattle.cfg_graph.specs.declared.statement.Stmt.{Stmt}
use Rattle.cfg_graph.specs.declared.terminator.Term.{Term}
use Rattle.cfg_graph.specs.declared.terminator.Unwind.{Unwind}
use Rattle.cfg_meaning.proofs.Examples.Words.{i32, unit, block, body, at, within, ty_no, struct, head}
use Rattle.cfg_meaning.specs.Programs.{graph_run}
use Rattle.mir_base.specs.declared.int_kind.IntKind.{IntKind}
use Rattle.mir_base.specs.declared.operator.Cmp.{Cmp}
use Rattle.mir_base.specs.declared.trace.End.{End}
use Rattle.mir_base.specs.declared.trace.Event.TheVariants.{Call as call, Return as return, Unwind as unwind, Make as make, Dropped as drop, Panicked as panic}
use Rattle.mir_base.specs.declared.trace.Why.{Why}
use Rattle.mir_ty.specs.declared.ty.Ty.{Ty}
use Rattle.mir_ty.specs.declared.ty.TyId.{TyId}
use Rattle.mir_ty.specs.ItemTable.{ItemTable}

abbrev n_ty : TyId
n_ty = ty_no 2

abbrev unique_n_ty : TyId
unique_n_ty = ty_no 3

abbrev bool : TyId
bool = ty_no 4

abbrev items : ItemTable
items = record {
  types = Ty.Int IntKind.I32 ∷ Ty.Unit ∷ Ty.Adt 0 ∷ Ty.Unique n_ty ∷ Ty.Bool ∷ [];
  adts = struct (codes "N") (i32 ∷ []) (Some 0) ∷ [];
  traits = [];
  impls = [];
  closures = [];
  bodies = head (codes "N::drop") (unique_n_ty ∷ []) unit ∷ head (codes "main") [] unit ∷ [];
}

-- a negative number panics as it is dropped
abbrev drop_n : Body
drop_n = body 1 (unit ∷ unique_n_ty ∷ bool ∷ [])
    (block Kind.Plain 1 (Stmt.Compare (at 2) Cmp.Lt (Operand.Copied (within 1 (Step.Inside ∷ Step.Part 0 ∷ [])))
    (Operand.Number (pos 0) IntKind.I32) ∷ [])
    (Term.If (Operand.Moved (at 2)) 1 2)
    ∷ block Kind.Plain 0 [] (Term.Panic Why.Explicit Unwind.Resume)
    ∷ block Kind.Plain 0 (Stmt.Put (at 0) Operand.Unit ∷ []) Term.Return ∷ [])

-- two values, of which the second is dropped first
abbrev main : Operand → Operand → Body
main first second = body 0 (unit ∷ n_ty ∷ n_ty ∷ [])
    (block Kind.Plain 2 (Stmt.Make (at 1) 0 0 (first ∷ []) ∷ Stmt.Make (at 2) 0 0 (second ∷ []) ∷ [])
    (Term.DropAt (at 2) 1 (Unwind.Block 3))
    ∷ block Kind.Plain 1 [] (Term.DropAt (at 1) 2 Unwind.Resume)
    ∷ block Kind.Plain 0 (Stmt.Put (at 0) Operand.Unit ∷ []) Term.Return
    ∷ block Kind.Cleanup 1 [] (Term.DropAt (at 1) 4 Unwind.Abort)
    ∷ block Kind.Cleanup 0 [] Term.Resume ∷ [])

abbrev of : Operand → Operand → Graph
of first second = record { items = items; bodies = drop_n ∷ main first second ∷ [] }

abbrev calm : Operand
calm = Operand.Number (pos 1) IntKind.I32

abbrev panics : Operand
panics = Operand.Number (negsuc 0) IntKind.I32

no_panic : graph_run (of calm calm) [] 100
    ≡ (call 1 ∷ make 0 1 ∷ make 0 2 ∷ drop 0 2 ∷ return 0 ∷ drop 0 1 ∷ return 0 ∷ return 1 ∷ [], End.Returned)
no_panic = refl

on_the_calm_way : graph_run (of calm panics) [] 100
    ≡ (
      call 1 ∷ make 0 1 ∷ make 0 2 ∷ drop 0 2 ∷ panic Why.Explicit ∷ unwind 0 ∷ drop 0 1 ∷ return 0 ∷ unwind 1 ∷ [],
      End.Panicked,
    )
on_the_calm_way = refl

the_last_on_the_calm_way : graph_run (of panics calm) [] 100
    ≡ (
      call 1 ∷ make 0 1 ∷ make 0 2 ∷ drop 0 2 ∷ return 0 ∷ drop 0 1 ∷ panic Why.Explicit ∷ unwind 0 ∷ unwind 1 ∷ [],
      End.Panicked,
    )
the_last_on_the_calm_way = refl

in_a_cleanup_block : graph_run (of panics panics) [] 100
    ≡ (
      call 1 ∷ make 0 1 ∷ make 0 2 ∷ drop 0 2 ∷ panic Why.Explicit ∷ unwind 0 ∷ drop 0 1 ∷ panic Why.Explicit ∷
          unwind 0 ∷ [],
      End.Aborted,
    )
in_a_cleanup_block = refl

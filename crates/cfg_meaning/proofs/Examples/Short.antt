-- A short graph: a value is made and dropped.
use Rattle.std.proofs.Common.{◌≡◌, refl, [], ◌∷◌, pos}
use Rattle.std.specs.Prelude.{Some, codes}
use Rattle.cfg_graph.specs.declared.graph.Body.{Body}
use Rattle.cfg_graph.specs.declared.graph.Graph.{Graph}
use Rattle.cfg_graph.specs.declared.graph.Kind.{Kind}
use Rattle.cfg_graph.specs.declared.place.Operand.{Operand}
use Rattle.cfg_graph.specs.declared.statement.Stmt.{Stmt}
use Rattle.cfg_graph.specs.declared.terminator.Term.{Term}
use Rattle.cfg_graph.specs.declared.terminator.Unwind.{Unwind}
use Rattle.cfg_meaning.proofs.Examples.Words.{i32, unit, block, body, at, ty_no, struct, head, gives_unit}
use Rattle.cfg_meaning.specs.Programs.{graph_run, raw_graph_run}
use Rattle.mir_base.specs.declared.int_kind.IntKind.{IntKind}
use Rattle.mir_base.specs.declared.trace.End.{End}
use Rattle.mir_base.specs.declared.trace.Event.TheVariants.{Call as call, Return as return, Make as make, Dropped as drop}
use Rattle.mir_ty.specs.declared.ty.Ty.{Ty}
use Rattle.mir_ty.specs.declared.ty.TyId.{TyId}
use Rattle.mir_ty.specs.ItemTable.{ItemTable}

abbrev d_ty : TyId
d_ty = ty_no 2

abbrev unique_d_ty : TyId
unique_d_ty = ty_no 3

abbrev items : ItemTable
items = record {
  types = Ty.Int IntKind.I32 ∷ Ty.Unit ∷ Ty.Adt 0 ∷ Ty.Unique d_ty ∷ [];
  adts = struct (codes "D") (i32 ∷ []) (Some 0) ∷ [];
  traits = [];
  impls = [];
  closures = [];
  bodies = head (codes "D::drop") (unique_d_ty ∷ []) unit ∷ head (codes "main") [] unit ∷ [];
}

abbrev drop_d : Body
drop_d = gives_unit unique_d_ty

abbrev main : Body
main = body 0 (unit ∷ d_ty ∷ [])
    (block Kind.Plain 1 (Stmt.Make (at 1) 0 0 (Operand.Number (pos 7) IntKind.I32 ∷ []) ∷ [])
    (Term.DropAt (at 1) 1 Unwind.Resume)
    ∷ block Kind.Plain 0 (Stmt.Put (at 0) Operand.Unit ∷ []) Term.Return ∷ [])

abbrev short : Graph
short = record { items = items; bodies = drop_d ∷ main ∷ [] }

its_trace : graph_run short [] 100 ≡ (call 1 ∷ make 0 1 ∷ drop 0 1 ∷ return 0 ∷ return 1 ∷ [], End.Returned)
its_trace = refl

in_two_ticks : graph_run short [] 2 ≡ (call 1 ∷ make 0 1 ∷ drop 0 1 ∷ return 0 ∷ return 1 ∷ [], End.Returned)
in_two_ticks = refl

out_of_ticks : graph_run short [] 1 ≡ (call 1 ∷ make 0 1 ∷ [], End.OutOfTicks)
out_of_ticks = refl

as_a_raw_graph : raw_graph_run short [] 100 ≡ graph_run short [] 100
as_a_raw_graph = refl

-- without the statement that makes the value
abbrev nothing_made : Body
nothing_made = body 0 (unit ∷ d_ty ∷ [])
    (block Kind.Plain 1 [] (Term.DropAt (at 1) 1 Unwind.Resume) ∷
    block Kind.Plain 0 (Stmt.Put (at 0) Operand.Unit ∷ []) Term.Return ∷ [])

abbrev unmade : Graph
unmade = record { items = items; bodies = drop_d ∷ nothing_made ∷ [] }

a_strict_drop_is_stuck : graph_run unmade [] 100 ≡ (call 1 ∷ [], End.Stuck 1 0)
a_strict_drop_is_stuck = refl

a_raw_drop_does_nothing : raw_graph_run unmade [] 100 ≡ (call 1 ∷ return 1 ∷ [], End.Returned)
a_raw_drop_does_nothing = refl

-- the result is not made
abbrev without_result : Body
without_result = body 0 (unit ∷ []) (block Kind.Plain 0 [] Term.Return ∷ [])

a_result_that_is_gone : graph_run (record { items = items; bodies = drop_d ∷ without_result ∷ [] }) [] 100
    ≡ (call 1 ∷ [], End.Stuck 1 0)
a_result_that_is_gone = refl

-- a loop that never ends
abbrev endless : Body
endless = body 0 (unit ∷ []) (block Kind.Plain 1 [] (Term.Goto 1) ∷ block Kind.Turn 0 [] (Term.Goto 1) ∷ [])

turns_spend_ticks : graph_run (record { items = items; bodies = drop_d ∷ endless ∷ [] }) [] 1000
    ≡ (call 1 ∷ [], End.OutOfTicks)
turns_spend_ticks = refl

-- a loop whose turn block follows a block of the least rank
abbrev endless_from_the_least : Body
endless_from_the_least =
    body 0 (unit ∷ []) (block Kind.Plain 0 [] (Term.Goto 1) ∷ block Kind.Turn 0 [] (Term.Goto 1) ∷ [])

a_turn_block_needs_no_lower_rank : graph_run (record { items = items; bodies = drop_d ∷ endless_from_the_least ∷ [] })
    [] 3 ≡ (call 1 ∷ [], End.OutOfTicks)
a_turn_block_needs_no_lower_rank = refl

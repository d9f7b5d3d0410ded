use Rattle.std.proofs.Common.{◌≡◌, ◌++◌, drop, length}
use Rattle.mir_ty.specs.ItemTable.{ItemTable}
use Rattle.cfg_graph.specs.declared.graph.Body.{Body}
use Rattle.drop_elaborate.specs.Elaborated.{with_flags}
use Rattle.drop_flags.specs.Flags.{AreFlags, paths_of}
use Rattle.drop_flags.proofs.flags.Flags.add_stmts.Given as goal

abbrev pub invariant-loop-stmt : goal.invariant-loop-stmt
invariant-loop-stmt l =
    (items : ItemTable) (body : Body) → AreFlags items body l.self →
    l.stmts ++ with_flags items body (paths_of l.self) (drop (length l.yielded) l.fn.lines)
    ≡ l.initial.stmts ++ with_flags items body (paths_of l.self) l.fn.lines

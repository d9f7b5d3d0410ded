use Rattle.std.proofs.Common.{◌≡◌, ◌++◌, drop}
use Rattle.cfg_graph.specs.Moves.Actions.{stmt_actions}
use Rattle.look_moves.specs.Actions.{seen}
use Rattle.look_moves.proofs.actions.add_stmts.Given as goal

abbrev pub invariant-loop-stmt : goal.invariant-loop-stmt
invariant-loop-stmt l =
    seen l.out ++ stmt_actions l.block l.line (drop l.stmt-index l.stmts)
    ≡ seen l.initial.out ++ stmt_actions l.block 0 l.stmts

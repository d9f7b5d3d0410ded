use Rattle.std.proofs.Common.{take, flat_map}
use Rattle.cfg_graph.specs.Uses.{stmt_uses}
use Rattle.drop_plans.specs.Passing.{Passes}
use Rattle.drop_plans.proofs.facts.pass_stmts.Given as goal

abbrev pub invariant-loop-stmt : goal.invariant-loop-stmt
invariant-loop-stmt l =
    Passes l.forest.paths l.gone l.below (flat_map stmt_uses (take l.stmt-index l.stmts)) l.initial.row l.row

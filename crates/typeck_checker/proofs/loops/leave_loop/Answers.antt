use Rattle.std.proofs.Common.{refl}
use Rattle.typeck_checker.proofs.Innermost.{left_by}
use Rattle.typeck_checker.proofs.loops.leave_loop.Goals as goal

pub returns-clause-left : goal.returns-clause-left
returns-clause-left c =
    left_by c.args.checker.now.tables c.args.checker.now.around _ c.pop.result c.pop.ensures refl refl refl

use Rattle.std.proofs.Common.{◌≤◌, ◌∙◌, arith}
use Rattle.typeck_checker.specs.Stand.{env}
use Rattle.typeck_checker.proofs.Left.{left_one}
use Rattle.typeck_checker.proofs.binding_scopes.leave.Goals as goal

pub loop-n-preserved : goal.loop-n-preserved
loop-n-preserved c =
    let before = c.loop-n.invariant.others in
    let after = c.leave_one.ensures.others in
    let enough : c.args.to ≤ c.loop-n._n = omega arith in
    record {
      left = left_one (env c.args.checker.now) (env c.loop-n.checker) (env c.leave_one.new.checker) c.loop-n._n c.args.to enough c.loop-n.invariant.left c.leave_one.ensures.left;
      others = (after.0 ∙ before.0, after.1 ∙ before.1, after.2 ∙ before.2);
    }

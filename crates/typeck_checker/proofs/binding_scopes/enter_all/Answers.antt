use Rattle.std.proofs.Common.{◌≡◌, Some, reverse, slice_get, ◌∙◌, rules}
use Rattle.typeck_env.specs.Scope.{entry_of}
use Rattle.typeck_checker.specs.Stand.{env}
use Rattle.typeck_checker.proofs.Left.{enters_one}
use Rattle.typeck_checker.proofs.binding_scopes.enter_all.Goals as goal

pub loop-n-preserved : goal.loop-n-preserved
loop-n-preserved c =
    let before = c.loop-n.invariant.others in
    let after = c.in_ok-enter_again.ensures.others in
    let at : slice_get (reverse c.args.bound.now) c.loop-n.n ≡ Some (entry_of c.in-Some.variable.now) = search rules in
    record {
      entered = enters_one c.args.within_guard (env c.args.checker.now) (env c.loop-n.checker) (env c.enter_again.new.checker) (reverse c.args.bound.now) c.loop-n.n (entry_of c.in-Some.variable.now) at c.loop-n.invariant.entered c.in_ok-enter_again.ensures.entered;
      others = (after.0 ∙ before.0, after.1 ∙ before.1, after.2 ∙ before.2);
    }

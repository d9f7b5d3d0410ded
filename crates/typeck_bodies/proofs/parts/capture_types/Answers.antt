use Rattle.std.proofs.Common.{◌≡◌, Some, reverse, slice_get, rules}
use Rattle.typeck_env.specs.Scope.{entry_of}
use Rattle.typeck_bodies.proofs.Types.{one_type}
use Rattle.typeck_bodies.proofs.parts.capture_types.Goals as goal

pub loop-n-preserved : goal.loop-n-preserved
loop-n-preserved c =
    let at : slice_get (reverse c.args.bound.now) c.loop-n.n ≡ Some (entry_of c.in-Some.variable.now) = search rules in
    one_type c.loop-n.tys c.push_to.new.list (reverse c.args.bound.now) c.loop-n.n (entry_of c.in-Some.variable.now) at c.loop-n.invariant c.in_ok-push_to.ensures.pushed

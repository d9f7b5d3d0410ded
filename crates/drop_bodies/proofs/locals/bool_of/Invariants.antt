use Rattle.std.proofs.Common.{◌-◌, length}
use Rattle.drop_bodies.proofs.Numbers.{HasNoneBefore}
use Rattle.drop_bodies.proofs.locals.bool_of.Given as goal

abbrev pub invariant-loop-n : goal.invariant-loop-n
invariant-loop-n l = HasNoneBefore l.items.types l.n

abbrev pub decreases-loop-n : goal.decreases-loop-n
decreases-loop-n l = length l.items.types - l.n

use Rattle.std.proofs.Common.{length, ◌-◌}
use Rattle.lower_locals.proofs.Positions.{HasNoneBefore}
use Rattle.lower_locals.proofs.bool_type.bool_ty.Given as goal

abbrev pub invariant-loop-number : goal.invariant-loop-number
invariant-loop-number l = HasNoneBefore l.items.types l.number

abbrev pub decreases-loop-number : goal.decreases-loop-number
decreases-loop-number l = length l.items.types - l.number

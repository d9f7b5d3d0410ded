use Rattle.std.proofs.Common.{◌-◌, length}
use Rattle.vtable_rows.proofs.RowByRow.{SoFar}
use Rattle.vtable_rows.proofs.build_rows.rows.Given as goal

abbrev pub invariant-loop-of : goal.invariant-loop-of
invariant-loop-of l = SoFar l.items l.made

abbrev pub decreases-loop-of : goal.decreases-loop-of
decreases-loop-of l = length l.items.impls - length l.made

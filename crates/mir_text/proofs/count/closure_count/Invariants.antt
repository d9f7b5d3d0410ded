use Rattle.std.proofs.Common.{◌≤◌, ◌-◌, length}
use Rattle.mir_text.proofs.count.closure_count.Given as goal

abbrev pub invariant-loop-n : goal.invariant-loop-n
invariant-loop-n l = l.n ≤ length l.items.closures

abbrev pub decreases-loop-n : goal.decreases-loop-n
decreases-loop-n l = length l.items.closures - l.n

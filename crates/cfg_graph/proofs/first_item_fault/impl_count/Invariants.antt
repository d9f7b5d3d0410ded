use Rattle.std.proofs.Common.{◌≤◌, ◌-◌, length}
use Rattle.cfg_graph.proofs.first_item_fault.impl_count.Given as goal

abbrev pub invariant-loop-def : goal.invariant-loop-def
invariant-loop-def l = l.n ≤ length l.items.impls

abbrev pub decreases-loop-def : goal.decreases-loop-def
decreases-loop-def l = length l.items.impls - l.n

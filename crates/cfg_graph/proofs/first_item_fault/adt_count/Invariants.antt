use Rattle.std.proofs.Common.{◌≤◌, ◌-◌, length}
use Rattle.cfg_graph.proofs.first_item_fault.adt_count.Given as goal

abbrev pub invariant-loop-adt : goal.invariant-loop-adt
invariant-loop-adt l = l.n ≤ length l.items.adts

abbrev pub decreases-loop-adt : goal.decreases-loop-adt
decreases-loop-adt l = length l.items.adts - l.n

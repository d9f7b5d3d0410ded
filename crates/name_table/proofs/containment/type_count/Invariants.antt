use Rattle.std.proofs.Common.{◌≤◌, ◌-◌, length}
use Rattle.name_table.proofs.containment.type_count.Given as goal

abbrev pub invariant-loop-ty : goal.invariant-loop-ty
invariant-loop-ty l = l.n ≤ length l.items.types

abbrev pub decreases-loop-ty : goal.decreases-loop-ty
decreases-loop-ty l = length l.items.types - l.n

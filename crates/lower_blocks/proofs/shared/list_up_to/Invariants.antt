use Rattle.std.proofs.Common.{◌≡◌, ◌-◌, ℕ, suc, length}
use Rattle.lower_blocks.specs.Building.{blocks_at}
use Rattle.lower_blocks.proofs.shared.list_up_to.Given as goal

abbrev pub invariant-loop-alloc : goal.invariant-loop-alloc
invariant-loop-alloc l = (i : ℕ) → blocks_at l.lists i ≡ blocks_at l.initial.lists i

abbrev pub decreases-loop-alloc : goal.decreases-loop-alloc
decreases-loop-alloc l = suc l.place - length l.lists

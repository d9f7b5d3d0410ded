use Rattle.std.proofs.Common.{◌≡◌, ℕ, suc, ◌-◌, length}
use Rattle.machine_store.specs.Frames.{place_in}
use Rattle.machine_store.proofs.frame.widen.Given as goal

abbrev pub invariant-loop-index : goal.invariant-loop-index
invariant-loop-index l = (other : ℕ) → place_in l.index other ≡ place_in l.initial.index other

abbrev pub decreases-loop-index : goal.decreases-loop-index
decreases-loop-index l = suc l.key - length l.index

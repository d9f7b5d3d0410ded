use Rattle.std.proofs.Common.{◌≡◌, ◌++◌, length, map}
use Rattle.lower_code.specs.View.{entry_of}
use Rattle.src_meaning.specs.Scopes.{needing_drop}
use Rattle.lower_passes.specs.Scoped.{held}
use Rattle.lower_passes.proofs.drops.add_needing.Given as goal

abbrev pub invariant-loop-at : goal.invariant-loop-at
invariant-loop-at l =
    map entry_of l.drops.items ++ needing_drop l.items (held l.at)
    ≡ map entry_of l.fn.drops.items ++ needing_drop l.items (held l.entries)

abbrev pub decreases-loop-at : goal.decreases-loop-at
decreases-loop-at l = length (held l.at)

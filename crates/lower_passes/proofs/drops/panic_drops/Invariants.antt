use Rattle.std.proofs.Common.{◌≡◌, ◌++◌, length, map}
use Rattle.lower_code.specs.View.{entry_of}
use Rattle.src_meaning.specs.Scopes.{needing_drop, all_entries}
use Rattle.lower_passes.specs.Scoped.{scopes_of}
use Rattle.lower_passes.proofs.drops.panic_drops.Given as goal

abbrev pub invariant-loop-at : goal.invariant-loop-at
invariant-loop-at l =
    map entry_of l.drops.items ++ needing_drop l.items (all_entries (scopes_of l.at))
    ≡ needing_drop l.items (all_entries (scopes_of l.scopes))

abbrev pub decreases-loop-at : goal.decreases-loop-at
decreases-loop-at l = length (scopes_of l.at)

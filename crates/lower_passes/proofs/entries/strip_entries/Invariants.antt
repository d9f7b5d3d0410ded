use Rattle.std.proofs.Common.{◌≡◌, ◌≤◌, length}
use Rattle.lower_code.specs.View.{keys_seen}
use Rattle.src_meaning.specs.Scopes.{without_keys}
use Rattle.lower_passes.specs.Scoped.{held}
use Rattle.lower_passes.proofs.entries.strip_entries.Given as goal

abbrev pub invariant-loop-left : goal.invariant-loop-left
invariant-loop-left l =
    (without_keys (keys_seen l.keys) (held l.rest) ≡ without_keys (keys_seen l.keys) (held l.entries)) × (l.left ≤ length l.keys)

abbrev pub decreases-loop-left : goal.decreases-loop-left
decreases-loop-left l = l.left

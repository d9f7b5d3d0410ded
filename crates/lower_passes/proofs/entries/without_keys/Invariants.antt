use Rattle.std.proofs.Common.{◌≡◌, drop}
use Rattle.lower_code.specs.View.{keys_seen}
use Rattle.src_meaning.specs.Scopes.{without_keys}
use Rattle.lower_passes.specs.Scoped.{held}
use Rattle.lower_passes.proofs.entries.without_keys.Given as goal

abbrev pub invariant-loop-key : goal.invariant-loop-key
invariant-loop-key l =
    without_keys (keys_seen (drop l.key-index l.keys)) (held l.left)
    ≡ without_keys (keys_seen l.keys) (held l.entries)

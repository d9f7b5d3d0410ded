use Rattle.std.proofs.Common.{◌≡◌, ◌++◌, ℕ, map, drop}
use Rattle.cfg_meaning.specs.Actions.{operands_of}
use Rattle.src_meaning.specs.Forms.{moved}
use Rattle.lower_code.specs.View.{keys_seen}
use Rattle.lower_code.proofs.operations.moved_keys.Given as goal

abbrev pub invariant-loop-key : goal.invariant-loop-key
invariant-loop-key l =
    (node : ℕ) → operands_of node l.operands ++ map (moved node) (keys_seen (drop l.key-index l.keys))
    ≡ map (moved node) (keys_seen l.keys)

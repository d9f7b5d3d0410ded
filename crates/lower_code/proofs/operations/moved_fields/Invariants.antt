use Rattle.std.proofs.Common.{◌≡◌, ◌++◌, ℕ, map, drop}
use Rattle.src_meaning.specs.FieldKeys.{moved_fields}
use Rattle.cfg_meaning.specs.Actions.{operands_of}
use Rattle.lower_code.specs.View.{numbered}
use Rattle.lower_code.proofs.operations.moved_fields.Given as goal

abbrev pub invariant-loop-field : goal.invariant-loop-field
invariant-loop-field l =
    (node : ℕ) → operands_of node l.operands ++ moved_fields node (map numbered (drop l.field-index l.fields))
    ≡ moved_fields node (map numbered l.fields)

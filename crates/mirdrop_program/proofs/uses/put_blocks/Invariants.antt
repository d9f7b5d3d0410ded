use Rattle.std.proofs.Common.{◌≡◌, ◌++◌, take}
use Rattle.std.specs.String.{string_bytes}
use Rattle.mirdrop_program.specs.Lines.{behind_blanks}
use Rattle.mirdrop_program.proofs.uses.put_blocks.Given as goal

abbrev pub invariant-loop-block : goal.invariant-loop-block
invariant-loop-block l = string_bytes l.out ≡ string_bytes l.initial.out ++ behind_blanks (take l.block-index l.path)

use Rattle.std.proofs.Common.{◌≡◌, take}
use Rattle.mir_text.specs.Answers.{blocks_lines}
use Rattle.mir_text.proofs.count.blocks_lines.Given as goal

abbrev pub invariant-loop-block : goal.invariant-loop-block
invariant-loop-block l = l.lines ≡ blocks_lines (take l.block-index l.blocks)

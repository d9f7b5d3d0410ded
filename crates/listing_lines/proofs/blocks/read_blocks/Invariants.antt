use Rattle.std.proofs.Common.{◌≡◌, ◌-◌, length}
use Rattle.listing_lines.specs.CodeReading.{code_read, blocks_read}
use Rattle.listing_lines.proofs.Until.{so_far}
use Rattle.listing_lines.proofs.blocks.read_blocks.Given as goal

abbrev pub invariant-loop-n : goal.invariant-loop-n
invariant-loop-n l = blocks_read l.heads l.text ≡ so_far (code_read l.heads) (length l.text - l.n) l.n l.blocks l.rest

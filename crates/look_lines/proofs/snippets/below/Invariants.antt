use Rattle.std.proofs.Common.{◌≡◌, take}
use Rattle.look_lines.specs.Snippets.{below}
use Rattle.look_lines.proofs.snippets.below.Given as goal

abbrev pub invariant-loop-byte : goal.invariant-loop-byte
invariant-loop-byte l = l.blanks.items ≡ below (take l.byte-index l.bytes)

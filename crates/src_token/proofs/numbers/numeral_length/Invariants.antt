use Rattle.std.proofs.Common.{◌≡◌, ◌+◌, drop}
use Rattle.std.specs.List.{prefix_len}
use Rattle.src_token.specs.Numbers.{is_numeral}
use Rattle.src_token.proofs.numbers.numeral_length.Given as goal

abbrev pub invariant-loop-i : goal.invariant-loop-i
invariant-loop-i l = prefix_len is_numeral l.run ≡ l.i + prefix_len is_numeral (drop l.i l.run)

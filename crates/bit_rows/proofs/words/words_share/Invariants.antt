use Rattle.std.proofs.Common.{◌≡◌, drop}
use Rattle.bit_rows.specs.Words.{share}
use Rattle.bit_rows.proofs.words.words_share.Given as goal

abbrev pub invariant-loop-at : goal.invariant-loop-at
invariant-loop-at l = share (drop l.at l.one) (drop l.at l.other) ≡ share l.one l.other

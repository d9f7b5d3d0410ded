use Rattle.std.proofs.Common.{◌*◌, bit_or}
use Rattle.bit_rows.proofs.Passes.{IsPass}
use Rattle.bit_rows.proofs.words.or_words.Given as goal

abbrev pub invariant-loop-n : goal.invariant-loop-n
invariant-loop-n l = IsPass bit_or (l.n * 8) l.fn.from l.fn.into l.into l.changed

abbrev pub invariant-loop-at : goal.invariant-loop-at
invariant-loop-at l = IsPass bit_or l.at l.fn.from l.fn.into l.into l.changed

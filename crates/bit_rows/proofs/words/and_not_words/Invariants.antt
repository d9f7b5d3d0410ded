use Rattle.std.proofs.Common.{◌*◌}
use Rattle.bit_rows.specs.Words.{without}
use Rattle.bit_rows.proofs.Passes.{IsPass}
use Rattle.bit_rows.proofs.words.and_not_words.Given as goal

abbrev pub invariant-loop-n : goal.invariant-loop-n
invariant-loop-n l = IsPass without (l.n * 8) l.fn.from l.fn.into l.into l.changed

abbrev pub invariant-loop-at : goal.invariant-loop-at
invariant-loop-at l = IsPass without l.at l.fn.from l.fn.into l.into l.changed

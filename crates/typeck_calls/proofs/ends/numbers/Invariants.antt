use Rattle.std.proofs.Common.{◌≡◌}
use Rattle.typeck_calls.specs.Numbers.{numbers_from}
use Rattle.typeck_calls.proofs.ends.numbers.Given as goal

abbrev pub invariant-loop-number : goal.invariant-loop-number
invariant-loop-number l = l.numbers ≡ numbers_from 0 l.number

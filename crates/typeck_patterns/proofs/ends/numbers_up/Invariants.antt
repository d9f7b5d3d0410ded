use Rattle.std.proofs.Common.{◌≡◌}
use Rattle.typeck_patterns.specs.Numbers.{numbers_below}
use Rattle.typeck_patterns.proofs.ends.numbers_up.Given as goal

abbrev pub invariant-loop-number : goal.invariant-loop-number
invariant-loop-number l = l.numbers ≡ numbers_below l.number

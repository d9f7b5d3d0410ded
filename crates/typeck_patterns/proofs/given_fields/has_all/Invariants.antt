use Rattle.std.proofs.Common.{◌≡◌}
use Rattle.typeck_patterns.specs.Given.{has_all}
use Rattle.typeck_patterns.proofs.given_fields.has_all.Given as goal

abbrev pub invariant-loop-number : goal.invariant-loop-number
invariant-loop-number l = l.all ≡ has_all l.number l.seen.keys

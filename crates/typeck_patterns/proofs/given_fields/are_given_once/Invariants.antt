use Rattle.std.proofs.Common.{◌≡◌, ℕ, take}
use Rattle.typing_rules.specs.Patterns as rules
use Rattle.typing_rules.specs.Rows as rows
use Rattle.typeck_patterns.specs.Given.{has}
use Rattle.typeck_patterns.proofs.given_fields.are_given_once.Given as goal

abbrev pub invariant-loop-number : goal.invariant-loop-number
invariant-loop-number l =
    record {
      once : l.once ≡ rules.are_given_once (take l.number-index l.given);
      noted : (n : ℕ) → has n l.seen.keys ≡ rows.is_given n (take l.number-index l.given);
    }

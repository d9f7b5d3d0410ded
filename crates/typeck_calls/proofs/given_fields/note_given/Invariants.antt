use Rattle.std.proofs.Common.{◌≡◌, ℕ, take}
use Rattle.typeck_calls.specs.Given.{has}
use Rattle.typing_rules.specs.Rows.{is_given}
use Rattle.typeck_calls.proofs.given_fields.note_given.Given as goal

abbrev pub invariant-loop-number : goal.invariant-loop-number
invariant-loop-number l = (n : ℕ) → has n l.seen.keys ≡ is_given n (take l.number-index l.given)

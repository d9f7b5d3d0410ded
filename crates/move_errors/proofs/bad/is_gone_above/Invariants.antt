use Rattle.std.proofs.Common.{◌≡◌, ℕ, suc, ◌<◌, Option, Some, None, length}
use Rattle.move_errors.specs.Rows.{some_on, above}
use Rattle.move_errors.proofs.bad.is_gone_above.Given as goal

abbrev left : Option ℕ → ℕ
left None = 0
left (Some of) = suc of

abbrev pub invariant-loop-at : goal.invariant-loop-at
invariant-loop-at l =
    (some_on (above l.forest.paths l.fn.path) l.forest.paths l.row ≡ some_on (above l.forest.paths l.at) l.forest.paths l.row)
    × ((n : ℕ) → l.at ≡ Some n → n < length l.forest.paths)

abbrev pub decreases-loop-at : goal.decreases-loop-at
decreases-loop-at l = left l.at

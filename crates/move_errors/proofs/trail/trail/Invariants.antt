use Rattle.std.proofs.Common.{◌≡◌, ◌++◌, ℕ, suc, ◌<◌, List, map, length, Option, Some, None, reverse}
use Rattle.move_errors.specs.Runs.{Problem, Trip, number_of}
use Rattle.move_errors.specs.Stands.{Logged, source}
use Rattle.move_errors.proofs.trail.trail.Given as goal

abbrev left : Option ℕ → ℕ
left None = 0
left (Some n) = suc n

abbrev pub invariant-loop-at : goal.invariant-loop-at
invariant-loop-at l =
    ((n : ℕ) → l.at ≡ Some n → n < length l.visits)
    × ((f : Problem) (done : List Trip) → Logged f l.visits done → (source f done l.at).path ++ reverse l.path.items ≡ (source f done (Some l.last)).path)
    × ((f : Problem) (done : List Trip) → Logged f l.visits done → map number_of (source f done l.at).given ++ reverse l.answers.items ≡ map number_of (source f done (Some l.last)).given)

abbrev pub decreases-loop-at : goal.decreases-loop-at
decreases-loop-at l = left l.at

use Rattle.std.proofs.Common.{◌≡◌, ℕ, suc, ◌-◌, length}
use Rattle.typeck_bodies.specs.Places.{place_by}
use Rattle.typeck_bodies.proofs.places.widen.Given as goal

abbrev pub invariant-loop-table : goal.invariant-loop-table
invariant-loop-table l = (k : ℕ) → place_by l.table l.count k ≡ place_by l.initial.table l.count k

abbrev pub decreases-loop-table : goal.decreases-loop-table
decreases-loop-table l = suc l.number - length l.table

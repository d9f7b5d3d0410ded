use Rattle.std.proofs.Common.{◌-◌, length}
use Rattle.typeck_bodies.specs.Places.{IsPlacedFrom}
use Rattle.typeck_bodies.proofs.places.fill.Given as goal

abbrev pub invariant-loop-done : goal.invariant-loop-done
invariant-loop-done l = IsPlacedFrom l.numbers l.count (length l.numbers - l.done) l.table

use Rattle.std.proofs.Common.{All, take}
use Rattle.listing_trip.specs.Numbers.{AreNumbered}
use Rattle.listing_trip.proofs.numbers.numbers_fit.Given as goal

abbrev pub invariant-loop-body : goal.invariant-loop-body
invariant-loop-body l = All AreNumbered (take l.body-index l.graph.bodies)

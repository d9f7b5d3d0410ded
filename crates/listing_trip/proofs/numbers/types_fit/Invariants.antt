use Rattle.std.proofs.Common.{All, ◌-◌, ◌≤◌, length, take}
use Rattle.listing_write.specs.Fields.{TyFits}
use Rattle.listing_trip.proofs.numbers.types_fit.Given as goal

abbrev pub invariant-loop-ty : goal.invariant-loop-ty
invariant-loop-ty l = record {
  seen : All TyFits (take l.n l.items.types);
  within : l.n ≤ length l.items.types;
}

abbrev pub decreases-loop-ty : goal.decreases-loop-ty
decreases-loop-ty l = length l.items.types - l.n

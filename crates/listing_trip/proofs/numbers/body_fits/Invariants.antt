use Rattle.std.proofs.Common.{All, take}
use Rattle.listing_trip.specs.Numbers.{OwnNumbersFit}
use Rattle.listing_trip.proofs.numbers.body_fits.Given as goal

abbrev pub invariant-loop-block : goal.invariant-loop-block
invariant-loop-block l = All OwnNumbersFit (take l.block-index l.body.blocks)

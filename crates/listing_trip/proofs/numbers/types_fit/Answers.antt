use Rattle.std.proofs.Common.{◌<◌, arith, length}
use Rattle.listing_write.specs.Fields.{TyFits}
use Rattle.listing_write.proofs.Counting.{fewer_left, over, stands}
use Rattle.listing_trip.proofs.Looked.{all_seen, one_more}
use Rattle.listing_trip.proofs.numbers.types_fit.Goals as goal

pub loop-ty-init : goal.loop-ty-init
loop-ty-init c = record { seen = λ k d less. absurd (omega (arith, less)); within = omega arith }

pub loop-ty-smaller : goal.loop-ty-smaller
loop-ty-smaller c = fewer_left c.args.items.now.types c.loop-ty.n c.in-Some.ty.now c.in-Some.ensures.value

pub loop-ty-preserved : goal.loop-ty-preserved
loop-ty-preserved c =
    let found = stands c.args.items.now.types c.loop-ty.n c.in-Some.ty.now c.in-Some.ensures.value in
    let here : c.loop-ty.n < length c.args.items.now.types = found.0 in
    record {
      seen = one_more TyFits c.args.items.now.types c.loop-ty.n c.in-Some.ty.now here found.1 c.loop-ty.invariant.seen
          c.type_fits.ensures;
      within = omega arith;
    }

pub returns : goal.returns
returns c =
    all_seen TyFits c.args.items.now.types c.loop-ty.n
    (over c.args.items.now.types c.loop-ty.n c.in_default.ensures.value) c.loop-ty.invariant.seen

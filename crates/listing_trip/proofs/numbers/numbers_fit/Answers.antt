use Rattle.listing_trip.specs.Numbers.{AreNumbered}
use Rattle.listing_trip.proofs.Looked.{all_items_seen, one_more_item}
use Rattle.listing_trip.proofs.numbers.numbers_fit.Goals as goal

pub loop-body-preserved : goal.loop-body-preserved
loop-body-preserved c =
    one_more_item AreNumbered c.as_slice-body-items.result.now c.args.graph.now.bodies c.as_slice-body-items.ensures
    c.loop-body.body-index c.body-item.result c.loop-body-test.true c.body-item.is c.loop-body.invariant
    c.body_fits.ensures

pub returns : goal.returns
returns c = record {
  types = c.types_fit.ensures;
  bodies =
      all_items_seen AreNumbered c.as_slice-body-items.result.now c.args.graph.now.bodies c.as_slice-body-items.ensures
      c.loop-body.body-index c.loop-body-test.false c.loop-body.invariant;
}

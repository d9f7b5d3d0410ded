use Rattle.listing_trip.specs.Numbers.{OwnNumbersFit}
use Rattle.listing_trip.proofs.Looked.{all_items_seen, one_more_item}
use Rattle.listing_trip.proofs.numbers.body_fits.Goals as goal

pub loop-block-preserved : goal.loop-block-preserved
loop-block-preserved c =
    one_more_item OwnNumbersFit c.as_slice-block-items.result.now c.args.body.now.blocks c.as_slice-block-items.ensures
    c.loop-block.block-index c.block-item.result c.loop-block-test.true c.block-item.is c.loop-block.invariant
    c.block_fits.ensures

pub returns : goal.returns
returns c =
    all_items_seen OwnNumbersFit c.as_slice-block-items.result.now c.args.body.now.blocks c.as_slice-block-items.ensures
    c.loop-block.block-index c.loop-block-test.false c.loop-block.invariant

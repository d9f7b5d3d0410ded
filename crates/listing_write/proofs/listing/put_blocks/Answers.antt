use Rattle.listing_write.specs.Listing.{block_text}
use Rattle.listing_write.proofs.Counting.{told_more}
use Rattle.listing_write.proofs.listing.put_blocks.Goals as goal

pub loop-n-preserved : goal.loop-n-preserved
loop-n-preserved c =
    told_more (block_text c.args.items.now) _ _ _ c.args.blocks.now c.loop-n.n c.index-blocks-n.result c.loop-n-test.true c.index-blocks-n.is c.loop-n.invariant c.in_ok-put_block.ensures

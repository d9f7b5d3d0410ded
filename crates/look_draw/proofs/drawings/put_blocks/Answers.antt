use Rattle.listing_write.proofs.Counting.{told_more}
use Rattle.look_draw.specs.Drawings.{block_drawing}
use Rattle.look_draw.proofs.drawings.put_blocks.Goals as goal

pub loop-n-preserved : goal.loop-n-preserved
loop-n-preserved c =
    told_more (block_drawing c.args.items.now c.args.sites.now c.args.body c.args.before) _ _ _ c.args.blocks.now c.loop-n.n c.index-blocks-n.result c.loop-n-test.true c.index-blocks-n.is c.loop-n.invariant c.in_ok-put_block.ensures

use Rattle.listing_write.specs.Listing.{whole_body_text}
use Rattle.listing_write.proofs.Counting.{told_more}
use Rattle.listing_write.proofs.listing.put_bodies.Goals as goal

pub loop-n-preserved : goal.loop-n-preserved
loop-n-preserved c =
    told_more (whole_body_text c.args.items.now) _ _ _ c.args.bodies.now c.loop-n.n c.index-bodies-n.result c.loop-n-test.true c.index-bodies-n.is c.loop-n.invariant c.in_ok-put_whole_body.ensures

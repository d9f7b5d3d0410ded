use Rattle.look_draw.specs.Drawings.{body_drawing}
use Rattle.listing_write.proofs.Counting.{told_more}
use Rattle.look_draw.proofs.drawings.put_bodies.Goals as goal

pub loop-n-preserved : goal.loop-n-preserved
loop-n-preserved c =
    told_more (body_drawing c.args.items.now c.args.sites.now c.args.names.now c.args.raw.now) _ _ _ c.args.bodies.now c.loop-n.n c.index-bodies-n.result c.loop-n-test.true c.index-bodies-n.is c.loop-n.invariant c.in_ok-put_body.ensures

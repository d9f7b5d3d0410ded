use Rattle.std.proofs.lemmas.List.{get_or_default}
use Rattle.listing_write.specs.Listing.{local_line}
use Rattle.listing_write.proofs.Counting.{told_more}
use Rattle.listing_write.proofs.listing.put_locals.Goals as goal

pub loop-n-preserved : goal.loop-n-preserved
loop-n-preserved c =
    told_more (local_line c.args.items.now) _ _ _ c.args.locals.now c.loop-n.n _ c.loop-n-test.true (get_or_default c.args.locals.now c.loop-n.n _ _ c.loop-n-test.true) c.loop-n.invariant c.in_ok-put_local.ensures

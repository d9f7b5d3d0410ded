use Rattle.std.proofs.Common.{arith, ◌<◌, length}
use Rattle.listing_write.specs.Items.{closure_line}
use Rattle.listing_write.proofs.Counting.{fewer_left, stands, told_more, counted_all}
use Rattle.listing_write.proofs.items.put_closures.Goals as goal

pub loop-def-preserved : goal.loop-def-preserved
loop-def-preserved c =
    let found = stands c.args.items.now.closures c.loop-def.n c.in-Some.def.now c.in-Some.ensures.value in
    let here : c.loop-def.n < length c.args.items.now.closures = found.0 in
    record {
      told = told_more (closure_line c.args.items.now) _ _ _ c.args.items.now.closures c.loop-def.n c.in-Some.def.now here found.1 c.loop-def.invariant.told c.in_ok-put_closure.ensures;
      within = omega arith;
    }

pub loop-def-smaller : goal.loop-def-smaller
loop-def-smaller c = fewer_left c.args.items.now.closures c.loop-def.n c.in-Some.def.now c.in-Some.ensures.value

pub returns : goal.returns
returns c = counted_all c.args.items.now.closures c.loop-def.n (closure_line c.args.items.now) _ _ c.in_default.ensures.value c.loop-def.invariant.told

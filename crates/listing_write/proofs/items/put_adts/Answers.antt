use Rattle.std.proofs.Common.{arith, ◌<◌, length}
use Rattle.listing_write.specs.Items.{adt_line}
use Rattle.listing_write.proofs.Counting.{fewer_left, stands, told_each, told_all}
use Rattle.listing_write.proofs.items.put_adts.Goals as goal

pub loop-adt-preserved : goal.loop-adt-preserved
loop-adt-preserved c = record {
  told = told_each c.args.items.now.adts c.loop-adt.n (adt_line c.args.items.now) _ _ _ c.in-Some.adt.now c.in-Some.ensures.value c.loop-adt.invariant.told c.in_ok-put_adt.ensures;
  within = let here : c.loop-adt.n < length c.args.items.now.adts = (stands c.args.items.now.adts c.loop-adt.n c.in-Some.adt.now c.in-Some.ensures.value).0 in omega arith;
}

pub loop-adt-smaller : goal.loop-adt-smaller
loop-adt-smaller c = fewer_left c.args.items.now.adts c.loop-adt.n c.in-Some.adt.now c.in-Some.ensures.value

pub returns : goal.returns
returns c = told_all c.args.items.now.adts c.loop-adt.n (adt_line c.args.items.now) _ _ c.in_default.ensures.value c.loop-adt.invariant.told

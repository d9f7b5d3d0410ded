use Rattle.std.proofs.Common.{arith, ◌<◌, length}
use Rattle.listing_write.specs.Items.{impl_line}
use Rattle.listing_write.proofs.Counting.{fewer_left, stands, told_each, told_all}
use Rattle.listing_write.proofs.items.put_impls.Goals as goal

pub loop-def-preserved : goal.loop-def-preserved
loop-def-preserved c = record {
  told = told_each c.args.items.now.impls c.loop-def.n (impl_line c.args.items.now) _ _ _ c.in-Some.def.now c.in-Some.ensures.value c.loop-def.invariant.told c.in_ok-put_impl.ensures;
  within = let here : c.loop-def.n < length c.args.items.now.impls = (stands c.args.items.now.impls c.loop-def.n c.in-Some.def.now c.in-Some.ensures.value).0 in omega arith;
}

pub loop-def-smaller : goal.loop-def-smaller
loop-def-smaller c = fewer_left c.args.items.now.impls c.loop-def.n c.in-Some.def.now c.in-Some.ensures.value

pub returns : goal.returns
returns c = told_all c.args.items.now.impls c.loop-def.n (impl_line c.args.items.now) _ _ c.in_default.ensures.value c.loop-def.invariant.told

use Rattle.std.proofs.Common.{◌<◌, length, arith}
use Rattle.cfg_graph.specs.WellFormed.TypeFaults.{is_drop_body_of}
use Rattle.cfg_graph.proofs.Rests.{any_goes_on, any_is_found, any_is_not, within}
use Rattle.cfg_graph.proofs.typing.is_drop_body.Goals as goal

pub loop-adt-preserved : goal.loop-adt-preserved
loop-adt-preserved c = record {
  rest = any_goes_on (is_drop_body_of c.args.body) c.args.items.now.adts c.loop-adt.n c.loop-adt.invariant.rest c.in-Some.adt.now c.drops_by.result c.in-Some.ensures.value c.drops_by.ensures c.if-drops_by.false;
  within = let here : c.loop-adt.n < length c.args.items.now.adts = within c.args.items.now.adts c.loop-adt.n c.in-Some.adt.now c.in-Some.ensures.value in omega arith;
}

pub returns-then-drops_by : goal.returns-then-drops_by
returns-then-drops_by c = any_is_found (is_drop_body_of c.args.body) c.args.items.now.adts c.loop-adt.n c.loop-adt.invariant.rest c.in-Some.adt.now c.drops_by.result c.in-Some.ensures.value c.drops_by.ensures c.if-drops_by.true

pub returns : goal.returns
returns c = any_is_not (is_drop_body_of c.args.body) c.args.items.now.adts c.loop-adt.n c.loop-adt.invariant.rest c.in_default.ensures.value

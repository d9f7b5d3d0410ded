use Rattle.std.proofs.Common.{◌<◌, length, arith}
use Rattle.cfg_graph.specs.WellFormed.Faults.{is_main}
use Rattle.cfg_graph.proofs.Rests.{within, pair_later, pair_here, no_pair_left, no_pair_here}
use Rattle.cfg_graph.proofs.first_fault.has_main.Goals as goal

pub loop-body-preserved : goal.loop-body-preserved
loop-body-preserved c = record {
  rest = pair_later (is_main c.args.graph.now) c.args.graph.now.items.bodies c.args.graph.now.bodies c.loop-body.n c.loop-body.invariant.rest c.in-Some-body_sig.sig.now c.in-Some.body.now c.is_main.result c.in-Some-body_sig.ensures.value c.in-Some.ensures c.is_main.ensures c.if-is_main.false;
  within = let here : c.loop-body.n < length c.args.graph.now.bodies = within c.args.graph.now.bodies c.loop-body.n c.in-Some.body.now c.in-Some.ensures in omega arith;
}

pub loop-body-smaller : goal.loop-body-smaller
loop-body-smaller c = let here : c.loop-body.n < length c.args.graph.now.bodies = within c.args.graph.now.bodies c.loop-body.n c.in-Some.body.now c.in-Some.ensures in omega arith

pub returns-then-is_main : goal.returns-then-is_main
returns-then-is_main c =
    pair_here (is_main c.args.graph.now) c.args.graph.now.items.bodies c.args.graph.now.bodies c.loop-body.n c.loop-body.invariant.rest c.in-Some-body_sig.sig.now c.in-Some.body.now c.is_main.result c.in-Some-body_sig.ensures.value c.in-Some.ensures c.is_main.ensures c.if-is_main.true

pub returns-in-None : goal.returns-in-None
returns-in-None c = no_pair_here (is_main c.args.graph.now) c.args.graph.now.items.bodies c.args.graph.now.bodies c.loop-body.n c.loop-body.invariant.rest c.in-None.ensures.value

pub returns : goal.returns
returns c = no_pair_left (is_main c.args.graph.now) c.args.graph.now.items.bodies c.args.graph.now.bodies c.loop-body.n c.loop-body.invariant.rest c.in_default.ensures

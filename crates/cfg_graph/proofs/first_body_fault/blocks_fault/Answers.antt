use Rattle.std.proofs.Common.{◌<◌, length, arith}
use Rattle.cfg_graph.specs.WellFormed.Faults.{block_faults}
use Rattle.cfg_graph.proofs.Rests.{within, fault_here, fault_later, fault_nowhere}
use Rattle.cfg_graph.proofs.first_body_fault.blocks_fault.Goals as goal

pub returns-in-Some-block_fault : goal.returns-in-Some-block_fault
returns-in-Some-block_fault c = fault_here (block_faults c.args.graph.now c.args.number c.args.body.now) c.args.body.now.blocks c.loop-block.n c.loop-block.invariant.rest c.in-Some.block.now c.in-Some-block_fault.fault c.in-Some.ensures c.in-Some-block_fault.ensures

pub loop-block-preserved : goal.loop-block-preserved
loop-block-preserved c = record {
  rest = fault_later (block_faults c.args.graph.now c.args.number c.args.body.now) c.args.body.now.blocks c.loop-block.n c.loop-block.invariant.rest c.in-Some.block.now c.in-Some.ensures c.in_default-block_fault.ensures;
  within = let here : c.loop-block.n < length c.args.body.now.blocks = within c.args.body.now.blocks c.loop-block.n c.in-Some.block.now c.in-Some.ensures in omega arith;
}

pub loop-block-smaller : goal.loop-block-smaller
loop-block-smaller c = let here : c.loop-block.n < length c.args.body.now.blocks = within c.args.body.now.blocks c.loop-block.n c.in-Some.block.now c.in-Some.ensures in omega arith

pub returns : goal.returns
returns c = fault_nowhere (block_faults c.args.graph.now c.args.number c.args.body.now) c.args.body.now.blocks c.loop-block.n c.loop-block.invariant.rest c.in_default.ensures

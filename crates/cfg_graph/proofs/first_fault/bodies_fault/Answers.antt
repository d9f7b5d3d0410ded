use Rattle.std.proofs.Common.{◌<◌, length, arith, refl}
use Rattle.cfg_graph.specs.WellFormed.Faults.{faults_of_body}
use Rattle.cfg_graph.proofs.Buckets.{none_met}
use Rattle.cfg_graph.proofs.Rests.{within, fault_here, fault_later, fault_nowhere}
use Rattle.cfg_graph.proofs.first_fault.bodies_fault.Goals as goal

pub returns-in-Some-fault_of_body : goal.returns-in-Some-fault_of_body
returns-in-Some-fault_of_body c = fault_here (faults_of_body c.args.graph.now) c.args.graph.now.bodies c.loop-body.n c.loop-body.invariant.rest c.in-Some.body.now c.in-Some-fault_of_body.fault c.in-Some.ensures c.in-Some-fault_of_body.ensures

pub loop-body-preserved : goal.loop-body-preserved
loop-body-preserved c = record {
  rest = fault_later (faults_of_body c.args.graph.now) c.args.graph.now.bodies c.loop-body.n c.loop-body.invariant.rest c.in-Some.body.now c.in-Some.ensures c.in_default-fault_of_body.ensures;
  within = let here : c.loop-body.n < length c.args.graph.now.bodies = within c.args.graph.now.bodies c.loop-body.n c.in-Some.body.now c.in-Some.ensures in omega arith;
  met = c.body_is_fresh-fresh.ensures.met;
}

pub loop-body-smaller : goal.loop-body-smaller
loop-body-smaller c = let here : c.loop-body.n < length c.args.graph.now.bodies = within c.args.graph.now.bodies c.loop-body.n c.in-Some.body.now c.in-Some.ensures in omega arith

pub returns : goal.returns
returns c = fault_nowhere (faults_of_body c.args.graph.now) c.args.graph.now.bodies c.loop-body.n c.loop-body.invariant.rest c.in_default.ensures

pub loop-body-init : goal.loop-body-init
loop-body-init c = record { rest = refl; within = omega arith; met = none_met _ _ }

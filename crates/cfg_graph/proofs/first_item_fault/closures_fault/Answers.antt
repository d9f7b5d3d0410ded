use Rattle.std.proofs.Common.{ℕ, ◌+◌, ◌<◌, length, arith, ap}
use Rattle.mir_ty.specs.declared.def.ClosureDef.{ClosureDef}
use Rattle.cfg_graph.specs.WellFormed.ItemFaults.{closure_faults}
use Rattle.cfg_graph.specs.WellFormed.Faults.{nowhere, at_line}
use Rattle.cfg_graph.proofs.Rests.{within, at_its_line, fault_here, fault_later, fault_nowhere}
use Rattle.cfg_graph.proofs.first_item_fault.closures_fault.Goals as goal

pub returns-in-Some-at : goal.returns-in-Some-at
returns-in-Some-at c = fault_here (λ (n : ℕ) (item : ClosureDef). at_line nowhere nowhere (length c.args.graph.now.items.adts + length c.args.graph.now.items.traits + length c.args.graph.now.items.impls + n) (closure_faults c.args.graph.now.items (length c.args.graph.now.bodies) n item)) c.args.graph.now.items.closures c.loop-def.n c.loop-def.invariant.rest c.in-Some.def.now c.in-Some-at.fault c.in-Some.ensures.value (at_its_line nowhere nowhere (c.args.before + c.loop-def.n) _ _ _ _ (ap (λ (k : ℕ). k + c.loop-def.n) c.requires.before) c.in-Some-at.ensures (rw c.len-bodies.ensures at c.closure_fault-number.ensures))

pub loop-def-preserved : goal.loop-def-preserved
loop-def-preserved c = record {
  rest = fault_later (λ (n : ℕ) (item : ClosureDef). at_line nowhere nowhere (length c.args.graph.now.items.adts + length c.args.graph.now.items.traits + length c.args.graph.now.items.impls + n) (closure_faults c.args.graph.now.items (length c.args.graph.now.bodies) n item)) c.args.graph.now.items.closures c.loop-def.n c.loop-def.invariant.rest c.in-Some.def.now c.in-Some.ensures.value (at_its_line nowhere nowhere (c.args.before + c.loop-def.n) _ _ _ _ (ap (λ (k : ℕ). k + c.loop-def.n) c.requires.before) c.in_default-at.ensures (rw c.len-bodies.ensures at c.closure_fault-number.ensures));
  within = let here : c.loop-def.n < length c.args.graph.now.items.closures = within c.args.graph.now.items.closures c.loop-def.n c.in-Some.def.now c.in-Some.ensures.value in omega arith;
}

pub loop-def-smaller : goal.loop-def-smaller
loop-def-smaller c = let here : c.loop-def.n < length c.args.graph.now.items.closures = within c.args.graph.now.items.closures c.loop-def.n c.in-Some.def.now c.in-Some.ensures.value in omega arith

pub returns : goal.returns
returns c = fault_nowhere (λ (n : ℕ) (item : ClosureDef). at_line nowhere nowhere (length c.args.graph.now.items.adts + length c.args.graph.now.items.traits + length c.args.graph.now.items.impls + n) (closure_faults c.args.graph.now.items (length c.args.graph.now.bodies) n item)) c.args.graph.now.items.closures c.loop-def.n c.loop-def.invariant.rest c.in_default.ensures.value

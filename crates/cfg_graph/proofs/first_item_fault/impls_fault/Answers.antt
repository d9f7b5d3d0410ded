use Rattle.std.proofs.Common.{ℕ, ◌+◌, ◌<◌, length, arith, refl, ap}
use Rattle.mir_ty.specs.declared.def.ImplDef.{ImplDef}
use Rattle.cfg_graph.specs.WellFormed.Buckets.{impl_key}
use Rattle.cfg_graph.specs.WellFormed.ItemFaults.{impl_faults}
use Rattle.cfg_graph.specs.WellFormed.Faults.{nowhere, at_line}
use Rattle.cfg_graph.proofs.Buckets.{none_met, one_met, impl_repeats_none}
use Rattle.cfg_graph.proofs.Rests.{within, at_its_line, fault_here, fault_later, fault_nowhere}
use Rattle.cfg_graph.proofs.first_item_fault.impls_fault.Goals as goal

pub returns-in-Some-at : goal.returns-in-Some-at
returns-in-Some-at c = fault_here (λ (n : ℕ) (item : ImplDef). at_line nowhere nowhere (length c.args.graph.now.items.adts + length c.args.graph.now.items.traits + n) (impl_faults c.args.graph.now.items (length c.args.graph.now.bodies) n item)) c.args.graph.now.items.impls c.loop-def.n c.loop-def.invariant.rest c.in-Some.def.now c.in-Some-at.fault c.in-Some.ensures.value (at_its_line nowhere nowhere (c.args.before + c.loop-def.n) _ _ _ _ (ap (λ (k : ℕ). k + c.loop-def.n) c.requires) c.in-Some-at.ensures (rw c.len-bodies.ensures at c.impl_fault-number.ensures))

pub loop-def-preserved : goal.loop-def-preserved
loop-def-preserved c = record {
  rest = fault_later (λ (n : ℕ) (item : ImplDef). at_line nowhere nowhere (length c.args.graph.now.items.adts + length c.args.graph.now.items.traits + n) (impl_faults c.args.graph.now.items (length c.args.graph.now.bodies) n item)) c.args.graph.now.items.impls c.loop-def.n c.loop-def.invariant.rest c.in-Some.def.now c.in-Some.ensures.value (at_its_line nowhere nowhere (c.args.before + c.loop-def.n) _ _ _ _ (ap (λ (k : ℕ). k + c.loop-def.n) c.requires) c.in_default-at.ensures (rw c.len-bodies.ensures at c.impl_fault-number.ensures));
  within = let here : c.loop-def.n < length c.args.graph.now.items.impls = within c.args.graph.now.items.impls c.loop-def.n c.in-Some.def.now c.in-Some.ensures.value in omega arith;
  met = one_met impl_key c.args.graph.now.items.impls c.loop-def.n c.in-Some.def.now c.loop-def.buckets _ c.loop-def.invariant.met c.in-Some.ensures.value c.meet_impl-fresh.ensures.kept c.meet_impl-fresh.ensures.met c.meet_impl-fresh.ensures.enough;
}

pub impl_fault-number-requires : goal.impl_fault-number-requires
impl_fault-number-requires c = λ fresh. impl_repeats_none c.args.graph.now.items.impls c.in-Some.def.now c.loop-def.buckets (c.meet_impl-fresh.ensures.fresh fresh) c.loop-def.n c.loop-def.invariant.met

pub loop-def-smaller : goal.loop-def-smaller
loop-def-smaller c = let here : c.loop-def.n < length c.args.graph.now.items.impls = within c.args.graph.now.items.impls c.loop-def.n c.in-Some.def.now c.in-Some.ensures.value in omega arith

pub returns : goal.returns
returns c = fault_nowhere (λ (n : ℕ) (item : ImplDef). at_line nowhere nowhere (length c.args.graph.now.items.adts + length c.args.graph.now.items.traits + n) (impl_faults c.args.graph.now.items (length c.args.graph.now.bodies) n item)) c.args.graph.now.items.impls c.loop-def.n c.loop-def.invariant.rest c.in_default.ensures.value

pub loop-def-init : goal.loop-def-init
loop-def-init c = record { rest = refl; within = omega arith; met = none_met _ _ }

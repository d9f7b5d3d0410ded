use Rattle.std.proofs.Common.{ℕ, ◌+◌, ◌<◌, length, arith, refl, ap}
use Rattle.mir_ty.specs.declared.def.TraitDef.{TraitDef}
use Rattle.cfg_graph.specs.WellFormed.Buckets.{name_key}
use Rattle.cfg_graph.specs.WellFormed.ItemFaults.{trait_faults}
use Rattle.cfg_graph.specs.WellFormed.Faults.{nowhere, at_line}
use Rattle.cfg_graph.proofs.Buckets.{none_met, one_met, name_repeats_none}
use Rattle.cfg_graph.proofs.Rests.{within, at_its_line, fault_here, fault_later, fault_nowhere}
use Rattle.cfg_graph.proofs.first_item_fault.traits_fault.Goals as goal

pub returns-in-Some-at : goal.returns-in-Some-at
returns-in-Some-at c = fault_here (λ (n : ℕ) (item : TraitDef). at_line nowhere nowhere (length c.args.graph.now.items.adts + n) (trait_faults c.args.graph.now.items (length c.args.graph.now.bodies) n item)) c.args.graph.now.items.traits c.loop-def.n c.loop-def.invariant.rest c.in-Some.def.now c.in-Some-at.fault c.in-Some.ensures.value (at_its_line nowhere nowhere (c.args.before + c.loop-def.n) _ _ _ _ (ap (λ (k : ℕ). k + c.loop-def.n) c.requires.before) c.in-Some-at.ensures c.trait_fault-number.ensures)

pub loop-def-preserved : goal.loop-def-preserved
loop-def-preserved c = record {
  rest = fault_later (λ (n : ℕ) (item : TraitDef). at_line nowhere nowhere (length c.args.graph.now.items.adts + n) (trait_faults c.args.graph.now.items (length c.args.graph.now.bodies) n item)) c.args.graph.now.items.traits c.loop-def.n c.loop-def.invariant.rest c.in-Some.def.now c.in-Some.ensures.value (at_its_line nowhere nowhere (c.args.before + c.loop-def.n) _ _ _ _ (ap (λ (k : ℕ). k + c.loop-def.n) c.requires.before) c.in_default-at.ensures c.trait_fault-number.ensures);
  within = let here : c.loop-def.n < length c.args.graph.now.items.traits = within c.args.graph.now.items.traits c.loop-def.n c.in-Some.def.now c.in-Some.ensures.value in omega arith;
  met = one_met (λ (one : TraitDef). name_key one.name) c.args.graph.now.items.traits c.loop-def.n c.in-Some.def.now c.loop-def.buckets _ c.loop-def.invariant.met c.in-Some.ensures.value c.meet-fresh.ensures.kept c.meet-fresh.ensures.met c.meet-fresh.ensures.enough;
}

pub loop-def-smaller : goal.loop-def-smaller
loop-def-smaller c = let here : c.loop-def.n < length c.args.graph.now.items.traits = within c.args.graph.now.items.traits c.loop-def.n c.in-Some.def.now c.in-Some.ensures.value in omega arith

pub returns : goal.returns
returns c = fault_nowhere (λ (n : ℕ) (item : TraitDef). at_line nowhere nowhere (length c.args.graph.now.items.adts + n) (trait_faults c.args.graph.now.items (length c.args.graph.now.bodies) n item)) c.args.graph.now.items.traits c.loop-def.n c.loop-def.invariant.rest c.in_default.ensures.value

pub trait_fault-number-requires-clause-fresh : goal.trait_fault-number-requires-clause-fresh
trait_fault-number-requires-clause-fresh c = λ fresh. name_repeats_none (λ (one : TraitDef). one.name) c.args.graph.now.items.traits c.in-Some.def.now.name c.loop-def.buckets (c.meet-fresh.ensures.fresh fresh) c.loop-def.n c.loop-def.invariant.met

pub loop-def-init : goal.loop-def-init
loop-def-init c = record { rest = refl; within = omega arith; met = none_met _ _ }

use Rattle.std.proofs.Common.{ℕ, ◌+◌, ◌<◌, length, arith, refl}
use Rattle.mir_ty.specs.declared.adt.Adt.{Adt}
use Rattle.cfg_graph.specs.WellFormed.Buckets.{name_key}
use Rattle.cfg_graph.specs.WellFormed.ItemFaults.{adt_faults}
use Rattle.cfg_graph.specs.WellFormed.Faults.{nowhere, at_line}
use Rattle.cfg_graph.proofs.Buckets.{none_met, one_met, name_repeats_none}
use Rattle.cfg_graph.proofs.Rests.{within, at_its_line, fault_here, fault_later, fault_nowhere}
use Rattle.cfg_graph.proofs.first_item_fault.adts_fault.Goals as goal

pub returns-in-Some-at : goal.returns-in-Some-at
returns-in-Some-at c = fault_here (λ (n : ℕ) (item : Adt). at_line nowhere nowhere (0 + n) (adt_faults c.args.graph.now.items (length c.args.graph.now.bodies) n item)) c.args.graph.now.items.adts c.loop-adt.n c.loop-adt.invariant.rest c.in-Some.adt.now c.in-Some-at.fault c.in-Some.ensures.value (at_its_line nowhere nowhere c.loop-adt.n _ _ _ _ (omega arith) c.in-Some-at.ensures (rw c.len-bodies.ensures at c.adt_fault-number.ensures))

pub loop-adt-preserved : goal.loop-adt-preserved
loop-adt-preserved c = record {
  rest = fault_later (λ (n : ℕ) (item : Adt). at_line nowhere nowhere (0 + n) (adt_faults c.args.graph.now.items (length c.args.graph.now.bodies) n item)) c.args.graph.now.items.adts c.loop-adt.n c.loop-adt.invariant.rest c.in-Some.adt.now c.in-Some.ensures.value (at_its_line nowhere nowhere c.loop-adt.n _ _ _ _ (omega arith) c.in_default-at.ensures (rw c.len-bodies.ensures at c.adt_fault-number.ensures));
  within = let here : c.loop-adt.n < length c.args.graph.now.items.adts = within c.args.graph.now.items.adts c.loop-adt.n c.in-Some.adt.now c.in-Some.ensures.value in omega arith;
  met = one_met (λ (one : Adt). name_key one.name) c.args.graph.now.items.adts c.loop-adt.n c.in-Some.adt.now c.loop-adt.buckets _ c.loop-adt.invariant.met c.in-Some.ensures.value c.meet-fresh.ensures.kept c.meet-fresh.ensures.met c.meet-fresh.ensures.enough;
}

pub loop-adt-smaller : goal.loop-adt-smaller
loop-adt-smaller c = let here : c.loop-adt.n < length c.args.graph.now.items.adts = within c.args.graph.now.items.adts c.loop-adt.n c.in-Some.adt.now c.in-Some.ensures.value in omega arith

pub returns : goal.returns
returns c = fault_nowhere (λ (n : ℕ) (item : Adt). at_line nowhere nowhere (0 + n) (adt_faults c.args.graph.now.items (length c.args.graph.now.bodies) n item)) c.args.graph.now.items.adts c.loop-adt.n c.loop-adt.invariant.rest c.in_default.ensures.value

pub adt_fault-number-requires-clause-fresh : goal.adt_fault-number-requires-clause-fresh
adt_fault-number-requires-clause-fresh c = λ fresh. name_repeats_none (λ (one : Adt). one.name) c.args.graph.now.items.adts c.in-Some.adt.now.name c.loop-adt.buckets (c.meet-fresh.ensures.fresh fresh) c.loop-adt.n c.loop-adt.invariant.met

pub loop-adt-init : goal.loop-adt-init
loop-adt-init c = record { rest = refl; within = omega arith; met = none_met _ _ }

use Rattle.std.proofs.Common.{ℕ, ◌<◌, length, arith, refl}
use Rattle.mir_ty.specs.declared.ty.TyId.{TyId}
use Rattle.cfg_graph.specs.WellFormed.LineFaults.{local_faults}
use Rattle.cfg_graph.specs.WellFormed.Faults.{nowhere, at_line}
use Rattle.cfg_graph.proofs.Rests.{within, at_its_line, fault_here, fault_later, fault_nowhere}
use Rattle.cfg_graph.proofs.first_body_fault.locals_fault.Goals as goal

pub returns-in-Some-at : goal.returns-in-Some-at
returns-in-Some-at c = fault_here (λ (n : ℕ) (id : TyId). at_line c.args.number nowhere n (local_faults c.args.graph.now.items (length c.args.graph.now.bodies) id)) c.args.body.now.locals c.loop-id.n c.loop-id.invariant.rest c.in-Some.id.now c.in-Some-at.fault c.in-Some.ensures (at_its_line c.args.number nowhere c.loop-id.n _ _ _ _ refl c.in-Some-at.ensures c.local_fault-fault.ensures)

pub loop-id-preserved : goal.loop-id-preserved
loop-id-preserved c = record {
  rest = fault_later (λ (n : ℕ) (id : TyId). at_line c.args.number nowhere n (local_faults c.args.graph.now.items (length c.args.graph.now.bodies) id)) c.args.body.now.locals c.loop-id.n c.loop-id.invariant.rest c.in-Some.id.now c.in-Some.ensures (at_its_line c.args.number nowhere c.loop-id.n _ _ _ _ refl c.in_default-at.ensures c.local_fault-fault.ensures);
  within = let here : c.loop-id.n < length c.args.body.now.locals = within c.args.body.now.locals c.loop-id.n c.in-Some.id.now c.in-Some.ensures in omega arith;
}

pub loop-id-smaller : goal.loop-id-smaller
loop-id-smaller c = let here : c.loop-id.n < length c.args.body.now.locals = within c.args.body.now.locals c.loop-id.n c.in-Some.id.now c.in-Some.ensures in omega arith

pub returns : goal.returns
returns c = fault_nowhere (λ (n : ℕ) (id : TyId). at_line c.args.number nowhere n (local_faults c.args.graph.now.items (length c.args.graph.now.bodies) id)) c.args.body.now.locals c.loop-id.n c.loop-id.invariant.rest c.in_default.ensures

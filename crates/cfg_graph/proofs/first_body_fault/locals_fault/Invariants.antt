use Rattle.std.proofs.Common.{◌≡◌, ℕ, ◌-◌, ◌≤◌, length, drop}
use Rattle.mir_ty.specs.declared.ty.TyId.{TyId}
use Rattle.cfg_graph.specs.WellFormed.Broken.{first_of}
use Rattle.cfg_graph.specs.WellFormed.LineFaults.{local_faults}
use Rattle.cfg_graph.specs.WellFormed.Faults.{nowhere, at_line, of_each}
use Rattle.cfg_graph.proofs.first_body_fault.locals_fault.Given as goal

-- the first fault of all is the first fault of the rest
abbrev pub invariant-loop-id : goal.invariant-loop-id
invariant-loop-id l = record {
  rest : first_of (of_each (λ (n : ℕ) (id : TyId). at_line l.number nowhere n (local_faults l.graph.items (length l.graph.bodies) id)) 0 l.body.locals) ≡ first_of (of_each (λ (n : ℕ) (id : TyId). at_line l.number nowhere n (local_faults l.graph.items (length l.graph.bodies) id)) l.n (drop l.n l.body.locals));
  within : l.n ≤ length l.body.locals;
}

abbrev pub decreases-loop-id : goal.decreases-loop-id
decreases-loop-id l = length l.body.locals - l.n

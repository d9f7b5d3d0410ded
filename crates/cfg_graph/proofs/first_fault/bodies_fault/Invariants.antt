use Rattle.std.proofs.Common.{◌≡◌, ◌-◌, ◌≤◌, length, drop}
use Rattle.cfg_graph.specs.WellFormed.Broken.{first_of}
use Rattle.cfg_graph.specs.WellFormed.Buckets.{name_key, AreMet}
use Rattle.cfg_graph.specs.WellFormed.Faults.{of_each, faults_of_body}
use Rattle.cfg_graph.proofs.first_fault.bodies_fault.Given as goal

-- the first fault of all is the first fault of the rest
abbrev pub invariant-loop-body : goal.invariant-loop-body
invariant-loop-body l = record {
  rest : first_of (of_each (faults_of_body l.graph) 0 l.graph.bodies) ≡ first_of (of_each (faults_of_body l.graph) l.n (drop l.n l.graph.bodies));
  within : l.n ≤ length l.graph.bodies;
  met : AreMet (λ one. name_key one.name) l.graph.items.bodies l.n l.buckets;
}

abbrev pub decreases-loop-body : goal.decreases-loop-body
decreases-loop-body l = length l.graph.bodies - l.n

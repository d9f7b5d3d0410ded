use Rattle.std.proofs.Common.{◌≡◌, ◌≤◌, ◌-◌, length, drop}
use Rattle.std.specs.Prelude.{zip}
use Rattle.std.specs.List.{list_any}
use Rattle.cfg_graph.specs.WellFormed.Faults.{is_main}
use Rattle.cfg_graph.proofs.first_fault.has_main.Given as goal

abbrev pub invariant-loop-body : goal.invariant-loop-body
invariant-loop-body l = record {
  rest : list_any (is_main l.graph) (zip l.graph.items.bodies l.graph.bodies) ≡ list_any (is_main l.graph) (zip (drop l.n l.graph.items.bodies) (drop l.n l.graph.bodies));
  within : l.n ≤ length l.graph.bodies;
}

abbrev pub decreases-loop-body : goal.decreases-loop-body
decreases-loop-body l = length l.graph.bodies - l.n

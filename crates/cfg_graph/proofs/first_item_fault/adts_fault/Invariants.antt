use Rattle.std.proofs.Common.{◌≡◌, ℕ, ◌+◌, ◌-◌, ◌≤◌, length, drop}
use Rattle.mir_ty.specs.declared.adt.Adt.{Adt}
use Rattle.cfg_graph.specs.WellFormed.Broken.{first_of}
use Rattle.cfg_graph.specs.WellFormed.Buckets.{name_key, AreMet}
use Rattle.cfg_graph.specs.WellFormed.ItemFaults.{adt_faults}
use Rattle.cfg_graph.specs.WellFormed.Faults.{nowhere, at_line, of_each}
use Rattle.cfg_graph.proofs.first_item_fault.adts_fault.Given as goal

-- the first fault of all is the first fault of the rest
abbrev pub invariant-loop-adt : goal.invariant-loop-adt
invariant-loop-adt l = record {
  rest : first_of (of_each (λ (n : ℕ) (item : Adt). at_line nowhere nowhere (0 + n) (adt_faults l.graph.items (length l.graph.bodies) n item)) 0 l.graph.items.adts) ≡ first_of (of_each (λ (n : ℕ) (item : Adt). at_line nowhere nowhere (0 + n) (adt_faults l.graph.items (length l.graph.bodies) n item)) l.n (drop l.n l.graph.items.adts));
  within : l.n ≤ length l.graph.items.adts;
  met : AreMet (λ one. name_key one.name) l.graph.items.adts l.n l.buckets;
}

abbrev pub decreases-loop-adt : goal.decreases-loop-adt
decreases-loop-adt l = length l.graph.items.adts - l.n

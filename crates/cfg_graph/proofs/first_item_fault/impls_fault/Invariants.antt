use Rattle.std.proofs.Common.{◌≡◌, ℕ, ◌+◌, ◌-◌, ◌≤◌, length, drop}
use Rattle.mir_ty.specs.declared.def.ImplDef.{ImplDef}
use Rattle.cfg_graph.specs.WellFormed.Broken.{first_of}
use Rattle.cfg_graph.specs.WellFormed.Buckets.{impl_key, AreMet}
use Rattle.cfg_graph.specs.WellFormed.ItemFaults.{impl_faults}
use Rattle.cfg_graph.specs.WellFormed.Faults.{nowhere, at_line, of_each}
use Rattle.cfg_graph.proofs.first_item_fault.impls_fault.Given as goal

-- the first fault of all is the first fault of the rest
abbrev pub invariant-loop-def : goal.invariant-loop-def
invariant-loop-def l = record {
  rest : first_of (of_each (λ (n : ℕ) (item : ImplDef). at_line nowhere nowhere (length l.graph.items.adts + length l.graph.items.traits + n) (impl_faults l.graph.items (length l.graph.bodies) n item)) 0 l.graph.items.impls) ≡ first_of (of_each (λ (n : ℕ) (item : ImplDef). at_line nowhere nowhere (length l.graph.items.adts + length l.graph.items.traits + n) (impl_faults l.graph.items (length l.graph.bodies) n item)) l.n (drop l.n l.graph.items.impls));
  within : l.n ≤ length l.graph.items.impls;
  met : AreMet impl_key l.graph.items.impls l.n l.buckets;
}

abbrev pub decreases-loop-def : goal.decreases-loop-def
decreases-loop-def l = length l.graph.items.impls - l.n

use Rattle.std.proofs.Common.{◌≡◌, ℕ, ◌+◌, ◌-◌, ◌≤◌, length, drop}
use Rattle.mir_ty.specs.declared.def.TraitDef.{TraitDef}
use Rattle.cfg_graph.specs.WellFormed.Broken.{first_of}
use Rattle.cfg_graph.specs.WellFormed.Buckets.{name_key, AreMet}
use Rattle.cfg_graph.specs.WellFormed.ItemFaults.{trait_faults}
use Rattle.cfg_graph.specs.WellFormed.Faults.{nowhere, at_line, of_each}
use Rattle.cfg_graph.proofs.first_item_fault.traits_fault.Given as goal

-- the first fault of all is the first fault of the rest
abbrev pub invariant-loop-def : goal.invariant-loop-def
invariant-loop-def l = record {
  rest : first_of (of_each (λ (n : ℕ) (item : TraitDef). at_line nowhere nowhere (length l.graph.items.adts + n) (trait_faults l.graph.items (length l.graph.bodies) n item)) 0 l.graph.items.traits) ≡ first_of (of_each (λ (n : ℕ) (item : TraitDef). at_line nowhere nowhere (length l.graph.items.adts + n) (trait_faults l.graph.items (length l.graph.bodies) n item)) l.n (drop l.n l.graph.items.traits));
  within : l.n ≤ length l.graph.items.traits;
  met : AreMet (λ one. name_key one.name) l.graph.items.traits l.n l.buckets;
}

abbrev pub decreases-loop-def : goal.decreases-loop-def
decreases-loop-def l = length l.graph.items.traits - l.n

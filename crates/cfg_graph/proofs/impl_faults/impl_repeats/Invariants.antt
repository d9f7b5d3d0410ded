use Rattle.std.proofs.Common.{◌≡◌, false, take}
use Rattle.std.specs.List.{list_any}
use Rattle.cfg_graph.specs.WellFormed.NameFaults.{same_impl}
use Rattle.cfg_graph.proofs.impl_faults.impl_repeats.Given as goal

abbrev pub invariant-loop-i : goal.invariant-loop-i
invariant-loop-i l = list_any (same_impl l.def) (take l.i l.items.impls) ≡ false

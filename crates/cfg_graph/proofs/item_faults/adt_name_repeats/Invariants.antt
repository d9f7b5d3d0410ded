use Rattle.std.proofs.Common.{◌≡◌, false, take}
use Rattle.std.specs.List.{list_any}
use Rattle.mir_ty.specs.declared.adt.Adt.{Adt}
use Rattle.cfg_graph.specs.WellFormed.NameFaults.{same_name}
use Rattle.cfg_graph.proofs.item_faults.adt_name_repeats.Given as goal

abbrev pub invariant-loop-i : goal.invariant-loop-i
invariant-loop-i l = list_any (λ (other : Adt). same_name l.name other.name) (take l.i l.items.adts) ≡ false

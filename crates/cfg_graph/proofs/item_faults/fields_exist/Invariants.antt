use Rattle.std.proofs.Common.{◌≡◌, drop}
use Rattle.std.specs.List.{list_all}
use Rattle.mir_ty.specs.declared.adt.Variant.{Variant}
use Rattle.cfg_graph.specs.WellFormed.ItemFaults.{exist}
use Rattle.cfg_graph.proofs.item_faults.fields_exist.Given as goal

-- what is asked of all is what is asked of the rest
abbrev pub invariant-loop-variant : goal.invariant-loop-variant
invariant-loop-variant l = list_all (λ (variant : Variant). exist l.items l.bodies variant.fields) l.variants ≡ list_all (λ (variant : Variant). exist l.items l.bodies variant.fields) (drop l.variant-index l.variants)

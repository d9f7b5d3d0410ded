use Rattle.std.proofs.Common.{◌≡◌, drop}
use Rattle.std.specs.List.{list_any}
use Rattle.mir_ty.specs.declared.adt.Variant.{Variant}
use Rattle.cfg_graph.specs.WellFormed.TypeFaults.{misplaces_dyn}
use Rattle.cfg_graph.proofs.item_faults.any_field_misplaces.Given as goal

-- what is asked of all is what is asked of the rest
abbrev pub invariant-loop-variant : goal.invariant-loop-variant
invariant-loop-variant l = list_any (λ (variant : Variant). list_any (misplaces_dyn l.items) variant.fields) l.variants ≡ list_any (λ (variant : Variant). list_any (misplaces_dyn l.items) variant.fields) (drop l.variant-index l.variants)

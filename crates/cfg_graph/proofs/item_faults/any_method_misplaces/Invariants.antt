use Rattle.std.proofs.Common.{◌≡◌, drop}
use Rattle.std.specs.List.{list_any}
use Rattle.mir_ty.specs.declared.def.Sig.{Sig}
use Rattle.cfg_graph.specs.WellFormed.TypeFaults.{misplaces_dyn}
use Rattle.cfg_graph.specs.WellFormed.ItemFaults.{types_of_sig}
use Rattle.cfg_graph.proofs.item_faults.any_method_misplaces.Given as goal

-- what is asked of all is what is asked of the rest
abbrev pub invariant-loop-sig : goal.invariant-loop-sig
invariant-loop-sig l = list_any (λ (sig : Sig). list_any (misplaces_dyn l.items) (types_of_sig sig)) l.methods ≡ list_any (λ (sig : Sig). list_any (misplaces_dyn l.items) (types_of_sig sig)) (drop l.sig-index l.methods)

use Rattle.std.proofs.Common.{◌≡◌, drop}
use Rattle.std.specs.List.{list_all}
use Rattle.mir_ty.specs.declared.def.Sig.{Sig}
use Rattle.cfg_graph.specs.WellFormed.ItemFaults.{exist, types_of_sig}
use Rattle.cfg_graph.proofs.item_faults.methods_exist.Given as goal

-- what is asked of all is what is asked of the rest
abbrev pub invariant-loop-sig : goal.invariant-loop-sig
invariant-loop-sig l = list_all (λ (sig : Sig). exist l.items l.bodies (types_of_sig sig)) l.methods ≡ list_all (λ (sig : Sig). exist l.items l.bodies (types_of_sig sig)) (drop l.sig-index l.methods)

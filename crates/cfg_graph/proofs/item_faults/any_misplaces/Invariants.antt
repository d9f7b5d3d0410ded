use Rattle.std.proofs.Common.{◌≡◌, drop}
use Rattle.std.specs.List.{list_any}
use Rattle.cfg_graph.specs.WellFormed.TypeFaults.{misplaces_dyn}
use Rattle.cfg_graph.proofs.item_faults.any_misplaces.Given as goal

-- what is asked of all is what is asked of the rest
abbrev pub invariant-loop-id : goal.invariant-loop-id
invariant-loop-id l = list_any (misplaces_dyn l.items) l.ids ≡ list_any (misplaces_dyn l.items) (drop l.id-index l.ids)

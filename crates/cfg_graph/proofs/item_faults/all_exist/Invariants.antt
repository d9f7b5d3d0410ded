use Rattle.std.proofs.Common.{◌≡◌, drop}
use Rattle.std.specs.List.{list_all}
use Rattle.cfg_graph.specs.WellFormed.TypeFaults.{ty_exists}
use Rattle.cfg_graph.proofs.item_faults.all_exist.Given as goal

-- what is asked of all is what is asked of the rest
abbrev pub invariant-loop-id : goal.invariant-loop-id
invariant-loop-id l = list_all (ty_exists l.items) l.ids ≡ list_all (ty_exists l.items) (drop l.id-index l.ids)

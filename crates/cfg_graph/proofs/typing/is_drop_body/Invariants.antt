use Rattle.std.proofs.Common.{◌≡◌, ◌≤◌, ◌-◌, length, drop}
use Rattle.std.specs.List.{list_any}
use Rattle.cfg_graph.specs.WellFormed.TypeFaults.{is_drop_body_of}
use Rattle.cfg_graph.proofs.typing.is_drop_body.Given as goal

abbrev pub invariant-loop-adt : goal.invariant-loop-adt
invariant-loop-adt l = record {
  rest : list_any (is_drop_body_of l.body) l.items.adts ≡ list_any (is_drop_body_of l.body) (drop l.n l.items.adts);
  within : l.n ≤ length l.items.adts;
}

abbrev pub decreases-loop-adt : goal.decreases-loop-adt
decreases-loop-adt l = length l.items.adts - l.n

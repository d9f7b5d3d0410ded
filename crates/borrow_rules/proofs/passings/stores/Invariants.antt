use Rattle.std.proofs.Common.{◌≡◌, ◌++◌, map, drop}
use Rattle.std.specs.List.{filter_map}
use Rattle.typing_rules.specs.Replaced.{store_of}
use Rattle.borrow_rules.specs.View.{tree_in}
use Rattle.borrow_rules.proofs.passings.stores.Given as goal

abbrev pub invariant-loop-node : goal.invariant-loop-node
invariant-loop-node l =
    l.stores.items ++ filter_map (store_of l.key.0) (map tree_in (drop l.node-index l.nodes)) ≡ filter_map (store_of l.key.0) (map tree_in l.nodes)

use Rattle.std.proofs.Common.{◌≡◌, ◌++◌, map, drop}
use Rattle.std.specs.List.{flat_map}
use Rattle.typing_rules.specs.Replaced.{passings_of}
use Rattle.borrow_rules.specs.View.{passing_in, tree_in}
use Rattle.borrow_rules.proofs.passings.passings.Given as goal

abbrev pub invariant-loop-node : goal.invariant-loop-node
invariant-loop-node l =
    map passing_in l.passings ++ flat_map (passings_of l.key.0) (map tree_in (drop l.node-index l.nodes)) ≡ flat_map (passings_of l.key.0) (map tree_in l.nodes)

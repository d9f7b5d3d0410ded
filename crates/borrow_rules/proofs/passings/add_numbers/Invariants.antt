use Rattle.std.proofs.Common.{◌≡◌, ◌++◌, map, drop}
use Rattle.typed_tree.specs.View.{tree_of, nodes_from}
use Rattle.typing_rules.specs.Replaced.{numbers_for, passing}
use Rattle.borrow_rules.specs.View.{callee_in, passing_in}
use Rattle.borrow_rules.proofs.passings.add_numbers.Given as goal

abbrev pub invariant-loop-node : goal.invariant-loop-node
invariant-loop-node l =
    map passing_in l.passings ++ map (passing l.at (callee_in l.callee)) (numbers_for l.key.0 l.number (nodes_from (map tree_of (drop l.node-index l.nodes))))
    ≡ map passing_in l.fn.passings ++ map (passing l.at (callee_in l.callee)) (numbers_for l.key.0 l.from (nodes_from (map tree_of l.nodes)))

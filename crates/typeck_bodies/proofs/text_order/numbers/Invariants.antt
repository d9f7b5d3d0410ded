use Rattle.std.proofs.Common.{◌≡◌, map, take}
use Rattle.typed_tree.specs.Nodes.{number_of}
use Rattle.typed_tree.specs.Listed.{trees}
use Rattle.typeck_bodies.proofs.text_order.numbers.Given as goal

abbrev pub invariant-loop-node : goal.invariant-loop-node
invariant-loop-node l = l.found ≡ map number_of (trees (take l.node-index l.nodes))

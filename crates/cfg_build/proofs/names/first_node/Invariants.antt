use Rattle.std.proofs.Common.{◌≡◌, drop}
use Rattle.typed_tree.specs.Nodes.{first_with}
use Rattle.typed_tree.specs.Listed.{trees}
use Rattle.cfg_build.proofs.names.first_node.Given as goal

abbrev pub invariant-loop-node : goal.invariant-loop-node
invariant-loop-node l = first_with l.number (trees l.nodes) ≡ first_with l.number (trees (drop l.node-index l.nodes))

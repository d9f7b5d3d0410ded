use Rattle.std.proofs.Common.{◌≡◌, ◌++◌, map, drop}
use Rattle.typed_tree.specs.Nodes.{param_nodes}
use Rattle.typed_tree.specs.View.{param_tree}
use Rattle.typed_tree.specs.Listed.{trees}
use Rattle.typed_tree.proofs.nodes.add_params.Given as goal

abbrev pub invariant-loop-param : goal.invariant-loop-param
invariant-loop-param l =
    trees l.found ++ param_nodes (map param_tree (drop l.param-index l.params)) ≡ trees l.fn.found ++ param_nodes (map param_tree l.params)

use Rattle.std.proofs.Common.{◌≡◌, map, drop}
use Rattle.typed_tree.specs.Nodes.{param_nodes, first_with}
use Rattle.typed_tree.specs.View.{param_tree}
use Rattle.typed_tree.proofs.search.find_in_params.Given as goal

abbrev pub invariant-loop-param : goal.invariant-loop-param
invariant-loop-param l =
    first_with l.id.0 (param_nodes (map param_tree l.params)) ≡ first_with l.id.0 (param_nodes (map param_tree (drop l.param-index l.params)))

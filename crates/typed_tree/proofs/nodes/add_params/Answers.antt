use Rattle.std.proofs.Common.{rules, ◌≡◌, ◌++◌, List, refl, map}
use Rattle.typed_tree.specs.declared.body.Param.{Param}
use Rattle.typed_tree.specs.Nodes.{nodes_of, param_nodes}
use Rattle.typed_tree.specs.View.{tree_of, param_tree}
use Rattle.typed_tree.specs.Listed.{trees}
use Rattle.typed_tree.proofs.Following.{one_more}
use Rattle.typed_tree.proofs.nodes.add_params.Goals as goal

pub loop-param-preserved : goal.loop-param-preserved
loop-param-preserved c =
    let F = λ (all : List Param). param_nodes (map param_tree all) in
    let part = λ (x : Param). nodes_of (tree_of x.pattern) in
    let is_new : trees c.add_node.new.found ≡ trees c.loop-param.found ++ part c.param-item.result = search rules in
    one_more F part c.args.params.now c.loop-param.param-index c.param-item.result _ _ _ (λ x rest. refl) c.loop-param-test.true c.param-item.is is_new c.loop-param.invariant

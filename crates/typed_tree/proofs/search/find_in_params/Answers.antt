use Rattle.std.proofs.Common.{◌≡◌, sym, ap, subst, ◌∙◌, map, List, Some, None}
use Rattle.std.proofs.lemmas.List.{at_drop_more}
use Rattle.typed_tree.specs.declared.body.Param.{Param}
use Rattle.typed_tree.specs.Nodes.{nodes_of, param_nodes, first_with}
use Rattle.typed_tree.specs.View.{tree_of, param_tree, tree_found}
use Rattle.typed_tree.proofs.SearchLemmas.{first_with-front, first_with-back}
use Rattle.typed_tree.proofs.search.find_in_params.Goals as goal

pub loop-param-preserved : goal.loop-param-preserved
loop-param-preserved c =
    let F = λ (all : List Param). first_with c.args.id.0 (param_nodes (map param_tree all)) in
    let P = λ (x : Param). first_with c.args.id.0 (nodes_of (tree_of x.pattern)) ≡ None in
    let here = subst P c.param-item.is (sym c.find_in_node.ensures ∙ ap tree_found c.in_default.is) in
    c.loop-param.invariant ∙ at_drop_more F c.args.params.now c.loop-param.param-index c.param-item.result c.loop-param-test.true ∙ first_with-back c.args.id.0 _ _ here

pub returns-in-Some : goal.returns-in-Some
returns-in-Some c =
    let F = λ (all : List Param). first_with c.args.id.0 (param_nodes (map param_tree all)) in
    let P = λ (x : Param). first_with c.args.id.0 (nodes_of (tree_of x.pattern)) ≡ Some (tree_of c.in-Some.found.now) in
    let here = subst P c.param-item.is (sym c.find_in_node.ensures ∙ ap tree_found c.in-Some.is) in
    sym (c.loop-param.invariant ∙ at_drop_more F c.args.params.now c.loop-param.param-index c.param-item.result c.loop-param-test.true ∙ first_with-front c.args.id.0 _ _ _ here)

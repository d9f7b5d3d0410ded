use Rattle.std.proofs.Common.{◌≡◌, ◌++◌, ◌∙◌, List, refl, ap, sym, map}
use Rattle.std.proofs.lemmas.Result.{on_ok_weaker}
use Rattle.typed_tree.specs.declared.node.Node.{Node}
use Rattle.typed_tree.specs.declared.node.NumberedField.{NumberedField}
use Rattle.typed_tree.specs.Nodes.{nodes_of, nodes_among, nodes_of_fields}
use Rattle.typed_tree.specs.Tree as tree
use Rattle.typed_tree.specs.View.{tree_of, field_of, nodes_from, fields_from}
use Rattle.typed_tree.specs.Listed.{trees}
use Rattle.typed_tree.proofs.Following.{one_more}
use Rattle.typed_tree.proofs.FormNodes.{operand_and_nodes, two_operands}
use Rattle.typed_tree.proofs.FoundNodes.{arm_found, block_found, if_found, if_let_found, let_found, operand_and_nodes_found, operands_found, while_let_found}
use Rattle.typed_tree.proofs.PlainForms.{value_seen}
use Rattle.typed_tree.proofs.nodes.+nodes.Goals as goal

pub add_nodes-loop-node-preserved : goal.add_nodes-loop-node-preserved
add_nodes-loop-node-preserved t c =
    let F = λ (all : List Node). nodes_among (nodes_from (map tree_of all)) in
    let part = λ (x : Node). nodes_of (tree_of x) in
    one_more F part c.args.nodes.now c.loop-node.node-index c.node-item.result _ _ _ (λ x rest. refl) c.loop-node-test.true c.node-item.is c.in_ok-add_node.ensures c.loop-node.invariant

pub add_fields-loop-field-preserved : goal.add_fields-loop-field-preserved
add_fields-loop-field-preserved t c =
    let F = λ (all : List NumberedField). nodes_of_fields (fields_from (map field_of all)) in
    let part = λ (x : NumberedField). nodes_of (field_of x).1 in
    let is_new : trees c.add_node.new.found ≡ trees c.loop-field.found ++ part c.field-item.result =
    c.in_ok-add_node.ensures ∙ ap (λ (n : tree.Node). trees c.loop-field.found ++ nodes_of n) (sym (value_seen c.field-item.result)) in
    one_more F part c.args.fields.now c.loop-field.field-index c.field-item.result _ _ _ (λ x rest. refl) c.loop-field-test.true c.field-item.is is_new c.loop-field.invariant

pub add_in_form-returns-in_ok-add_node-in-Index : goal.add_in_form-returns-in_ok-add_node-in-Index
add_in_form-returns-in_ok-add_node-in-Index t c = on_ok_weaker _ (operands_found _ _ _ (trees c.add_node-in-Index-2.new.found) c.in-Index.left c.in-Index.right _ _ (two_operands c.in-Index.left c.in-Index.right _ c.in-Index.is) c.deref-in-Index.ensures c.deref-in-Index-2.ensures c.in_ok-add_node-in-Index.ensures) c.add_node-in-Index-2.ensures

pub add_in_form-returns-in_ok-add_node-in-MethodCall : goal.add_in_form-returns-in_ok-add_node-in-MethodCall
add_in_form-returns-in_ok-add_node-in-MethodCall t c = on_ok_weaker _ (operand_and_nodes_found _ _ _ (trees c.add_nodes-in-MethodCall.new.found) c.in-MethodCall.first c.in-MethodCall.rest _ _ (operand_and_nodes c.in-MethodCall.first c.in-MethodCall.rest _ c.in-MethodCall.is) c.deref-in-MethodCall.ensures c.as_slice-in-MethodCall.ensures c.in_ok-add_node-in-MethodCall.ensures) c.add_nodes-in-MethodCall.ensures

pub add_in_form-returns-in_ok-add_nodes-in-Block : goal.add_in_form-returns-in_ok-add_nodes-in-Block
add_in_form-returns-in_ok-add_nodes-in-Block t c = on_ok_weaker _ (block_found _ _ _ (trees c.add_if_any.new.found) _ _ _ c.in-Block.is c.as_slice.ensures c.in_ok-add_nodes-in-Block.ensures) c.add_if_any.ensures

pub add_in_form-returns-in_ok-add_node-in-Let : goal.add_in_form-returns-in_ok-add_node-in-Let
add_in_form-returns-in_ok-add_node-in-Let t c = on_ok_weaker _ (let_found _ _ _ (trees c.add_if_any-in-Let.new.found) _ _ _ c.in-Let.is c.deref.ensures c.in_ok-add_node-in-Let.ensures) c.add_if_any-in-Let.ensures

pub add_in_branches-returns-in_ok-add_node-in-If-2 : goal.add_in_branches-returns-in_ok-add_node-in-If-2
add_in_branches-returns-in_ok-add_node-in-If-2 t c = on_ok_weaker _ (if_found _ _ _ _ (trees c.add_if_any.new.found) _ _ _ _ _ c.in-If.is c.deref.ensures c.deref-in-If.ensures c.in_ok-add_node-in-If.ensures c.in_ok-add_node-in-If-2.ensures) c.add_if_any.ensures

pub add_in_branches-returns-in_ok-add_node-in-IfLet-3 : goal.add_in_branches-returns-in_ok-add_node-in-IfLet-3
add_in_branches-returns-in_ok-add_node-in-IfLet-3 t c = on_ok_weaker _ (if_let_found _ _ _ _ _ (trees c.add_if_any-in-IfLet.new.found) _ _ _ _ _ _ _ c.in-IfLet.is c.deref-in-IfLet.ensures c.deref-in-IfLet-2.ensures c.deref-in-IfLet-3.ensures c.in_ok-add_node-in-IfLet.ensures c.in_ok-add_node-in-IfLet-2.ensures c.in_ok-add_node-in-IfLet-3.ensures) c.add_if_any-in-IfLet.ensures

pub add_in_branches-returns-in_ok-add_if_any-in-Arm : goal.add_in_branches-returns-in_ok-add_if_any-in-Arm
add_in_branches-returns-in_ok-add_if_any-in-Arm t c = on_ok_weaker _ (arm_found _ _ _ _ (trees c.add_node-in-Arm-2.new.found) _ _ _ _ _ c.in-Arm.is c.deref-in-Arm.ensures c.deref-in-Arm-2.ensures c.in_ok-add_node-in-Arm.ensures c.in_ok-add_if_any-in-Arm.ensures) c.add_node-in-Arm-2.ensures

pub add_in_branches-returns-in_ok-add_node-in-WhileLet-2 : goal.add_in_branches-returns-in_ok-add_node-in-WhileLet-2
add_in_branches-returns-in_ok-add_node-in-WhileLet-2 t c = on_ok_weaker _ (while_let_found _ _ _ _ (trees c.add_node-in-WhileLet-3.new.found) _ _ _ _ _ _ c.in-WhileLet.is c.deref-in-WhileLet.ensures c.deref-in-WhileLet-2.ensures c.deref-in-WhileLet-3.ensures c.in_ok-add_node-in-WhileLet.ensures c.in_ok-add_node-in-WhileLet-2.ensures) c.add_node-in-WhileLet-3.ensures

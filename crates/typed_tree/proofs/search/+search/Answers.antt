use Rattle.std.proofs.Common.{◌≡◌, rules, sym, ap, subst, ◌∙◌, map, List, Some, None}
use Rattle.std.proofs.lemmas.List.{at_drop_more}
use Rattle.typed_tree.specs.declared.node.Form.{the_lemmas}
use Rattle.typed_tree.specs.declared.node.Node.{Node}
use Rattle.typed_tree.specs.declared.node.NumberedField.{NumberedField}
use Rattle.typed_tree.specs.Nodes.{nodes_of, nodes_among, nodes_of_fields, first_with}
use Rattle.typed_tree.specs.View.{tree_of, field_of, nodes_from, fields_from, tree_found}
use Rattle.typed_tree.proofs.SearchLemmas.{first_with-front, first_with-back}
use Rattle.typed_tree.proofs.FormNodes.{in_arm, in_block, in_if, in_if_let, in_let, in_operand_and_nodes, in_operands, in_while_let, operand_and_nodes, two_operands}
use Rattle.typed_tree.proofs.search.+search.Goals as goal

pub find_in_form-returns-in-Block : goal.find_in_form-returns-in-Block
find_in_form-returns-in-Block t c =
    in_block c.args.id.0 _ _ _ _ _ _ _ c.in-Block.is c.as_slice.ensures c.find_in_nodes.ensures c.find_if_any.ensures c.or.ensures

pub find_in_form-returns-in-Let : goal.find_in_form-returns-in-Let
find_in_form-returns-in-Let t c =
    in_let c.args.id.0 _ _ _ _ _ _ _ c.in-Let.is c.deref.ensures c.find_in_node.ensures c.find_if_any-in-Let.ensures c.or-in-Let.ensures

pub find_in_form-returns-in-Index : goal.find_in_form-returns-in-Index
find_in_form-returns-in-Index t c =
    in_operands c.args.id.0 _ _ _ _ c.in-Index.left c.in-Index.right _ _ (two_operands c.in-Index.left c.in-Index.right _ c.in-Index.is) c.deref-in-Index.ensures c.deref-in-Index-2.ensures c.find_in_node-in-Index.ensures c.find_in_node-in-Index-2.ensures c.or-in-Index.ensures

pub find_in_form-returns-in-MethodCall : goal.find_in_form-returns-in-MethodCall
find_in_form-returns-in-MethodCall t c =
    in_operand_and_nodes c.args.id.0 _ _ _ _ c.in-MethodCall.first _ _ _ (operand_and_nodes c.in-MethodCall.first _ _ c.in-MethodCall.is) c.deref-in-MethodCall.ensures c.as_slice-in-MethodCall.ensures c.find_in_node-in-MethodCall.ensures c.find_in_nodes-in-MethodCall.ensures c.or-in-MethodCall.ensures

pub find_in_form-returns-in-If : goal.find_in_form-returns-in-If
find_in_form-returns-in-If t c =
    in_if c.args.id.0 _ _ _ _ _ _ _ _ _ _ _ c.in-If.is c.deref-in-If.ensures c.deref-in-If-2.ensures c.find_in_node-in-If.ensures c.find_in_node-in-If-2.ensures c.find_if_any-in-If.ensures c.or-in-If.ensures c.or-in-If-2.ensures

pub find_in_form-returns-in-IfLet : goal.find_in_form-returns-in-IfLet
find_in_form-returns-in-IfLet t c =
    in_if_let c.args.id.0 _ _ _ _ _ _ _ _ _ _ _ _ _ _ _ c.in-IfLet.is c.deref-in-IfLet.ensures c.deref-in-IfLet-2.ensures c.deref-in-IfLet-3.ensures c.find_in_node-in-IfLet.ensures c.find_in_node-in-IfLet-2.ensures c.find_in_node-in-IfLet-3.ensures c.find_if_any-in-IfLet.ensures c.or-in-IfLet.ensures c.or-in-IfLet-2.ensures c.or-in-IfLet-3.ensures

pub find_in_form-returns-in-Arm : goal.find_in_form-returns-in-Arm
find_in_form-returns-in-Arm t c =
    in_arm c.args.id.0 _ _ _ _ _ _ _ _ _ _ _ c.in-Arm.is c.deref-in-Arm.ensures c.deref-in-Arm-2.ensures c.find_in_node-in-Arm.ensures c.find_if_any-in-Arm.ensures c.find_in_node-in-Arm-2.ensures c.or-in-Arm.ensures c.or-in-Arm-2.ensures

pub find_in_form-returns-in-WhileLet : goal.find_in_form-returns-in-WhileLet
find_in_form-returns-in-WhileLet t c =
    in_while_let c.args.id.0 _ _ _ _ _ _ _ _ _ _ _ _ c.in-WhileLet.is c.deref-in-WhileLet.ensures c.deref-in-WhileLet-2.ensures c.deref-in-WhileLet-3.ensures c.find_in_node-in-WhileLet.ensures c.find_in_node-in-WhileLet-2.ensures c.find_in_node-in-WhileLet-3.ensures c.or-in-WhileLet.ensures c.or-in-WhileLet-2.ensures

pub find_in_nodes-loop-node-preserved : goal.find_in_nodes-loop-node-preserved
find_in_nodes-loop-node-preserved t c =
    let F = λ (all : List Node). first_with c.args.id.0 (nodes_among (nodes_from (map tree_of all))) in
    let P = λ (x : Node). first_with c.args.id.0 (nodes_of (tree_of x)) ≡ None in
    let here = subst P c.node-item.is (sym c.find_in_node.ensures ∙ ap tree_found c.in_default.is) in
    c.loop-node.invariant ∙ at_drop_more F c.args.nodes.now c.loop-node.node-index c.node-item.result c.loop-node-test.true ∙ first_with-back c.args.id.0 _ _ here

pub find_in_nodes-returns-in-Some : goal.find_in_nodes-returns-in-Some
find_in_nodes-returns-in-Some t c =
    let F = λ (all : List Node). first_with c.args.id.0 (nodes_among (nodes_from (map tree_of all))) in
    let P = λ (x : Node). first_with c.args.id.0 (nodes_of (tree_of x)) ≡ Some (tree_of c.in-Some.found.now) in
    let here = subst P c.node-item.is (sym c.find_in_node.ensures ∙ ap tree_found c.in-Some.is) in
    sym (c.loop-node.invariant ∙ at_drop_more F c.args.nodes.now c.loop-node.node-index c.node-item.result c.loop-node-test.true ∙ first_with-front c.args.id.0 _ _ _ here)

pub find_in_fields-loop-field-preserved : goal.find_in_fields-loop-field-preserved
find_in_fields-loop-field-preserved t c =
    let F = λ (all : List NumberedField). first_with c.args.id.0 (nodes_of_fields (fields_from (map field_of all))) in
    let P = λ (x : NumberedField). first_with c.args.id.0 (nodes_of (field_of x).1) ≡ None in
    let value : nodes_of (field_of c.field-item.result).1 ≡ nodes_of (tree_of c.field-item.result.value) = search (rules, the_lemmas) in
    let here = subst P c.field-item.is (ap (λ nodes. first_with c.args.id.0 nodes) value ∙ sym c.find_in_node.ensures ∙ ap tree_found c.in_default.is) in
    c.loop-field.invariant ∙ at_drop_more F c.args.fields.now c.loop-field.field-index c.field-item.result c.loop-field-test.true ∙ first_with-back c.args.id.0 _ _ here

pub find_in_fields-returns-in-Some : goal.find_in_fields-returns-in-Some
find_in_fields-returns-in-Some t c =
    let F = λ (all : List NumberedField). first_with c.args.id.0 (nodes_of_fields (fields_from (map field_of all))) in
    let P = λ (x : NumberedField). first_with c.args.id.0 (nodes_of (field_of x).1) ≡ Some (tree_of c.in-Some.found.now) in
    let value : nodes_of (field_of c.field-item.result).1 ≡ nodes_of (tree_of c.field-item.result.value) = search (rules, the_lemmas) in
    let here = subst P c.field-item.is (ap (λ nodes. first_with c.args.id.0 nodes) value ∙ sym c.find_in_node.ensures ∙ ap tree_found c.in-Some.is) in
    sym (c.loop-field.invariant ∙ at_drop_more F c.args.fields.now c.loop-field.field-index c.field-item.result c.loop-field-test.true ∙ first_with-front c.args.id.0 _ _ _ here)

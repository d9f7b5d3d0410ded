use Rattle.std.proofs.Common.{rules, ◌≡◌, ◌++◌, List, refl, map}
use Rattle.std.proofs.lemmas.Result.{on_ok_weaker}
use Rattle.scope_table.specs.Table.{rows, entry_in, nothing, arm_rows, rows_of_arms, operand_rows, field_rows, statement_rows}
use Rattle.typed_tree.specs.declared.node.Form.{the_lemmas}
use Rattle.typed_tree.specs.declared.node.Node.{Node}
use Rattle.typed_tree.specs.declared.node.NumberedField.{NumberedField}
use Rattle.typed_tree.specs.View.{tree_of, field_of, nodes_from, fields_from}
use Rattle.typed_tree.proofs.Following.{one_more, two_behind, three_behind, four_behind}
use Rattle.scope_table.proofs.InForm.{in_index, in_two_operands, in_two_alone, in_assign, in_if, in_while_let, in_if_let, in_match, in_called, in_block, in_arm, of_value, of_matched, of_node, of_arm}
use Rattle.scope_table.proofs.walking.+rows.Goals as goal

pub add_arms-loop-arm-preserved : goal.add_arms-loop-arm-preserved
add_arms-loop-arm-preserved t c =
    let F = λ (all : List Node). rows_of_arms c.args.temporary (nodes_from (map tree_of all)) in
    let part = λ (x : Node). arm_rows c.args.temporary (tree_of x) in
    let is_new : c.add_arm.new.rows ≡ c.loop-arm.rows ++ part c.arm-item.result = search rules in
    one_more F part c.args.arms.now c.loop-arm.arm-index c.arm-item.result _ _ _ (λ x rest. refl) c.loop-arm-test.true c.arm-item.is is_new c.loop-arm.invariant

pub add_operands-loop-node-preserved : goal.add_operands-loop-node-preserved
add_operands-loop-node-preserved t c =
    let F = λ (all : List Node). operand_rows c.args.within c.args.id (nodes_from (map tree_of all)) in
    let part = λ (x : Node). rows c.args.within (entry_in c.args.id (tree_of x)) (tree_of x) in
    let is_new : c.add_node.new.rows ≡ c.loop-node.rows ++ part c.node-item.result = search rules in
    one_more F part c.args.nodes.now c.loop-node.node-index c.node-item.result _ _ _ (λ x rest. refl) c.loop-node-test.true c.node-item.is is_new c.loop-node.invariant

pub add_statements-loop-node-preserved : goal.add_statements-loop-node-preserved
add_statements-loop-node-preserved t c =
    let F = λ (all : List Node). statement_rows c.args.within (nodes_from (map tree_of all)) in
    let part = λ (x : Node). rows c.args.within nothing (tree_of x) in
    let is_new : c.add_node.new.rows ≡ c.loop-node.rows ++ part c.node-item.result = search rules in
    one_more F part c.args.nodes.now c.loop-node.node-index c.node-item.result _ _ _ (λ x rest. refl) c.loop-node-test.true c.node-item.is is_new c.loop-node.invariant

pub add_fields-loop-field-preserved : goal.add_fields-loop-field-preserved
add_fields-loop-field-preserved t c =
    let F = λ (all : List NumberedField). field_rows c.args.within c.args.id (fields_from (map field_of all)) in
    let part = λ (x : NumberedField). rows c.args.within (entry_in c.args.id (field_of x).1) (field_of x).1 in
    let is_new : c.add_node.new.rows ≡ c.loop-field.rows ++ part c.field-item.result = search (rules, the_lemmas) in
    one_more F part c.args.fields.now c.loop-field.field-index c.field-item.result _ _ _ (λ x rest. refl) c.loop-field-test.true c.field-item.is is_new c.loop-field.invariant

pub add_in_form-returns-in_ok-add_reached-in-Index : goal.add_in_form-returns-in_ok-add_reached-in-Index
add_in_form-returns-in_ok-add_reached-in-Index t c =
    let all = in_index c.args.within c.args.id _ _ _ _ _ c.deref.ensures c.deref-in-Index.ensures _ _ c.nothing.ensures c.in-Index.is in
    on_ok_weaker _ (two_behind _ _ _ _ _ _ c.in_ok-add_reached-in-Index.ensures all) c.add_node.ensures

pub add_in_form-returns-in_ok-add_operand-in-Assign : goal.add_in_form-returns-in_ok-add_operand-in-Assign
add_in_form-returns-in_ok-add_operand-in-Assign t c =
    let all = in_assign c.args.within c.args.id _ _ _ _ _ c.deref-in-Assign.ensures c.deref-in-Assign-2.ensures _ c.inner.ensures c.in-Assign.is in
    on_ok_weaker _ (two_behind _ _ _ _ _ _ c.in_ok-add_operand-in-Assign.ensures all) c.add_reached-in-Assign.ensures

pub add_in_form-returns-in_ok-add_statements-in-Block : goal.add_in_form-returns-in_ok-add_statements-in-Block
add_in_form-returns-in_ok-add_statements-in-Block t c =
    let all = in_block c.args.within _ c.args.id _ _ _ _ c.as_slice-in-Block.ensures c.inner-in-Block.ensures c.in-Block.is in
    on_ok_weaker _ (two_behind _ _ _ _ _ _ c.in_ok-add_statements-in-Block.ensures all) c.add_alone_if_any.ensures

pub add_in_form-returns-in_ok-add_alone-in-If-2 : goal.add_in_form-returns-in_ok-add_alone-in-If-2
add_in_form-returns-in_ok-add_alone-in-If-2 t c =
    let all = in_if c.args.within c.args.id _ _ _ _ _ c.deref-in-If.ensures c.deref-in-If-2.ensures _ c.in-If.is in
    on_ok_weaker _ (three_behind _ _ _ _ _ _ _ _ c.in_ok-add_alone-in-If.ensures c.in_ok-add_alone-in-If-2.ensures all) c.add_alone_if_any-in-If.ensures

pub add_in_form-returns-in_ok-add_alone-in-IfLet : goal.add_in_form-returns-in_ok-add_alone-in-IfLet
add_in_form-returns-in_ok-add_alone-in-IfLet t c =
    let all = in_if_let c.args.within c.args.id _ _ _ _ _ c.deref-in-IfLet.ensures c.deref-in-IfLet-2.ensures _ _ _ c.deref-in-IfLet-3.ensures c.in-IfLet.is in
    on_ok_weaker _ (three_behind _ _ _ _ _ _ _ _ c.in_ok-add_matched-in-IfLet.ensures c.in_ok-add_alone-in-IfLet.ensures all) c.add_alone_if_any-in-IfLet.ensures

pub add_in_form-returns-in_ok-add_reached-in-Match : goal.add_in_form-returns-in_ok-add_reached-in-Match
add_in_form-returns-in_ok-add_reached-in-Match t c =
    let all = in_match c.args.within c.args.id _ _ _ _ _ c.deref-in-Match.ensures c.as_slice-in-Match.ensures c.in-Match.is in
    on_ok_weaker _ (two_behind _ _ _ _ _ _ c.in_ok-add_reached-in-Match.ensures all) c.add_arms.ensures

pub add_in_form-returns-in_ok-add_matched-in-WhileLet : goal.add_in_form-returns-in_ok-add_matched-in-WhileLet
add_in_form-returns-in_ok-add_matched-in-WhileLet t c =
    let all = in_while_let c.args.within c.args.id _ _ _ _ _ c.deref-in-WhileLet.ensures c.deref-in-WhileLet-2.ensures _ _ c.deref-in-WhileLet-3.ensures c.in-WhileLet.is in
    on_ok_weaker _ (two_behind _ _ _ _ _ _ c.in_ok-add_matched-in-WhileLet.ensures all) c.add_alone-in-WhileLet.ensures

pub add_arm_of-returns-in_ok-add_pattern-in-Arm : goal.add_arm_of-returns-in_ok-add_pattern-in-Arm
add_arm_of-returns-in_ok-add_pattern-in-Arm t c =
    let all = in_arm c.args.temporary c.args.id _ _ _ _ _ _ _ _ _ c.deref.ensures c.deref-in-Arm.ensures c.nothing.ensures c.row_of.ensures c.name_in.ensures c.in-Arm.is in
    on_ok_weaker _ (four_behind _ _ _ _ _ _ _ _ _ _ c.in_ok-push-in-Arm.ensures.pushed c.in_ok-add_alone_if_any-in-Arm.ensures c.in_ok-add_pattern-in-Arm.ensures all) c.add_alone.ensures

pub add_valued-returns : goal.add_valued-returns
add_valued-returns t c =
    let all = of_value c.args.id c.args.scope c.args.value.now c.args.pattern.now _ c.let_name.ensures in
    on_ok_weaker _ (two_behind _ _ _ _ _ _ c.in_ok-add_initial.ensures all) c.add_pattern.ensures

pub add_matched-returns : goal.add_matched-returns
add_matched-returns t c =
    let all = of_matched _ c.args.id (tree_of c.args.scrutinee.now) (tree_of c.args.pattern.now) _ c.both_in.ensures c.name_in.ensures in
    on_ok_weaker _ (two_behind _ _ _ _ _ _ c.in_ok-add_reached.ensures all) c.add_pattern.ensures

pub add_node-returns : goal.add_node-returns
add_node-returns t c =
    let all = of_node c.args.within c.args.made c.args.node.now _ _ _ c.is_idle.ensures c.temporary_of-temporary.ensures c.row_of.ensures in
    on_ok_weaker _ (three_behind _ _ _ _ _ _ _ _ c.in_ok-add_in_form.ensures c.in_ok-add_where.ensures all) c.push.ensures.pushed

pub add_arm-returns : goal.add_arm-returns
add_arm-returns t c =
    let all = of_arm c.args.temporary c.args.arm.now _ c.is_arm.ensures in
    on_ok_weaker _ (two_behind _ _ _ _ _ _ c.in_ok-add_arm_of.ensures all) c.add_other.ensures

pub add_in_form-returns-in_ok-add_operand-in-Arithmetic : goal.add_in_form-returns-in_ok-add_operand-in-Arithmetic
add_in_form-returns-in_ok-add_operand-in-Arithmetic t c =
    let all = in_two_operands c.args.within c.args.id _ _ _ _ _ c.deref-in-Arithmetic.ensures c.deref-in-Arithmetic-2.ensures c.in-Arithmetic.is in
    on_ok_weaker _ (two_behind _ _ _ _ _ _ c.in_ok-add_operand-in-Arithmetic.ensures all) c.add_operand-in-Arithmetic-2.ensures

pub add_in_form-returns-in_ok-add_alone-in-And : goal.add_in_form-returns-in_ok-add_alone-in-And
add_in_form-returns-in_ok-add_alone-in-And t c =
    let all = in_two_alone c.args.within c.args.id _ _ _ _ _ c.deref-in-And.ensures c.deref-in-And-2.ensures c.in-And.is in
    on_ok_weaker _ (two_behind _ _ _ _ _ _ c.in_ok-add_alone-in-And.ensures all) c.add_alone-in-And-2.ensures

pub add_in_form-returns-in_ok-add_operand-in-MethodCall : goal.add_in_form-returns-in_ok-add_operand-in-MethodCall
add_in_form-returns-in_ok-add_operand-in-MethodCall t c =
    let all = in_called c.args.within c.args.id _ _ _ _ _ c.deref-in-MethodCall.ensures c.as_slice-in-MethodCall.ensures _ c.inner-in-MethodCall.ensures c.in-MethodCall.is in
    on_ok_weaker _ (two_behind _ _ _ _ _ _ c.in_ok-add_operand-in-MethodCall.ensures all) c.add_operands.ensures

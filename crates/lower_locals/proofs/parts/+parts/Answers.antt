use Rattle.std.proofs.Common.{◌≡◌, ◌++◌, ◌∙◌, List, true, refl, sym, ap, map}
use Rattle.std.proofs.lemmas.Result.{on_ok_weaker}
use Rattle.src_meaning.specs.Locals.OfBody.{cells, cells_in, all_cells, cells_of_fields}
use Rattle.typed_tree.specs.Tree as tree
use Rattle.typed_tree.specs.declared.node.Node.{Node}
use Rattle.typed_tree.specs.declared.node.NumberedField.{NumberedField}
use Rattle.typed_tree.specs.View.{tree_of, form_of, field_of, nodes_from, fields_from}
use Rattle.lower_locals.specs.Own.{own_local}
use Rattle.lower_locals.specs.View.{entry_of, locals_of, asked_of_initialiser}
use Rattle.typed_tree.proofs.Following.{one_more, two_behind}
use Rattle.lower_locals.proofs.OwnFirst.{own_first}
use Rattle.typed_tree.proofs.PlainForms.{node_seen, value_seen}
use Rattle.lower_locals.proofs.FoundLocals.{arm_found, block_found, call_found, if_found, if_let_found, let_found, match_found, operands_found, reaching_found, shortcut_found, while_found, while_let_found}
use Rattle.lower_locals.proofs.parts.+parts.Goals as goal

pub add_nodes-loop-node-preserved : goal.add_nodes-loop-node-preserved
add_nodes-loop-node-preserved t c =
    let F = λ (all : List Node). all_cells c.args.items.now (nodes_from (map tree_of all)) in
    let part = λ (x : Node). cells c.args.items.now true (tree_of x) in
    one_more F part c.args.nodes.now c.loop-node.node-index c.node-item.result _ _ _ (λ x rest. refl) c.loop-node-test.true c.node-item.is c.in_ok-add_node.ensures c.loop-node.invariant

pub add_fields-loop-field-preserved : goal.add_fields-loop-field-preserved
add_fields-loop-field-preserved t c =
    let F = λ (all : List NumberedField). cells_of_fields c.args.items.now (fields_from (map field_of all)) in
    let part = λ (x : NumberedField). cells c.args.items.now true (field_of x).1 in
    let is_new : map entry_of c.add_node.new.found ≡ map entry_of c.loop-field.found ++ part c.field-item.result =
    c.in_ok-add_node.ensures ∙ ap (λ (n : tree.Node). map entry_of c.loop-field.found ++ cells c.args.items.now true n) (sym (value_seen c.field-item.result)) in
    one_more F part c.args.fields.now c.loop-field.field-index c.field-item.result _ _ _ (λ x rest. refl) c.loop-field-test.true c.field-item.is is_new c.loop-field.invariant

pub add_node-returns : goal.add_node-returns
add_node-returns t c =
    let items = c.args.items.now in
    let n = c.args.node.now in
    let all : locals_of items c.args.asked (tree_of n) ≡ own_local items c.args.asked n.id.0 n.ty (form_of n.form) ++ cells_in items (form_of n.form) =
    ap (locals_of items c.args.asked) (node_seen n) ∙ own_first items n.id.0 n.at n.ty n.by c.args.asked (form_of n.form) in
    let then_all : (map entry_of c.add_parts.new.found ≡ map entry_of c.add_own.new.found ++ cells_in items (form_of n.form)) → map entry_of c.add_parts.new.found ≡ map entry_of c.args.found.now ++ locals_of items c.args.asked (tree_of n) =
    two_behind _ _ _ _ _ _ c.in_ok-add_own.ensures all in
    on_ok_weaker _ then_all c.add_parts.ensures

pub add_branches-returns-in_ok-add_node-in-If-2 : goal.add_branches-returns-in_ok-add_node-in-If-2
add_branches-returns-in_ok-add_node-in-If-2 t c = on_ok_weaker _ (if_found c.args.items.now _ _ _ _ (map entry_of c.add_if_any.new.found) _ _ _ _ _ c.in-If.is c.deref.ensures c.deref-in-If.ensures c.in_ok-add_node-in-If.ensures c.in_ok-add_node-in-If-2.ensures) c.add_if_any.ensures

pub add_branches-returns-in_ok-add_node-in-IfLet-3 : goal.add_branches-returns-in_ok-add_node-in-IfLet-3
add_branches-returns-in_ok-add_node-in-IfLet-3 t c = on_ok_weaker _ (if_let_found c.args.items.now _ _ _ _ _ (map entry_of c.add_if_any-in-IfLet.new.found) _ _ _ _ _ _ _ c.in-IfLet.is c.deref-in-IfLet.ensures c.deref-in-IfLet-2.ensures c.deref-in-IfLet-3.ensures c.in_ok-add_node-in-IfLet.ensures c.in_ok-add_node-in-IfLet-2.ensures c.in_ok-add_node-in-IfLet-3.ensures) c.add_if_any-in-IfLet.ensures

pub add_branches-returns-in_ok-add_node-in-Match : goal.add_branches-returns-in_ok-add_node-in-Match
add_branches-returns-in_ok-add_node-in-Match t c = on_ok_weaker _ (match_found c.args.items.now _ _ _ (map entry_of c.add_nodes.new.found) _ _ _ _ c.in-Match.is c.deref-in-Match.ensures c.as_slice.ensures c.in_ok-add_node-in-Match.ensures) c.add_nodes.ensures

pub add_branches-returns-in_ok-add_if_any-in-Arm : goal.add_branches-returns-in_ok-add_if_any-in-Arm
add_branches-returns-in_ok-add_if_any-in-Arm t c = on_ok_weaker _ (arm_found c.args.items.now _ _ _ _ (map entry_of c.add_node-in-Arm-2.new.found) _ _ _ _ _ c.in-Arm.is c.deref-in-Arm.ensures c.deref-in-Arm-2.ensures c.in_ok-add_node-in-Arm.ensures c.in_ok-add_if_any-in-Arm.ensures) c.add_node-in-Arm-2.ensures

pub add_statements-returns-in_ok-add_nodes-in-Block : goal.add_statements-returns-in_ok-add_nodes-in-Block
add_statements-returns-in_ok-add_nodes-in-Block t c = on_ok_weaker _ (block_found c.args.items.now _ _ _ (map entry_of c.add_if_any.new.found) _ _ _ c.in-Block.is c.as_slice.ensures c.in_ok-add_nodes-in-Block.ensures) c.add_if_any.ensures

pub add_statements-returns-in_ok-add_node-in-Let : goal.add_statements-returns-in_ok-add_node-in-Let
add_statements-returns-in_ok-add_node-in-Let t c = on_ok_weaker _ (let_found c.args.items.now _ _ _ (map entry_of c.add_if_any-in-Let.new.found) _ _ _ _ _ c.in-Let.is c.deref.ensures c.deref-in-Let.ensures c.asked_of_initialiser.ensures c.in_ok-add_node-in-Let.ensures) c.add_if_any-in-Let.ensures

pub add_statements-returns-in_ok-add_node-in-While : goal.add_statements-returns-in_ok-add_node-in-While
add_statements-returns-in_ok-add_node-in-While t c = on_ok_weaker _ (while_found c.args.items.now _ _ _ (map entry_of c.add_node-in-While-2.new.found) _ _ _ _ c.in-While.is c.deref-in-While.ensures c.deref-in-While-2.ensures c.in_ok-add_node-in-While.ensures) c.add_node-in-While-2.ensures

pub add_statements-returns-in_ok-add_node-in-WhileLet-2 : goal.add_statements-returns-in_ok-add_node-in-WhileLet-2
add_statements-returns-in_ok-add_node-in-WhileLet-2 t c = on_ok_weaker _ (while_let_found c.args.items.now _ _ _ _ (map entry_of c.add_node-in-WhileLet-3.new.found) _ _ _ _ _ _ c.in-WhileLet.is c.deref-in-WhileLet.ensures c.deref-in-WhileLet-2.ensures c.deref-in-WhileLet-3.ensures c.in_ok-add_node-in-WhileLet.ensures c.in_ok-add_node-in-WhileLet-2.ensures) c.add_node-in-WhileLet-3.ensures

pub add_operands-returns-in_ok-add_node-in-Arithmetic : goal.add_operands-returns-in_ok-add_node-in-Arithmetic
add_operands-returns-in_ok-add_node-in-Arithmetic t c = on_ok_weaker _ (operands_found c.args.items.now _ _ _ (map entry_of c.add_node-in-Arithmetic-2.new.found) c.in-Arithmetic.left c.in-Arithmetic.right _ _ c.deref-in-Arithmetic.ensures c.deref-in-Arithmetic-2.ensures c.in-Arithmetic.is c.in_ok-add_node-in-Arithmetic.ensures) c.add_node-in-Arithmetic-2.ensures

pub add_operands-returns-in_ok-add_node-in-And : goal.add_operands-returns-in_ok-add_node-in-And
add_operands-returns-in_ok-add_node-in-And t c = on_ok_weaker _ (shortcut_found c.args.items.now _ _ _ (map entry_of c.add_node-in-And.new.found) c.in-And.left c.in-And.right _ _ c.deref.ensures c.deref-in-And.ensures c.in-And.is c.in_ok-add_node-in-And.ensures) c.add_node-in-And.ensures

pub add_in_place-returns-in_ok-add_node-in-Index : goal.add_in_place-returns-in_ok-add_node-in-Index
add_in_place-returns-in_ok-add_node-in-Index t c = on_ok_weaker _ (reaching_found c.args.items.now _ _ _ (map entry_of c.add_node-in-Index.new.found) c.in-Index.place c.in-Index.value _ _ c.deref.ensures c.deref-in-Index.ensures c.in-Index.is c.in_ok-add_node-in-Index.ensures) c.add_node-in-Index.ensures

pub add_members-returns-in_ok-add_node-in-MethodCall : goal.add_members-returns-in_ok-add_node-in-MethodCall
add_members-returns-in_ok-add_node-in-MethodCall t c = on_ok_weaker _ (call_found c.args.items.now _ _ _ (map entry_of c.add_nodes.new.found) c.in-MethodCall.receiver c.in-MethodCall.args _ _ c.deref.ensures c.as_slice-in-MethodCall.ensures c.in-MethodCall.is c.in_ok-add_node-in-MethodCall.ensures) c.add_nodes.ensures

use Rattle.std.proofs.Common.{rules, ◌≡◌, ◌∙◌, ap, map}
use Rattle.typeck_bodies.specs.Places.{placed}
use Rattle.typed_tree.specs.declared.node.Form.{the_lemmas}
use Rattle.typed_tree.specs.View.{field_of, fields_from, nodes_from, tree_of}
use Rattle.typing_rules.specs.Numbered.{renumbered}
use Rattle.typeck_bodies.proofs.Lists.{nodes_same, fields_same, field_renumbered, one_written, whole, settled}
use Rattle.typeck_bodies.proofs.Renumbered.{and_made, arithmetic_made, arm_made, array_made, array_pattern_made, assign_made, block_made, borrow_made, call_made, closure_call_made, closure_made, comparison_made, deref_made, drop_value_made, evaluate_made, field_made, forget_made, if_let_made, if_made, index_made, let_made, loop_made, match_made, method_call_made, negate_made, new_box_made, not_made, or_made, or_pattern_made, print_made, return_made, tuple_made, tuple_pattern_made, unsize_made, virtual_call_made, while_let_made, while_made}
use Rattle.typeck_bodies.proofs.renumber.+renumber.Goals as goal

pub children-loop-node-preserved : goal.children-loop-node-preserved
children-loop-node-preserved t c =
    one_written tree_of (renumbered (placed c.args.places.now)) c.loop-node.node-index c.loop-node.node-items
    c.deref_mut-node-items.result.now _ c.node-item.result c.loop-node-test.true c.loop-node.invariant (search rules)

pub children-returns : goal.children-returns
children-returns t c =
    let f = placed c.args.places.now in
    let made : c.from_vec.result ≡ c.loop-node.node-items =
    whole _ _ _ _ (c.loop-node.auto.node-items ∙ c.deref_mut-node-items.ensures.len) c.from_vec.ensures in
    let all : map tree_of c.loop-node.node-items ≡ map (renumbered f) (map tree_of c.args.nodes) =
    settled tree_of (renumbered f) c.loop-node.node-index _ _ c.loop-node.auto.node-items c.loop-node-test.false c.loop-node.invariant.1
    ∙ ap (λ l. map (renumbered f) (map tree_of l)) (c.deref_mut-node-items.ensures.value ∙ c.into_vec-nodes.ensures) in
    ap (λ l. nodes_from (map tree_of l)) made ∙ ap nodes_from all ∙ nodes_same f (map tree_of c.args.nodes)

pub fields_with-loop-field-preserved : goal.fields_with-loop-field-preserved
fields_with-loop-field-preserved t c =
    one_written field_of (field_renumbered (placed c.args.places.now)) c.loop-field.field-index c.loop-field.field-items
    c.deref_mut-field-items.result.now _ c.field-item.result c.loop-field-test.true c.loop-field.invariant
    (search (rules, the_lemmas))

pub fields_with-returns : goal.fields_with-returns
fields_with-returns t c =
    let f = placed c.args.places.now in
    let made : c.from_vec.result ≡ c.loop-field.field-items =
    whole _ _ _ _ (c.loop-field.auto.field-items ∙ c.deref_mut-field-items.ensures.len) c.from_vec.ensures in
    let all : map field_of c.loop-field.field-items ≡ map (field_renumbered f) (map field_of c.args.fields) =
    settled field_of (field_renumbered f) c.loop-field.field-index _ _ c.loop-field.auto.field-items c.loop-field-test.false c.loop-field.invariant.1
    ∙ ap (λ l. map (field_renumbered f) (map field_of l)) (c.deref_mut-field-items.ensures.value ∙ c.into_vec-fields.ensures) in
    ap (λ l. fields_from (map field_of l)) made ∙ ap fields_from all ∙ fields_same f (map field_of c.args.fields)

-- ---- forms by their parts

pub form_with-returns-in-Index : goal.form_with-returns-in-Index
form_with-returns-in-Index t c =
    index_made (placed c.args.places.now) c.args.form c.in-Index.length c.in-Index.base c.child-in-Index.result c.in-Index.index c.child-in-Index-2.result
    c.in-Index.is c.child-in-Index.ensures c.child-in-Index-2.ensures

pub form_with-returns-in-Arithmetic : goal.form_with-returns-in-Arithmetic
form_with-returns-in-Arithmetic t c =
    arithmetic_made (placed c.args.places.now) c.args.form c.in-Arithmetic.operator c.in-Arithmetic.left c.child-in-Arithmetic.result c.in-Arithmetic.right c.child-in-Arithmetic-2.result
    c.in-Arithmetic.is c.child-in-Arithmetic.ensures c.child-in-Arithmetic-2.ensures

pub form_with-returns-in-Comparison : goal.form_with-returns-in-Comparison
form_with-returns-in-Comparison t c =
    comparison_made (placed c.args.places.now) c.args.form c.in-Comparison.operator c.in-Comparison.left c.child-in-Comparison.result c.in-Comparison.right c.child-in-Comparison-2.result
    c.in-Comparison.is c.child-in-Comparison.ensures c.child-in-Comparison-2.ensures

pub form_with-returns-in-And : goal.form_with-returns-in-And
form_with-returns-in-And t c =
    and_made (placed c.args.places.now) c.args.form c.in-And.left c.child-in-And.result c.in-And.right c.child-in-And-2.result
    c.in-And.is c.child-in-And.ensures c.child-in-And-2.ensures

pub form_with-returns-in-Or : goal.form_with-returns-in-Or
form_with-returns-in-Or t c =
    or_made (placed c.args.places.now) c.args.form c.in-Or.left c.child-in-Or.result c.in-Or.right c.child-in-Or-2.result
    c.in-Or.is c.child-in-Or.ensures c.child-in-Or-2.ensures

pub form_with-returns-in-Assign : goal.form_with-returns-in-Assign
form_with-returns-in-Assign t c =
    assign_made (placed c.args.places.now) c.args.form c.in-Assign.place c.child-in-Assign.result c.in-Assign.value c.child-in-Assign-2.result
    c.in-Assign.is c.child-in-Assign.ensures c.child-in-Assign-2.ensures

pub form_with-returns-in-MethodCall : goal.form_with-returns-in-MethodCall
form_with-returns-in-MethodCall t c =
    method_call_made (placed c.args.places.now) c.args.form c.in-MethodCall.body c.in-MethodCall.receiver c.child-in-MethodCall.result c.in-MethodCall.args c.children-in-MethodCall.result
    c.in-MethodCall.is c.child-in-MethodCall.ensures c.children-in-MethodCall.ensures

pub form_with-returns-in-VirtualCall : goal.form_with-returns-in-VirtualCall
form_with-returns-in-VirtualCall t c =
    virtual_call_made (placed c.args.places.now) c.args.form c.in-VirtualCall.trait_no c.in-VirtualCall.method c.in-VirtualCall.receiver c.child-in-VirtualCall.result c.in-VirtualCall.args c.children-in-VirtualCall.result
    c.in-VirtualCall.is c.child-in-VirtualCall.ensures c.children-in-VirtualCall.ensures

pub form_with-returns-in-ClosureCall : goal.form_with-returns-in-ClosureCall
form_with-returns-in-ClosureCall t c =
    closure_call_made (placed c.args.places.now) c.args.form c.in-ClosureCall.body c.in-ClosureCall.callee c.child-in-ClosureCall.result c.in-ClosureCall.args c.children-in-ClosureCall.result
    c.in-ClosureCall.is c.child-in-ClosureCall.ensures c.children-in-ClosureCall.ensures

pub form_with-returns-in-Block : goal.form_with-returns-in-Block
form_with-returns-in-Block t c =
    block_made (placed c.args.places.now) c.args.form c.in-Block.statements c.children-in-Block.result c.in-Block.tail c.child_if_any.result
    c.in-Block.is c.children-in-Block.ensures c.child_if_any.ensures

pub form_with-returns-in-Let : goal.form_with-returns-in-Let
form_with-returns-in-Let t c =
    let_made (placed c.args.places.now) c.args.form c.in-Let.pattern c.child-in-Let.result c.in-Let.initialiser c.child_if_any-in-Let.result
    c.in-Let.is c.child-in-Let.ensures c.child_if_any-in-Let.ensures

pub form_with-returns-in-If : goal.form_with-returns-in-If
form_with-returns-in-If t c =
    if_made (placed c.args.places.now) c.args.form c.in-If.condition c.child-in-If.result c.in-If.then c.child-in-If-2.result c.in-If.otherwise c.child_if_any-in-If.result
    c.in-If.is c.child-in-If.ensures c.child-in-If-2.ensures c.child_if_any-in-If.ensures

pub form_with-returns-in-IfLet : goal.form_with-returns-in-IfLet
form_with-returns-in-IfLet t c =
    if_let_made (placed c.args.places.now) c.args.form c.in-IfLet.pattern c.child-in-IfLet.result c.in-IfLet.scrutinee c.child-in-IfLet-2.result c.in-IfLet.then c.child-in-IfLet-3.result c.in-IfLet.otherwise c.child_if_any-in-IfLet.result
    c.in-IfLet.is c.child-in-IfLet.ensures c.child-in-IfLet-2.ensures c.child-in-IfLet-3.ensures c.child_if_any-in-IfLet.ensures

pub form_with-returns-in-Match : goal.form_with-returns-in-Match
form_with-returns-in-Match t c =
    match_made (placed c.args.places.now) c.args.form c.in-Match.scrutinee c.child-in-Match.result c.in-Match.arms c.children-in-Match.result
    c.in-Match.is c.child-in-Match.ensures c.children-in-Match.ensures

pub form_with-returns-in-Arm : goal.form_with-returns-in-Arm
form_with-returns-in-Arm t c =
    arm_made (placed c.args.places.now) c.args.form c.in-Arm.pattern c.child-in-Arm.result c.in-Arm.guard c.child_if_any-in-Arm.result c.in-Arm.body c.child-in-Arm-2.result
    c.in-Arm.is c.child-in-Arm.ensures c.child_if_any-in-Arm.ensures c.child-in-Arm-2.ensures

pub form_with-returns-in-While : goal.form_with-returns-in-While
form_with-returns-in-While t c =
    while_made (placed c.args.places.now) c.args.form c.in-While.condition c.child-in-While.result c.in-While.body c.child-in-While-2.result
    c.in-While.is c.child-in-While.ensures c.child-in-While-2.ensures

pub form_with-returns-in-WhileLet : goal.form_with-returns-in-WhileLet
form_with-returns-in-WhileLet t c =
    while_let_made (placed c.args.places.now) c.args.form c.in-WhileLet.pattern c.child-in-WhileLet.result c.in-WhileLet.scrutinee c.child-in-WhileLet-2.result c.in-WhileLet.body c.child-in-WhileLet-3.result
    c.in-WhileLet.is c.child-in-WhileLet.ensures c.child-in-WhileLet-2.ensures c.child-in-WhileLet-3.ensures

pub form_with-returns-in-Field : goal.form_with-returns-in-Field
form_with-returns-in-Field t c =
    field_made (placed c.args.places.now) c.args.form c.in-Field.part c.in-Field.base c.child.result
    c.in-Field.is c.child.ensures

pub form_with-returns-in-Deref : goal.form_with-returns-in-Deref
form_with-returns-in-Deref t c =
    deref_made (placed c.args.places.now) c.args.form c.in-Deref.base c.child-in-Deref.result
    c.in-Deref.is c.child-in-Deref.ensures

pub form_with-returns-in-Not : goal.form_with-returns-in-Not
form_with-returns-in-Not t c =
    not_made (placed c.args.places.now) c.args.form c.in-Not.operand c.child-in-Not.result
    c.in-Not.is c.child-in-Not.ensures

pub form_with-returns-in-Negate : goal.form_with-returns-in-Negate
form_with-returns-in-Negate t c =
    negate_made (placed c.args.places.now) c.args.form c.in-Negate.operand c.child-in-Negate.result
    c.in-Negate.is c.child-in-Negate.ensures

pub form_with-returns-in-NewBox : goal.form_with-returns-in-NewBox
form_with-returns-in-NewBox t c =
    new_box_made (placed c.args.places.now) c.args.form c.in-NewBox.content c.child-in-NewBox.result
    c.in-NewBox.is c.child-in-NewBox.ensures

pub form_with-returns-in-Print : goal.form_with-returns-in-Print
form_with-returns-in-Print t c =
    print_made (placed c.args.places.now) c.args.form c.in-Print.operand c.child-in-Print.result
    c.in-Print.is c.child-in-Print.ensures

pub form_with-returns-in-DropValue : goal.form_with-returns-in-DropValue
form_with-returns-in-DropValue t c =
    drop_value_made (placed c.args.places.now) c.args.form c.in-DropValue.operand c.child-in-DropValue.result
    c.in-DropValue.is c.child-in-DropValue.ensures

pub form_with-returns-in-Forget : goal.form_with-returns-in-Forget
form_with-returns-in-Forget t c =
    forget_made (placed c.args.places.now) c.args.form c.in-Forget.operand c.child-in-Forget.result
    c.in-Forget.is c.child-in-Forget.ensures

pub form_with-returns-in-Borrow : goal.form_with-returns-in-Borrow
form_with-returns-in-Borrow t c =
    borrow_made (placed c.args.places.now) c.args.form c.in-Borrow.unique c.in-Borrow.base c.child-in-Borrow.result
    c.in-Borrow.is c.child-in-Borrow.ensures

pub form_with-returns-in-Unsize : goal.form_with-returns-in-Unsize
form_with-returns-in-Unsize t c =
    unsize_made (placed c.args.places.now) c.args.form c.in-Unsize.trait_no c.in-Unsize.operand c.child-in-Unsize.result
    c.in-Unsize.is c.child-in-Unsize.ensures

pub form_with-returns-in-Evaluate : goal.form_with-returns-in-Evaluate
form_with-returns-in-Evaluate t c =
    evaluate_made (placed c.args.places.now) c.args.form c.in-Evaluate.expression c.child-in-Evaluate.result
    c.in-Evaluate.is c.child-in-Evaluate.ensures

pub form_with-returns-in-Loop : goal.form_with-returns-in-Loop
form_with-returns-in-Loop t c =
    loop_made (placed c.args.places.now) c.args.form c.in-Loop.body c.child-in-Loop.result
    c.in-Loop.is c.child-in-Loop.ensures

pub form_with-returns-in-Return : goal.form_with-returns-in-Return
form_with-returns-in-Return t c =
    return_made (placed c.args.places.now) c.args.form c.in-Return.value c.child_if_any-in-Return.result
    c.in-Return.is c.child_if_any-in-Return.ensures

pub form_with-returns-in-Call : goal.form_with-returns-in-Call
form_with-returns-in-Call t c =
    call_made (placed c.args.places.now) c.args.form c.in-Call.body c.in-Call.args c.children.result
    c.in-Call.is c.children.ensures

pub form_with-returns-in-Tuple : goal.form_with-returns-in-Tuple
form_with-returns-in-Tuple t c =
    tuple_made (placed c.args.places.now) c.args.form c.in-Tuple.parts c.children-in-Tuple.result
    c.in-Tuple.is c.children-in-Tuple.ensures

pub form_with-returns-in-Array : goal.form_with-returns-in-Array
form_with-returns-in-Array t c =
    array_made (placed c.args.places.now) c.args.form c.in-Array.elements c.children-in-Array.result
    c.in-Array.is c.children-in-Array.ensures

pub form_with-returns-in-Closure : goal.form_with-returns-in-Closure
form_with-returns-in-Closure t c =
    closure_made (placed c.args.places.now) c.args.form c.in-Closure.closure c.in-Closure.captures c.children-in-Closure.result
    c.in-Closure.is c.children-in-Closure.ensures

pub form_with-returns-in-TuplePattern : goal.form_with-returns-in-TuplePattern
form_with-returns-in-TuplePattern t c =
    tuple_pattern_made (placed c.args.places.now) c.args.form c.in-TuplePattern.parts c.children-in-TuplePattern.result
    c.in-TuplePattern.is c.children-in-TuplePattern.ensures

pub form_with-returns-in-ArrayPattern : goal.form_with-returns-in-ArrayPattern
form_with-returns-in-ArrayPattern t c =
    array_pattern_made (placed c.args.places.now) c.args.form c.in-ArrayPattern.elements c.children-in-ArrayPattern.result
    c.in-ArrayPattern.is c.children-in-ArrayPattern.ensures

pub form_with-returns-in-OrPattern : goal.form_with-returns-in-OrPattern
form_with-returns-in-OrPattern t c =
    or_pattern_made (placed c.args.places.now) c.args.form c.in-OrPattern.alternatives c.children-in-OrPattern.result
    c.in-OrPattern.is c.children-in-OrPattern.ensures

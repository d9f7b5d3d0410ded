use Rattle.std.proofs.Common.{◌≡◌, ◌++◌, ◌∷◌, [], ℕ, true, false, List, Option, rules, refl, sym, ap, ◌∙◌, map}
use Rattle.std.proofs.lemmas.List.{map-append}
use Rattle.std.proofs.lemmas.Result.{on_ok_weaker}
use Rattle.std.specs.Prelude.{option_map}
use Rattle.typed_tree.specs.Tree as tree
use Rattle.typed_tree.specs.Tree.{node}
use Rattle.typed_tree.specs.View.{tree_of, form_of, field_of, maybe_of, nodes_from, fields_from}
use Rattle.typed_tree.specs.declared.node.Form.{the_lemmas}
use Rattle.typed_tree.specs.declared.node.Node.{Node}
use Rattle.typed_tree.specs.declared.node.NumberedField.{NumberedField}
use Rattle.typing_rules.specs.Accesses as rules
use Rattle.typing_rules.specs.Accesses.{◌⊕◌, Argument, AccessPlace, CollectedAccesses, access_by, accesses_of, argument, arguments, bound, inside, of_scrutinee, of_let, own_access, passed_together, place_of, refers_by, root_of, told, told_all, told_arm, told_arms, told_fields, told_guard, told_maybe}
use Rattle.borrow_rules.specs.Forms.{argument_told, arm_told, borrow_access, branch_told, call_told, parts_told, reaching_told}
use Rattle.borrow_rules.specs.AccessView.{access_in, aliases_in, argument_in, bound_in, place_if_any, referring_if_any, told_in}
use Rattle.borrow_rules.specs.declared.arguments.Argument as rust
use Rattle.borrow_rules.proofs.Arms.{by_form}
use Rattle.typed_tree.proofs.PlainForms.{arm_form, assign_form, block_form, borrow_form, call_form, closure_call_form, if_form, if_let_form, index_form, let_form, match_form, node_seen, value_seen, while_let_form}
use Rattle.borrow_rules.proofs.Forms.{argument_by_form, method_told, operands_told, plain_argument, told_by_form}
use Rattle.borrow_rules.proofs.Joined.{one, two, three, four, one_more, one_more_listed}
use Rattle.borrow_rules.proofs.expressions.+told.Goals as goal

pushed_argument : (old new : List rust.Argument) (pushed : rust.Argument) (a : Argument) → new ≡ old ++ pushed ∷ [] → argument_in pushed ≡ a → map argument_in new ≡ map argument_in old ++ a ∷ []
pushed_argument old new pushed a is same = ap (map argument_in) is ∙ map-append argument_in old (pushed ∷ []) ∙ ap (λ (a : Argument). map argument_in old ++ a ∷ []) same

pub collect_branches-returns-in_ok-collect_accesses-in-If-2 : goal.collect_branches-returns-in_ok-collect_accesses-in-If-2
collect_branches-returns-in_ok-collect_accesses-in-If-2 t c =
    let A = aliases_in c.args.aliases.now in
    let condition : tree.Node = tree_of c.deref-condition.result.now in
    let body : tree.Node = tree_of c.deref-then.result.now in
    let otherwise = maybe_of c.in-If.otherwise in
    let is : branch_told A (form_of c.args.form.now) ≡ (told A condition ⊕ (told A body ⊕ told_maybe A otherwise)) =
    ap (branch_told A) (if_form _ _ _ c.deref-condition.ensures _ _ c.deref-then.ensures _ c.in-If.is) in
    on_ok_weaker c.collect_if_any.result
    (three (told_in c.args.out.now) (told_in c.collect_accesses.new.out) (told_in c.collect_accesses-in-If.new.out) (told A condition) (told A body) (told_maybe A otherwise) _
    c.in_ok-collect_accesses-in-If.ensures c.in_ok-collect_accesses-in-If-2.ensures is (told_in c.collect_if_any.new.out))
    c.collect_if_any.ensures

pub collect_branches-returns-in_ok-collect_accesses-in-IfLet-2 : goal.collect_branches-returns-in_ok-collect_accesses-in-IfLet-2
collect_branches-returns-in_ok-collect_accesses-in-IfLet-2 t c =
    let A = aliases_in c.args.aliases.now in
    let pattern : tree.Node = tree_of c.deref-pattern.result.now in
    let scrutinee : tree.Node = tree_of c.deref-scrutinee.result.now in
    let body : tree.Node = tree_of c.deref-then-in-IfLet.result.now in
    let otherwise = maybe_of c.in-IfLet.otherwise in
    let is : branch_told A (form_of c.args.form.now) ≡ (told A scrutinee ⊕ (of_scrutinee A pattern scrutinee ⊕ (told A body ⊕ told_maybe A otherwise))) =
    ap (branch_told A) (if_let_form _ _ _ c.deref-pattern.ensures _ _ c.deref-scrutinee.ensures _ _ c.deref-then-in-IfLet.ensures _ c.in-IfLet.is) in
    on_ok_weaker c.collect_if_any-in-IfLet.result
    (four (told_in c.args.out.now) (told_in c.collect_accesses-in-IfLet.new.out) (told_in c.of_scrutinee.new.out) (told_in c.collect_accesses-in-IfLet-2.new.out)
    (told A scrutinee) (of_scrutinee A pattern scrutinee) (told A body) (told_maybe A otherwise) _
    c.in_ok-collect_accesses-in-IfLet.ensures c.in_ok-of_scrutinee-in-IfLet.ensures c.in_ok-collect_accesses-in-IfLet-2.ensures is (told_in c.collect_if_any-in-IfLet.new.out))
    c.collect_if_any-in-IfLet.ensures

pub collect_branches-returns-in_ok-of_scrutinee-in-WhileLet : goal.collect_branches-returns-in_ok-of_scrutinee-in-WhileLet
collect_branches-returns-in_ok-of_scrutinee-in-WhileLet t c =
    let A = aliases_in c.args.aliases.now in
    let pattern : tree.Node = tree_of c.deref-pattern-in-WhileLet.result.now in
    let scrutinee : tree.Node = tree_of c.deref-scrutinee-in-WhileLet.result.now in
    let body : tree.Node = tree_of c.deref-body.result.now in
    let is : branch_told A (form_of c.args.form.now) ≡ (told A scrutinee ⊕ (of_scrutinee A pattern scrutinee ⊕ told A body)) =
    ap (branch_told A) (while_let_form _ _ _ c.deref-pattern-in-WhileLet.ensures _ _ c.deref-scrutinee-in-WhileLet.ensures _ _ c.deref-body.ensures c.in-WhileLet.is) in
    on_ok_weaker c.collect_accesses-in-WhileLet-2.result
    (three (told_in c.args.out.now) (told_in c.collect_accesses-in-WhileLet.new.out) (told_in c.of_scrutinee-in-WhileLet.new.out)
    (told A scrutinee) (of_scrutinee A pattern scrutinee) (told A body) _
    c.in_ok-collect_accesses-in-WhileLet.ensures c.in_ok-of_scrutinee-in-WhileLet.ensures is (told_in c.collect_accesses-in-WhileLet-2.new.out))
    c.collect_accesses-in-WhileLet-2.ensures

pub collect_branches-returns-in_ok-place-in-Match : goal.collect_branches-returns-in_ok-place-in-Match
collect_branches-returns-in_ok-place-in-Match t c =
    let A = aliases_in c.args.aliases.now in
    let scrutinee : tree.Node = tree_of c.deref-scrutinee-in-Match.result.now in
    let arms = nodes_from (map tree_of c.as_slice-arms.result.now) in
    let place : place_if_any c.in_ok-place-in-Match.place ≡ place_of A scrutinee = c.in_ok-place-in-Match.ensures in
    let parts : branch_told A (form_of c.args.form.now) ≡ (told A scrutinee ⊕ told_arms A (place_of A scrutinee) arms) =
    ap (branch_told A) (match_form _ _ _ c.deref-scrutinee-in-Match.ensures _ _ c.as_slice-arms.ensures c.in-Match.is) in
    let is : branch_told A (form_of c.args.form.now) ≡ (told A scrutinee ⊕ told_arms A (place_if_any c.in_ok-place-in-Match.place) arms) =
    parts ∙ ap (λ (p : Option AccessPlace). told A scrutinee ⊕ told_arms A p arms) (sym place) in
    on_ok_weaker c.collect_arms.result
    (two (told_in c.args.out.now) (told_in c.collect_accesses-in-Match.new.out) (told A scrutinee) (told_arms A (place_if_any c.in_ok-place-in-Match.place) arms) _
    c.in_ok-collect_accesses-in-Match.ensures is (told_in c.collect_arms.new.out))
    c.collect_arms.ensures

pub collect_call-returns-in_ok-collect_arguments-in-Call : goal.collect_call-returns-in_ok-collect_arguments-in-Call
collect_call-returns-in_ok-collect_arguments-in-Call t c =
    let A = aliases_in c.args.aliases.now in
    let nodes = nodes_from (map tree_of c.as_slice-nodes.result.now) in
    let args : map argument_in c.collect_arguments.new.args ≡ arguments A nodes = search rules in
    let parts : call_told A (form_of c.args.form.now) ≡ passed_together (arguments A nodes) =
    ap (call_told A) (call_form _ _ _ c.as_slice-nodes.ensures _ c.in-Call.is) in
    let is : call_told A (form_of c.args.form.now) ≡ passed_together (map argument_in c.collect_arguments.new.args) = parts ∙ ap passed_together (sym args) in
    on_ok_weaker c.passed_together.result
    (one (told_in c.args.out.now) (passed_together (map argument_in c.collect_arguments.new.args)) (call_told A (form_of c.args.form.now)) is (told_in c.passed_together.new.out))
    c.passed_together.ensures

pub collect_call-returns-in_ok-collect_arguments-in-MethodCall : goal.collect_call-returns-in_ok-collect_arguments-in-MethodCall
collect_call-returns-in_ok-collect_arguments-in-MethodCall t c =
    let A = aliases_in c.args.aliases.now in
    let receiver : tree.Node = tree_of c.deref-receiver.result.now in
    let nodes = nodes_from (map tree_of c.as_slice-nodes-in-MethodCall.result.now) in
    let first : map argument_in c.collect_argument.new.args ≡ argument_told A true receiver ∷ [] = search rules in
    let args : map argument_in c.collect_arguments-in-MethodCall.new.args ≡ argument_told A true receiver ∷ arguments A nodes =
    c.in_ok-collect_arguments-in-MethodCall.ensures ∙ ap (λ (l : List Argument). l ++ arguments A nodes) first in
    let parts : call_told A (form_of c.args.form.now) ≡ passed_together (argument_told A true receiver ∷ arguments A nodes) =
    method_told A _ c.in-MethodCall.receiver c.in-MethodCall.nodes _ _ c.deref-receiver.ensures c.as_slice-nodes-in-MethodCall.ensures c.in-MethodCall.is in
    let is : call_told A (form_of c.args.form.now) ≡ passed_together (map argument_in c.collect_arguments-in-MethodCall.new.args) = parts ∙ ap passed_together (sym args) in
    on_ok_weaker c.passed_together-in-MethodCall.result
    (one (told_in c.args.out.now) (passed_together (map argument_in c.collect_arguments-in-MethodCall.new.args)) (call_told A (form_of c.args.form.now)) is (told_in c.passed_together-in-MethodCall.new.out))
    c.passed_together-in-MethodCall.ensures

pub collect_call-returns-in_ok-collect_arguments-in-ClosureCall : goal.collect_call-returns-in_ok-collect_arguments-in-ClosureCall
collect_call-returns-in_ok-collect_arguments-in-ClosureCall t c =
    let A = aliases_in c.args.aliases.now in
    let callee : tree.Node = tree_of c.deref-callee.result.now in
    let nodes = nodes_from (map tree_of c.as_slice-nodes-in-ClosureCall.result.now) in
    let args : map argument_in c.collect_arguments-in-ClosureCall.new.args ≡ arguments A nodes = search rules in
    let parts : call_told A (form_of c.args.form.now) ≡ (told A callee ⊕ passed_together (arguments A nodes)) =
    ap (call_told A) (closure_call_form _ _ _ c.deref-callee.ensures _ _ c.as_slice-nodes-in-ClosureCall.ensures _ c.in-ClosureCall.is) in
    let is : call_told A (form_of c.args.form.now) ≡ (told A callee ⊕ passed_together (map argument_in c.collect_arguments-in-ClosureCall.new.args)) =
    parts ∙ ap (λ (l : List Argument). told A callee ⊕ passed_together l) (sym args) in
    on_ok_weaker c.passed_together-in-ClosureCall.result
    (two (told_in c.args.out.now) (told_in c.collect_accesses.new.out) (told A callee) (passed_together (map argument_in c.collect_arguments-in-ClosureCall.new.args)) _
    c.in_ok-collect_accesses-in-ClosureCall.ensures is (told_in c.passed_together-in-ClosureCall.new.out))
    c.passed_together-in-ClosureCall.ensures

pub collect_guarded-returns-in_ok-append_bound-in-Arm : goal.collect_guarded-returns-in_ok-append_bound-in-Arm
collect_guarded-returns-in_ok-append_bound-in-Arm t c =
    let A = aliases_in c.args.aliases.now in
    let place = place_if_any c.args.place.now in
    let pattern : tree.Node = tree_of c.deref-pattern.result.now in
    let body : tree.Node = tree_of c.deref-body.result.now in
    let guard = maybe_of c.in-Arm.guard in
    let bounds = map bound_in c.as_slice-bounds.result.now in
    let found : bounds ≡ bound place pattern = search rules in
    let form : form_of c.args.form.now ≡ tree.Arm pattern guard body = arm_form _ _ _ c.deref-pattern.ensures _ _ c.deref-body.ensures _ c.in-Arm.is in
    let is : arm_told A place (form_of c.args.form.now) ≡ (told_guard A place bounds guard ⊕ (accesses_of bounds ⊕ told A body)) =
    ap (arm_told A place) form
    ∙ ap (λ b. told_guard A place b guard ⊕ (accesses_of b ⊕ told A body)) (sym found) in
    on_ok_weaker c.collect_accesses.result
    (three (told_in c.args.out.now) (told_in c.collect_guard.new.out) (told_in c.append_bound.new.self) (told_guard A place bounds guard) (accesses_of bounds) (told A body) _
    c.in_ok-collect_guard-in-Arm.ensures c.in_ok-append_bound-in-Arm.ensures is (told_in c.collect_accesses.new.out))
    c.collect_accesses.ensures

pub collect_arm-returns : goal.collect_arm-returns
collect_arm-returns t c =
    let A = aliases_in c.args.aliases.now in
    let place = place_if_any c.args.place.now in
    let arm : Node = c.args.arm.now in
    let shape : tree_of arm ≡ node arm.id.0 arm.at arm.ty arm.by (form_of arm.form) = node_seen arm in
    let is : told_arm A place (tree_of arm) ≡ arm_told A place (form_of arm.form) =
    ap (told_arm A place) shape ∙ by_form A place arm.id.0 arm.at arm.ty arm.by (form_of arm.form) in
    on_ok_weaker c.collect_guarded.result
    (one (told_in c.args.out.now) (arm_told A place (form_of arm.form)) (told_arm A place (tree_of arm)) is (told_in c.collect_guarded.new.out))
    c.collect_guarded.ensures

pub collect_parts-returns-in_ok-collect_accesses-in-Arithmetic : goal.collect_parts-returns-in_ok-collect_accesses-in-Arithmetic
collect_parts-returns-in_ok-collect_accesses-in-Arithmetic t c =
    let A = aliases_in c.args.aliases.now in
    let left : tree.Node = tree_of c.deref-left.result.now in
    let right : tree.Node = tree_of c.deref-right.result.now in
    let is : parts_told A c.args.at (form_of c.args.form.now) ≡ (told A left ⊕ told A right) =
    operands_told A c.args.at _ c.in-Arithmetic.left c.in-Arithmetic.right _ _ c.deref-left.ensures c.deref-right.ensures c.in-Arithmetic.is in
    on_ok_weaker c.collect_accesses-in-Arithmetic-2.result
    (two (told_in c.args.out.now) (told_in c.collect_accesses-in-Arithmetic.new.out) (told A left) (told A right) _
    c.in_ok-collect_accesses-in-Arithmetic.ensures is (told_in c.collect_accesses-in-Arithmetic-2.new.out))
    c.collect_accesses-in-Arithmetic-2.ensures

pub collect_parts-returns-in_ok-collect_accesses-in-Let-default-Some : goal.collect_parts-returns-in_ok-collect_accesses-in-Let-default-Some
collect_parts-returns-in_ok-collect_accesses-in-Let-default-Some t c =
    let A = aliases_in c.args.aliases.now in
    let pattern : tree.Node = tree_of c.deref-pattern.result.now in
    let value : tree.Node = tree_of c.deref-value.result.now in
    let form : form_of c.args.form.now ≡ tree.Let pattern (maybe_of c.in-Let-default-Some.initialiser) = let_form _ _ _ c.deref-pattern.ensures _ c.in-Let-default-Some.is in
    let initialiser : maybe_of c.in-Let-default-Some.initialiser ≡ tree.present value = search (rules, the_lemmas) in
    let is : parts_told A c.args.at (form_of c.args.form.now) ≡ (told A value ⊕ of_let A pattern value) =
    ap (parts_told A c.args.at) (form ∙ ap (tree.Let pattern) initialiser) in
    on_ok_weaker c.of_let.result
    (two (told_in c.args.out.now) (told_in c.collect_accesses.new.out) (told A value) (of_let A pattern value) _
    c.in_ok-collect_accesses-in-Let-default-Some.ensures is (told_in c.of_let.new.out))
    c.of_let.ensures

pub collect_accesses-returns : goal.collect_accesses-returns
collect_accesses-returns t c =
    let A = aliases_in c.args.aliases.now in
    let n : Node = c.args.node.now in
    on_ok_weaker c.own_access.result
    (two (told_in c.args.out.now) (told_in c.collect_inside.new.out) (inside A (tree_of n))
    (own_access (access_by n.by) (place_of A (tree_of n)) (root_of (tree_of n)) n.at) _
    c.in_ok-collect_inside.ensures (told_by_form A n) (told_in c.own_access.new.out))
    c.own_access.ensures

pub collect_argument-returns : goal.collect_argument-returns
collect_argument-returns t c =
    let A = aliases_in c.args.aliases.now in
    let n : Node = c.args.node.now in
    let refers = referring_if_any c.in_ok-refers.refers in
    let is_refers : refers ≡ refers_by A (form_of n.form) = c.in_ok-refers.ensures in
    let own : told_in c.collect_accesses.new.out ≡ told A (tree_of n) = c.in_ok-collect_accesses.ensures ∙ ap (λ (t : CollectedAccesses). t ⊕ told A (tree_of n)) c.quiet-own.ensures in
    let is : record { refers = refers; is_receiver = c.args.is_receiver; at = n.at; told = told_in c.collect_accesses.new.out } ≡ argument_told A c.args.is_receiver (tree_of n) =
    argument_by_form A n c.args.is_receiver refers (told_in c.collect_accesses.new.out) is_refers own in
    on_ok_weaker c.push.result
    (λ pushed. pushed_argument c.args.args.now c.push.new.self _ (argument_told A c.args.is_receiver (tree_of n)) pushed is)
    c.push.ensures.pushed

pub collect_all-loop-node-preserved : goal.collect_all-loop-node-preserved
collect_all-loop-node-preserved t c =
    let A = aliases_in c.args.aliases.now in
    let F = λ (all : List Node). told_all A (nodes_from (map tree_of all)) in
    let part = λ (x : Node). told A (tree_of x) in
    one_more F part c.args.nodes.now c.loop-node.node-index c.node-item.result _ _ _ (λ x rest. refl) c.loop-node-test.true c.node-item.is c.in_ok-collect_accesses.ensures c.loop-node.invariant

pub collect_fields-loop-field-preserved : goal.collect_fields-loop-field-preserved
collect_fields-loop-field-preserved t c =
    let A = aliases_in c.args.aliases.now in
    let F = λ (all : List NumberedField). told_fields A (fields_from (map field_of all)) in
    let part = λ (x : NumberedField). told A (field_of x).1 in
    let is_new : told_in c.collect_accesses.new.out ≡ (told_in c.loop-field.out ⊕ part c.field-item.result) =
    c.in_ok-collect_accesses.ensures ∙ ap (λ (n : tree.Node). told_in c.loop-field.out ⊕ told A n) (sym (value_seen c.field-item.result)) in
    one_more F part c.args.fields.now c.loop-field.field-index c.field-item.result _ _ _ (λ x rest. refl) c.loop-field-test.true c.field-item.is is_new c.loop-field.invariant

pub collect_arms-loop-arm-preserved : goal.collect_arms-loop-arm-preserved
collect_arms-loop-arm-preserved t c =
    let A = aliases_in c.args.aliases.now in
    let place = place_if_any c.args.place.now in
    let F = λ (all : List Node). told_arms A place (nodes_from (map tree_of all)) in
    let part = λ (x : Node). told_arm A place (tree_of x) in
    one_more F part c.args.arms.now c.loop-arm.arm-index c.arm-item.result _ _ _ (λ x rest. refl) c.loop-arm-test.true c.arm-item.is c.in_ok-collect_arm.ensures c.loop-arm.invariant

pub collect_arguments-loop-node-preserved : goal.collect_arguments-loop-node-preserved
collect_arguments-loop-node-preserved t c =
    let A = aliases_in c.args.aliases.now in
    let F = λ (k : ℕ) (all : List Node). arguments A (nodes_from (map tree_of all)) in
    let part = λ (k : ℕ) (x : Node). argument A (tree_of x) ∷ [] in
    let told : map argument_in c.collect_argument.new.args ≡ map argument_in c.loop-node.args ++ argument_told A false (tree_of c.node-item.result) ∷ [] = c.in_ok-collect_argument.ensures in
    let is_new : map argument_in c.collect_argument.new.args ≡ map argument_in c.loop-node.args ++ argument A (tree_of c.node-item.result) ∷ [] =
    told ∙ ap (λ (a : Argument). map argument_in c.loop-node.args ++ a ∷ []) (plain_argument A (tree_of c.node-item.result)) in
    one_more_listed F part c.args.nodes.now c.loop-node.node-index c.node-item.result _ _ _ (λ k x rest. refl) c.loop-node-test.true c.node-item.is is_new c.loop-node.invariant

pub collect_parts-returns-in_ok-collect_all-in-Block : goal.collect_parts-returns-in_ok-collect_all-in-Block
collect_parts-returns-in_ok-collect_all-in-Block t c =
    let A = aliases_in c.args.aliases.now in
    let statements = nodes_from (map tree_of c.as_slice.result.now) in
    let tail = maybe_of c.in-Block.tail in
    let is : parts_told A c.args.at (form_of c.args.form.now) ≡ (told_all A statements ⊕ told_maybe A tail) =
    ap (parts_told A c.args.at) (block_form _ _ _ c.as_slice.ensures _ c.in-Block.is) in
    on_ok_weaker c.collect_if_any.result
    (two (told_in c.args.out.now) (told_in c.collect_all.new.out) (told_all A statements) (told_maybe A tail) _
    c.in_ok-collect_all-in-Block.ensures is (told_in c.collect_if_any.new.out))
    c.collect_if_any.ensures

pub collect_reaching-returns-in_ok-collect_accesses-in-Index : goal.collect_reaching-returns-in_ok-collect_accesses-in-Index
collect_reaching-returns-in_ok-collect_accesses-in-Index t c =
    let A = aliases_in c.args.aliases.now in
    let base : tree.Node = tree_of c.deref-base.result.now in
    let index : tree.Node = tree_of c.deref.result.now in
    let access : CollectedAccesses = rules.one rules.Borrows (option_map rules.with_end (place_of A base)) (root_of base) c.args.at in
    let is : reaching_told A c.args.at (form_of c.args.form.now) ≡ (inside A base ⊕ (told A index ⊕ access)) =
    ap (reaching_told A c.args.at) (index_form _ _ _ c.deref-base.ensures _ _ c.deref.ensures _ c.in-Index.is) in
    on_ok_weaker c.collect_array.result
    (three (told_in c.args.out.now) (told_in c.collect_inside.new.out) (told_in c.collect_accesses.new.out) (inside A base) (told A index) access _
    c.in_ok-collect_inside-in-Index.ensures c.in_ok-collect_accesses-in-Index.ensures is (told_in c.collect_array.new.out))
    c.collect_array.ensures

pub collect_reaching-returns-in_ok-collect_inside-in-Assign : goal.collect_reaching-returns-in_ok-collect_inside-in-Assign
collect_reaching-returns-in_ok-collect_inside-in-Assign t c =
    let A = aliases_in c.args.aliases.now in
    let place : tree.Node = tree_of c.deref-place.result.now in
    let value : tree.Node = tree_of c.deref-in-Assign.result.now in
    let access : CollectedAccesses = rules.one rules.Stores (place_of A place) (root_of place) c.args.at in
    let is : reaching_told A c.args.at (form_of c.args.form.now) ≡ (told A value ⊕ (inside A place ⊕ access)) =
    ap (reaching_told A c.args.at) (assign_form _ _ _ c.deref-place.ensures _ _ c.deref-in-Assign.ensures c.in-Assign.is) in
    on_ok_weaker c.collect_place.result
    (three (told_in c.args.out.now) (told_in c.collect_accesses-in-Assign.new.out) (told_in c.collect_inside-in-Assign.new.out) (told A value) (inside A place) access _
    c.in_ok-collect_accesses-in-Assign.ensures c.in_ok-collect_inside-in-Assign.ensures is (told_in c.collect_place.new.out))
    c.collect_place.ensures

pub collect_reaching-returns-in_ok-collect_inside-in-Borrow : goal.collect_reaching-returns-in_ok-collect_inside-in-Borrow
collect_reaching-returns-in_ok-collect_inside-in-Borrow t c =
    let A = aliases_in c.args.aliases.now in
    let base : tree.Node = tree_of c.deref-base-in-Borrow.result.now in
    let access : CollectedAccesses = rules.one (borrow_access c.in-Borrow.unique) (place_of A base) (root_of base) c.args.at in
    let is : reaching_told A c.args.at (form_of c.args.form.now) ≡ (inside A base ⊕ access) =
    ap (reaching_told A c.args.at) (borrow_form _ _ _ c.deref-base-in-Borrow.ensures _ c.in-Borrow.is) in
    let by : rules.one (access_in c.borrowing.result) (place_of A base) (root_of base) c.args.at ≡ access =
    ap (λ (a : rules.Access). rules.one a (place_of A base) (root_of base) c.args.at) c.borrowing.ensures in
    on_ok_weaker c.collect_place-in-Borrow.result
    (λ made. two (told_in c.args.out.now) (told_in c.collect_inside-in-Borrow.new.out) (inside A base) access _
    c.in_ok-collect_inside-in-Borrow.ensures is (told_in c.collect_place-in-Borrow.new.out)
    (made ∙ ap (λ (t : CollectedAccesses). told_in c.collect_inside-in-Borrow.new.out ⊕ t) by))
    c.collect_place-in-Borrow.ensures

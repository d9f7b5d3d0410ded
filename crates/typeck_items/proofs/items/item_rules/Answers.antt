use Rattle.std.proofs.Common.{ap, sym}
use Rattle.src_ast.specs.ItemForms.{name_seen}
use Rattle.src_ast.specs.Seen.{maybe_of, nodes_of}
use Rattle.src_ast.specs.Syntax.{Named}
use Rattle.typeck_checker.specs.Stand.{env, state}
use Rattle.typing_rules.specs.Check.{and_then, pure}
use Rattle.typeck_items.specs.Forms.{enum_rules, fn_rules, impl_rules, struct_rules}
use Rattle.typeck_items.specs.Had.{had}
use Rattle.typeck_items.proofs.ItemAnswers.{impl_answers, plain_answers}
use Rattle.typeck_items.proofs.items.item_rules.Goals as goal

pub returns-in-Struct-clause-gives : goal.returns-in-Struct-clause-gives
returns-in-Struct-clause-gives c =
    let w = env c.args.checker.now in
    let s = state c.args.checker.now in
    let n = c.args.node.now in
    let before = had c.args.before.now in
    plain_answers w before n s c.struct_item.result c.struct_item.new.checker _ _ c.in-Struct.ensures
    (ap (λ z. and_then (struct_rules w n.at z (nodes_of c.in-Struct.fields) s) (λ _. pure before)) (sym (ap (λ (p : Named). p.1) c.name_of.ensures)))
    c.struct_item.ensures.gives

pub returns-in-Enum-clause-gives : goal.returns-in-Enum-clause-gives
returns-in-Enum-clause-gives c =
    let w = env c.args.checker.now in
    let s = state c.args.checker.now in
    let n = c.args.node.now in
    let before = had c.args.before.now in
    plain_answers w before n s c.enum_item.result c.enum_item.new.checker _ _ c.in-Enum.ensures
    (ap (λ z. and_then (enum_rules w n.at z (nodes_of c.in-Enum.variants) s) (λ _. pure before)) (sym (ap (λ (p : Named). p.1) c.name_of-in-Enum.ensures)))
    c.enum_item.ensures.gives

pub returns-in-Impl-clause-gives : goal.returns-in-Impl-clause-gives
returns-in-Impl-clause-gives c =
    let w = env c.args.checker.now in
    let s = state c.args.checker.now in
    let n = c.args.node.now in
    let before = had c.args.before.now in
    impl_answers w before n s c.impl_item.result c.impl_item.new.checker _ (had c.impl_item.new.before) _ c.in-Impl.ensures
    (ap (λ z. impl_rules w before n.at (name_seen c.in-Impl.trait_) z (nodes_of c.in-Impl.methods) s) (sym (ap (λ (p : Named). p.1) c.name_of-in-Impl.ensures)))
    c.impl_item.ensures.gives

pub returns-in-Fn-clause-gives : goal.returns-in-Fn-clause-gives
returns-in-Fn-clause-gives c =
    let w = env c.args.checker.now in
    let s = state c.args.checker.now in
    let n = c.args.node.now in
    let f = c.in-Fn.function in
    let before = had c.args.before.now in
    plain_answers w before n s c.fn_item.result c.fn_item.new.checker _ _ c.in-Fn.ensures
    (ap (λ z. and_then (fn_rules w n.at z (nodes_of f.params) (maybe_of f.answer) s) (λ _. pure before)) (sym (ap (λ (p : Named). p.1) c.name_of-name.ensures)))
    c.fn_item.ensures.gives

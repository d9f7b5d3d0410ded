use Rattle.std.proofs.Common.{reverse, subst, sym, ap, ◌∙◌}
use Rattle.src_ast.specs.Seen.{syn_of}
use Rattle.typeck_checker.specs.Stand.{GivesValue, env, state}
use Rattle.typeck_items.specs.Forms.{field_by}
use Rattle.typeck_items.proofs.FieldForms.{field_seen}
use Rattle.typeck_items.proofs.fields.field.Goals as goal

pub returns-in-Some-clause-gives : goal.returns-in-Some-clause-gives
returns-in-Some-clause-gives c =
    let w = env c.args.checker.now in
    let s = state c.args.checker.now in
    let n = c.args.node.now in
    let names = reverse c.args.names in
    subst (λ o. GivesValue reverse o c.field_with_name.result c.field_with_name.new.checker)
    (sym (field_seen w names n s ∙ ap (λ o. field_by w names n.at (syn_of n) o s) (sym c.in-Some.ensures)))
    c.field_with_name.ensures.gives

pub returns-in-None-clause-gives : goal.returns-in-None-clause-gives
returns-in-None-clause-gives c =
    let w = env c.args.checker.now in
    let s = state c.args.checker.now in
    let n = c.args.node.now in
    let names = reverse c.args.names in
    subst (λ o. GivesValue reverse o c.field_by_order.result c.field_by_order.new.checker)
    (sym (field_seen w names n s ∙ ap (λ o. field_by w names n.at (syn_of n) o s) (sym c.in-None.ensures)))
    c.field_by_order.ensures.gives

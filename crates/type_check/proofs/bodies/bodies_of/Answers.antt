use Rattle.std.proofs.Common.{ap, subst, sym, ◌∙◌}
use Rattle.src_ast.specs.Seen.{nodes_of}
use Rattle.src_ast.specs.Syntax.{Word, Named, list_of}
use Rattle.typeck_checker.specs.Stand.{GivesValue, env, state}
use Rattle.typing_rules.specs.Program.{all_fn_rules, in_impl}
use Rattle.typing_rules.specs.Scope.{adt_named}
use Rattle.type_check.specs.Forms.{bodies_by}
use Rattle.type_check.proofs.BodyForms.{bodies_seen}
use Rattle.type_check.proofs.bodies.bodies_of.Goals as goal

pub returns-in-Impl-clause-gives : goal.returns-in-Impl-clause-gives
returns-in-Impl-clause-gives c =
    let w = env c.args.checker.now in
    let s = state c.args.checker.now in
    let n = c.args.node.now in
    let own = λ (z : Word). all_fn_rules (in_impl w (adt_named s.items z)) (list_of (nodes_of c.in-Impl.methods)) s in
    subst (λ o. GivesValue (λ u. u) o c.impl_bodies.result c.impl_bodies.new.checker)
    (sym (bodies_seen w n s ∙ ap (λ o. bodies_by w n.at o s) (sym c.in-Impl.ensures) ∙ ap own (sym (ap (λ (p : Named). p.1) c.name_of.ensures))))
    c.impl_bodies.ensures.gives

pub returns-in-Fn-clause-gives : goal.returns-in-Fn-clause-gives
returns-in-Fn-clause-gives c =
    let w = env c.args.checker.now in
    let s = state c.args.checker.now in
    let n = c.args.node.now in
    subst (λ o. GivesValue (λ u. u) o c.own_body.result c.own_body.new.checker)
    (sym (bodies_seen w n s ∙ ap (λ o. bodies_by w n.at o s) (sym c.in-Fn.ensures))) c.own_body.ensures.gives

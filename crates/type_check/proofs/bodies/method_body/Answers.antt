use Rattle.std.proofs.Common.{ap, subst, sym, ◌∙◌}
use Rattle.typeck_checker.specs.Stand.{GivesValue, env, state}
use Rattle.type_check.specs.Forms.{fn_by}
use Rattle.type_check.proofs.BodyForms.{fn_seen}
use Rattle.type_check.proofs.bodies.method_body.Goals as goal

pub returns-in-Fn-clause-gives : goal.returns-in-Fn-clause-gives
returns-in-Fn-clause-gives c =
    let w = env c.args.checker.now in
    let s = state c.args.checker.now in
    let n = c.args.node.now in
    subst (λ o. GivesValue (λ u. u) o c.own_body.result c.own_body.new.checker)
    (sym (fn_seen w n s ∙ ap (λ o. fn_by w n.at o s) (sym c.in-Fn.ensures))) c.own_body.ensures.gives

use Rattle.std.proofs.Common.{reverse, sym, subst}
use Rattle.typeck_heads.specs.Answers.{Refuses}
use Rattle.mir_base.specs.declared.rule.RuleError.{RuleError}
use Rattle.src_ast.specs.Seen.{syn_of}
use Rattle.typeck_checker.specs.Stand.{env, state}
use Rattle.typing_rules.specs.Bodies as bodies
use Rattle.typeck_bodies.specs.ParamAnswers.{GivesParam}
use Rattle.typeck_bodies.specs.ParamForms.{type_by}
use Rattle.typeck_bodies.proofs.ParamShapes.{seen_by}
use Rattle.typeck_bodies.proofs.params.param.Goals as goal

pub returns-in-Pattern-clause-gives : goal.returns-in-Pattern-clause-gives
returns-in-Pattern-clause-gives c =
    subst (λ o. GivesParam o c.typed_param.result c.typed_param.new.bound c.typed_param.new.checker)
    (sym (seen_by (env c.args.checker.now) c.args.may_refer c.args.node.now (reverse c.args.bound.now) (state c.args.checker.now) c.param_form.result _ c.param_form.ensures c.in-Pattern.is))
    c.typed_param.ensures.gives

pub returns-in-SelfValue-clause-gives : goal.returns-in-SelfValue-clause-gives
returns-in-SelfValue-clause-gives c =
    subst (λ o. GivesParam o c.self_param.result c.self_param.new.bound c.self_param.new.checker)
    (sym (seen_by (env c.args.checker.now) c.args.may_refer c.args.node.now (reverse c.args.bound.now) (state c.args.checker.now) c.param_form.result _ c.param_form.ensures c.in-SelfValue.is))
    c.self_param.ensures.gives

pub returns-in-Other-clause-gives : goal.returns-in-Other-clause-gives
returns-in-Other-clause-gives c =
    let w = env c.args.checker.now in
    let xs = reverse c.args.bound.now in
    subst (λ (e : RuleError). Refuses (bodies.param w (type_by w c.args.may_refer) (syn_of c.args.node.now) xs (state c.args.checker.now)) e) (sym c.broken_rule.ensures)
    (seen_by w c.args.may_refer c.args.node.now xs (state c.args.checker.now) c.param_form.result _ c.param_form.ensures c.in-Other.is)

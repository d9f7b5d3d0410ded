use Rattle.std.proofs.Common.{reverse, sym, subst}
use Rattle.src_ast.specs.Seen.{syn_of}
use Rattle.typeck_checker.specs.Stand.{env, state}
use Rattle.typeck_patterns.proofs.Units.{then_given}
use Rattle.typeck_bodies.specs.ParamAnswers.{GivesParam}
use Rattle.typeck_bodies.specs.ParamForms.{type_by}
use Rattle.typeck_bodies.proofs.patterns.typed_param.Goals as goal
use Rattle.typing_rules.specs.Bodies.{pattern_param_end}

pub returns-clause-gives : goal.returns-clause-gives
returns-clause-gives c =
    let before = c.args.checker.now in
    let w = env before in
    let xs = reverse c.args.bound.now in
    let p = syn_of c.args.pattern.now in
    let after = state c.param_ty.new.checker in
    subst (λ o. GivesParam o c.pattern_param.result c.pattern_param.new.bound c.pattern_param.new.checker)
    (sym (then_given (type_by w c.args.may_refer (syn_of c.args.ty.now)) (λ t. pattern_param_end w c.args.at t p xs) (state before) c.in_ok-ty.ty after c.in_ok-ty.ensures.gives))
    (subst (λ v. GivesParam (pattern_param_end v c.args.at c.in_ok-ty.ty p xs after) c.pattern_param.result c.pattern_param.new.bound c.pattern_param.new.checker)
    c.in_ok-ty.ensures.same.1.0
    c.pattern_param.ensures.gives)

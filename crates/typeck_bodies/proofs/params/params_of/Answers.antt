use Rattle.std.proofs.Common.{ap, reverse, sym, ◌∙◌}
use Rattle.src_ast.specs.Seen.{nodes_of, syn_of}
use Rattle.typeck_checker.specs.Stand.{env, stack, state}
use Rattle.typing_rules.specs.Bodies as bodies
use Rattle.typing_rules.specs.Scope.{Env}
use Rattle.typeck_bodies.specs.ParamForms.{type_by}
use Rattle.typeck_bodies.proofs.ParamSequences.{params_step, under_one}
use Rattle.typeck_bodies.proofs.params.params_of.Goals as goal

pub loop-split-preserved : goal.loop-split-preserved
loop-split-preserved c =
    let before = c.loop-split.invariant in
    let kept = c.in_ok-ty.ensures.kept in
    let w = env c.args.checker.now in
    let first = syn_of c.in-Some.split.first.now in
    let xs = reverse c.loop-split.bound in
    let s = state c.loop-split.checker in
    let here = ap (λ (z : Env). bodies.param z (type_by z c.args.may_refer) first xs s) (sym before.place.0) ∙ c.in_ok-ty.ensures.gives in
    record {
      gives = params_step w (type_by w c.args.may_refer) _ c.loop-split.tys c.push_to.new.list c.in_ok-ty.ty (stack c.loop-split.checker) (stack c.param.new.checker) (nodes_of c.loop-split.rest) first (nodes_of c.in-Some.split.rest)
          xs (reverse c.param.new.bound) s (state c.param.new.checker) before.gives c.in-Some.ensures here kept.0 c.in_ok-push_to.ensures.pushed;
      under = under_one c.loop-split.tys c.push_to.new.list c.in_ok-ty.ty (stack c.loop-split.checker) (stack c.param.new.checker) _ before.under kept.0 c.in_ok-push_to.ensures.pushed;
      place = (kept.1.0 ∙ before.place.0, kept.1.1 ∙ before.place.1);
    }

use Rattle.std.proofs.Common.{ap, refl, sym, ◌∙◌}
use Rattle.src_ast.specs.Seen.{nodes_of, syn_of}
use Rattle.typeck_checker.specs.Stand.{env, state}
use Rattle.typing_rules.specs.Program as rules
use Rattle.typing_rules.specs.Scope.{Env}
use Rattle.typeck_items.proofs.Steps.{step_on}
use Rattle.type_check.proofs.bodies.method_bodies.Goals as goal

pub method_body-requires : goal.method_body-requires
method_body-requires c = ap (λ (z : Env). z.variables) c.loop-split.invariant.same.1.0 ∙ c.requires

pub loop-split-preserved : goal.loop-split-preserved
loop-split-preserved c =
    let before = c.loop-split.invariant in
    let after = c.in_ok-method_body.ensures.same in
    let w = env c.args.checker.now in
    let first = syn_of c.in-Some.split.first.now in
    let s = state c.loop-split.checker in
    let here = ap (λ (z : Env). rules.fn_rules z first s) (sym before.same.1.0) ∙ c.in_ok-method_body.ensures.gives in
    record {
      gives = step_on (λ (u : Unit {0}). rules.all_fn_rules w) _ tt tt (nodes_of c.loop-split.rest) first (nodes_of c.in-Some.split.rest) s (state c.method_body.new.checker) _
          before.gives c.in-Some.ensures refl here;
      same = (after.0 ∙ before.same.0, (after.1.0 ∙ before.same.1.0, after.1.1 ∙ before.same.1.1));
    }

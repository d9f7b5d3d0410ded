use Rattle.std.proofs.Common.{ap, ◌∙◌}
use Rattle.typing_rules.specs.Items.{method_body}
use Rattle.typeck_heads.proofs.Filtered.{filtered}
use Rattle.typeck_heads.proofs.impls.impl_bodies.Goals as goal

pub loop-method-preserved : goal.loop-method-preserved
loop-method-preserved c =
    filtered (λ m. method_body c.args.known.now.paths c.args.owner.now c.args.trait_.now m.name) _ _ _ c.args.methods.now c.loop-method.method-index
    c.method-item.result c.in-Ok.found c.loop-method-test.true c.method-item.is c.loop-method.invariant (c.in-Ok.ensures ∙ ap (λ n. method_body c.args.known.now.paths c.args.owner.now c.args.trait_.now n) c.as_str.ensures) c.in_ok-keep.ensures.kept

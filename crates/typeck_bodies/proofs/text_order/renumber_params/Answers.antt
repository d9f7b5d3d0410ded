use Rattle.std.proofs.Common.{rules}
use Rattle.typeck_bodies.specs.Places.{placed}
use Rattle.typed_tree.specs.View.{param_tree}
use Rattle.typing_rules.specs.Numbered.{param_renumbered}
use Rattle.typeck_bodies.proofs.Lists.{one_written}
use Rattle.typeck_bodies.proofs.text_order.renumber_params.Goals as goal

pub loop-param-preserved : goal.loop-param-preserved
loop-param-preserved c =
    one_written param_tree (param_renumbered (placed c.args.places.now)) c.loop-param.param-index c.loop-param.param-items
    c.deref_mut-param-items.result.now _ c.param-item.result c.loop-param-test.true c.loop-param.invariant (search rules)

use Rattle.std.proofs.Common.{ap, ◌∙◌}
use Rattle.typeck_checker.specs.Stand.{state}
use Rattle.typing_rules.specs.Numbered.{in_text_order}
use Rattle.typeck_bodies.proofs.Limited.{gives}
use Rattle.typeck_bodies.proofs.whole.take_body.Goals as goal

pub returns-clause-gives : goal.returns-clause-gives
returns-clause-gives c =
    gives c.args.too_many c.args.at _ _ (state c.args.checker.now) c.check_node_limit.result c.take_block_and_params.new.checker
    (c.in_ok-body-2.ensures.ordered ∙ ap in_text_order c.in_ok-body.ensures.made) c.in_ok-body.ensures.state (c.check_node_limit.ensures (state c.args.checker.now))

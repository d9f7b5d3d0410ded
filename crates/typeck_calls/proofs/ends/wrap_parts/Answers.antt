use Rattle.std.proofs.Common.{◌∙◌}
use Rattle.typeck_calls.proofs.Numbers.{made_in_order}
use Rattle.typeck_checker.specs.Stand.{stack}
use Rattle.typeck_calls.proofs.ends.wrap_parts.Goals as goal

pub returns-clause-made : goal.returns-clause-made
returns-clause-made c =
    c.in_ok-wrap_make.ensures.made
    ∙ made_in_order c.args.id.0 c.args.at c.args.ty c.args.adt c.args.variant c.args.count c.as_slice.result.now (stack c.args.checker.now) (c.as_slice.ensures ∙ c.in_ok-numbers.ensures.numbers)

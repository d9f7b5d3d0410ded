use Rattle.std.proofs.Common.{sym, subst}
use Rattle.typeck_patterns.proofs.Alone.{numbered}
use Rattle.typeck_checker.specs.Stand.{Gives, state}
use Rattle.typeck_patterns.proofs.leaves.literal_pattern.Goals as goal
use Rattle.typing_rules.specs.Patterns.{literal_pattern_end}

pub returns-clause-gives : goal.returns-clause-gives
returns-clause-gives c =
    subst (λ o. Gives o c.literal_at.result c.literal_at.new.checker)
    (sym (numbered (λ id. literal_pattern_end id c.args.at c.args.e.takes_all c.args.ty c.args.is_negative c.args.value c.args.suffix) (state c.args.checker.now) (state c.number.new.self) c.in_ok-id.id.0 c.in_ok-id.ensures.number))
    c.literal_at.ensures.gives

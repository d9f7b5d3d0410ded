use Rattle.std.proofs.Common.{not, reverse, ap, sym, subst, ◌∙◌}
use Rattle.typeck_patterns.specs.PatternContext.{GivesBound, pattern_context_of}
use Rattle.typeck_patterns.proofs.Alone.{bind_is}
use Rattle.typeck_checker.specs.Stand.{state}
use Rattle.typeck_patterns.proofs.leaves.bind.Goals as goal

pub returns-clause-gives : goal.returns-clause-gives
returns-clause-gives c =
    subst (λ o. GivesBound o c.bind_new.result c.bind_new.new.bound c.bind_new.new.checker)
    (sym (bind_is c.args.at (pattern_context_of c.args.e) c.args.ty c.args.name.now (reverse c.args.bound.now) (state c.args.checker.now) (state c.number.new.self) c.in_ok-id.id.0
    c.in_ok-id.ensures.number (sym (ap not c.is_bound-is_new.ensures) ∙ c.in_ok-obeys.ensures.holds)))
    c.bind_new.ensures.gives

use Rattle.std.proofs.Common.{ap, sym, subst, ◌∙◌}
use Rattle.typeck_patterns.specs.PatternContext.{GivesBeside, pattern_context_of}
use Rattle.typeck_patterns.proofs.Alone.{unit_struct}
use Rattle.typeck_checker.specs.Stand.{env, state}
use Rattle.typing_rules.specs.Patterns.{is_unit_kind}
use Rattle.typeck_patterns.proofs.path_patterns.lone_struct.Goals as goal

pub returns-then-is_unit_kind-clause-gives : goal.returns-then-is_unit_kind-clause-gives
returns-then-is_unit_kind-clause-gives c =
    λ earlier.
    subst (λ o. GivesBeside o c.unit_target.result earlier c.unit_target.new.checker)
    (sym (unit_struct (env c.args.checker.now) c.args.at (pattern_context_of c.args.e) c.args.ty c.args.adt earlier (state c.args.checker.now)
    (sym (c.is_unit_kind.ensures ∙ ap is_unit_kind c.kind_at.ensures) ∙ c.if-is_unit_kind.true)))
    (c.unit_target.ensures.gives earlier)

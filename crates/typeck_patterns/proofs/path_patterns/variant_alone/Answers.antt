use Rattle.std.proofs.Common.{Bool, ap, sym, subst, ◌∙◌}
use Rattle.std.specs.Option.{option_map}
use Rattle.typeck_patterns.specs.PatternContext.{GivesBeside, pattern_context_of}
use Rattle.typeck_patterns.specs.Targets.{target_of}
use Rattle.typeck_patterns.proofs.Alone.{variant_named}
use Rattle.src_ast.specs.Seen.{word_of}
use Rattle.typeck_checker.specs.Stand.{env, state}
use Rattle.typing_rules.specs.Patterns as rules
use Rattle.typeck_patterns.proofs.path_patterns.variant_alone.Goals as goal

pub returns-clause-gives : goal.returns-clause-gives
returns-clause-gives c =
    λ earlier.
    let before = c.args.checker.now in
    let t = target_of c.in-Some.target in
    subst (λ o. GivesBeside o c.unit_target.result earlier c.unit_target.new.checker)
    (sym (variant_named (env before) c.args.at (pattern_context_of c.args.e) c.args.ty (word_of c.args.first) c.args.second.now t earlier (state before)
    (sym c.target_of.ensures ∙ ap (option_map target_of) c.in-Some.is)))
    (subst (λ (b : Bool). GivesBeside (rules.of_target c.args.at (pattern_context_of c.args.e) c.args.ty t (rules.no_parts earlier b) (state before)) c.unit_target.result earlier c.unit_target.new.checker)
    (c.is_unit_kind-is_whole.ensures ∙ ap rules.is_unit_kind c.kind_at.ensures)
    (c.unit_target.ensures.gives earlier))

use Rattle.std.proofs.Common.{reverse, sym, subst, ◌∙◌}
use Rattle.typeck_patterns.specs.PatternContext.{GivesBound, pattern_context_of}
use Rattle.typeck_patterns.proofs.Alone.{lone_named}
use Rattle.typeck_checker.specs.Stand.{env, state}
use Rattle.typing_rules.specs.Scope.{adt_named}
use Rattle.typeck_patterns.proofs.path_patterns.lone_name.Goals as goal

pub returns-else-is_enum-clause-gives : goal.returns-else-is_enum-clause-gives
returns-else-is_enum-clause-gives c =
    let before = c.args.checker.now in
    subst (λ o. GivesBound o c.lone_struct.result c.args.bound.now c.lone_struct.new.checker)
    (sym (lone_named (env before) c.args.at (pattern_context_of c.args.e) c.args.ty c.args.name.now (reverse c.args.bound.now) (adt_named before.walk.items c.args.name.now) c.in-Some.adt before.walk.items (state before)
    (sym c.adt_named.ensures ∙ c.in-Some.is) (sym c.is_enum.ensures ∙ c.if-is_enum.false)))
    (c.lone_struct.ensures.gives (reverse c.args.bound.now))

use Rattle.std.proofs.Common.{not, ap, sym, subst, ◌∙◌}
use Rattle.typeck_patterns.specs.PatternContext.{GivesBeside, pattern_context_of}
use Rattle.typeck_patterns.proofs.Alone.{self_named}
use Rattle.src_ast.specs.Seen.{word_of}
use Rattle.typeck_checker.specs.Stand.{env, state}
use Rattle.typeck_patterns.proofs.path_patterns.self_alone.Goals as goal

pub returns-clause-gives : goal.returns-clause-gives
returns-clause-gives c =
    λ earlier.
    let before = c.args.checker.now in
    subst (λ o. GivesBeside o c.lone_struct.result earlier c.lone_struct.new.checker)
    (sym (self_named (env before) c.args.at (pattern_context_of c.args.e) c.args.ty (word_of c.args.first) c.in-Some.adt earlier (state before)
    (sym c.adt_at_head.ensures ∙ c.in-Some.is) (sym (ap not c.is_enum-is_struct.ensures) ∙ c.in_ok-obeys.ensures.holds)))
    (c.lone_struct.ensures.gives earlier)

use Rattle.std.proofs.Common.{None, Result, ap, sym, subst, ◌∙◌}
use Rattle.typeck_checker.specs.Stand.{Gives, env, stack, state, top}
use Rattle.typed_tree.specs.Tree.{Node}
use Rattle.typing_rules.specs.Check.{Broken, TypingState, and_then}
use Rattle.typing_rules.specs.Rows.{taken}
use Rattle.typing_rules.specs.Scope.{Env}
use Rattle.typeck_bodies.proofs.captures.take_variable.Goals as goal

pub returns-clause-gives : goal.returns-clause-gives
returns-clause-gives c =
    let before = c.args.checker.now in
    let there = c.put_variable.new.checker in
    let put = c.in_ok-put_variable.ensures in
    subst (λ (o : Result (Node × TypingState) Broken). Gives o c.use_value.result c.use_value.new.self)
    (ap (λ (e : Env). taken e None (top (stack there)) (state there)) put.kept.1.0
    ∙ sym (ap (λ o. and_then o (taken (env before) None)) put.gives))
    c.use_value.ensures.gives

use Rattle.std.proofs.Common.{Option, Some, None, Result, ap, sym, subst, ◌∙◌}
use Rattle.typeck_checker.specs.Stand.{Gives, env, stack, state, top}
use Rattle.typed_tree.specs.Tree.{Node}
use Rattle.typing_rules.specs.Check.{Broken, TypingState, and_then}
use Rattle.typing_rules.specs.Rows.{taken}
use Rattle.typing_rules.specs.Scope.{NamedEntry, Env}
use Rattle.typing_rules.specs.Typed.{path_by}
use Rattle.typeck_calls.proofs.paths.name_path.Goals as goal

pub returns-in_ok-put_variable-in-Some-clause-gives : goal.returns-in_ok-put_variable-in-Some-clause-gives
returns-in_ok-put_variable-in-Some-clause-gives c =
    let before = c.args.checker.now in
    let there = c.put_variable.new.checker in
    let put = c.in_ok-put_variable-in-Some.ensures in
    let first = c.args.name.now in
    subst (λ (o : Result (Node × TypingState) Broken). Gives o c.use_value.result c.use_value.new.self)
    (ap (λ (e : Env). taken e c.args.expected (top (stack there)) (state there)) put.kept.1.0
    ∙ sym (ap (λ (x : Option NamedEntry). path_by (env before) c.args.at (Some first) None x c.args.expected (state before)) (sym c.in-Some.ensures)
    ∙ ap (λ o. and_then o (taken (env before) c.args.expected)) put.gives))
    c.use_value.ensures.gives

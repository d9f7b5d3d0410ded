use Rattle.std.proofs.Common.{ℕ, subst}
use Rattle.typeck_checker.specs.Lists.{last_nodes}
use Rattle.typeck_checker.specs.Stand.{Gives, stack, state}
use Rattle.typeck_exprs.proofs.arrays.sized_array.Goals as goal
use Rattle.typing_rules.specs.Rows.{array_end}

pub returns-clause-gives : goal.returns-clause-gives
returns-clause-gives c =
    let before = c.args.checker.now in
    subst (λ (count : ℕ). Gives (array_end c.args.id.0 c.args.at count c.args.element (last_nodes count (stack before)) c.args.expected (state before)) c.array_end.result c.array_end.new.checker)
    c.in_ok-length.ensures.same c.array_end.ensures.gives

use Rattle.std.proofs.Common.{◌≡◌}
use Rattle.typeck_checker.specs.Lists.{last_types}
use Rattle.typeck_checker.specs.Stand.{stack}
use Rattle.typing_rules.specs.Rows.{one_type}
use Rattle.typeck_checker.proofs.lists.one_type_of.Given as goal

abbrev pub invariant-loop-back : goal.invariant-loop-back
invariant-loop-back l = l.ty ≡ one_type l.checker.walk.items (last_types l.back (stack l.checker))

use Rattle.std.proofs.Common.{◌≡◌, ◌++◌, map, drop}
use Rattle.typing_rules.specs.Accesses as rules
use Rattle.borrow_rules.specs.AccessView.{argument_in}
use Rattle.borrow_rules.proofs.arguments.conflicts_among.Given as goal

abbrev pub invariant-loop-n : goal.invariant-loop-n
invariant-loop-n l =
    l.conflicts.items ++ rules.conflicts_among (map argument_in (drop l.n l.args)) ≡ rules.conflicts_among (map argument_in l.args)

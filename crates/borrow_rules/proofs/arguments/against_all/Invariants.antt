use Rattle.std.proofs.Common.{◌≡◌, ◌++◌, map, drop, Some}
use Rattle.typing_rules.specs.Accesses as rules
use Rattle.borrow_rules.specs.AccessView.{argument_in, referring_in}
use Rattle.borrow_rules.proofs.arguments.against_all.Given as goal

abbrev pub invariant-loop-one : goal.invariant-loop-one
invariant-loop-one l =
    l.conflicts.items ++ rules.against_all l.argument.is_receiver (Some (referring_in l.r)) (map argument_in (drop l.one-index l.later))
    ≡ l.fn.conflicts.items ++ rules.against_all l.argument.is_receiver (Some (referring_in l.r)) (map argument_in l.later)

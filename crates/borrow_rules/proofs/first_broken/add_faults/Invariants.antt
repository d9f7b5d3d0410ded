use Rattle.std.proofs.Common.{◌≡◌, ◌++◌, map, drop}
use Rattle.typing_rules.specs.Borrows.{broken}
use Rattle.borrow_rules.specs.Answers.{fault_in}
use Rattle.borrow_rules.proofs.first_broken.add_faults.Given as goal

abbrev pub invariant-loop-at : goal.invariant-loop-at
invariant-loop-at l =
    map fault_in l.faults.items ++ map (broken l.rule) (drop l.at-index l.places) ≡ map fault_in l.fn.faults.items ++ map (broken l.rule) l.places

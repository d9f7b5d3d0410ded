use Rattle.std.proofs.Common.{◌≡◌, map, drop, option_map}
use Rattle.typing_rules.specs.Borrows.{first_of}
use Rattle.borrow_rules.specs.Answers.{fault_in}
use Rattle.borrow_rules.proofs.first_broken.first_of.Given as goal

abbrev pub invariant-loop-n : goal.invariant-loop-n
invariant-loop-n l = option_map fault_in l.first ≡ first_of (map fault_in (drop l.n l.faults))

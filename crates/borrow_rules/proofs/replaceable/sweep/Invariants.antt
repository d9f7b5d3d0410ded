use Rattle.std.proofs.Common.{map}
use Rattle.borrow_rules.specs.View.{fact_in, params_in}
use Rattle.borrow_rules.specs.Found.{Swept}
use Rattle.borrow_rules.proofs.replaceable.sweep.Given as goal

abbrev pub invariant-loop-turn : goal.invariant-loop-turn
invariant-loop-turn l = Swept l.items (map fact_in l.facts) (params_in l.fn.found.keys) l.is_back l.turn l.grew (params_in l.found.keys)

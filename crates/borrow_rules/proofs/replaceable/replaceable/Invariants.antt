use Rattle.std.proofs.Common.{map}
use Rattle.borrow_rules.specs.Found.{IsSound, missing}
use Rattle.borrow_rules.specs.View.{fact_in, params_in}
use Rattle.borrow_rules.proofs.replaceable.replaceable.Given as goal

abbrev pub invariant-sweeps : goal.invariant-sweeps
invariant-sweeps l = IsSound l.typed.items (map fact_in l.facts) (params_in l.found.keys)

abbrev pub decreases-sweeps : goal.decreases-sweeps
decreases-sweeps l = missing (map fact_in l.facts) (params_in l.found.keys)

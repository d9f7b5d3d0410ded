use Rattle.std.proofs.Common.{◌≡◌, ◌-◌, drop}
use Rattle.typeck_env.proofs.variables.Variables.leave.Given as goal

abbrev pub invariant-loop-n : goal.invariant-loop-n
invariant-loop-n l = l.self ≡ drop (l._n - l.count) l.initial.self

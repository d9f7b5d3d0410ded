use Rattle.std.proofs.Common.{◌≡◌, ◌≤◌, ◌∷◌, ◌-◌}
use Rattle.lower_code.specs.Ops as ops
use Rattle.lower_code.specs.Ops.{thens}
use Rattle.lower_code.specs.View.{ops_of}
use Rattle.lower_code.proofs.sequences.join_codes.Given as goal

abbrev pub invariant-loop-done : goal.invariant-loop-done
invariant-loop-done l = (l.done ≤ l.count) × (ops_of l.code ≡ thens l.done (ops.Nothing ∷ ops_of l.fn.code))

abbrev pub decreases-loop-done : goal.decreases-loop-done
decreases-loop-done l = l.count - l.done

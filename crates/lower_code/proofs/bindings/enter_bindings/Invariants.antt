use Rattle.std.proofs.Common.{◌≡◌, ◌≤◌, map, drop, length}
use Rattle.pattern_lower.specs.Seen.{bound_of}
use Rattle.lower_code.specs.Ops.{entered_onto}
use Rattle.lower_code.specs.View.{ops_of, at_of}
use Rattle.lower_code.proofs.bindings.enter_bindings.Given as goal

abbrev pub invariant-loop-left : goal.invariant-loop-left
invariant-loop-left l =
    (l.left ≤ length l.bindings)
    × (ops_of l.code ≡ entered_onto (at_of l.at) (map bound_of (drop l.left l.bindings)) (ops_of l.fn.code))

abbrev pub decreases-loop-left : goal.decreases-loop-left
decreases-loop-left l = l.left

use Rattle.std.proofs.Common.{◌≡◌, ◌≤◌, map, drop, length}
use Rattle.typed_tree.specs.View.{param_tree}
use Rattle.lower_code.specs.Ops.{params_onto}
use Rattle.lower_code.specs.View.{ops_of}
use Rattle.lower_forms.proofs.bodies.params_behind.Given as goal

abbrev pub invariant-loop-left : goal.invariant-loop-left
invariant-loop-left l =
    (l.left ≤ length l.params) × (ops_of l.code ≡ params_onto (map param_tree (drop l.left l.params)) (ops_of l.fn.code))

abbrev pub decreases-loop-left : goal.decreases-loop-left
decreases-loop-left l = l.left

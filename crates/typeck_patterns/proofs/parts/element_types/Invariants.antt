use Rattle.std.proofs.Common.{◌≡◌, replicate}
use Rattle.typeck_patterns.proofs.parts.element_types.Given as goal

abbrev pub invariant-loop-n : goal.invariant-loop-n
invariant-loop-n l = l.first ≡ replicate l._n l.element

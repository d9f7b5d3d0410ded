use Rattle.std.proofs.Common.{◌≡◌, take}
use Rattle.typeck_exprs.proofs.expected_parts.copy_types.Given as goal

abbrev pub invariant-loop-ty : goal.invariant-loop-ty
invariant-loop-ty l = l.copy ≡ take l.ty-index l.types

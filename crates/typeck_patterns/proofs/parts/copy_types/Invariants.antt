use Rattle.std.proofs.Common.{◌≡◌, take}
use Rattle.typeck_patterns.proofs.parts.copy_types.Given as goal

abbrev pub invariant-loop-ty : goal.invariant-loop-ty
invariant-loop-ty l = l.copies ≡ take l.ty-index l.types

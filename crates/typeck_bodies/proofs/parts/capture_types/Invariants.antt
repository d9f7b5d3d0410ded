use Rattle.std.proofs.Common.{◌≡◌, reverse, take}
use Rattle.typing_rules.specs.Bodies as bodies
use Rattle.typeck_bodies.proofs.parts.capture_types.Given as goal

abbrev pub invariant-loop-n : goal.invariant-loop-n
invariant-loop-n l = l.tys ≡ bodies.types_of (take l.n (reverse l.bound))

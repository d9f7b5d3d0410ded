use Rattle.std.proofs.Common.{◌≡◌, take}
use Rattle.mir_ty.proofs.duplicate.ListDuplicate.duplicate.Given as goal

abbrev pub invariant-loop-element : goal.invariant-loop-element
invariant-loop-element g l = l.copy ≡ take l.element-index l.element-items

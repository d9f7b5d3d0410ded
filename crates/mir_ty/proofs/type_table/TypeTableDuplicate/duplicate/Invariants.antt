use Rattle.std.proofs.Common.{◌≡◌, take}
use Rattle.mir_ty.proofs.type_table.TypeTableDuplicate.duplicate.Given as goal

abbrev pub invariant-loop-ty : goal.invariant-loop-ty
invariant-loop-ty l = l.copy ≡ take l.ty-index l.ty-items

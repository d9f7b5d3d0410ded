use Rattle.std.proofs.Common.{take, All}
use Rattle.mir_ty.specs.AreItems.{IsShort}
use Rattle.mir_ty.proofs.sizes.check_adt.Given as goal

abbrev pub invariant-loop-variant : goal.invariant-loop-variant
invariant-loop-variant l = All (λ variant. IsShort variant.fields) (take l.variant-index l.variant-items)

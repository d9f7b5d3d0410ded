use Rattle.std.proofs.Common.{take, All}
use Rattle.mir_ty.specs.AreItems.{IsShort}
use Rattle.mir_ty.proofs.sizes.check_trait.Given as goal

abbrev pub invariant-loop-method : goal.invariant-loop-method
invariant-loop-method l = All (λ sig. IsShort sig.params) (take l.method-index l.method-items)

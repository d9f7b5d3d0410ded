use Rattle.std.proofs.Common.{◌≤◌, ◌<◌, ◌-◌, length}
use Rattle.mir_ty.specs.declared.ty.TyId.{TyId}
use Rattle.name_table.specs.Holding.{IsPlaced}
use Rattle.name_table.proofs.containment.is_order.Given as goal

abbrev pub invariant-loop-ty : goal.invariant-loop-ty
invariant-loop-ty l =
    record {
      within : l.n ≤ length l.items.types;
      placed : (id : TyId) → id.0 < l.n → IsPlaced l.items l.order id;
    }

abbrev pub decreases-loop-ty : goal.decreases-loop-ty
decreases-loop-ty l = length l.items.types - l.n

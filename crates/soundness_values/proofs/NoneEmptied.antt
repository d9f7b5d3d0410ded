-- No action leaves a place to be filled.
use Rattle.std.proofs.Common.{◌≡◌, ℕ, Bool, true, false, List, [], ◌∷◌, Option, None}
use Rattle.mir_ty.specs.declared.ty.TyId.{TyId}
use Rattle.mir_ty.specs.ItemTable.{ItemTable}
use Rattle.store_model.specs.Effects as effects
use Rattle.store_model.specs.Effects.{Operand}
use Rattle.soundness_values.proofs.Facts.{Naming, Facts}
use Rattle.soundness_values.proofs.Checks.{after_operand, after_operands, after_namings, without_if}

module _ (items : ItemTable) (local_ty : ℕ → Option TyId) (is_target : ℕ → Bool) where
  pub operand_none : (operand : Operand) (facts : Facts) → facts.refilled ≡ None →
      (after_operand items local_ty is_target operand facts).refilled ≡ None
  operand_none (effects.Moved site) facts e = e
  operand_none (effects.Copied site) facts e = e
  operand_none (effects.Number value kind) facts e = e
  operand_none (effects.Truth value) facts e = e
  operand_none effects.UnitValue facts e = e

  pub operands_none : (operands : List Operand) (facts : Facts) → facts.refilled ≡ None →
      (after_operands items local_ty is_target operands facts).refilled ≡ None
  operands_none [] facts e = e
  operands_none (operand ∷ operands) facts e = operands_none operands _ (operand_none operand facts e)

  pub namings_none : (names : List Naming) (facts : Facts) → facts.refilled ≡ None →
      (after_namings items local_ty is_target names facts).refilled ≡ None
  namings_none [] facts e = e
  namings_none (n ∷ names) facts e = namings_none names (without_if n.unique n.place facts) (by n.unique)
    where
      by : (b : Bool) → (without_if b n.place facts).refilled ≡ None
      by true = e
      by false = e

-- The number that items give a type is the one of the definitions.
use Rattle.std.proofs.Common.{◌≡◌, ℕ, length, slice_get, Option, Some, None, Ok, Contains, ◌⊎◌, inl, inr, refl, ap, sym, ◌∙◌}
use Rattle.std.specs.List.{position as position_of}
use Rattle.mir_ty.specs.declared.ty.Ty.{Ty}
use Rattle.mir_ty.specs.declared.ty.TyId.{TyId}
use Rattle.mir_ty.specs.AreItems.{AreDistinct}
use Rattle.mir_ty.specs.ItemTable.{ItemTable, Interns, with_type, type_at}
use Rattle.mir_ty.proofs.ListLemmas.{Contains-slice_get}
use Rattle.well_typed.specs.Items.{is_equal}
use Rattle.typing_rules.specs.Check.{interned, interned_at}
use Rattle.typing_rules.specs.Collected.{starting_with}
use Rattle.typing_rules.proofs.Sound.Interned.{found_at, not_there}

interned_as : (old new : ItemTable) (ty : Ty) (id : TyId) → AreDistinct old.types → Interns old ty new id → (p : Option ℕ) →
    position_of (is_equal ty) old.types ≡ p → interned_at ty p (starting_with old) ≡ Ok (id, starting_with new)
interned_as old new ty id distinct interns (Some n) at = by interns.1
  where
    there : slice_get old.types n ≡ Some ty
    there = found_at ty old.types n at

    by : (new ≡ old) ⊎ ((¬ Contains old.types ty) × (id.0 ≡ length old.types) × (new ≡ with_type old ty)) →
        interned_at ty (Some n) (starting_with old) ≡ Ok (id, starting_with new)
    by (inl same) =
        let here : slice_get old.types id.0 ≡ Some ty = ap (λ (i : ItemTable). type_at i id) (sym same) ∙ interns.0 in
        let number : n ≡ id.0 = distinct n id.0 ty there here in
        λ i. Ok (record { 0 = number i }, starting_with (sym same i))
    by (inr added) = absurd (added.0 (Contains-slice_get old.types n ty there))
interned_as old new ty id distinct interns None at = by interns.1
  where
    by : (new ≡ old) ⊎ ((¬ Contains old.types ty) × (id.0 ≡ length old.types) × (new ≡ with_type old ty)) →
        interned_at ty None (starting_with old) ≡ Ok (id, starting_with new)
    by (inl same) = absurd (not_there ty old.types at id.0 (ap (λ (i : ItemTable). type_at i id) (sym same) ∙ interns.0))
    by (inr added) = λ i. Ok (record { 0 = sym added.1 i }, starting_with (sym added.2 i))

pub interned_is : (old new : ItemTable) (ty : Ty) (id : TyId) → AreDistinct old.types → Interns old ty new id →
    interned ty (starting_with old) ≡ Ok (id, starting_with new)
interned_is old new ty id distinct interns =
    interned_as old new ty id distinct interns (position_of (is_equal ty) old.types) refl

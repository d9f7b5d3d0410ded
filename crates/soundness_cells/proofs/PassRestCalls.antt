-- What is left of the test of a call where the first and the third test hold: of arguments that are references, what they
-- name, and that they stand in no parameter; and that what is named is apart, and not taken.
use Rattle.std.proofs.Common.{◌≡◌, ℕ, ◌&&◌, not, Bool, true, false, List, [], ◌∷◌, Option, Some, None, refl}
use Rattle.std.specs.Cmp.{first_so, second_so}
use Rattle.std.specs.Cmp.Derive.{both_true}
use Rattle.std.specs.Option.{option_map_or}
use Rattle.std.proofs.lemmas.Bool.{false≢true}
use Rattle.mir_ty.specs.declared.ty.Ty.{Ty}
use Rattle.mir_ty.specs.declared.ty.TyId.{TyId}
use Rattle.mir_ty.specs.ItemTable.{ItemTable, type_at}
use Rattle.store_model.specs.Abstract.Presence.{Presence}
use Rattle.store_model.specs.Effects as effects
use Rattle.store_model.specs.Effects.{EffectSite, Operand}
use Rattle.store_model.specs.Places.Place.{is_reference}
use Rattle.store_model.specs.Places.TypeForms.{same_id}
use Rattle.soundness_values.proofs.Checks as checks
use Rattle.soundness_values.proofs.Checks.{no_steps}
use Rattle.soundness_values.proofs.Facts.{Facts}
use Rattle.soundness_cells.proofs.PassCellTests as tests
use Rattle.soundness_cells.proofs.PassRest.{clear_cell, stored, taken_and}

module _ (items : ItemTable) (local_ty : ℕ → Option TyId) (is_target : ℕ → Bool)
    (own : (l : ℕ) (id : TyId) → local_ty l ≡ Some id → is_reference (type_at items id) ≡ false → is_target l ≡ false)
  where
    abbrev Cells : Type 0
    Cells = List (ℕ × Presence)

    abbrev pub left_reference : (last facts : Facts) → Cells → Bool → TyId → Operand → Bool
    left_reference last facts cells unique to (effects.Moved site) = not (is_target site.place.local)
        && checks.names_well_if_any items local_ty is_target last cells unique to
        (checks.naming_of items local_ty is_target site.place.local facts)
    left_reference last facts cells unique to operand = true

    abbrev pub left_as : (last facts : Facts) → Cells → Operand → Option Ty → Bool
    left_as last facts cells operand (Some (Ty.Shared to)) = left_reference last facts cells false to operand
    left_as last facts cells operand (Some (Ty.Unique to)) = left_reference last facts cells true to operand
    left_as last facts cells operand ty = true

    abbrev pub left_passes : (last facts : Facts) → Cells → List TyId → List Operand → Bool
    left_passes last facts cells (id ∷ ids) (operand ∷ operands) =
        left_as last facts cells operand (type_at items id)
        && left_passes last (checks.after_operand items local_ty is_target operand facts) cells ids operands
    left_passes last facts cells ids operands = true

    abbrev pub left_call : Facts → Cells → List TyId → List Operand → Bool
    left_call facts cells params args =
        left_passes (checks.after_operands items local_ty is_target args facts) facts cells params args
        && (checks.all_apart items local_ty is_target (checks.named_by_all items local_ty is_target facts args)
        && checks.none_taken items local_ty is_target args (checks.named_by_all items local_ty is_target facts args))

    reference_holds : (last facts : Facts) (cells : Cells) (unique : Bool) (to : TyId) (operand : Operand) →
        tests.passed_local items local_ty is_target operand ≡ true →
        left_reference last facts cells unique to operand ≡ true →
        checks.passes_reference items local_ty is_target last facts cells unique to operand ≡ true
    reference_holds last facts cells unique to (effects.Moved site) h k =
        both_true (both_true (first_so (no_steps site.place.steps) _ h)
        (both_true (first_so (not (is_target site.place.local)) _ k) (second_so (no_steps site.place.steps) _ h)))
        (second_so (not (is_target site.place.local)) _ k)
    reference_holds last facts cells unique to (effects.Copied site) h k = absurd (false≢true h)
    reference_holds last facts cells unique to (effects.Number value kind) h k = absurd (false≢true h)
    reference_holds last facts cells unique to (effects.Truth value) h k = absurd (false≢true h)
    reference_holds last facts cells unique to effects.UnitValue h k = absurd (false≢true h)

    one_passes : (last facts : Facts) (cells : Cells) (id : TyId) (operand : Operand) (o : Option Ty) →
        tests.passed_as items local_ty is_target id operand o ≡ true → left_as last facts cells operand o ≡ true →
        checks.passes_as items local_ty is_target last facts cells id operand o ≡ true
    one_passes last facts cells id operand (Some (Ty.Shared to)) h k =
        reference_holds last facts cells false to operand h k
    one_passes last facts cells id operand (Some (Ty.Unique to)) h k =
        reference_holds last facts cells true to operand h k
    one_passes last facts cells id operand None h k =
        taken_and items local_ty is_target own facts operand (checks.is_of items local_ty is_target operand id) h
    one_passes last facts cells id operand (Some ty) h k =
        taken_and items local_ty is_target own facts operand (checks.is_of items local_ty is_target operand id) h

    passes_hold : (last facts : Facts) (cells : Cells) (ids : List TyId) (operands : List Operand) →
        tests.passed items local_ty is_target ids operands ≡ true → left_passes last facts cells ids operands ≡ true →
        checks.passes items local_ty is_target last facts cells ids operands ≡ true
    passes_hold last facts cells [] [] h k = refl
    passes_hold last facts cells [] (operand ∷ operands) h k = absurd (false≢true h)
    passes_hold last facts cells (id ∷ ids) [] h k = absurd (false≢true h)
    passes_hold last facts cells (id ∷ ids) (operand ∷ operands) h k =
        let typed = tests.passed_as items local_ty is_target id operand (type_at items id) in
        let left = left_as last facts cells operand (type_at items id) in
        both_true (one_passes last facts cells id operand (type_at items id) (first_so typed _ h) (first_so left _ k))
        (passes_hold last (checks.after_operand items local_ty is_target operand facts) cells ids operands
        (second_so typed _ h) (second_so left _ k))

    pub calls_hold : (facts : Facts) (cells : Cells) (to : EffectSite) (params : List TyId) (result : TyId)
        (args : List Operand) → tests.called items local_ty is_target to params result args ≡ true →
        clear_cell items local_ty is_target own cells to.place ≡ true → left_call facts cells params args ≡ true →
        checks.calls_well items local_ty is_target facts cells to params result args ≡ true
    calls_hold facts cells to params result args h e k =
        let target = tests.target items local_ty is_target to.place in
        let typed = option_map_or (same_id result) (checks.id_of items local_ty is_target to.place) false in
        let named = checks.named_by_all items local_ty is_target facts args in
        let after = checks.after_operands items local_ty is_target args facts in
        let left = left_passes after facts cells params args in
        both_true (both_true (stored items local_ty is_target own
        (checks.after_namings items local_ty is_target named after) cells to.place
        (first_so target typed (first_so (target && typed) _ h)) e)
        (second_so target typed (first_so (target && typed) _ h)))
        (both_true (passes_hold after facts cells params args (second_so (target && typed) _ h) (first_so left _ k))
        (second_so left _ k))

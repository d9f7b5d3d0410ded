-- The laws of whole values.
use Rattle.std.proofs.Common.{◌≡◌, ◌↔◌, inl, inr, ℕ, zero, suc, Bool, true, false, ◌&&◌, IsTrue, List, [], ◌∷◌, Some, None, refl, sym, ◌∙◌, subst, true≢false, All}
use Rattle.std.specs.Option.{option_and_then}
use Rattle.std.proofs.lemmas.List.Elements.{All-nil, All-head, All-tail, All-cons}
use Rattle.store_model.specs.declared.address.At.{At}
use Rattle.store_model.specs.declared.address.At.TheVariants.{Part, Inside}
use Rattle.store_model.specs.Values.Datum.{Datum, Data, Gone, Number, Truth, UnitValue, Aggregate, Box, Address, no_part, a_part, data_from}
use Rattle.store_model.specs.Values.Access.{part, with_part, part_at, with_part_at, value_at, replaced}
use Rattle.store_model.specs.Values.Wholeness.{IsWhole, AreWhole, is_whole, are_whole}
use Rattle.store_model.proofs.Values.Access.{none_or_some, value_at-step, value_at-no_step, replaced-step, replaced-no_step, value_at-replaced}

IsWhole-part_at : (number : ℕ) (parts : Data) (inner : Datum) → AreWhole parts → part_at number parts ≡ Some inner → IsWhole inner
IsWhole-part_at number no_part inner whole h = absurd (cc)
IsWhole-part_at zero (a_part first rest) inner whole h = subst IsWhole (let e : first ≡ inner = cc in e) whole.0
IsWhole-part_at (suc number) (a_part first rest) inner whole h = IsWhole-part_at number rest inner whole.1 h

-- a part of a whole value is whole
pub IsWhole-part : (step : At) (root inner : Datum) → IsWhole root → part step root ≡ Some inner → IsWhole inner
IsWhole-part (Part number) (Aggregate variant serial parts) inner whole h = IsWhole-part_at number parts inner whole h
IsWhole-part Inside (Box serial impl_no inside) inner whole h = subst IsWhole (let e : inside ≡ inner = cc in e) whole
IsWhole-part _ _ inner whole h = absurd (cc)

AreWhole-with_part_at : (number : ℕ) (new : Datum) (parts : Data) → AreWhole parts → IsWhole new → AreWhole (with_part_at number new parts)
AreWhole-with_part_at number new no_part whole h = tt
AreWhole-with_part_at zero new (a_part first rest) whole h = (h, whole.1)
AreWhole-with_part_at (suc number) new (a_part first rest) whole h = (whole.0, AreWhole-with_part_at number new rest whole.1 h)

-- a whole value with a whole part in place of another is whole
pub IsWhole-with_part : (step : At) (new root : Datum) → IsWhole root → IsWhole new → IsWhole (with_part step new root)
IsWhole-with_part (Part number) new (Aggregate variant serial parts) whole h = AreWhole-with_part_at number new parts whole h
IsWhole-with_part Inside new (Box serial impl_no inside) whole h = h
IsWhole-with_part _ new _ whole h = whole

-- what stands in a whole value is whole
pub IsWhole-value_at : (path : List At) (root inner : Datum) → IsWhole root → value_at path root ≡ Some inner → IsWhole inner
IsWhole-value_at [] root inner whole h = subst IsWhole (let e : root ≡ inner = cc in e) whole
IsWhole-value_at (step ∷ path) root inner whole h =
    elim (none_or_some (part step root)) [
      | inl none ↦ absurd (let e : Some inner ≡ None = sym h ∙ value_at-no_step step path root none in cc)
      | inr some ↦ IsWhole-value_at path some.0 inner (IsWhole-part step root some.0 whole some.1) (sym (value_at-step step path root some.0 some.1) ∙ h)
    ]

-- a whole value with a whole value put into it is whole
pub IsWhole-replaced : (path : List At) (new root : Datum) → IsWhole root → IsWhole new → IsWhole (replaced path new root)
IsWhole-replaced [] new root whole h = h
IsWhole-replaced (step ∷ path) new root whole h =
    elim (none_or_some (part step root)) [
      | inl none ↦ subst IsWhole (sym (replaced-no_step step path new root none)) whole
      | inr some ↦ (
          let inner = IsWhole-replaced path new some.0 (IsWhole-part step root some.0 whole some.1) h in
          subst IsWhole (sym (replaced-step step path new root some.0 some.1)) (IsWhole-with_part step (replaced path new some.0) root whole inner)
          )
    ]

mutual
  IsWhole-from_places : (root : Datum) → ((path : List At) → value_at path root ≡ Some Gone → ⊥) → IsWhole root
  IsWhole-from_places Gone none = none [] refl
  IsWhole-from_places (Number number) none = tt
  IsWhole-from_places (Truth truth) none = tt
  IsWhole-from_places UnitValue none = tt
  IsWhole-from_places (Aggregate variant serial parts) none = AreWhole-from_places parts (λ number path. none (Part number ∷ path))
  IsWhole-from_places (Box serial impl_no inside) none = IsWhole-from_places inside (λ path. none (Inside ∷ path))
  IsWhole-from_places (Address address) none = tt

  AreWhole-from_places : (parts : Data) → ((number : ℕ) (path : List At) → option_and_then (value_at path) (part_at number parts) ≡ Some Gone → ⊥) → AreWhole parts
  AreWhole-from_places no_part none = tt
  AreWhole-from_places (a_part first rest) none = (IsWhole-from_places first (none 0), AreWhole-from_places rest (λ number. none (suc number)))

-- a value is whole exactly where no place of it is gone
pub IsWhole-iff_no_gone : (root : Datum) → IsWhole root ↔ ((path : List At) → value_at path root ≡ Some Gone → ⊥)
IsWhole-iff_no_gone root = (λ whole path. IsWhole-value_at path root Gone whole, IsWhole-from_places root)

-- a value from which something was taken is not whole
pub not_whole-taken : (path : List At) (root old : Datum) → value_at path root ≡ Some old → IsWhole (replaced path Gone root) → ⊥
not_whole-taken path root old h whole = IsWhole-value_at path (replaced path Gone root) Gone whole (value_at-replaced path Gone root old h)

-- parts that a list gives are whole exactly where each of the list is
pub AreWhole-data_from : (values : List Datum) → AreWhole (data_from values) ↔ All IsWhole values
AreWhole-data_from [] = (λ _. All-nil IsWhole, λ _. tt)
AreWhole-data_from (value ∷ values) =
    let rest = AreWhole-data_from values in
    (λ w. All-cons IsWhole value values w.0 (rest.0 w.1), λ h. (All-head IsWhole value values h, rest.1 (All-tail IsWhole value values h)))

test_both : (a b : Bool) → IsTrue (a && b) ↔ (IsTrue a × IsTrue b)
test_both true b = (λ h. (refl, h), λ h. h.1)
test_both false b = (λ h. absurd (true≢false (sym h)), λ h. absurd (true≢false (sym h.0)))

of_two : (a b : Bool) (A B : Type 0) → (IsTrue a ↔ A) → (IsTrue b ↔ B) → IsTrue (a && b) ↔ (A × B)
of_two a b A B of_a of_b = (λ h. (of_a.0 ((test_both a b).0 h).0, of_b.0 ((test_both a b).0 h).1), λ h. (test_both a b).1 (of_a.1 h.0, of_b.1 h.1))

-- the test of wholeness holds exactly of whole values
mutual
  pub is_whole-iff_IsWhole : (root : Datum) → IsTrue (is_whole root) ↔ IsWhole root
  is_whole-iff_IsWhole Gone = (λ h. true≢false (sym h), λ h. absurd h)
  is_whole-iff_IsWhole (Number number) = (λ h. tt, λ h. refl)
  is_whole-iff_IsWhole (Truth truth) = (λ h. tt, λ h. refl)
  is_whole-iff_IsWhole UnitValue = (λ h. tt, λ h. refl)
  is_whole-iff_IsWhole (Aggregate variant serial parts) = are_whole-iff_AreWhole parts
  is_whole-iff_IsWhole (Box serial impl_no inside) = is_whole-iff_IsWhole inside
  is_whole-iff_IsWhole (Address address) = (λ h. tt, λ h. refl)

  are_whole-iff_AreWhole : (parts : Data) → IsTrue (are_whole parts) ↔ AreWhole parts
  are_whole-iff_AreWhole no_part = (λ h. tt, λ h. refl)
  are_whole-iff_AreWhole (a_part first rest) = of_two (is_whole first) (are_whole rest) (IsWhole first) (AreWhole rest) (is_whole-iff_IsWhole first) (are_whole-iff_AreWhole rest)

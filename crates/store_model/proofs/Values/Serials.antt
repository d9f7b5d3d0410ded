-- The laws of serial numbers, and of the steps in dropping order.
use Rattle.std.proofs.Common.{◌≡◌, ◌↔◌, ◌<◌, inl, inr, ℕ, ◌+◌, zero, suc, List, [], ◌∷◌, ◌++◌, map, Option, Some, None, IsSome, Contains, refl, sym, ap, ◌∙◌, subst, arith, rules, get_or}
use Rattle.std.specs.Option.{option_map_or, option_to_list}
use Rattle.std.specs.List.{flat_map, range_with_len}
use Rattle.std.specs.List.Sorted.{IsPermutation}
use Rattle.std.proofs.lemmas.List.{append_assoc, append-nil}
use Rattle.std.proofs.lemmas.List.FromFn.{get_or-map-range_with_len, length-map-range_with_len}
use Rattle.std.proofs.lemmas.List.Sorted.{IsPermutation-append, IsPermutation-append_comm, IsPermutation-refl, IsPermutation-trans, IsPermutation-sym}
use Rattle.store_model.specs.declared.address.At.{At}
use Rattle.store_model.specs.declared.address.At.TheVariants.{Part, Inside}
use Rattle.store_model.specs.Values.Datum.{Datum, Data, Gone, Number, Truth, UnitValue, Aggregate, Box, Address, no_part, a_part, data_from}
use Rattle.store_model.specs.Values.Parts.{count, steps_to_parts}
use Rattle.store_model.specs.Values.Access.{part, with_part, part_at, with_part_at, value_at, replaced}
use Rattle.store_model.specs.Values.Wholeness.{serials, serials_of_all, serial_before_parts, serial_after_parts, IsNumbered}
use Rattle.store_model.proofs.Values.Access.{none_or_some, value_at-step, value_at-no_step, replaced-step, replaced-value_at}

-- the serial numbers of a value with another one in a place, as a function of what is put there
abbrev Surrounds : (Datum → List ℕ) → Type 0
Surrounds all = (before : List ℕ) × (after : List ℕ) × ((new : Datum) → all new ≡ before ++ serials new ++ after)

Surrounds-with_part_at : (number : ℕ) (parts : Data) (inner : Datum) → part_at number parts ≡ Some inner → Surrounds (λ new. serials_of_all (with_part_at number new parts))
Surrounds-with_part_at number no_part inner h = absurd (cc)
Surrounds-with_part_at zero (a_part first rest) inner h = ([], serials_of_all rest, λ new. refl)
Surrounds-with_part_at (suc number) (a_part first rest) inner h =
    let deeper = Surrounds-with_part_at number rest inner h in
    (serials first ++ deeper.0, deeper.1, λ new. ap (λ xs. serials first ++ xs) (deeper.2 new) ∙ regroup (serials first) deeper.0 (serials new) deeper.1)
  where
    regroup : (a b c d : List ℕ) → a ++ (b ++ c ++ d) ≡ (a ++ b) ++ c ++ d
    regroup a b c d = sym (append_assoc a (b ++ c) d) ∙ ap (λ xs. xs ++ d) (sym (append_assoc a b c))

Surrounds-with_part : (step : At) (root inner : Datum) → part step root ≡ Some inner → Surrounds (λ new. serials (with_part step new root))
Surrounds-with_part (Part number) (Aggregate variant serial parts) inner h =
    let deeper = Surrounds-with_part_at number parts inner h in
    let own = option_to_list serial in
    (own ++ deeper.0, deeper.1, λ new. ap (λ xs. own ++ xs) (deeper.2 new) ∙ sym (append_assoc own (deeper.0 ++ serials new) deeper.1) ∙ ap (λ xs. xs ++ deeper.1) (sym (append_assoc own deeper.0 (serials new))))
Surrounds-with_part Inside (Box serial impl_no inside) inner h = ([], serial ∷ [], λ new. refl)
Surrounds-with_part _ _ inner h = absurd (cc)

Surrounds-replaced : (path : List At) (root old : Datum) → value_at path root ≡ Some old → Surrounds (λ new. serials (replaced path new root))
Surrounds-replaced [] root old h = ([], [], λ new. sym (append-nil (serials new)))
Surrounds-replaced (step ∷ path) root old h =
    elim (none_or_some (part step root)) [
      | inl none ↦ absurd (let e : Some old ≡ None = sym h ∙ value_at-no_step step path root none in cc)
      | inr some ↦ (
          let outer = Surrounds-with_part step root some.0 some.1 in
          let deeper = Surrounds-replaced path some.0 old (sym (value_at-step step path root some.0 some.1) ∙ h) in
          (outer.0 ++ deeper.0, deeper.1 ++ outer.1, λ new. ap serials (replaced-step step path new root some.0 some.1) ∙ outer.2 (replaced path new some.0) ∙ ap (λ xs. outer.0 ++ xs ++ outer.1) (deeper.2 new) ∙ nest outer.0 deeper.0 (serials new) deeper.1 outer.1)
          )
    ]
  where
    nest : (a b c d e : List ℕ) → a ++ (b ++ c ++ d) ++ e ≡ (a ++ b) ++ c ++ (d ++ e)
    nest a b c d e = simp append_assoc

-- a place keeps its part of the serial numbers in dropping order, whatever is put there
pub serials-split : (path : List At) (root old : Datum) → value_at path root ≡ Some old →
    (before : List ℕ) × (after : List ℕ) × (serials root ≡ before ++ serials old ++ after) × ((new : Datum) → serials (replaced path new root) ≡ before ++ serials new ++ after)
serials-split path root old h =
    let around = Surrounds-replaced path root old h in
    (around.0, around.1, ap serials (sym (replaced-value_at path root old h)) ∙ around.2 old, around.2)

IsPermutation-exchange : (new before old after : List ℕ) → IsPermutation (new ++ (before ++ old ++ after)) (old ++ (before ++ new ++ after))
IsPermutation-exchange new before old after =
    let front : (x y : List ℕ) → IsPermutation (x ++ (before ++ y ++ after)) (x ++ y ++ (before ++ after)) = λ x y. turn x y in
    IsPermutation-trans _ _ _ (front new old) (IsPermutation-trans _ _ _ (IsPermutation-append (new ++ old) (old ++ new) (before ++ after) (before ++ after) (IsPermutation-append_comm new old) (IsPermutation-refl (before ++ after))) (IsPermutation-sym _ _ (front old new)))
  where
    turn : (x y : List ℕ) → IsPermutation (x ++ (before ++ y ++ after)) (x ++ y ++ (before ++ after))
    turn x y =
        let moved = IsPermutation-append x x (before ++ y ++ after) (y ++ before ++ after) (IsPermutation-refl x)
        (IsPermutation-append (before ++ y) (y ++ before) after after (IsPermutation-append_comm before y) (IsPermutation-refl after)) in
        subst (λ xs. IsPermutation (x ++ (before ++ y ++ after)) xs) (simp append_assoc) moved

-- a value that is put in the place of another brings its serial numbers and takes away the other's
pub serials-exchange : (path : List At) (new root old : Datum) → value_at path root ≡ Some old → IsPermutation (serials new ++ serials root) (serials old ++ serials (replaced path new root))
serials-exchange path new root old h =
    let around = serials-split path root old h in
    subst (λ xs. IsPermutation (serials new ++ xs) (serials old ++ serials (replaced path new root))) (sym around.2)
    (subst (λ xs. IsPermutation (serials new ++ (around.0 ++ serials old ++ around.1)) (serials old ++ xs)) (sym (around.3 new)) (IsPermutation-exchange (serials new) around.0 (serials old) around.1))

-- a value that is taken takes away its serial numbers
pub serials-taken : (path : List At) (root old : Datum) → value_at path root ≡ Some old → IsPermutation (serials root) (serials old ++ serials (replaced path Gone root))
serials-taken path root old h = serials-exchange path Gone root old h

serials_of_part : Datum → At → List ℕ
serials_of_part root step = option_map_or serials (part step root) []

serials_of_all-steps : (variant : ℕ) (serial : Option ℕ) (all rest : Data) (passed : ℕ) → ((number : ℕ) → part_at (passed + number) all ≡ part_at number rest) →
    serials_of_all rest ≡ flat_map (λ step. option_map_or serials (part step (Aggregate variant serial all)) []) (map Part (range_with_len passed (count rest)))
serials_of_all-steps variant serial all no_part passed h = refl
serials_of_all-steps variant serial all (a_part first rest) passed h =
    let here : part_at passed all ≡ Some first = ap (λ n. part_at n all) (let e : passed ≡ passed + 0 = omega arith in e) ∙ h 0 in
    let further : (number : ℕ) → part_at (passed + 1 + number) all ≡ part_at number rest = λ number. ap (λ n. part_at n all) (let e : passed + 1 + number ≡ passed + suc number = omega arith in e) ∙ h (suc number) in
    ap (λ xs. serials first ++ xs) (serials_of_all-steps variant serial all rest (passed + 1) further)
    ∙ ap (λ o. option_map_or serials o [] ++ flat_map (λ step. option_map_or serials (part step (Aggregate variant serial all)) []) (map Part (range_with_len (passed + 1) (count rest)))) (sym here)

-- a value is numbered exactly where it has a serial number of its own
pub IsNumbered-iff_serial : (root : Datum) → IsNumbered root ↔ ((serial : ℕ) × (serial_before_parts root ++ serial_after_parts root ≡ serial ∷ []))
IsNumbered-iff_serial Gone = (λ h. absurd h, λ w. cc)
IsNumbered-iff_serial (Number number) = (λ h. absurd h, λ w. cc)
IsNumbered-iff_serial (Truth truth) = (λ h. absurd h, λ w. cc)
IsNumbered-iff_serial UnitValue = (λ h. absurd h, λ w. cc)
IsNumbered-iff_serial (Aggregate variant None parts) = (λ h. absurd (cc), λ w. cc)
IsNumbered-iff_serial (Aggregate variant (Some serial) parts) = (λ h. (serial, refl), λ w. refl)
IsNumbered-iff_serial (Box serial impl_no inside) = (λ h. (serial, refl), λ w. tt)
IsNumbered-iff_serial (Address address) = (λ h. absurd h, λ w. cc)

-- the serial numbers of parts that a list gives
pub serials_of_all-data_from : (values : List Datum) → serials_of_all (data_from values) ≡ flat_map serials values
serials_of_all-data_from [] = refl
serials_of_all-data_from (value ∷ values) = ap (λ xs. serials value ++ xs) (serials_of_all-data_from values)

-- the serial numbers of a value are its own with those of its parts, along the steps in dropping order
pub serials-along_steps : (root : Datum) → serials root ≡ serial_before_parts root ++ flat_map (λ step. option_map_or serials (part step root) []) (steps_to_parts root) ++ serial_after_parts root
serials-along_steps Gone = refl
serials-along_steps (Number number) = refl
serials-along_steps (Truth truth) = refl
serials-along_steps UnitValue = refl
serials-along_steps (Aggregate variant serial parts) =
    ap (λ xs. option_to_list serial ++ xs) (serials_of_all-steps variant serial parts parts 0 (λ number. ap (λ n. part_at n parts) (let e : 0 + number ≡ number = omega arith in e)))
    ∙ sym (append-nil _)
serials-along_steps (Box serial impl_no inside) = ap (λ xs. xs ++ serial ∷ []) (sym (append-nil (serials inside)))
serials-along_steps (Address address) = refl

IsSome-part_at : (number : ℕ) (parts : Data) → number < count parts → IsSome (part_at number parts)
IsSome-part_at number no_part h = absurd (omega arith)
IsSome-part_at zero (a_part first rest) h = search rules
IsSome-part_at (suc number) (a_part first rest) h = IsSome-part_at number rest (omega arith)

part_at-within : (number : ℕ) (parts : Data) → IsSome (part_at number parts) → number < count parts
part_at-within number no_part h = absurd (cc)
part_at-within zero (a_part first rest) h = omega arith
part_at-within (suc number) (a_part first rest) h = let deeper = part_at-within number rest h in omega arith

-- the steps in dropping order are those that lead to a part
pub steps_to_parts-lead : (root : Datum) (step : At) → Contains (steps_to_parts root) step ↔ IsSome (part step root)
steps_to_parts-lead (Aggregate variant serial parts) (Part number) = (
  λ w.
      let below : w.0 < count parts = omega (arith, length-map-range_with_len Part 0 (count parts)) in
      let at : get_or (map Part (range_with_len 0 (count parts))) w.0 (Part number) ≡ Part w.0 = get_or-map-range_with_len Part 0 (count parts) w.0 w.0 (Part number) below (omega arith) in
      let same : w.0 ≡ number = cc (at, w.2) in
      IsSome-part_at number parts (omega arith),
  λ there.
      let below : number < count parts = part_at-within number parts there in
      (number, omega (arith, length-map-range_with_len Part 0 (count parts)), get_or-map-range_with_len Part 0 (count parts) number number (Part number) below (omega arith)),
)
steps_to_parts-lead (Aggregate variant serial parts) Inside = (
  λ w.
      let below : w.0 < count parts = omega (arith, length-map-range_with_len Part 0 (count parts)) in
      let at : get_or (map Part (range_with_len 0 (count parts))) w.0 Inside ≡ Part w.0 = get_or-map-range_with_len Part 0 (count parts) w.0 w.0 Inside below (omega arith) in
      absurd (cc (at, w.2)),
  λ there. absurd (cc),
)
steps_to_parts-lead (Box serial impl_no inside) (Part number) = (λ w. absurd (no_number number w.0 w.1 w.2), λ there. absurd (cc))
  where
    no_number : (number k : ℕ) → k < 1 → get_or (Inside ∷ []) k (Part number) ≡ Part number → ⊥
    no_number number zero below h = cc
    no_number number (suc k) below h = omega arith
steps_to_parts-lead (Box serial impl_no inside) Inside = (λ w. refl, λ there. (0, omega arith, refl))
steps_to_parts-lead _ (Part number) = (λ w. absurd (omega (arith, w.1)), λ there. absurd (cc))
steps_to_parts-lead _ Inside = (λ w. absurd (omega (arith, w.1)), λ there. absurd (cc))

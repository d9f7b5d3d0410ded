-- How the number of values that are left falls while a value is dropped.
use Rattle.std.proofs.Common.{◌≡◌, ◌<◌, ◌≤◌, inl, inr, ℕ, ◌+◌, ◌*◌, zero, suc, List, [], ◌∷◌, ◌++◌, Option, Some, None, IfSome, sym, ap, ◌∙◌, subst, arith}
use Rattle.std.specs.Prelude.{slice_get, slice_set}
use Rattle.std.specs.declared.boxed.Box.{Box as TheBox}
use Rattle.std.specs.declared.alloc.Global.{Global}
use Rattle.std.proofs.Math.Nat.{mul-le-mul, eq-or-lt_of_le}
use Rattle.store_model.specs.declared.value.Value.{Value}
use Rattle.store_model.specs.declared.value.Value.TheVariants.{Parts, Boxed}
use Rattle.store_model.specs.Values.Datum.{Datum, Gone, Number, Truth, UnitValue, Aggregate, Box, Address, datum_of}
use Rattle.store_model.specs.Values.DropMeasure.{node_count, count_in, count_waiting, count_left, IsNearerEnd}
use Rattle.store_model.proofs.Values.Datum.{datum_of-Parts, datum_of-Boxed}

pub count_in-push : (values : List Value) (last : Value) → count_in (values ++ last ∷ []) ≡ count_in values + node_count (datum_of last)
count_in-push [] last = omega arith
count_in-push (value ∷ values) last = omega (arith, count_in-push values last)

pub count_in-set : (values : List Value) (index : ℕ) (old new : Value) → slice_get values index ≡ Some old →
    count_in (slice_set values index new) + node_count (datum_of old) ≡ count_in values + node_count (datum_of new)
count_in-set [] index old new h = absurd (cc)
count_in-set (value ∷ values) zero old new h = omega (arith, ap (λ v. node_count (datum_of v)) (let e : value ≡ old = cc in e))
count_in-set (value ∷ values) (suc index) old new h = omega (arith, count_in-set values index old new h)

pub count_in-within : (values : List Value) (index : ℕ) (value : Value) → slice_get values index ≡ Some value → node_count (datum_of value) ≤ count_in values
count_in-within [] index value h = absurd (cc)
count_in-within (first ∷ values) zero value h = omega (arith, ap (λ v. node_count (datum_of v)) (let e : first ≡ value = cc in e))
count_in-within (first ∷ values) (suc index) value h = omega (arith, count_in-within values index value h)

pub node_count-Parts : (variant : ℕ) (serial : Option ℕ) (values : List Value) → node_count (datum_of (Parts variant serial values)) ≡ suc (count_in values)
node_count-Parts variant serial values = ap node_count (datum_of-Parts variant serial values)

pub node_count-positive : (datum : Datum) → 1 ≤ node_count datum
node_count-positive Gone = omega arith
node_count-positive other = omega arith

-- a box gives way to its content
pub IsNearerEnd-Boxed : (self : Value) (serial : ℕ) (impl_no : Option ℕ) (inside : TheBox Value Global) (waiting : Option (List Value)) (rest : Value × Option (List Value)) → self ≡ Boxed serial impl_no inside →
    Some (inside.value, waiting) ≡ Some rest → IsNearerEnd (node_count (datum_of self)) waiting rest
IsNearerEnd-Boxed self serial impl_no inside waiting rest is_self is_rest =
    let count : node_count (datum_of self) ≡ suc (node_count (datum_of inside.value)) = ap (λ v. node_count (datum_of v)) is_self ∙ ap node_count (datum_of-Boxed serial impl_no inside) in
    let same : (inside.value, waiting) ≡ rest = cc in
    inl (omega (arith, count, ap count_left same))

pub IsNearerEnd-Parts : (self : Value) (variant : ℕ) (serial : Option ℕ) (values : List Value) (waiting : Option (List Value)) (answer : Option (Value × Option (List Value))) (rest : Value × Option (List Value)) →
    self ≡ Parts variant serial values → IfSome answer (IsNearerEnd (suc (count_in values)) waiting) → answer ≡ Some rest → IsNearerEnd (node_count (datum_of self)) waiting rest
IsNearerEnd-Parts self variant serial values waiting answer rest is_self h is_rest =
    let count : node_count (datum_of self) ≡ suc (count_in values) = ap (λ v. node_count (datum_of v)) is_self ∙ node_count-Parts variant serial values in
    subst (λ n. IsNearerEnd n waiting rest) (sym count) (subst (λ o. IfSome o (IsNearerEnd (suc (count_in values)) waiting)) is_rest h)

-- a value without parts gives way to what waits
pub IsNearerEnd-other : (self : Value) (waiting : Option (List Value)) (answer : Option (Value × Option (List Value))) (rest : Value × Option (List Value)) →
    IfSome answer (λ left. count_left left ≤ count_waiting waiting) → answer ≡ Some rest → IsNearerEnd (node_count (datum_of self)) waiting rest
IsNearerEnd-other self waiting answer rest h is_rest =
    let left : count_left rest ≤ count_waiting waiting = subst (λ o. IfSome o (λ left. count_left left ≤ count_waiting waiting)) is_rest h in
    inl (omega (arith, left, node_count-positive (datum_of self)))

-- the last part of a list that begins gives way to no more than the list
pub IsNearerEnd-begun : (values : List Value) (waiting : Option (List Value)) (answer : Option (Value × Option (List Value))) → waiting ≡ None → IfSome answer (λ rest. count_left rest ≤ suc (count_in values)) →
    IfSome answer (λ rest. node_count (datum_of rest.0) < suc (count_in values)) → IfSome answer (IsNearerEnd (suc (count_in values)) waiting)
IsNearerEnd-begun values waiting None none left part = tt
IsNearerEnd-begun values waiting (Some rest) none left part =
    let nothing : count_waiting waiting ≡ 0 = ap count_waiting none in
    elim (eq-or-lt_of_le left) [ inl same ↦ inr (omega (arith, same, nothing), part) | inr fewer ↦ inl (omega (arith, fewer, nothing)) ]

-- a list in whose first place another one waits
pub IsNearerEnd-held : (values outer : List Value) (waiting : Option (List Value)) (old first held : Value) → waiting ≡ Some outer → slice_get values 0 ≡ Some old → first ≡ old → held ≡ Parts 0 None outer →
    IsNearerEnd (suc (count_in values)) waiting (first, Some (slice_set values 0 held))
IsNearerEnd-held values outer waiting old first held is_waiting is_old is_first is_held =
    let waits : count_waiting waiting ≡ suc (count_in outer) = ap count_waiting is_waiting in
    let holds : node_count (datum_of held) ≡ suc (count_in outer) = ap (λ v. node_count (datum_of v)) is_held ∙ node_count-Parts 0 None outer in
    let begins : node_count (datum_of first) ≡ node_count (datum_of old) = ap (λ v. node_count (datum_of v)) is_first in
    let set = count_in-set values 0 old held is_old in
    let within = count_in-within values 0 old is_old in
    inr (omega (arith, waits, holds, begins, set), omega (arith, begins, within))

-- so a number falls at each turn
pub falls_nearer_end : (count : ℕ) (waiting : Option (List Value)) (rest : Value × Option (List Value)) → IsNearerEnd count waiting rest →
    count_left rest * suc (count_left rest) + node_count (datum_of rest.0) < (count + count_waiting waiting) * suc (count + count_waiting waiting) + count
falls_nearer_end count waiting rest near =
    elim near [
      | inl fewer ↦ square_falls (count_left rest) (count + count_waiting waiting) (node_count (datum_of rest.0)) count (omega arith) fewer
      | inr same ↦ omega (arith, ap (λ n. n * suc n) same.0, same.1)
    ]
  where
    square_falls : (left more first count : ℕ) → first ≤ left → left < more → left * suc left + first < more * suc more + count
    square_falls left more first count within fewer =
        let product : suc left * suc (suc left) ≤ more * suc more = mul-le-mul (omega arith) (omega arith) in
        omega (arith, product)

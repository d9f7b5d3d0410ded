-- Decimal digits: what is so of each of the ten is so of a digit, and the digits of a number give the number.
use Rattle.std.proofs.Common.{◌≡◌, ℕ, zero, suc, ◌+◌, ◌-◌, ◌/◌, ◌%◌, ◌^◌, ◌<◌, ◌≤◌, nat_lt, nat_le, Bool, true, false, ◌&&◌, List, [], ◌∷◌, ◌++◌, refl, ap, subst, ◌∙◌, arith}
use Rattle.std.specs.Prelude.{fold}
use Rattle.std.specs.List.{list_all}
use Rattle.std.specs.Char.{is_ascii_digit}
use Rattle.std.specs.Fmt.{decimal}
use Rattle.std.proofs.lemmas.Bool.{ltb-true, ltb-false, leb-true, and_from, and_parts}
use Rattle.std.proofs.lemmas.Fmt.{decimal_by_steps}
use Rattle.std.proofs.lemmas.List.Folds.{list_all-append}
use Rattle.src_token.specs.Numbers.{with_digit}

-- what is so of each of the ten digits
abbrev pub all_below : ℕ → (ℕ → Bool) → Bool
all_below zero test = true
all_below (suc n) test = test n && all_below n test

below : (n : ℕ) (test : ℕ → Bool) → all_below n test ≡ true → (c : ℕ) → c < n → test c ≡ true
below zero test h c l = absurd (omega (arith, l))
below (suc n) test h c l =
    let k = and_parts (test n) _ h in
    by (nat_lt c n) refl (λ less. below n test k.1 c less) k.0
  where
    by : (b : Bool) → nat_lt c n ≡ b → (c < n → test c ≡ true) → test n ≡ true → test c ≡ true
    by true e on last = on (ltb-true c n e)
    by false e on last = subst (λ m. test m ≡ true) (let past = ltb-false c n e in omega (arith, past, l)) last

pub of_digit : (test : ℕ → Bool) → all_below 10 (λ d. test (48 + d)) ≡ true → (c : ℕ) → is_ascii_digit c ≡ true →
    test c ≡ true
of_digit test h c digit =
    let within = and_parts (nat_le 48 c) (nat_le c 57) digit in
    let low = leb-true 48 c within.0 in
    let high = leb-true c 57 within.1 in
    let is : 48 + (c - 48) ≡ c = omega (arith, low) in
    subst (λ m. test m ≡ true) is (below 10 (λ d. test (48 + d)) h (c - 48) (omega (arith, low, high)))

-- digits that give a number
pub record IsNumeral (n : ℕ) (ds : List ℕ) : Type 0 where
  pub digits : list_all is_ascii_digit ds ≡ true
  pub value : fold with_digit 0 ds ≡ n

fold_push : (v c : ℕ) (ds : List ℕ) → fold with_digit v (ds ++ c ∷ []) ≡ with_digit (fold with_digit v ds) c
fold_push v c [] = refl
fold_push v c (d ∷ ds) = fold_push (with_digit v d) c ds

a_digit : (d : ℕ) → d < 10 → is_ascii_digit (48 + d) ≡ true
a_digit d l = below 10 (λ d. is_ascii_digit (48 + d)) refl d l

one_digit : (n : ℕ) → n < 10 → IsNumeral n ((48 + n) ∷ [])
one_digit n l = record { digits = and_from _ _ (a_digit n l) refl; value = omega arith }

one_more : (n : ℕ) (ds : List ℕ) → 10 ≤ n → IsNumeral (n / 10) ds → IsNumeral n (ds ++ ((48 + n % 10) ∷ []))
one_more n ds large h = record {
  digits = list_all-append is_ascii_digit ds ((48 + n % 10) ∷ [])
      ∙ and_from _ _ h.digits (and_from _ _ (a_digit (n % 10) (omega arith)) refl);
  value =
      let v = h.value in
      let pushed : fold with_digit 0 (ds ++ (48 + n % 10) ∷ []) ≡ with_digit (n / 10) (48 + n % 10) =
      fold_push 0 (48 + n % 10) ds ∙ ap (λ m. with_digit m (48 + n % 10)) v in
      omega (arith, pushed);
}

pub is_numeral : (n : ℕ) → n < 2 ^ 64 → IsNumeral n (decimal n)
is_numeral = decimal_by_steps IsNumeral one_digit one_more

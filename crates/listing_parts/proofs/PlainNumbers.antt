-- A number is read exactly as it is written.
use Rattle.std.proofs.Common.{◌≡◌, ℕ, zero, suc, ◌<◌, ◌^◌, Bool, true, false, nat_eq, nat_lt, List, [], ◌∷◌, ◌++◌, length, codes, Option, Some, None, decimal, get_or, refl, ap, sym, subst, ◌∙◌, arith, eqb-true, ltb-true, lt-ltb, append-nil, inl, inr}
use Rattle.std.specs.Prelude.{◌⊎◌}
use Rattle.std.specs.List.{list_all}
use Rattle.std.specs.Str.Parse.{digits_value}
use Rattle.std.proofs.lemmas.Bool.{and_parts, and_from}
use Rattle.std.proofs.lemmas.Fmt.{decimal-digits_value, decimal_digit, first_decimal, decimal_nonempty}
use Rattle.std.proofs.lemmas.Option.{same_Some, none-some}
use Rattle.std.proofs.lemmas.Str.Parse.{IsDigitsTest, numerals_by_value}
use Rattle.listing_write.specs.Fields.{Fits}
use Rattle.listing_write.specs.Reading.Words.{FoundInText, bind, chosen, strip, span, is_digit, valued, limited, number}
use Rattle.listing_write.proofs.Reading.Basics.{stops, number_reads}
use Rattle.listing_parts.proofs.LineByLine.{strip_sound}
use Rattle.listing_parts.proofs.Spans.{span_all}
use Rattle.listing_parts.specs.TypeReading.{plain_number, whole_number, nothing_behind}
use Rattle.listing_parts.specs.TypesFound.{PlainNumbersAreRead, no_digit_at}
use Rattle.listing_parts.proofs.Splits.{split, either, same_found, span_parts}

digits_told : IsDigitsTest (λ ds. list_all is_digit ds ≡ true)
digits_told = record {
  empty = refl;
  parts = λ c cs h. let (one, others) = and_parts (is_digit c) _ h in
      let (low, high) = and_parts (nat_lt 47 c) _ one in
      let l : 47 < c = ltb-true 47 c low in
      let u : c < 58 = ltb-true c 58 high in
      ((omega arith, omega arith), others);
  more = λ c cs range h. and_from (is_digit c) _ (and_from (nat_lt 47 c) (nat_lt c 58) (lt-ltb 47 c (omega (arith, range))) (lt-ltb c 58 (omega (arith, range)))) h;
}

under_limit : (limit n m : ℕ) → limited limit n ≡ Some m → (n < limit) × (n ≡ m)
under_limit limit n m h = by (nat_lt n limit) refl
  where
    by : (v : Bool) → nat_lt n limit ≡ v → (n < limit) × (n ≡ m)
    by true e = (ltb-true n limit e, same_Some n m (rw e at h))
    by false e = absurd (none-some m (rw e at h))

-- digits of which the first is no zero
valued_sound : (q : List ℕ × List ℕ) (n : ℕ) (r : List ℕ) → list_all is_digit q.0 ≡ true → strip (codes "0") (q.0 ++ q.1) ≡ None → valued (2 ^ 32) q ≡ Some (n, r)
    → (q.0 ≡ decimal n) × (q.1 ≡ r) × (n < 2 ^ 32)
valued_sound ([], s) n r all first h = absurd (none-some (n, r) h)
valued_sound (d ∷ ds, s) n r all first h =
    let (v, limit, last) = split (limited (2 ^ 32) (digits_value 10 (d ∷ ds))) (λ n. Some (n, s)) (n, r) h in
    let (small, same) = under_limit (2 ^ 32) (digits_value 10 (d ∷ ds)) v limit in
    let (own, behind) = same_found v s n r last in
    let written : decimal (digits_value 10 (d ∷ ds)) ≡ d ∷ ds =
    decimal-digits_value (numerals_by_value (λ ds. list_all is_digit ds ≡ true) digits_told) (d ∷ ds) all (omega arith)
    (λ zero_first. absurd (none-some (ds ++ s) (sym first ∙ (rw zero_first refl)))) (omega (arith, small)) in
    (sym written ∙ ap decimal (same ∙ own), behind, subst (λ (m : ℕ). m < 2 ^ 32) (same ∙ own) small)

pub plain_sound : (t : List ℕ) (n : ℕ) (r : List ℕ) → plain_number t ≡ Some (n, r) → (t ≡ decimal n ++ r) × Fits n
plain_sound t n r h = by (either (strip (codes "0") t) (λ r. Some (0, r)) (number t) (n, r) h)
  where
    by : ((s : List ℕ) × (strip (codes "0") t ≡ Some s) × (◌≡◌ {A = FoundInText ℕ} (Some (0, s)) (Some (n, r)))) ⊎ ((strip (codes "0") t ≡ None) × (number t ≡ Some (n, r)))
        → (t ≡ decimal n ++ r) × Fits n
    by (inl z) =
        let (own, behind) = same_found 0 z.0 n r z.2 in (
          strip_sound (codes "0") t z.0 z.1 ∙ (λ i. sym (decimal_digit 0 (omega arith)) i ++ behind i) ∙ ap (λ (m : ℕ). decimal m ++ r) own,
          subst (λ (m : ℕ). m < 2 ^ 32) own (omega arith),
        )
    by (inr z) =
        let parts = span_parts is_digit t in
        let (digits, behind, small) = valued_sound (span is_digit t) n r (span_all is_digit t) (ap (strip (codes "0")) (sym parts) ∙ z.0) z.1 in
        (parts ∙ (λ i. digits i ++ behind i), small)

-- a number that is not zero begins with another digit
no_zero : (n : ℕ) (r : List ℕ) → 0 < n → Fits n → strip (codes "0") (decimal n ++ r) ≡ None
no_zero n r some fits = by (decimal n) refl
  where
    by : (ds : List ℕ) → decimal n ≡ ds → strip (codes "0") (ds ++ r) ≡ None
    by [] e = absurd (omega (arith, decimal_nonempty n (omega (arith, fits)), ap length e))
    by (d ∷ ds) e = at (nat_eq 48 d) refl
      where
        at : (v : Bool) → nat_eq 48 d ≡ v → strip (codes "0") ((d ∷ ds) ++ r) ≡ None
        at true same = absurd (omega (arith, first_decimal n some (omega (arith, fits)), ap (λ (xs : List ℕ). get_or xs 0 0) e, eqb-true 48 d same))
        at false same = rw same refl

pub plain_reads : (n : ℕ) (r : List ℕ) → Fits n → stops is_digit r ≡ true → plain_number (decimal n ++ r) ≡ Some (n, r)
plain_reads zero r fits s = ap (λ (ds : List ℕ). plain_number (ds ++ r)) (decimal_digit 0 (omega arith))
plain_reads (suc n) r fits s =
    ap (λ (o : Option (List ℕ)). chosen o (λ r. Some (0, r)) (number (decimal (suc n) ++ r))) (no_zero (suc n) r (omega arith) fits) ∙ number_reads (suc n) r fits s

pub whole_reads : (n : ℕ) → Fits n → whole_number (decimal n) ≡ Some n
whole_reads n fits = ap whole_number (sym (append-nil (decimal n))) ∙ ap (λ (f : FoundInText ℕ). bind f nothing_behind) (plain_reads n [] fits refl)

pub whole_sound : (t : List ℕ) (n : ℕ) → whole_number t ≡ Some n → (t ≡ decimal n) × Fits n
whole_sound t n h =
    let (f, found, nothing) = split (plain_number t) nothing_behind n h in
    by f.0 f.1 found nothing
  where
    by : (m : ℕ) (r : List ℕ) → plain_number t ≡ Some (m, r) → nothing_behind (m, r) ≡ Some n → (t ≡ decimal n) × Fits n
    by m [] found nothing =
        let (is, fits) = plain_sound t m [] found in
        let same : m ≡ n = same_Some m n nothing in
        (is ∙ append-nil (decimal m) ∙ ap decimal same, subst (λ (k : ℕ). k < 2 ^ 32) same fits)
    by m (b ∷ bs) found nothing = absurd (none-some n nothing)

pub plain_read : PlainNumbersAreRead
plain_read n r fits s = plain_reads n r fits (by r s)
  where
    by : (r : List ℕ) → no_digit_at r ≡ true → stops is_digit r ≡ true
    by [] h = refl
    by (b ∷ bs) h = h

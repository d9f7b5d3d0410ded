-- The value of digits, one digit after the other.
use Rattle.std.proofs.Common.{◌≡◌, ℕ, ◌+◌, ◌<◌, ◌≤◌, ◌^◌, true, false, List, [], ◌∷◌, drop, get_or, length, Some, None, refl, ap, arith, ltb, ⊎_elim}
use Rattle.std.proofs.Math.Nat.{le_trans}
use Rattle.std.specs.Prelude.{fold, filter}
use Rattle.std.specs.Char.{is_ascii_digit}
use Rattle.std.proofs.lemmas.List.{drop_more}
use Rattle.std.proofs.lemmas.Bool.{le-ltb, lt-ltb, cases_lt}
use Rattle.src_token.specs.Numbers.{with_digit, limited}

-- the value where so much has been read
abbrev pub value_from : ℕ → List ℕ → ℕ
value_from value digits = fold with_digit value (filter is_ascii_digit digits)

grows_by : (digits : List ℕ) (value : ℕ) → value ≤ fold with_digit value digits
grows_by [] value = omega arith
grows_by (d ∷ ds) value = let more = grows_by ds (with_digit value d) in omega (arith, more)

filter_yes : (d : ℕ) (ds : List ℕ) → is_ascii_digit d ≡ true → filter is_ascii_digit (d ∷ ds) ≡ d ∷ filter is_ascii_digit ds
filter_yes d ds h = rw h refl

filter_no : (d : ℕ) (ds : List ℕ) → is_ascii_digit d ≡ false → filter is_ascii_digit (d ∷ ds) ≡ filter is_ascii_digit ds
filter_no d ds h = rw h refl

over : (n : ℕ) → 2 ^ 64 ≤ n → limited n ≡ None
over n h = let e : ltb n (2 ^ 64) ≡ false = le-ltb n (2 ^ 64) h in rw e refl

pub under : (n : ℕ) → n < 2 ^ 64 → limited n ≡ Some n
under n h = let e : ltb n (2 ^ 64) ≡ true = lt-ltb n (2 ^ 64) h in rw e refl

pub from_none : (n : ℕ) → None ≡ limited n → 2 ^ 64 ≤ n
from_none n h = ⊎_elim (λ (below : n < 2 ^ 64). let e = under n below in absurd (cc)) (λ (above : 2 ^ 64 ≤ n). above) (cases_lt n (2 ^ 64))

module _ (digits : List ℕ) (i value c : ℕ) (within : i < length digits) (read : c ≡ get_or digits i 0) where
  pub one_digit : is_ascii_digit c ≡ true → value_from value (drop i digits) ≡ value_from (with_digit value c) (drop (i + 1) digits)
  one_digit h = rw (drop_more digits i 0 within, ← read) (ap (fold with_digit value) (filter_yes c (drop (i + 1) digits) h))

  pub no_digit : is_ascii_digit c ≡ false → value_from value (drop i digits) ≡ value_from value (drop (i + 1) digits)
  no_digit h = rw (drop_more digits i 0 within, ← read) (ap (fold with_digit value) (filter_no c (drop (i + 1) digits) h))

  pub too_large : is_ascii_digit c ≡ true → 2 ^ 64 ≤ with_digit value c → limited (value_from value (drop i digits)) ≡ None
  too_large h large =
      let more : with_digit value c ≤ value_from (with_digit value c) (drop (i + 1) digits) = grows_by (filter is_ascii_digit (drop (i + 1) digits)) (with_digit value c) in
      let same : value_from value (drop i digits) ≡ value_from (with_digit value c) (drop (i + 1) digits) = one_digit h in
      over _ (rw same (le_trans large more))

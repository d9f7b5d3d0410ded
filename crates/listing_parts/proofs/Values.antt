-- The value of digits, one after the other.
use Rattle.std.proofs.Common.{◌≡◌, ℕ, ◌+◌, ◌*◌, ◌<◌, ◌≤◌, Bool, true, false, nat_lt, List, [], ◌∷◌, drop, get_or, length, Some, None, refl, sym, ◌∙◌, arith, ltb-true, ⊎_elim}
use Rattle.std.specs.Char.{digit_value}
use Rattle.std.specs.List.{list_all}
use Rattle.std.specs.Str.Parse.{digits_value_after}
use Rattle.std.proofs.Math.Nat.{le_trans}
use Rattle.std.proofs.lemmas.Bool.{and_parts, le-ltb, lt-ltb, cases_lt, false≢true}
use Rattle.std.proofs.lemmas.List.{drop_more}
use Rattle.std.proofs.lemmas.List.Folds.{list_all_at}
use Rattle.std.proofs.lemmas.Str.{digit_value_digit}
use Rattle.listing_write.specs.Reading.Words.{is_digit, limited}

pub digit_range : (b : ℕ) → is_digit b ≡ true → (48 ≤ b) × (b ≤ 57)
digit_range b h =
    let (low, high) = and_parts (nat_lt 47 b) _ h in
    let l : 47 < b = ltb-true 47 b low in
    let u : b < 58 = ltb-true b 58 high in
    (omega arith, omega arith)

pub digit_is : (b : ℕ) → is_digit b ≡ true → digit_value b + 48 ≡ b
digit_is b h = digit_value_digit b (digit_range b h)

pub under : (limit n : ℕ) → n < limit → limited limit n ≡ Some n
under limit n h = rw (lt-ltb n limit h) refl

pub over : (limit n : ℕ) → limit ≤ n → limited limit n ≡ None
over limit n h = rw (le-ltb n limit h) refl

pub from_none : (limit n : ℕ) → None ≡ limited limit n → limit ≤ n
from_none limit n h = ⊎_elim (λ (below : n < limit). let e = under limit n below in absurd (cc)) (λ (above : limit ≤ n). above) (cases_lt n limit)

pub grows : (n : ℕ) (ds : List ℕ) → n ≤ digits_value_after 10 n ds
grows n [] = omega arith
grows n (d ∷ ds) = let more = grows (n * 10 + digit_value d) ds in omega (arith, more)

pub each_digit : (ds : List ℕ) (i : ℕ) → list_all is_digit ds ≡ true → i < length ds → is_digit (get_or ds i 0) ≡ true
each_digit ds i all within = by (is_digit (get_or ds i 0)) refl
  where
    by : (v : Bool) → is_digit (get_or ds i 0) ≡ v → is_digit (get_or ds i 0) ≡ true
    by true e = e
    by false e = absurd (false≢true (sym (list_all_at is_digit ds i 0 within e) ∙ all))

pub next : (ds : List ℕ) (i n c : ℕ) → i < length ds → c ≡ get_or ds i 0 → digits_value_after 10 n (drop i ds) ≡ digits_value_after 10 (n * 10 + digit_value c) (drop (i + 1) ds)
next ds i n c within read = rw (drop_more ds i 0 within, ← read) refl

pub too_large : (limit : ℕ) (ds : List ℕ) (i n c : ℕ) → i < length ds → c ≡ get_or ds i 0 → limit ≤ n * 10 + digit_value c → limited limit (digits_value_after 10 n (drop i ds)) ≡ None
too_large limit ds i n c within read large =
    over limit _ (rw (next ds i n c within read) (le_trans large (grows (n * 10 + digit_value c) (drop (i + 1) ds))))

-- Which fields are given, one by one.
use Rattle.std.proofs.Common.{◌≡◌, ℕ, zero, suc, ◌+◌, ◌<◌, ◌==◌, Bool, true, false, cond, ◌&&◌, ◌||◌, List, [], ◌∷◌, ◌++◌, length, take, get_or, Option, Some, None, refl, ap, sym, ◌∙◌, arith}
use Rattle.std.proofs.lemmas.Bool.Decides.{nat_tests}
use Rattle.std.proofs.lemmas.List.{take_more}
use Rattle.typeck_calls.specs.Given.{has_all, is_number, has}
use Rattle.typing_rules.specs.Rows.{Given, all_given, is_given}

or_swaps : (a b c : Bool) → (a || (b || c)) ≡ (b || (a || c))
or_swaps true true c = refl
or_swaps true false c = refl
or_swaps false true c = refl
or_swaps false false c = refl

same_number : (a b : ℕ) → (a == b) ≡ (b == a)
same_number a b = grind (arith, nat_tests)

given_behind : (n : ℕ) (given : Given) (number : Option ℕ) → is_given n (given ++ number ∷ []) ≡ (is_number n number || is_given n given)
given_behind n [] None = refl
given_behind n [] (Some k) = ap (λ b. b || false) (same_number n k)
given_behind n (None ∷ given) number = given_behind n given number
given_behind n (Some k ∷ given) number =
    ap (λ b. n == k || b) (given_behind n given number) ∙ or_swaps (n == k) (is_number n number) (is_given n given)

-- one more that is noted
pub noted_more : (n : ℕ) (keys later : List ℕ) (given : Given) (k : ℕ) → k < length given → has n keys ≡ is_given n (take k given) →
    has n later ≡ (is_number n (get_or given k None) || has n keys) → has n later ≡ is_given n (take (k + 1) given)
noted_more n keys later given k less h more =
    more ∙ ap (λ b. is_number n (get_or given k None) || b) h ∙ sym (given_behind n (take k given) (get_or given k None))
    ∙ ap (is_given n) (sym (take_more given k None less))

pub all_there : (count : ℕ) (keys : List ℕ) (given : Given) → ((n : ℕ) → has n keys ≡ is_given n given) → has_all count keys ≡ all_given count given
all_there zero keys given same = refl
all_there (suc n) keys given same = λ i. same n i && all_there n keys given same i

pub cond_or : (a b : Bool) → cond a true b ≡ (a || b)
cond_or true b = refl
cond_or false b = refl

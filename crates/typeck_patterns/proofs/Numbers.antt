-- Numbers of fields that are given, one behind another.
use Rattle.std.proofs.Common.{◌≡◌, ℕ, zero, suc, Bool, true, false, cond, ◌&&◌, ◌||◌, not, ◌==◌, List, [], ◌∷◌, ◌++◌, Option, Some, None, refl, ap, sym, ◌∙◌, arith}
use Rattle.std.proofs.lemmas.Bool.Decides.{nat_tests}
use Rattle.typing_rules.specs.Patterns.{are_given_once, is_again}
use Rattle.typing_rules.specs.Rows.{Given, all_given, is_given}
use Rattle.typeck_patterns.specs.Given.{has, has_all, is_new_among, is_number}

or_swaps : (a b c : Bool) → (a || (b || c)) ≡ (b || (a || c))
or_swaps true true c = refl
or_swaps true false c = refl
or_swaps false true c = refl
or_swaps false false c = refl

same_number : (a b : ℕ) → (a == b) ≡ (b == a)
same_number a b = grind (arith, nat_tests)

-- a number among those that are given, and one more behind them
pub given_more : (n : ℕ) (given : Given) (g : Option ℕ) → is_given n (given ++ g ∷ []) ≡ (is_number n g || is_given n given)
given_more n [] None = refl
given_more n [] (Some k) = ap (λ b. b || false) (same_number n k)
given_more n (None ∷ given) g = given_more n given g
given_more n (Some k ∷ given) g =
    ap (λ b. n == k || b) (given_more n given g) ∙ or_swaps (n == k) (is_number n g) (is_given n given)

again_more : (n : ℕ) (given : Given) (g : Option ℕ) → is_again n (given ++ g ∷ []) ≡ (is_number n g || is_again n given)
again_more n [] None = refl
again_more n [] (Some k) = ap (λ b. b || false) (same_number n k)
again_more n (None ∷ given) g = again_more n given g
again_more n (Some k ∷ given) g =
    ap (λ b. n == k || b) (again_more n given g) ∙ or_swaps (n == k) (is_number n g) (is_again n given)

-- a number is none of those that are given
abbrev pub is_new_in : Option ℕ → Given → Bool
is_new_in None given = true
is_new_in (Some n) given = not (is_given n given)

swapped : (a b c d : Bool) → (not (b || a) && (c && not d)) ≡ ((not a && c) && not (b || d))
swapped true true c d = refl
swapped true false c d = refl
swapped false true true d = refl
swapped false true false d = refl
swapped false false true d = refl
swapped false false false d = refl

swapped_alone : (a c : Bool) → (not a && (c && true)) ≡ ((not a && c) && true)
swapped_alone true c = refl
swapped_alone false true = refl
swapped_alone false false = refl

pub once_more : (given : Given) (g : Option ℕ) → are_given_once (given ++ g ∷ []) ≡ (are_given_once given && is_new_in g given)
once_more [] None = refl
once_more [] (Some n) = refl
once_more (None ∷ given) None = once_more given None
once_more (None ∷ given) (Some n) = once_more given (Some n)
once_more (Some k ∷ given) None =
    ap (λ b. not b && are_given_once (given ++ None ∷ [])) (again_more k given None)
    ∙ ap (λ b. not (is_again k given) && b) (once_more given None) ∙ swapped_alone (is_again k given) (are_given_once given)
once_more (Some k ∷ given) (Some n) =
    ap (λ b. not b && are_given_once (given ++ Some n ∷ [])) (again_more k given (Some n))
    ∙ ap (λ b. not (n == k || is_again k given) && b) (once_more given (Some n))
    ∙ swapped (is_again k given) (n == k) (are_given_once given) (is_given n given)

-- ---- what was noted is what is given

pub new_same : (g : Option ℕ) (keys : List ℕ) (given : Given) → ((n : ℕ) → has n keys ≡ is_given n given) → is_new_among g keys ≡ is_new_in g given
new_same None keys given h = refl
new_same (Some n) keys given h = ap not (h n)

pub all_same : (count : ℕ) (keys : List ℕ) (given : Given) → ((n : ℕ) → has n keys ≡ is_given n given) → has_all count keys ≡ all_given count given
all_same zero keys given h = refl
all_same (suc n) keys given h = ap (λ b. b && has_all n keys) (h n) ∙ ap (λ b. is_given n given && b) (all_same n keys given h)

pub and_swaps : (a b : Bool) → (a && b) ≡ (b && a)
and_swaps true true = refl
and_swaps true false = refl
and_swaps false true = refl
and_swaps false false = refl

-- ---- one more

pub noted_more : (n : ℕ) (keys later : List ℕ) (given : Given) (g : Option ℕ) → has n keys ≡ is_given n given →
    has n later ≡ (is_number n g || has n keys) → has n later ≡ is_given n (given ++ g ∷ [])
noted_more n keys later given g h more = more ∙ ap (λ b. is_number n g || b) h ∙ sym (given_more n given g)

pub once_so : (once fresh : Bool) (keys : List ℕ) (given : Given) (g : Option ℕ) → once ≡ are_given_once given →
    ((n : ℕ) → has n keys ≡ is_given n given) → fresh ≡ is_new_among g keys → (once && fresh) ≡ are_given_once (given ++ g ∷ [])
once_so once fresh keys given g is h new =
    ap (λ b. b && fresh) is ∙ ap (λ b. are_given_once given && b) (new ∙ new_same g keys given h) ∙ sym (once_more given g)

pub one_more_there : (count n : ℕ) (keys : List ℕ) (all : Bool) → count ≡ suc n → all ≡ has_all n keys → (all && has n keys) ≡ has_all count keys
one_more_there count n keys all is h =
    ap (λ b. b && has n keys) h ∙ and_swaps (has_all n keys) (has n keys) ∙ ap (λ k. has_all k keys) (sym is)

pub cond_or : (a b : Bool) → cond a true b ≡ (a || b)
cond_or true b = refl
cond_or false b = refl

pub known_whole : (r enough once is_enough is_once : Bool) → r ≡ enough → enough ≡ is_enough → once ≡ true → once ≡ is_once → r ≡ (is_once && is_enough)
known_whole r enough once is_enough is_once is so holds same =
    is ∙ so ∙ ap (λ b. b && is_enough) (sym holds ∙ same)

pub other_whole : (r once is_enough is_once : Bool) → r ≡ once → once ≡ false → once ≡ is_once → r ≡ (is_once && is_enough)
other_whole r once is_enough is_once is fails same = is ∙ fails ∙ ap (λ b. b && is_enough) (sym fails ∙ same)

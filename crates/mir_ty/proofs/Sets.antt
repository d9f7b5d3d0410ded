-- Keys of a set of std, with one more; and lists that are gone through.
use Rattle.std.proofs.Common.{◌≡◌, ℕ, ◌+◌, ◌≤◌, Bool, true, false, not, ◌||◌, ◌==◌, List, [], ◌∷◌, ◌++◌, length, take, slice_get, Option, Some, None, MatchBool, add-one, inl, inr, refl, ap, sym, ◌∙◌, arith}
use Rattle.std.specs.List.{list_any}
use Rattle.std.specs.List.Sorted.{IsPermutation}
use Rattle.std.proofs.Math.Seq.{take-suc, take-length}
use Rattle.std.proofs.lemmas.Bool.{true≢false, or_left, or_right, or_cases}
use Rattle.std.proofs.lemmas.Bool.Decides.{nat_tests}
use Rattle.std.proofs.lemmas.List.Folds.{list_any-append}
use Rattle.std.proofs.lemmas.List.Sorted.{list_any-IsPermutation}
use Rattle.std.proofs.lemmas.Option.{get_or_from_slice_get, slice_get_cases, slice_get_within}

any_grows : {X : Type 0} (P Q : X → Bool) → ((x : X) → P x ≡ true → Q x ≡ true) → (xs : List X) → list_any P xs ≡ true → list_any Q xs ≡ true
any_grows P Q sub [] h = h
any_grows P Q sub (x ∷ xs) h =
    elim (or_cases (P x) (list_any P xs) h) [
      | inl here ↦ or_left (Q x) (list_any Q xs) (sub x here)
      | inr later ↦ or_right (Q x) (list_any Q xs) (any_grows P Q sub xs later)
    ]

turned : (a b : Bool) → (a || b) ≡ (b || a)
turned true true = refl
turned true false = refl
turned false true = refl
turned false false = refl

absorbed : (a b : Bool) → (b ≡ true → a ≡ true) → a ≡ (a || b)
absorbed true b h = refl
absorbed false true h = h refl
absorbed false false h = refl

not_false : (b : Bool) → false ≡ not b → b ≡ true
not_false true h = refl
not_false false h = absurd (true≢false (sym h))

-- what a test says of the keys with one more
pub put : {K : Type 0} (same : K → K → Bool) (P : K → Bool) (key : K) (old new : List K) (added : Bool) →
    ((x : K) → P key ≡ true → same key x ≡ true → P x ≡ true) → MatchBool added (IsPermutation (key ∷ old) new) (new ≡ old) →
    added ≡ not (list_any (same key) old) → list_any P new ≡ (list_any P old || P key)
put same P key old new true like h is =
    sym (list_any-IsPermutation P (key ∷ old) new h) ∙ turned (P key) (list_any P old)
put same P key old new false like h is =
    ap (list_any P) h
    ∙ absorbed (list_any P old) (P key) (λ here. any_grows (same key) P (λ x y. like x here y) old (not_false (list_any (same key) old) is))

pub like_number : (body key x : ℕ) → (key == body) ≡ true → (key == x) ≡ true → (x == body) ≡ true
like_number body key x a b = grind (arith, nat_tests)

or_false : (b : Bool) → (b || false) ≡ b
or_false true = refl
or_false false = refl

pub with_next : {X : Type 0} (xs : List X) (n : ℕ) (x : X) → slice_get xs n ≡ Some x → take (n + 1) xs ≡ take n xs ++ x ∷ []
with_next xs n x at =
    ap (λ k. take k xs) (add-one n) ∙ take-suc xs n x (slice_get_within xs n x at)
    ∙ ap (λ y. take n xs ++ y ∷ []) (get_or_from_slice_get xs n x x at)

-- what a test says of the elements up to here with the next
pub any_next : {X : Type 0} (P : X → Bool) (xs : List X) (n : ℕ) (x : X) → slice_get xs n ≡ Some x →
    list_any P (take (n + 1) xs) ≡ (list_any P (take n xs) || P x)
any_next P xs n x at =
    ap (list_any P) (with_next xs n x at) ∙ list_any-append P (take n xs) (x ∷ [])
    ∙ ap (λ b. list_any P (take n xs) || b) (or_false (P x))

some_none : {X : Type 0} (x : X) → ◌≡◌ {A = Option X} (Some x) None → ⊥
some_none x h = absurd (cc)

pub all_taken : {X : Type 0} (xs : List X) (n : ℕ) → slice_get xs n ≡ None → n ≤ length xs → take n xs ≡ xs
all_taken xs n none within =
    elim (slice_get_cases xs n).1 [
      | inl there ↦ absurd (some_none there.0 (sym there.2 ∙ none))
      | inr past ↦ ap (λ k. take k xs) (omega (arith, past.0)) ∙ take-length xs
    ]

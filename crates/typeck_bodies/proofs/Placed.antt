-- A table of the places of numbers, filled from the end of their list to its beginning.
use Rattle.std.proofs.Common.{◌≡◌, ◌≢◌, ℕ, zero, suc, ◌==◌, ◌+◌, ◌<◌, Bool, true, false, List, [], ◌∷◌, drop, get_or, length, Option, Some, slice_get, slice_set, if◌then◌else◌, refl, ap, sym, ◌∙◌, arith}
use Rattle.std.proofs.lemmas.Bool.{true≢false}
use Rattle.std.proofs.lemmas.Bool.Decides.{Decides-eqb}
use Rattle.std.proofs.lemmas.List.{at_drop_more}
use Rattle.std.specs.Option.{option_map_or}
use Rattle.typeck_bodies.specs.Places.{place_by}
use Rattle.typing_rules.specs.Numbered.{place_among}

set_there : {A : Type 0} (list : List A) (n : ℕ) (value : A) → n < length list → slice_get (slice_set list n value) n ≡ Some value
set_there [] n value less = absurd (let never : ⊥ = omega arith in never)
set_there (first ∷ list) zero value less = refl
set_there (first ∷ list) (suc n) value less = set_there list n value (omega arith)

set_elsewhere : {A : Type 0} (list : List A) (n m : ℕ) (value : A) → n ≢ m → slice_get (slice_set list n value) m ≡ slice_get list m
set_elsewhere [] n m value differs = refl
set_elsewhere (first ∷ list) zero zero value differs = absurd (differs refl)
set_elsewhere (first ∷ list) zero (suc m) value differs = refl
set_elsewhere (first ∷ list) (suc n) zero value differs = refl
set_elsewhere (first ∷ list) (suc n) (suc m) value differs = set_elsewhere list n m value (λ e. differs (ap suc e))

abbrev placed_in : ℕ → Option ℕ → ℕ
placed_in count o = option_map_or (λ place. place) o count

pub one_more : (numbers table : List ℕ) (count at number k : ℕ) → at < length numbers → number ≡ get_or numbers at 0 → number < length table →
    place_by table count k ≡ at + 1 + place_among (drop (at + 1) numbers) k → place_by (slice_set table number at) count k ≡ at + place_among (drop at numbers) k
one_more numbers table count at number k less is wide earlier = by (number == k) refl
  where
    first : place_among (drop at numbers) k ≡ (if number == k then 0 else suc (place_among (drop (at + 1) numbers) k))
    first =
        at_drop_more (λ l. place_among l k) numbers at 0 less
        ∙ ap (λ n. if n == k then 0 else suc (place_among (drop (at + 1) numbers) k)) (sym is)

    by : (b : Bool) → (number == k) ≡ b → place_by (slice_set table number at) count k ≡ at + place_among (drop at numbers) k
    by true same =
        ap (λ n. place_by (slice_set table number at) count n) (sym ((Decides-eqb number k).0 same))
        ∙ ap (placed_in count) (set_there table number at wide)
        ∙ (let none : at ≡ at + 0 = omega arith in none)
        ∙ sym (ap (λ n. at + n) (first ∙ ap (λ b. if b then 0 else suc (place_among (drop (at + 1) numbers) k)) same))
    by false differs =
        ap (placed_in count) (set_elsewhere table number k at (λ e. true≢false (sym ((Decides-eqb number k).1 e) ∙ differs)))
        ∙ earlier
        ∙ (let one : at + 1 + place_among (drop (at + 1) numbers) k ≡ at + suc (place_among (drop (at + 1) numbers) k) = omega arith in one)
        ∙ sym (ap (λ n. at + n) (first ∙ ap (λ b. if b then 0 else suc (place_among (drop (at + 1) numbers) k)) differs))

-- A key gets a number, in the row or in the table.
use Rattle.std.proofs.Common.{◌≡◌, ◌≢◌, ◌⊎◌, inl, inr, ◌∙◌, ◌+◌, ◌-◌, ◌<◌, ◌≤◌, ℕ, zero, suc, Bool, true, false, cond, nat_eq, nat_lt, List, [], ◌∷◌, length, get_or, replicate, Option, Some, None, slice_get, slice_set, if◌then◌else◌, refl, sym, ap, arith, add-one}
use Rattle.std.proofs.lemmas.Bool.Decides.{nat_tests}
use Rattle.std.proofs.lemmas.List.{get_or-replicate, length-replicate}
use Rattle.std.proofs.lemmas.Option.{none-some, slice_get_within, slice_get_cases}
use Rattle.lower_locals.specs.Places.{near_at, of_row, either}

set_same : {X : Type 0} (xs : List X) (n : ℕ) (x : X) → n < length xs → slice_get (slice_set xs n x) n ≡ Some x
set_same [] n x within = absurd (let never : ⊥ = omega arith in never)
set_same (y ∷ ys) zero x within = refl
set_same (y ∷ ys) (suc n) x within = set_same ys n x (omega arith)

set_other : {X : Type 0} (xs : List X) (n i : ℕ) (x : X) → i ≢ n → slice_get (slice_set xs n x) i ≡ slice_get xs i
set_other [] n i x apart = refl
set_other (y ∷ ys) zero zero x apart = absurd (apart refl)
set_other (y ∷ ys) zero (suc i) x apart = refl
set_other (y ∷ ys) (suc n) zero x apart = refl
set_other (y ∷ ys) (suc n) (suc i) x apart = set_other ys n i x (λ same. apart (ap suc same))

-- a key of the row

pub row_from : (first : ℕ) (row : List ℕ) (key old : ℕ) → near_at first row key ≡ Some old → first ≤ key
row_from first row key old at = by (nat_lt key first) refl at
  where
    by : (below : Bool) → nat_lt key first ≡ below → (if below then None else slice_get row (key - first)) ≡ Some old → first ≤ key
    by true less is = absurd (none-some old is)
    by false less is = grind (arith, nat_tests)

pub row_within : (first : ℕ) (row : List ℕ) (key old : ℕ) → near_at first row key ≡ Some old → key - first < length row
row_within first row key old at = by (nat_lt key first) at
  where
    by : (below : Bool) → (if below then None else slice_get row (key - first)) ≡ Some old → key - first < length row
    by true is = absurd (none-some old is)
    by false is = slice_get_within row (key - first) old is

-- it gets a number
pub put_near : (first : ℕ) (row : List ℕ) (key number stored old : ℕ) (far : ℕ → Option ℕ) → near_at first row key ≡ Some old → stored ≡ number + 1 → (other : ℕ) →
    either (near_at first (slice_set row (key - first) stored) other) (far other)
    ≡ cond (nat_eq key other) (Some number) (either (near_at first row other) (far other))
put_near first row key number stored old far at more other = by (nat_lt key first) refl at (nat_eq key other) refl
  where
    put : List ℕ
    put = slice_set row (key - first) stored

    by : (below : Bool) → nat_lt key first ≡ below → (if below then None else slice_get row (key - first)) ≡ Some old → (same : Bool) → nat_eq key other ≡ same →
        either (near_at first put other) (far other) ≡ cond same (Some number) (either (near_at first row other) (far other))
    by true less is same e = absurd (none-some old is)
    by false less is true e =
        let alike : key ≡ other = grind (arith, nat_tests) in
        ap (λ (o : ℕ). either (near_at first put o) (far other)) (sym alike)
        ∙ ap (λ (b : Bool). either (if b then None else slice_get put (key - first)) (far other)) less
        ∙ ap (λ (z : Option ℕ). either z (far other)) (set_same row (key - first) stored (slice_get_within row (key - first) old is))
        ∙ ap of_row (more ∙ add-one number)
    by false less is false e = ap (λ (z : Option ℕ). either z (far other)) (row_stays (nat_lt other first) refl)
      where
        row_stays : (b : Bool) → nat_lt other first ≡ b → (if b then None else slice_get put (other - first)) ≡ (if b then None else slice_get row (other - first))
        row_stays true d = refl
        row_stays false d =
            set_other row (key - first) (other - first) stored (λ same. let never : ⊥ = grind (arith, nat_tests) in never)

-- a key that is not of the row
pub put_far : (first : ℕ) (row : List ℕ) (key number : ℕ) (far new : ℕ → Option ℕ) → near_at first row key ≡ None →
    ((other : ℕ) → new other ≡ cond (nat_eq key other) (Some number) (far other)) → (other : ℕ) →
    either (near_at first row other) (new other)
    ≡ cond (nat_eq key other) (Some number) (either (near_at first row other) (far other))
put_far first row key number far new at put other = by (nat_eq key other) refl
  where
    by : (same : Bool) → nat_eq key other ≡ same →
        either (near_at first row other) (new other) ≡ cond same (Some number) (either (near_at first row other) (far other))
    by true e =
        let alike : key ≡ other = grind (arith, nat_tests) in
        ap (λ (o : ℕ). either (near_at first row o) (new other)) (sym alike)
        ∙ ap (λ (z : Option ℕ). either z (new other)) at
        ∙ put other
        ∙ ap (λ (b : Bool). cond b (Some number) (far other)) e
    by false e =
        ap (λ (z : Option ℕ). either (near_at first row other) z) (put other ∙ ap (λ (b : Bool). cond b (Some number) (far other)) e)

-- a row in which no key has a number
pub none_yet : (first count key : ℕ) (far : Option ℕ) → far ≡ None → either (near_at first (replicate count 0) key) far ≡ None
none_yet first count key far is = by (nat_lt key first)
  where
    by_cases : (z : Option ℕ) → (z ≡ Some 0) ⊎ (z ≡ None) → either z far ≡ None
    by_cases z (inl at) = ap (λ (z : Option ℕ). either z far) at
    by_cases z (inr at) = ap (λ (z : Option ℕ). either z far) at ∙ is

    row : List ℕ
    row = replicate count 0

    at_most : (i : ℕ) → (slice_get row i ≡ Some 0) ⊎ (slice_get row i ≡ None)
    at_most i = by_within (slice_get_cases row i).1
      where
        by_within : ((x : ℕ) × (i < length row) × (slice_get row i ≡ Some x) × (get_or row i x ≡ x)) ⊎ ((length row ≤ i) × (slice_get row i ≡ None)) → (slice_get row i ≡ Some 0) ⊎ (slice_get row i ≡ None)
        by_within (inl (x, less, at, is)) =
            inl (at ∙ ap (λ (o : ℕ). Some o) (sym is ∙ get_or-replicate {A = ℕ} count i 0 x (omega (less, length-replicate {A = ℕ} count 0, arith))))
        by_within (inr past) = inr past.1

    by : (b : Bool) → either (if b then None else slice_get row (key - first)) far ≡ None
    by true = is
    by false = by_cases (slice_get row (key - first)) (at_most (key - first))

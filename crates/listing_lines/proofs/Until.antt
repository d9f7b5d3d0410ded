-- Things read one after the other until one is broken off, each with a byte less to go.
use Rattle.std.proofs.Common.{◌≡◌, ℕ, zero, suc, Bool, true, false, List, [], ◌∷◌, ◌++◌, Some, None, ap, sym, ◌∙◌, append_assoc, append-nil}
use Rattle.listing_write.specs.Reading.Words.{FoundInText}
use Rattle.listing_lines.specs.CodeReading.{goes_on, until_within}

module _ {X : Type 0} (read : ℕ → List ℕ → FoundInText (X × Bool)) where
  -- what stands before, and what is still read
  abbrev pub so_far : ℕ → ℕ → List X → List ℕ → (List X × Bool) × List ℕ
  so_far fuel n before t = ((before ++ (until_within fuel read n t).0.0, (until_within fuel read n t).0.1), (until_within fuel read n t).1)

  pub one_more : (fuel k n m : ℕ) (before : List X) (x : X) (t r : List ℕ) → fuel ≡ suc k → m ≡ suc n → read n t ≡ Some ((x, true), r)
      → so_far fuel n before t ≡ so_far k m (before ++ x ∷ []) r
  one_more fuel k n m before x t r e next found =
      let q : (List X × Bool) × List ℕ = until_within k read (suc n) r in
      let step : until_within fuel read n t ≡ ((x ∷ q.0.0, q.0.1), q.1) =
      ap (λ (f : ℕ). until_within f read n t) e ∙ ap (λ (f : FoundInText (X × Bool)). goes_on f (until_within k read (suc n)) t) found in
      ap (λ (q : (List X × Bool) × List ℕ). ((before ++ q.0.0, q.0.1), q.1)) step
      ∙ ap (λ (xs : List X). ((xs, q.0.1), q.1)) (sym (append_assoc before (x ∷ []) q.0.0))
      ∙ ap (λ (j : ℕ). so_far k j (before ++ x ∷ []) r) (sym next)

  pub last_one : (fuel k n : ℕ) (before : List X) (x : X) (t r : List ℕ) → fuel ≡ suc k → read n t ≡ Some ((x, false), r)
      → so_far fuel n before t ≡ ((before ++ x ∷ [], false), r)
  last_one fuel k n before x t r e found =
      ap (λ (f : ℕ). so_far f n before t) e
      ∙ ap (λ (f : FoundInText (X × Bool)). let q : (List X × Bool) × List ℕ = goes_on f (until_within k read (suc n)) t in ((before ++ q.0.0, q.0.1), q.1)) found

  pub no_more : (fuel n : ℕ) (before : List X) (t : List ℕ) → read n t ≡ None → so_far fuel n before t ≡ ((before, true), t)
  no_more zero n before t none = ap (λ (xs : List X). ((xs, true), t)) (append-nil before)
  no_more (suc k) n before t none =
      ap (λ (f : FoundInText (X × Bool)). let q : (List X × Bool) × List ℕ = goes_on f (until_within k read (suc n)) t in ((before ++ q.0.0, q.0.1), q.1)) none
      ∙ ap (λ (xs : List X). ((xs, true), t)) (append-nil before)

  pub all_gone : (fuel n : ℕ) (before : List X) (t : List ℕ) → fuel ≡ 0 → so_far fuel n before t ≡ ((before, true), t)
  all_gone fuel n before t e = ap (λ (k : ℕ). so_far k n before t) e ∙ ap (λ (xs : List X). ((xs, true), t)) (append-nil before)

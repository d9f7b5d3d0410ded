-- Things read one after the other, each with a byte less to go.
use Rattle.std.proofs.Common.{◌≡◌, ℕ, zero, suc, List, [], ◌∷◌, ◌++◌, Some, None, ap, sym, ◌∙◌, append_assoc, append-nil}
use Rattle.listing_write.specs.Reading.Rows.{after, many_within}
use Rattle.listing_write.specs.Reading.Words.{FoundInText}

module _ {X : Type 0} (read : List ℕ → FoundInText X) where
  -- what stands before, and what is still read
  abbrev pub so_far : ℕ → List X → List ℕ → List X × List ℕ
  so_far fuel before t = (before ++ (many_within fuel read t).0, (many_within fuel read t).1)

  pub one_more : (fuel k : ℕ) (before : List X) (x : X) (t r : List ℕ) → fuel ≡ suc k → read t ≡ Some (x, r)
      → so_far fuel before t ≡ so_far k (before ++ x ∷ []) r
  one_more fuel k before x t r e found =
      let step : many_within fuel read t ≡ (x ∷ (many_within k read r).0, (many_within k read r).1) =
      ap (λ (n : ℕ). many_within n read t) e ∙ ap (λ (f : FoundInText X). after f (many_within k read) t) found in
      ap (λ (q : List X × List ℕ). (before ++ q.0, q.1)) step
      ∙ ap (λ (xs : List X). (xs, (many_within k read r).1)) (sym (append_assoc before (x ∷ []) (many_within k read r).0))

  pub no_more : (fuel : ℕ) (before : List X) (t : List ℕ) → read t ≡ None → so_far fuel before t ≡ (before, t)
  no_more zero before t none = ap (λ (xs : List X). (xs, t)) (append-nil before)
  no_more (suc k) before t none =
      ap (λ (f : FoundInText X). (before ++ (after f (many_within k read) t).0, (after f (many_within k read) t).1)) none
      ∙ ap (λ (xs : List X). (xs, t)) (append-nil before)

  pub all_gone : (fuel : ℕ) (before : List X) (t : List ℕ) → fuel ≡ 0 → so_far fuel before t ≡ (before, t)
  all_gone fuel before t e = ap (λ (n : ℕ). so_far n before t) e ∙ ap (λ (xs : List X). (xs, t)) (append-nil before)

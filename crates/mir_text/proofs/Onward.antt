-- One thing after the other, each with a byte less to go.
use Rattle.std.proofs.Common.{◌≡◌, ℕ, zero, suc, List, Some, None, refl, ap, ◌∙◌}
use Rattle.listing_write.specs.Reading.Words.{FoundInText}
use Rattle.mir_text.specs.SectionReading.{onward, on_within}

module _ {S : Type 0} (step : S → List ℕ → FoundInText S) where
  pub one_more : (fuel k : ℕ) (s u : S) (t r : List ℕ) → fuel ≡ suc k → step s t ≡ Some (u, r) → on_within fuel step s t ≡ on_within k step u r
  one_more fuel k s u t r e found = ap (λ (n : ℕ). on_within n step s t) e ∙ ap (λ (f : FoundInText S). onward f (on_within k step) s t) found

  pub no_more : (fuel : ℕ) (s : S) (t : List ℕ) → step s t ≡ None → on_within fuel step s t ≡ (s, t)
  no_more zero s t none = refl
  no_more (suc k) s t none = ap (λ (f : FoundInText S). onward f (on_within k step) s t) none

  pub all_gone : (fuel : ℕ) (s : S) (t : List ℕ) → fuel ≡ 0 → on_within fuel step s t ≡ (s, t)
  all_gone fuel s t e = ap (λ (n : ℕ). on_within n step s t) e

-- what no step changes
pub keeps : {S X : Type 0} (step : S → List ℕ → FoundInText S) (part : S → X) → ((s u : S) (t r : List ℕ) → step s t ≡ Some (u, r) → part u ≡ part s)
    → (k : ℕ) (s : S) (t : List ℕ) → part (on_within k step s t).0 ≡ part s
keeps step part each zero s t = refl
keeps step part each (suc k) s t = by (step s t) refl (keeps step part each k)
  where
    by : (o : FoundInText _) → step s t ≡ o → ((u : _) (r : List ℕ) → part (on_within k step u r).0 ≡ part u) → part (onward o (on_within k step) s t).0 ≡ part s
    by None e deeper = refl
    by (Some f) e deeper = deeper f.0 f.1 ∙ each s f.0 t f.1 e

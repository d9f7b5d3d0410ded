-- A keyword is found among those that have as many letters.
use Rattle.std.proofs.Common.{◌≡◌, ℕ, ◌<◌, ◌≤◌, true, false, List, [], ◌∷◌, length, None, refl, ap, sym, ◌∙◌, eqb, leb, arith}
use Rattle.std.specs.Prelude.{filter}
use Rattle.std.specs.List.{list_all}
use Rattle.std.specs.Str.{bytes_eq}
use Rattle.std.proofs.lemmas.Bool.{eqb-false, leb-true, and_parts}
use Rattle.std.proofs.lemmas.Slice.Eq.{bytes_eq-Decides}
use Rattle.src_token.specs.declared.word.Word.{Word}
use Rattle.src_token.specs.Words.{keyword_among}
use Rattle.src_token.proofs.Comments.{by_test}

module _ {X : Type 0} (spelling : X → List ℕ) (word : X → Word) (piece : List ℕ) where
  other_length : (x : X) → (length (spelling x) ≡ length piece → ⊥) → bytes_eq (spelling x) piece ≡ false
  other_length x apart = by_test (bytes_eq (spelling x) piece) (λ h. absurd (apart (ap (λ (w : List ℕ). length w) ((bytes_eq-Decides (spelling x) piece).0 h)))) (λ h. h)

  passed_over : (x : X) (xs : List X) → bytes_eq (spelling x) piece ≡ false → keyword_among spelling word (x ∷ xs) piece ≡ keyword_among spelling word xs piece
  passed_over x xs h = rw h refl

  met : (x : X) (xs ys : List X) → keyword_among spelling word xs piece ≡ keyword_among spelling word ys piece → keyword_among spelling word (x ∷ xs) piece ≡ keyword_among spelling word (x ∷ ys) piece
  met x xs ys same = by_test (bytes_eq (spelling x) piece) (λ h. rw h refl) (λ h. passed_over x xs h ∙ same ∙ sym (passed_over x ys h))

  pub of_length : (n : ℕ) → length piece ≡ n → (xs : List X) → keyword_among spelling word xs piece ≡ keyword_among spelling word (filter (λ x. eqb (length (spelling x)) n) xs) piece
  of_length n counts [] = refl
  of_length n counts (x ∷ xs) =
      by_test (eqb (length (spelling x)) n)
      (λ h. rw h (met x xs (filter (λ x. eqb (length (spelling x)) n) xs) (of_length n counts xs)))
      (λ h. rw h (passed_over x xs (other_length x (λ same. eqb-false (length (spelling x)) n h (same ∙ counts))) ∙ of_length n counts xs))

  pub too_long : (xs : List X) → list_all (λ x. leb (length (spelling x)) 8) xs ≡ true → 8 < length piece → keyword_among spelling word xs piece ≡ None
  too_long [] h long = refl
  too_long (x ∷ xs) h long =
      let (this, others) = and_parts (leb (length (spelling x)) 8) _ h in
      let short : length (spelling x) ≤ 8 = leb-true (length (spelling x)) 8 this in
      passed_over x xs (other_length x (λ same. absurd (omega arith))) ∙ too_long xs others long

-- The longest beginning of a list of which each element passes a test.
use Rattle.std.proofs.Common.{◌≡◌, ℕ, suc, ◌≤◌, Bool, true, false, List, [], ◌∷◌, ◌++◌, length, take, refl, ap, ◌∙◌, arith}
use Rattle.std.specs.List.{list_all, prefix_len}
use Rattle.std.proofs.lemmas.Bool.{and_parts, and_from}
use Rattle.src_token.proofs.Comments.{by_test}

module _ (p : ℕ → Bool) where
  passes_more : (x : ℕ) (xs : List ℕ) → p x ≡ true → prefix_len p (x ∷ xs) ≡ suc (prefix_len p xs)
  passes_more x xs h = rw h (omega arith)

  pub stops : (x : ℕ) (xs : List ℕ) → p x ≡ false → prefix_len p (x ∷ xs) ≡ 0
  stops x xs h = rw h refl

  pub run_passes : (xs : List ℕ) → list_all p (take (prefix_len p xs) xs) ≡ true
  run_passes [] = refl
  run_passes (x ∷ xs) =
      by_test (p x)
      (λ h. let e = passes_more x xs h in rw e (and_from (p x) _ h (run_passes xs)))
      (λ h. let e = stops x xs h in rw e refl)

  pub run_within : (xs : List ℕ) → prefix_len p xs ≤ length xs
  run_within [] = omega arith
  run_within (x ∷ xs) =
      by_test (p x)
      (λ h. let e = passes_more x xs h in let ih = run_within xs in omega (arith, e, ih))
      (λ h. let e = stops x xs h in omega (arith, e))

  -- a beginning that passes is no longer than the longest
  pub passing_within : (front rest : List ℕ) → list_all p front ≡ true → length front ≤ prefix_len p (front ++ rest)
  passing_within [] rest h = omega arith
  passing_within (x ∷ xs) rest h =
      let (this, others) = and_parts (p x) _ h in
      let e = passes_more x (xs ++ rest) this in
      let ih = passing_within xs rest others in
      omega (arith, e, ih)

  -- up to the first that fails
  pub run_to : (front : List ℕ) (x : ℕ) (rest : List ℕ) → list_all p front ≡ true → p x ≡ false → prefix_len p (front ++ x ∷ rest) ≡ length front
  run_to [] x rest h fails = stops x rest fails
  run_to (y ∷ ys) x rest h fails =
      let (this, others) = and_parts (p y) _ h in
      passes_more y (ys ++ x ∷ rest) this ∙ ap suc (run_to ys x rest others fails)

-- Tokens that are handed over one by one: where one stands among all.
use Rattle.std.proofs.Common.{◌≡◌, suc, List, [], ◌∷◌, ◌++◌, length, take, slice_get, Some, refl, ap, sym, ◌∙◌, arith}

there : {X : Type 0} (ys rest : List X) (x : X) → slice_get (ys ++ x ∷ rest) (length ys) ≡ Some x
there [] rest x = refl
there (y ∷ ys) rest x = there ys rest x

before : {X : Type 0} (ys rest : List X) → take (length ys) (ys ++ rest) ≡ ys
before [] rest = refl
before (y ∷ ys) rest = ap (λ z. y ∷ z) (before ys rest)

module _ {X : Type 0} (ts ys rest : List X) (x : X) (whole : ys ++ x ∷ rest ≡ ts) where
  pub handed : slice_get ts (length ys) ≡ Some x
  handed = ap (λ z. slice_get z (length ys)) (sym whole) ∙ there ys rest x

  pub handed_before : take (length ys) ts ≡ ys
  handed_before = ap (λ z. take (length ys) z) (sym whole) ∙ before ys (x ∷ rest)

  pub handed_with : take (suc (length ys)) ts ≡ ys ++ x ∷ []
  handed_with = ap (λ z. take (suc (length ys)) z) (sym whole) ∙ with_it ys
    where
      with_it : (zs : List X) → take (suc (length zs)) (zs ++ x ∷ rest) ≡ zs ++ x ∷ []
      with_it [] = refl
      with_it (z ∷ zs) = ap (λ w. z ∷ w) (with_it zs)

pub none_left : {X : Type 0} (xs : List X) → length xs ≡ 0 → xs ≡ []
none_left [] h = refl
none_left (x ∷ xs) h = absurd (omega arith)

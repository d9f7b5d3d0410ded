-- What passes a filter, one after another.
use Rattle.std.proofs.Common.{◌≡◌, ℕ, suc, ◌+◌, ◌<◌, List, ◌∷◌, ◌++◌, length, drop, get_or, Option, Some, None, refl, ap, sym, ◌∙◌, append_assoc, add-one, drop-cons}
use Rattle.std.specs.List.{filter_map}
use Rattle.typeck_heads.specs.Forms.{listed}

module _ {A B : Type 0} (f : A → Option B) where
  first : (x : A) (o : Option B) → f x ≡ o → (xs : List A) → filter_map f (x ∷ xs) ≡ listed o ++ filter_map f xs
  first x None is xs = rw is refl
  first x (Some b) is xs = rw is refl

  pub filtered : (whole kept more : List B) (xs : List A) (i : ℕ) (x : A) (found : Option B) → i < length xs → x ≡ get_or xs i x →
      whole ≡ kept ++ filter_map f (drop i xs) → found ≡ f x → more ≡ kept ++ listed found →
      whole ≡ more ++ filter_map f (drop (i + 1) xs)
  filtered whole kept more xs i x found h is so of_x pushed =
      so ∙ ap (λ z. kept ++ filter_map f z) (drop-cons xs i x h)
      ∙ ap (λ z. kept ++ filter_map f (z ∷ drop (suc i) xs)) (sym is)
      ∙ ap (λ z. kept ++ z) (first x found (sym of_x) (drop (suc i) xs))
      ∙ sym (append_assoc kept (listed found) (filter_map f (drop (suc i) xs)))
      ∙ ap (λ z. z ++ filter_map f (drop (suc i) xs)) (sym pushed)
      ∙ ap (λ z. more ++ filter_map f (drop z xs)) (sym (add-one i))

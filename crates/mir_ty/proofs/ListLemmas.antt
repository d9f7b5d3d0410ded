-- Elements of lists by number, where a list grows at its end.
use Rattle.std.proofs.Common.{◌≡◌, ℕ, zero, suc, ◌<◌, Bool, ◌&&◌, ◌||◌, List, [], ◌∷◌, ◌++◌, length, slice_get, Some, All, Contains, ◌⊎◌, inl, inr, refl, ap, subst, ◌∙◌, arith}
use Rattle.std.specs.List.{list_any, list_all}
use Rattle.std.proofs.lemmas.Option.{slice_get_within, get_or_from_slice_get, slice_get-get_or, none-some, same_Some}
use Rattle.std.proofs.lemmas.List.Elements.{All-head, All-tail}

module _ {X : Type 0} where
  pub slice_get-append_left : (xs ys : List X) (i : ℕ) (x : X) → slice_get xs i ≡ Some x → slice_get (xs ++ ys) i ≡ Some x
  slice_get-append_left [] ys i x h = absurd (none-some x h)
  slice_get-append_left (y ∷ xs) ys zero x h = h
  slice_get-append_left (y ∷ xs) ys (suc i) x h = slice_get-append_left xs ys i x h

  pub slice_get-below : (xs ys : List X) (i : ℕ) → i < length xs → slice_get (xs ++ ys) i ≡ slice_get xs i
  slice_get-below [] ys i h = absurd (omega arith)
  slice_get-below (y ∷ xs) ys zero h = refl
  slice_get-below (y ∷ xs) ys (suc i) h = slice_get-below xs ys i (omega arith)

  pub slice_get-last : (xs : List X) (y : X) → slice_get (xs ++ y ∷ []) (length xs) ≡ Some y
  slice_get-last [] y = refl
  slice_get-last (x ∷ xs) y = slice_get-last xs y

  -- an element of a list with one more is one of the list, or the last
  pub slice_get-push_cases : (xs : List X) (y : X) (i : ℕ) (z : X) → slice_get (xs ++ y ∷ []) i ≡ Some z → (slice_get xs i ≡ Some z) ⊎ ((i ≡ length xs) × (y ≡ z))
  slice_get-push_cases [] y zero z h = inr (refl, same_Some y z h)
  slice_get-push_cases [] y (suc i) z h = absurd (none-some z h)
  slice_get-push_cases (x ∷ xs) y zero z h = inl h
  slice_get-push_cases (x ∷ xs) y (suc i) z h = by (slice_get-push_cases xs y i z h)
    where
      by : (slice_get xs i ≡ Some z) ⊎ ((i ≡ length xs) × (y ≡ z)) → (slice_get xs i ≡ Some z) ⊎ ((suc i ≡ suc (length xs)) × (y ≡ z))
      by (inl e) = inl e
      by (inr e) = inr (ap suc e.0, e.1)

  -- what is true of each element is true of the one with a number
  pub All-slice_get : (P : X → Type 0) (xs : List X) (i : ℕ) (x : X) → All P xs → slice_get xs i ≡ Some x → P x
  All-slice_get P xs i x all is = subst P (get_or_from_slice_get xs i x x is) (all i x (slice_get_within xs i x is))

  pub Contains-slice_get : (xs : List X) (i : ℕ) (x : X) → slice_get xs i ≡ Some x → Contains xs x
  Contains-slice_get xs i x is = (i, slice_get_within xs i x is, get_or_from_slice_get xs i x x is)

  pub slice_get-Contains : (xs : List X) (x : X) → (c : Contains xs x) → slice_get xs c.0 ≡ Some x
  slice_get-Contains xs x c = slice_get-get_or xs c.0 x c.1 ∙ ap Some c.2

  -- two tests that agree on the elements of a list give the same of it
  pub list_any-same : (P : X → Type 0) (f g : X → Bool) → ((x : X) → P x → f x ≡ g x) → (xs : List X) → All P xs → list_any f xs ≡ list_any g xs
  list_any-same P f g same [] all = refl
  list_any-same P f g same (x ∷ xs) all = λ i. same x (All-head P x xs all) i || list_any-same P f g same xs (All-tail P x xs all) i

  pub list_all-same : (P : X → Type 0) (f g : X → Bool) → ((x : X) → P x → f x ≡ g x) → (xs : List X) → All P xs → list_all f xs ≡ list_all g xs
  list_all-same P f g same [] all = refl
  list_all-same P f g same (x ∷ xs) all = λ i. same x (All-head P x xs all) i && list_all-same P f g same xs (All-tail P x xs all) i

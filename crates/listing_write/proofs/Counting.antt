-- One more of things that are counted.
use Rattle.std.proofs.Common.{◌≡◌, ℕ, suc, ◌+◌, ◌-◌, ◌<◌, List, [], ◌∷◌, ◌++◌, length, take, get_or, Some, None, ⊎_elim, ◌≤◌, ap, sym, ◌∙◌, arith, append_assoc}
use Rattle.std.proofs.lemmas.List.{take_more, take_all, append-nil, length-take-le}
use Rattle.std.specs.Prelude.{slice_get, flat_map}
use Rattle.std.proofs.lemmas.List.Concat.{flat_map-append}
use Rattle.std.proofs.lemmas.Option.{slice_get_within, get_or_from_slice_get, slice_get_cases}
use Rattle.listing_write.specs.Items.{counted}

module _ {X : Type 0} (text : ℕ → X → List ℕ) where
  pub counted-append : (n : ℕ) (xs ys : List X) → counted text n (xs ++ ys) ≡ counted text n xs ++ counted text (n + length xs) ys
  counted-append n [] ys = ap (λ (k : ℕ). counted text k ys) (omega arith)
  counted-append n (x ∷ xs) ys =
      ap (λ (w : List ℕ). text n x ++ w) (counted-append (suc n) xs ys ∙ ap (λ (k : ℕ). counted text (suc n) xs ++ counted text k ys) (omega arith))
      ∙ sym (append_assoc (text n x) (counted text (suc n) xs) (counted text (n + suc (length xs)) ys))

  counted_more : (xs : List X) (n : ℕ) (x : X) → n < length xs → x ≡ get_or xs n x → counted text 0 (take (n + 1) xs) ≡ counted text 0 (take n xs) ++ text n x
  counted_more xs n x within read =
      let front : length (take n xs) ≡ n = length-take-le n xs (omega arith) in
      let last : 0 + length (take n xs) ≡ n = omega arith in
      ap (counted text 0) (take_more xs n x within ∙ ap (λ (y : X). take n xs ++ y ∷ []) (sym read))
      ∙ counted-append 0 (take n xs) (x ∷ []) ∙ ap (λ (k : ℕ). counted text 0 (take n xs) ++ (text k x ++ [])) last
      ∙ ap (λ (w : List ℕ). counted text 0 (take n xs) ++ w) (append-nil (text n x))

  -- what was told, with one more
  pub told_more : (before out new : List ℕ) (xs : List X) (n : ℕ) (x : X) → n < length xs → x ≡ get_or xs n x
      → out ≡ before ++ counted text 0 (take n xs) → new ≡ out ++ text n x → new ≡ before ++ counted text 0 (take (n + 1) xs)
  told_more before out new xs n x within read told more =
      more ∙ ap (λ (w : List ℕ). w ++ text n x) told ∙ append_assoc before (counted text 0 (take n xs)) (text n x)
      ∙ ap (λ (w : List ℕ). before ++ w) (sym (counted_more xs n x within read))

-- what a look-up by a number says of the number
module _ {X : Type 0} (xs : List X) (n : ℕ) where
  pub stands : (x : X) → Some x ≡ slice_get xs n → (n < length xs) × (x ≡ get_or xs n x)
  stands x found = (slice_get_within xs n x (sym found), sym (get_or_from_slice_get xs n x x (sym found)))

  -- with one that stands there, fewer are left behind it
  pub fewer_left : (x : X) → Some x ≡ slice_get xs n → length xs - (n + 1) < length xs - n
  fewer_left x found = let here : n < length xs = (stands x found).0 in omega arith

  pub over : None ≡ slice_get xs n → length xs ≤ n
  over missing =
      ⊎_elim (λ (h : (x : X) × (n < length xs) × (slice_get xs n ≡ Some x) × (get_or xs n x ≡ x)). absurd (cc (h.2, missing))) (λ (h : (length xs ≤ n) × (slice_get xs n ≡ None)). h.0) (slice_get_cases xs n).1

  module _ (text : X → List ℕ) (before out new : List ℕ) where
    pub told_each : (x : X) → Some x ≡ slice_get xs n → out ≡ before ++ flat_map text (take n xs) → new ≡ out ++ text x → new ≡ before ++ flat_map text (take (n + 1) xs)
    told_each x found told more =
        let (within, read) = stands x found in
        let last : flat_map text (take (n + 1) xs) ≡ flat_map text (take n xs) ++ text x =
        ap (flat_map text) (take_more xs n x within ∙ ap (λ (y : X). take n xs ++ y ∷ []) (sym read))
        ∙ flat_map-append text (take n xs) (x ∷ []) ∙ ap (λ (w : List ℕ). flat_map text (take n xs) ++ w) (append-nil (text x)) in
        more ∙ ap (λ (w : List ℕ). w ++ text x) told ∙ append_assoc before (flat_map text (take n xs)) (text x) ∙ ap (λ (w : List ℕ). before ++ w) (sym last)

  module _ (text : X → List ℕ) (before out : List ℕ) where
    pub told_all : None ≡ slice_get xs n → out ≡ before ++ flat_map text (take n xs) → out ≡ before ++ flat_map text xs
    told_all missing told = told ∙ ap (λ (ys : List X). before ++ flat_map text ys) (take_all n xs (over missing))

  module _ (text : ℕ → X → List ℕ) (before out : List ℕ) where
    pub counted_all : None ≡ slice_get xs n → out ≡ before ++ counted text 0 (take n xs) → out ≡ before ++ counted text 0 xs
    counted_all missing told = told ∙ ap (λ (ys : List X). before ++ counted text 0 ys) (take_all n xs (over missing))

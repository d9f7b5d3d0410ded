-- The first of a list that passes a test, from the place on at which one looks.
use Rattle.std.proofs.Common.{◌≡◌, ◌∙◌, ◌<◌, ◌≤◌, ℕ, suc, Bool, true, false, List, ◌∷◌, drop, length, get_or, Some, None, ap, sym, refl, drop-cons, drop_of_length-le, add-one, ◌+◌}
use Rattle.std.specs.List.{find}

pub find_here : {X : Type 0} (p : X → Bool) (xs : List X) (i : ℕ) (x : X) → i < length xs → x ≡ get_or xs i x → p x ≡ true →
    find p (drop i xs) ≡ find p xs → Some x ≡ find p xs
find_here p xs i x less at hit same =
    let here : find p (x ∷ drop (suc i) xs) ≡ Some x = rw hit refl in
    sym here ∙ ap (λ y. find p (y ∷ drop (suc i) xs)) at ∙ sym (ap (find p) (drop-cons xs i x less)) ∙ same

pub find_on : {X : Type 0} (p : X → Bool) (xs : List X) (i : ℕ) (x : X) → i < length xs → x ≡ get_or xs i x → p x ≡ false →
    find p (drop i xs) ≡ find p xs → find p (drop (i + 1) xs) ≡ find p xs
find_on p xs i x less at miss same =
    let here : find p (x ∷ drop (suc i) xs) ≡ find p (drop (suc i) xs) = rw miss refl in
    ap (λ k. find p (drop k xs)) (add-one i) ∙ sym here ∙ ap (λ y. find p (y ∷ drop (suc i) xs)) at ∙ sym (ap (find p) (drop-cons xs i x less)) ∙ same

pub find_none : {X : Type 0} (p : X → Bool) (xs : List X) (i : ℕ) → length xs ≤ i → find p (drop i xs) ≡ find p xs → None ≡ find p xs
find_none p xs i past same = sym (ap (find p) (drop_of_length-le xs past)) ∙ same

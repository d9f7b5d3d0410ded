-- Places at or above others, and lists of places that grow by one a step below.
use Rattle.std.proofs.Common.{◌≡◌, ◌↔◌, ◌⊎◌, inl, inr, ℕ, true, false, List, [], ◌∷◌, ◌++◌, length, slice_get, Some, Contains, refl, sym, ap, subst, ◌∙◌, ◌≤◌}
use Rattle.std.specs.Prelude.{◌==◌}
use Rattle.std.specs.Cmp.{first_so, second_so}
use Rattle.std.specs.Cmp.Derive.{both_true}
use Rattle.std.proofs.lemmas.Bool.{false≢true}
use Rattle.std.proofs.lemmas.Bool.Decides.{Decides-eqb}
use Rattle.std.proofs.lemmas.List.{take_all}
use Rattle.mir_ty.proofs.ListLemmas.{slice_get-append_left, slice_get-last, slice_get-push_cases, Contains-slice_get, slice_get-Contains}
use Rattle.store_model.specs.Places.Place.{Place, Step, same_step}
use Rattle.cfg_graph.specs.Moves.Gone.{are_first, is_at_or_above, below}
use Rattle.cfg_graph.proofs.WholePlaces.{same_step-sound, same_step-refl}
use Rattle.move_paths.specs.Trie.{Grows, upto}
use Rattle.move_paths.proofs.Growth.{same_places}

first-refl : (xs : List Step) → are_first xs xs ≡ true
first-refl [] = refl
first-refl (x ∷ xs) = both_true (same_step-refl x) (first-refl xs)

first-stays : (xs ys zs : List Step) → are_first xs ys ≡ true → are_first xs (ys ++ zs) ≡ true
first-stays [] ys zs h = refl
first-stays (x ∷ xs) [] zs h = absurd (false≢true h)
first-stays (x ∷ xs) (y ∷ ys) zs h =
    both_true (first_so (same_step x y) (are_first xs ys) h) (first-stays xs ys zs (second_so (same_step x y) (are_first xs ys) h))

first-pushed : (xs ys : List Step) (s : Step) → are_first xs (ys ++ s ∷ []) ≡ true → (are_first xs ys ≡ true) ⊎ (xs ≡ ys ++ s ∷ [])
first-pushed [] ys s h = inl refl
first-pushed (x ∷ []) [] s h = inr (ap (λ (z : Step). z ∷ []) (same_step-sound x s (first_so (same_step x s) true h)))
first-pushed (x ∷ (z ∷ xs)) [] s h = absurd (false≢true (second_so (same_step x s) false h))
first-pushed (x ∷ xs) (y ∷ ys) s h =
    let one = same_step-sound x y (first_so (same_step x y) (are_first xs (ys ++ s ∷ [])) h) in
    elim (first-pushed xs ys s (second_so (same_step x y) (are_first xs (ys ++ s ∷ [])) h)) [
      | inl rest ↦ inl (both_true (first_so (same_step x y) (are_first xs (ys ++ s ∷ [])) h) rest)
      | inr rest ↦ inr (λ i. one i ∷ rest i)
    ]

same_number : (n m : ℕ) → (n == m) ≡ true → n ≡ m
same_number n m h = (Decides-eqb n m).0 h

number-refl : (n : ℕ) → (n == n) ≡ true
number-refl n = (Decides-eqb n n).1 refl

pub above-refl : (q : Place) → is_at_or_above q q ≡ true
above-refl q = both_true (number-refl q.local) (first-refl q.steps)

pub above-stays : (q p : Place) (steps : List Step) → is_at_or_above q p ≡ true → is_at_or_above q (below p steps) ≡ true
above-stays q p steps h =
    both_true (first_so (q.local == p.local) (are_first q.steps p.steps) h) (first-stays q.steps p.steps steps (second_so (q.local == p.local) (are_first q.steps p.steps) h))

pub above-pushed : (q p : Place) (s : Step) → is_at_or_above q (below p (s ∷ [])) ≡ true → (is_at_or_above q p ≡ true) ⊎ (q ≡ below p (s ∷ []))
above-pushed q p s h =
    let here = first_so (q.local == p.local) (are_first q.steps (p.steps ++ s ∷ [])) h in
    elim (first-pushed q.steps p.steps s (second_so (q.local == p.local) (are_first q.steps (p.steps ++ s ∷ [])) h)) [
      | inl rest ↦ inl (both_true here rest)
      | inr rest ↦ inr (same_places q (below p (s ∷ [])) (same_number q.local p.local here) rest)
    ]

pub above-local : (q : Place) (local : ℕ) → is_at_or_above q (record { local = local; steps = [] }) ≡ true → q ≡ record { local = local; steps = [] }
above-local q local h = same_places q (record { local = local; steps = [] }) (same_number q.local local (first_so (q.local == local) (are_first q.steps []) h)) (none q.steps (second_so (q.local == local) (are_first q.steps []) h))
  where
    none : (xs : List Step) → are_first xs [] ≡ true → xs ≡ []
    none [] h = refl
    none (x ∷ xs) h = absurd (false≢true h)

-- all steps of a place
pub upto-all : (depth : ℕ) (q : Place) → length q.steps ≤ depth → upto depth q ≡ q
upto-all depth q past = same_places (upto depth q) q refl (take_all depth q.steps past)

pub grows-keeps : (old new : List Place) (p : Place) → Grows old new p → (n : ℕ) (q : Place) → slice_get old n ≡ Some q → slice_get new n ≡ Some q
grows-keeps old new p (inl same) n q h = ap (λ (z : List Place). slice_get z n) same.0 ∙ h
grows-keeps old new p (inr more) n q h = ap (λ (z : List Place). slice_get z n) more ∙ slice_get-append_left old (p ∷ []) n q h

grows-has : (old new : List Place) (p : Place) → Grows old new p → Contains new p
grows-has old new p (inl same) = subst (λ (z : List Place). Contains z p) (sym same.0) same.1
grows-has old new p (inr more) = subst (λ (z : List Place). Contains z p) (sym more) (Contains-slice_get (old ++ p ∷ []) (length old) p (slice_get-last old p))

grows-cases : (old new : List Place) (p : Place) → Grows old new p → (q : Place) → Contains new q → Contains old q ⊎ (q ≡ p)
grows-cases old new p (inl same) q has = inl (subst (λ (z : List Place). Contains z q) same.0 has)
grows-cases old new p (inr more) q has =
    let there : Contains (old ++ p ∷ []) q = subst (λ (z : List Place). Contains z q) more has in
    elim (slice_get-push_cases old p there.0 q (slice_get-Contains (old ++ p ∷ []) q there)) [
      | inl before ↦ inl (Contains-slice_get old there.0 q before)
      | inr last ↦ inr (sym last.1)
    ]

-- places grow by those at or above one, and by the one a step below it
pub grows-members : (first old new : List Place) (p : Place) (s : Step)
    → ((q : Place) → Contains old q ↔ (Contains first q ⊎ (is_at_or_above q p ≡ true)))
    → Grows old new (below p (s ∷ []))
    → (q : Place) → Contains new q ↔ (Contains first q ⊎ (is_at_or_above q (below p (s ∷ [])) ≡ true))
grows-members first old new p s members grows q = (forth, back)
  where
    further : Contains first q ⊎ (is_at_or_above q p ≡ true) → Contains first q ⊎ (is_at_or_above q (below p (s ∷ [])) ≡ true)
    further (inl a) = inl a
    further (inr a) = inr (above-stays q p (s ∷ []) a)

    forth : Contains new q → Contains first q ⊎ (is_at_or_above q (below p (s ∷ [])) ≡ true)
    forth has = elim (grows-cases old new (below p (s ∷ [])) grows q has) [
      | inl before ↦ further ((members q).0 before)
      | inr same ↦ inr (subst (λ (z : Place). is_at_or_above z (below p (s ∷ [])) ≡ true) (sym same) (above-refl (below p (s ∷ []))))
    ]

    was : Contains old q → Contains new q
    was has = Contains-slice_get new has.0 q (grows-keeps old new (below p (s ∷ [])) grows has.0 q (slice_get-Contains old q has))

    back : Contains first q ⊎ (is_at_or_above q (below p (s ∷ [])) ≡ true) → Contains new q
    back (inl a) = was ((members q).1 (inl a))
    back (inr a) = elim (above-pushed q p s a) [
      | inl up ↦ was ((members q).1 (inr up))
      | inr same ↦ subst (Contains new) (sym same) (grows-has old new (below p (s ∷ [])) grows)
    ]

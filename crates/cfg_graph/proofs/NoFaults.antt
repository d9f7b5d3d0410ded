-- What follows where a list of faults is empty: each thing has none, and each test of a line holds.
use Rattle.std.proofs.Common.{◌≡◌, ℕ, zero, suc, Bool, true, false, List, [], ◌∷◌, ◌++◌, map, slice_get, Some, refl, subst, arith}
use Rattle.std.specs.Prelude.{◌+◌}
use Rattle.std.proofs.lemmas.Option.{none-some, same_Some}
use Rattle.cfg_graph.specs.declared.graph.GraphFault.{GraphFault}
use Rattle.cfg_graph.specs.WellFormed.Broken.{broken}
use Rattle.cfg_graph.specs.WellFormed.Faults.{of_each}

-- lists without members
pub first_empty : {X : Type 0} → (xs ys : List X) → xs ++ ys ≡ [] → xs ≡ []
first_empty [] ys h = refl
first_empty (x ∷ xs) ys h = absurd (cc)

pub second_empty : {X : Type 0} → (xs ys : List X) → xs ++ ys ≡ [] → ys ≡ []
second_empty [] ys h = h
second_empty (x ∷ xs) ys h = absurd (cc)

pub map_empty : {X Y : Type 0} → (f : X → Y) (xs : List X) → map f xs ≡ [] → xs ≡ []
map_empty f [] h = refl
map_empty f (x ∷ xs) h = absurd (cc)

-- where nothing has a fault, each thing has none, by its number
pub of_each-empty : {X : Type 0} → (faults : ℕ → X → List GraphFault) (from : ℕ) (xs : List X) → of_each faults from xs ≡ []
    → (n : ℕ) (x : X) → slice_get xs n ≡ Some x → faults (from + n) x ≡ []
of_each-empty faults from [] h n x e = absurd (none-some x e)
of_each-empty faults from (y ∷ xs) h zero x e =
    subst (λ m. faults m x ≡ []) (let k : from ≡ from + 0 = omega arith in k)
    (subst (λ z. faults from z ≡ []) (same_Some y x e) (first_empty (faults from y) (of_each faults (suc from) xs) h))
of_each-empty faults from (y ∷ xs) h (suc n) x e =
    subst (λ m. faults m x ≡ []) (let k : suc from + n ≡ from + suc n = omega arith in k)
    (of_each-empty faults (suc from) xs (second_empty (faults from y) (of_each faults (suc from) xs) h) n x e)

-- each test of a line without a fault holds
pub broken-holds : (tests : List (ℕ × Bool)) → broken tests ≡ [] → (n : ℕ) (test : ℕ × Bool) → slice_get tests n ≡ Some test → test.1 ≡ true
broken-holds [] h n test e = absurd (none-some test e)
broken-holds ((number, true) ∷ rest) h zero test e = subst (λ (t : ℕ × Bool). t.1 ≡ true) (let k : (number, true) ≡ test = cc in k) refl
broken-holds ((number, true) ∷ rest) h (suc n) test e = broken-holds rest h n test e
broken-holds ((number, false) ∷ rest) h n test e = absurd (cc)

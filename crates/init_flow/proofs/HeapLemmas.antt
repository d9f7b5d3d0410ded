-- What the heap of blocks has, past a push and a pop.
use Rattle.std.proofs.Common.{◌≡◌, ◌⊎◌, inl, inr, ℕ, zero, suc, ◌+◌, ◌≤◌, Bool, true, false, List, ◌∷◌, length, refl, sym, arith}
use Rattle.std.specs.Prelude.{Contains}
use Rattle.std.specs.List.Sorted.{IsPermutation}
use Rattle.std.proofs.lemmas.List.Sorted.{IsPermutation-sym, Contains-permutation, length_permutation}
use Rattle.init_flow.specs.WorkList.{bit}
use mir.Val.{bool_byte}

pub byte-bit : (b : Bool) → bool_byte b ≡ bit b
byte-bit true = refl
byte-bit false = refl

first_or_rest : (i c : ℕ) (rest : List ℕ) → Contains (i ∷ rest) c → (c ≡ i) ⊎ Contains rest c
first_or_rest i c rest (zero, below, is) = inl (sym is)
first_or_rest i c rest (suc k, below, is) = inr (k, omega (below, arith), is)

first : (i : ℕ) (rest : List ℕ) → Contains (i ∷ rest) i
first i rest = (0, omega arith, refl)

later : (i c : ℕ) (rest : List ℕ) → Contains rest c → Contains (i ∷ rest) c
later i c rest (k, below, is) = (suc k, omega (below, arith), is)

module _ (old new : List ℕ) (i : ℕ) where
  module _ (popped : IsPermutation old (i ∷ new)) where
    pub popped-was : Contains old i
    popped-was = Contains-permutation (i ∷ new) old i (IsPermutation-sym old (i ∷ new) popped) (first i new)

    pub popped-kept : (c : ℕ) → Contains old c → (c ≡ i) ⊎ Contains new c
    popped-kept c h = first_or_rest i c new (Contains-permutation old (i ∷ new) c popped h)

    pub popped-only : (c : ℕ) → Contains new c → Contains old c
    popped-only c h = Contains-permutation (i ∷ new) old c (IsPermutation-sym old (i ∷ new) popped) (later i c new h)

    pub popped-shorter : length new + 1 ≡ length old
    popped-shorter = let same = length_permutation old (i ∷ new) popped in omega (same, arith)

  module _ (pushed : IsPermutation (i ∷ old) new) where
    pub pushed-kept : (c : ℕ) → Contains old c → Contains new c
    pushed-kept c h = Contains-permutation (i ∷ old) new c pushed (later i c old h)

    pub pushed-there : Contains new i
    pushed-there = Contains-permutation (i ∷ old) new i pushed (first i old)

    pub pushed-only : (c : ℕ) → Contains new c → Contains old c ⊎ (c ≡ i)
    pushed-only c h =
        elim (first_or_rest i c old (Contains-permutation new (i ∷ old) c (IsPermutation-sym (i ∷ old) new pushed) h))
        [ inl e ↦ inr e | inr c ↦ inl c ]

    pub pushed-longer : length new ≤ length old + 1
    pushed-longer = let same = length_permutation (i ∷ old) new pushed in omega (same, arith)

-- Which traces end each serial number once: a value that is made and freed, one that is still there, one that ends twice,
-- and one that is made twice.
use Rattle.std.proofs.Common.{◌≡◌, ℕ, zero, suc, ◌≤◌, Bool, true, false, [], ◌∷◌, refl, subst, arith}
use Rattle.std.specs.Prelude.{◌==◌, if◌then◌else◌}
use Rattle.mir_base.specs.declared.trace.Event.{Event}
use Rattle.mir_base.specs.Once.{IsOnce, IsAtMostOnce, EndsWhatWasMade, no_line, a_line, times}

-- the first line of a run makes the number 1
made : EndsWhatWasMade (Event.Boxed 1 ∷ [])
made = a_line [] (Event.Boxed 1) no_line (λ serial e. let never : ⊥ = cc in absurd never)

-- how often a number is the 1
once_one : (n : ℕ) → times n (1 ∷ []) ≤ 1
once_one n = by (n == 1)
  where
    by : (b : Bool) → (if b then suc zero else zero) ≤ 1
    by true = omega arith
    by false = omega arith

is_made : (serial : ℕ) → 1 ≡ serial → 1 ≤ times serial (1 ∷ [])
is_made serial same = subst (λ (n : ℕ). 1 ≤ times n (1 ∷ [])) same (omega arith)

-- a box that is made and freed
freed : IsOnce (Event.Boxed 1 ∷ Event.Freed 1 ∷ [])
freed = record {
  made_once = once_one;
  ends_once = λ n. refl;
  in_order = a_line (Event.Boxed 1 ∷ []) (Event.Freed 1) made (λ serial e. is_made serial (let same : 1 ≡ serial = cc in same));
}

-- one that is still there ends at most once, and not once
still_there : IsAtMostOnce (Event.Boxed 1 ∷ [])
still_there = record { made_once = once_one; ends_at_most_once = λ n. omega arith; in_order = made }

still_there_is_not_once : IsOnce (Event.Boxed 1 ∷ []) → ⊥
still_there_is_not_once is =
    let e : 0 ≡ 1 = is.ends_once 1 in
    omega (arith, e)

-- a number that ends twice ends neither once nor at most once
twice_is_not_once : IsOnce (Event.Boxed 1 ∷ Event.Freed 1 ∷ Event.Freed 1 ∷ []) → ⊥
twice_is_not_once is =
    let e : 2 ≡ 1 = is.ends_once 1 in
    omega (arith, e)

twice_is_not_at_most_once : IsAtMostOnce (Event.Boxed 1 ∷ Event.Freed 1 ∷ Event.Freed 1 ∷ []) → ⊥
twice_is_not_at_most_once is =
    let e : 2 ≤ 1 = is.ends_at_most_once 1 in
    omega (arith, e)

-- nor does one that is made twice
made_twice_is_not_once : IsOnce (Event.Boxed 1 ∷ Event.Boxed 1 ∷ Event.Freed 1 ∷ Event.Freed 1 ∷ []) → ⊥
made_twice_is_not_once is =
    let e : 2 ≤ 1 = is.made_once 1 in
    omega (arith, e)

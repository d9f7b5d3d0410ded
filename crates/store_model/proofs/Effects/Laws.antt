-- What the effects of a run may take: laws over any record of effects, and over any size of what is left, the ticks of a
-- run on values or the choices of a free run.
use Rattle.std.proofs.Common.{◌≡◌, ℕ, suc, ◌≤◌, arith}
use Rattle.mir_base.specs.declared.trace.Why.{Why}
use Rattle.store_model.specs.Effects.{Action, Test, Mode, EffectSite, Out, Go, Unwind, Halts, Choice, Yes, No, Neither, Effects}

-- at most so much is left
abbrev pub NoMore : {W : Type 0} → (W → ℕ) → ℕ → Out W → Type 0
NoMore size m (Go w) = size w ≤ m
NoMore size m (Unwind w) = size w ≤ m
NoMore size m (Halts halt w) = Unit {0}

abbrev pub NoMoreOf : {W : Type 0} → (W → ℕ) → ℕ → Choice W → Type 0
NoMoreOf size m (Yes w) = size w ≤ m
NoMoreOf size m (No w) = size w ≤ m
NoMoreOf size m (Neither halt w) = Unit {0}

-- where a run goes on, less than so much is left
abbrev pub Ticked : {W : Type 0} → (W → ℕ) → ℕ → Out W → Type 0
Ticked size m (Go w) = suc (size w) ≤ m
Ticked size m (Unwind w) = size w ≤ m
Ticked size m (Halts halt w) = Unit {0}

-- nothing is given back, and a turn takes something
pub record Laws {W : Type 0} (p : Effects W) (size : W → ℕ) : Type 0 where
  pub acting : (action : Action) (w : W) → NoMore size (size w) (p.act action w)
  pub choosing : (test : Test) (w : W) → NoMoreOf size (size w) (p.choose test w)
  pub dropping : (mode : Mode) (site : EffectSite) (w : W) → NoMore size (size w) (p.drop mode site w)
  pub panicking : (why : Why) (w : W) → size (p.panic why w) ≤ size w
  pub ticking : (w : W) → Ticked size (size w) (p.tick w)
  pub giving : (site : EffectSite) (w : W) → NoMore size (size w) (p.give site w)

module _ {W : Type 0} (size : W → ℕ) where
  pub weaker : (m k : ℕ) (o : Out W) → k ≤ m → NoMore size k o → NoMore size m o
  weaker m k (Go w) h l = omega arith
  weaker m k (Unwind w) h l = omega arith
  weaker m k (Halts halt w) h l = tt

  pub weaker_of : (m k : ℕ) (o : Choice W) → k ≤ m → NoMoreOf size k o → NoMoreOf size m o
  weaker_of m k (Yes w) h l = omega arith
  weaker_of m k (No w) h l = omega arith
  weaker_of m k (Neither halt w) h l = tt

  module _ (m : ℕ) where
    -- the same where at most so much is left
    abbrev pub Same : (W → Out W) → (W → Out W) → Type 0
    Same f f' = (w : W) → size w ≤ m → f w ≡ f' w

    abbrev pub Keeps : (W → Out W) → Type 0
    Keeps f = (w : W) → size w ≤ m → NoMore size m (f w)

-- two records of effects do the same where at most so much is left
pub record Tied {W : Type 0} (p q : Effects W) (size : W → ℕ) (m : ℕ) : Type 0 where
  pub acting : (action : Action) (w : W) → size w ≤ m → p.act action w ≡ q.act action w
  pub choosing : (test : Test) (w : W) → size w ≤ m → p.choose test w ≡ q.choose test w
  pub dropping : (mode : Mode) (site : EffectSite) (w : W) → size w ≤ m → p.drop mode site w ≡ q.drop mode site w
  pub panicking : (why : Why) (w : W) → size w ≤ m → p.panic why w ≡ q.panic why w
  pub ticking : (w : W) → size w ≤ m → p.tick w ≡ q.tick w
  pub giving : (site : EffectSite) (w : W) → size w ≤ m → p.give site w ≡ q.give site w

-- the same where less is left
pub fewer_tied : {W : Type 0} (size : W → ℕ) (p q : Effects W) (m k : ℕ) → k ≤ m → Tied p q size m → Tied p q size k
fewer_tied size p q m k h tied = record {
  acting = λ action w l. tied.acting action w (omega arith);
  choosing = λ test w l. tied.choosing test w (omega arith);
  dropping = λ mode site w l. tied.dropping mode site w (omega arith);
  panicking = λ why w l. tied.panicking why w (omega arith);
  ticking = λ w l. tied.ticking w (omega arith);
  giving = λ site w l. tied.giving site w (omega arith);
}

-- Two records of effects over one state that do the same where at most so much is left, and give nothing of it back: the
-- case of one run following another in which nothing is fed, and states are related where they are one.
use Rattle.std.proofs.Common.{◌≡◌, ℕ, ◌<◌, ◌≤◌, refl, ap, subst, sym, ◌∙◌, arith}
use Rattle.store_model.proofs.Effects.Laws.{NoMore, NoMoreOf, Ticked, Laws, Tied, weaker, weaker_of}
use Rattle.store_model.proofs.Effects.Following.{Relation, FollowsOut, goes_on, unwinds, halts, lapsed, outlived, refused, FollowsChoice, takes, declines, neither, FollowsEffects, Within, FollowsTick, FollowsTicks, Bounds, great_bounds}
use Rattle.store_model.specs.Effects.{Out, Go, Unwind, Halts, Choice, Yes, No, Neither, Effects}

-- a stage is a number that what is left does not exceed
abbrev pub agreement : {W : Type 0} → (W → ℕ) → ℕ → Relation W W
agreement {W} size k = record {
  Known = W;
  Choices = Unit {0};
  feed = λ t c. c;
  none = tt;
  joined = λ a b. tt;
  from_none = λ t. refl;
  associates = λ a b c. refl;
  Stage = ℕ;
  related = λ m w c. (w ≡ c) × (size w ≤ m) × (m ≤ k);
  halted = λ m w c. w ≡ c;
  at_halt = λ m w c r. r.0;
  lapses = λ m halt w. ⊥;
  outlives = λ m halt w later. ⊥;
  refuses = λ halt. ⊥;
}

module _ {W : Type 0} (size : W → ℕ) (k : ℕ) where
  pub same_out : {m : ℕ} {o : Out W} {g : Unit {0} → Out W} → FollowsOut (agreement size k) m o g → o ≡ g tt
  same_out (goes_on m w c l g r d) = ap Go r.0 ∙ sym (d tt)
  same_out (unwinds m w c l g r d) = ap Unwind r.0 ∙ sym (d tt)
  same_out (halts m halt w c l g r d) = ap (Halts halt) r ∙ sym (d tt)
  same_out (lapsed m halt w g r) = absurd r
  same_out (outlived m halt w later s g r d) = absurd r
  same_out (refused m o halt c l g r d) = absurd r

  pub no_more : {m : ℕ} {o : Out W} {g : Unit {0} → Out W} → FollowsOut (agreement size k) m o g → NoMore size m o
  no_more (goes_on m w c l g r d) = r.1
  no_more (unwinds m w c l g r d) = r.1
  no_more (halts m halt w c l g r d) = tt
  no_more (lapsed m halt w g r) = absurd r
  no_more (outlived m halt w later s g r d) = absurd r
  no_more (refused m o halt c l g r d) = absurd r

  out_itself : (m : ℕ) (o : Out W) → m ≤ k → NoMore size m o → FollowsOut (agreement size k) m o (λ t. o)
  out_itself m (Go w) b l = goes_on m w w tt _ (refl, l, b) (λ rest. refl)
  out_itself m (Unwind w) b l = unwinds m w w tt _ (refl, l, b) (λ rest. refl)
  out_itself m (Halts halt w) b l = halts m halt w w tt _ refl (λ rest. refl)

  choice_itself : (m : ℕ) (o : Choice W) → m ≤ k → NoMoreOf size m o → FollowsChoice (agreement size k) m o (λ t. o)
  choice_itself m (Yes w) b l = takes m w w tt _ (refl, l, b) (λ rest. refl)
  choice_itself m (No w) b l = declines m w w tt _ (refl, l, b) (λ rest. refl)
  choice_itself m (Neither halt w) b l = neither m halt w w tt _ refl (λ rest. refl)

  fewer : (n m : ℕ) → n ≤ m → m ≤ k → Within (agreement size k) n m
  fewer n m h b = record {
    relating = λ w c r. (r.0, omega arith, b);
    halting = λ w c r. r;
    lapsing = λ halt w r. r;
    outliving = λ halt w s r. r;
  }

  tick_itself : (m : ℕ) (w : W) (o : Out W) → size w ≤ m → m ≤ k → Ticked size (size w) o → FollowsTick (agreement size k) (λ m. m) m o (λ t. o)
  tick_itself m w (Go v) l b h = (size v, omega arith, fewer (size v) m (omega arith) b, out_itself (size v) (Go v) (omega arith) (omega arith))
  tick_itself m w (Unwind v) l b h = out_itself m (Unwind v) b (omega arith)
  tick_itself m w (Halts halt v) l b h = out_itself m (Halts halt v) b tt

  module _ (p q : Effects W) (laws : Laws p size) (tied : Tied p q size k) where
    out_agrees : (f f' : W → Out W) (m : ℕ) (w c : W) → w ≡ c → m ≤ k → NoMore size m (f w) → f w ≡ f' w → FollowsOut (agreement size k) m (f w) (λ t. f' c)
    out_agrees f f' m w c e b l h =
        subst (λ c. FollowsOut (agreement size k) m (f w) (λ t. f' c)) e
        (subst (λ o. FollowsOut (agreement size k) m (f w) (λ t. o)) h (out_itself m (f w) b l))

    choice_agrees : (f f' : W → Choice W) (m : ℕ) (w c : W) → w ≡ c → m ≤ k → NoMoreOf size m (f w) → f w ≡ f' w → FollowsChoice (agreement size k) m (f w) (λ t. f' c)
    choice_agrees f f' m w c e b l h =
        subst (λ c. FollowsChoice (agreement size k) m (f w) (λ t. f' c)) e
        (subst (λ o. FollowsChoice (agreement size k) m (f w) (λ t. o)) h (choice_itself m (f w) b l))

    -- effects that do the same, and give nothing back, agree
    pub effects_agree : FollowsEffects (agreement size k) p q
    effects_agree = record {
      acting = λ action m w c r. out_agrees (p.act action) (q.act action) m w c r.0 r.2
          (weaker size m (size w) (p.act action w) r.1 (laws.acting action w)) (tied.acting action w (omega arith));
      choosing = λ test m w c r. choice_agrees (p.choose test) (q.choose test) m w c r.0 r.2
          (weaker_of size m (size w) (p.choose test w) r.1 (laws.choosing test w)) (tied.choosing test w (omega arith));
      dropping = λ mode site m w c r. out_agrees (p.drop mode site) (q.drop mode site) m w c r.0 r.2
          (weaker size m (size w) (p.drop mode site w) r.1 (laws.dropping mode site w)) (tied.dropping mode site w (omega arith));
      panicking = λ why m w c r. out_agrees (λ w. Unwind (p.panic why w)) (λ w. Unwind (q.panic why w)) m w c r.0 r.2
          (let l : size (p.panic why w) ≤ size w = laws.panicking why w in omega arith) (ap Unwind (tied.panicking why w (omega arith)));
      ticking = λ m w c r. out_agrees p.tick q.tick m w c r.0 r.2 (ticked_less m w r.1 (p.tick w) (laws.ticking w)) (tied.ticking w (omega arith));
      giving = λ site m w c r. out_agrees (p.give site) (q.give site) m w c r.0 r.2
          (weaker size m (size w) (p.give site w) r.1 (laws.giving site w)) (tied.giving site w (omega arith));
    }
      where
        ticked_less : (m : ℕ) (w : W) → size w ≤ m → (o : Out W) → Ticked size (size w) o → NoMore size m o
        ticked_less m w l (Go v) h = omega arith
        ticked_less m w l (Unwind v) h = omega arith
        ticked_less m w l (Halts halt v) h = tt

    pub ticks_agree : FollowsTicks (agreement size k) (λ m. m) p.tick q.tick
    ticks_agree m w c r =
        subst (λ c. FollowsTick (agreement size k) (λ m. m) m (p.tick w) (λ t. q.tick c)) r.0
        (subst (λ o. FollowsTick (agreement size k) (λ m. m) m (p.tick w) (λ t. o)) (tied.ticking w (omega arith))
        (tick_itself m w (p.tick w) r.1 r.2 (laws.ticking w)))

    pub bounds_agree : (n n' : ℕ) → k < n → k < n' → Bounds (agreement size k) p.tick q.tick n n'
    bounds_agree n n' h h' =
        great_bounds n n' (λ m. m) (λ m w c r. let b : m ≤ k = r.2 in omega arith) (λ m w c r. let b : m ≤ k = r.2 in omega arith) ticks_agree (λ s halt w later o. o)

-- any effects do as themselves
pub tied_itself : {W : Type 0} (size : W → ℕ) (k : ℕ) (p : Effects W) → Tied p p size k
tied_itself size k p = record {
  acting = λ action w l. refl;
  choosing = λ test w l. refl;
  dropping = λ mode site w l. refl;
  panicking = λ why w l. refl;
  ticking = λ w l. refl;
  giving = λ site w l. refl;
}

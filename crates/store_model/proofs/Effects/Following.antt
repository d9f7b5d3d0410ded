-- One run follows another, over other effects and other states: what leads to both does the same, where the second is
-- fed with what the first finds out, as a free run is fed with the choices that a run on values takes. The first may
-- lapse, or the second refuse, and then nothing is said of the other; or the second outlives the first, and then
-- follows another run, its shadow. What is said of two states depends on a stage, such as a number that what is left
-- of ticks does not exceed.
--
-- This part speaks of effects alone. The rules of evaluation and the walk of a graph are followed rule by rule above.
use Rattle.std.proofs.Common.{◌≡◌, ℕ, suc, ◌<◌, ◌≤◌, ap, ◌∙◌}
use Rattle.mir_base.specs.declared.trace.Why.{Why}
use Rattle.store_model.specs.Effects.{EffectSite, Action, Test, Mode, Halt, Aborted, OutOfTicks, Out, Go, Unwind, Halts, aborting, Choice, Yes, No, Neither, Effects, on_go}

-- a state of the second run is what is known, fed with choices
pub record Relation (W V : Type 0) : Type 1 where
  pub Known : Type 0
  pub Choices : Type 0
  pub feed : Choices → Known → V
  pub none : Choices
  pub joined : Choices → Choices → Choices
  pub from_none : (t : Choices) → joined none t ≡ t
  pub associates : (a b c : Choices) → joined (joined a b) c ≡ joined a (joined b c)
  pub Stage : Type 0
  pub related : Stage → W → Known → Type 0
  pub halted : Stage → W → Known → Type 0  -- what is said of two states where both have halted
  pub at_halt : (n : Stage) (w : W) (c : Known) → related n w c → halted n w c
  pub lapses : Stage → Halt → W → Type 0  -- where the first ends without the second
  pub outlives : Stage → Halt → W → Stage → Type 0  -- where the second goes on as its shadow does from a stage on
  pub refuses : Halt → Type 0  -- where the second ends without the first

pub data FollowsOut {W V : Type 0} (rel : Relation W V) : rel.Stage → Out W → (rel.Choices → Out V) → Type 0 where
  goes_on : (n : rel.Stage) (w : W) (c : rel.Known) (l : rel.Choices) (g : rel.Choices → Out V) → rel.related n w c →
      ((rest : rel.Choices) → g (rel.joined l rest) ≡ Go (rel.feed rest c)) → FollowsOut rel n (Go w) g
  unwinds : (n : rel.Stage) (w : W) (c : rel.Known) (l : rel.Choices) (g : rel.Choices → Out V) → rel.related n w c →
      ((rest : rel.Choices) → g (rel.joined l rest) ≡ Unwind (rel.feed rest c)) → FollowsOut rel n (Unwind w) g
  halts : (n : rel.Stage) (halt : Halt) (w : W) (c : rel.Known) (l : rel.Choices) (g : rel.Choices → Out V) → rel.halted n w c →
      ((rest : rel.Choices) → g (rel.joined l rest) ≡ Halts halt (rel.feed rest c)) → FollowsOut rel n (Halts halt w) g
  lapsed : (n : rel.Stage) (halt : Halt) (w : W) (g : rel.Choices → Out V) → rel.lapses n halt w → FollowsOut rel n (Halts halt w) g
  outlived : (n : rel.Stage) (halt : Halt) (w : W) (later : rel.Stage) (shadow : Out W) (g : rel.Choices → Out V) →
      rel.outlives n halt w later → FollowsOut rel later shadow g → FollowsOut rel n (Halts halt w) g
  refused : (n : rel.Stage) (o : Out W) (halt : Halt) (c : rel.Known) (l : rel.Choices) (g : rel.Choices → Out V) → rel.refuses halt →
      ((rest : rel.Choices) → g (rel.joined l rest) ≡ Halts halt (rel.feed rest c)) → FollowsOut rel n o g

pub data FollowsChoice {W V : Type 0} (rel : Relation W V) : rel.Stage → Choice W → (rel.Choices → Choice V) → Type 0 where
  takes : (n : rel.Stage) (w : W) (c : rel.Known) (l : rel.Choices) (g : rel.Choices → Choice V) → rel.related n w c →
      ((rest : rel.Choices) → g (rel.joined l rest) ≡ Yes (rel.feed rest c)) → FollowsChoice rel n (Yes w) g
  declines : (n : rel.Stage) (w : W) (c : rel.Known) (l : rel.Choices) (g : rel.Choices → Choice V) → rel.related n w c →
      ((rest : rel.Choices) → g (rel.joined l rest) ≡ No (rel.feed rest c)) → FollowsChoice rel n (No w) g
  neither : (n : rel.Stage) (halt : Halt) (w : W) (c : rel.Known) (l : rel.Choices) (g : rel.Choices → Choice V) → rel.halted n w c →
      ((rest : rel.Choices) → g (rel.joined l rest) ≡ Neither halt (rel.feed rest c)) → FollowsChoice rel n (Neither halt w) g
  lapsed_choice : (n : rel.Stage) (halt : Halt) (w : W) (g : rel.Choices → Choice V) → rel.lapses n halt w → FollowsChoice rel n (Neither halt w) g
  outlived_choice : (n : rel.Stage) (halt : Halt) (w : W) (later : rel.Stage) (shadow : Choice W) (g : rel.Choices → Choice V) →
      rel.outlives n halt w later → FollowsChoice rel later shadow g → FollowsChoice rel n (Neither halt w) g
  refused_choice : (n : rel.Stage) (o : Choice W) (halt : Halt) (c : rel.Known) (l : rel.Choices) (g : rel.Choices → Choice V) → rel.refuses halt →
      ((rest : rel.Choices) → g (rel.joined l rest) ≡ Neither halt (rel.feed rest c)) → FollowsChoice rel n o g

-- at each stage, wherever states are related
abbrev pub FollowsOuts : {W V : Type 0} → Relation W V → (W → Out W) → (V → Out V) → Type 0
FollowsOuts {W} {V} rel f f' = (n : rel.Stage) (w : W) (c : rel.Known) → rel.related n w c → FollowsOut rel n (f w) (λ t. f' (rel.feed t c))

abbrev pub FollowsChoices : {W V : Type 0} → Relation W V → (W → Choice W) → (V → Choice V) → Type 0
FollowsChoices {W} {V} rel f f' = (n : rel.Stage) (w : W) (c : rel.Known) → rel.related n w c → FollowsChoice rel n (f w) (λ t. f' (rel.feed t c))

-- the effects of the first are followed by those of the second
pub record FollowsEffects {W V : Type 0} (rel : Relation W V) (p : Effects W) (q : Effects V) : Type 0 where
  pub acting : (action : Action) → FollowsOuts rel (p.act action) (q.act action)
  pub choosing : (test : Test) → FollowsChoices rel (p.choose test) (q.choose test)
  pub dropping : (mode : Mode) (site : EffectSite) → FollowsOuts rel (p.drop mode site) (q.drop mode site)
  pub panicking : (why : Why) → FollowsOuts rel (λ w. Unwind (p.panic why w)) (λ v. Unwind (q.panic why v))
  pub ticking : FollowsOuts rel p.tick q.tick
  pub giving : (site : EffectSite) → FollowsOuts rel (p.give site) (q.give site)

module _ {W V : Type 0} (rel : Relation W V) where
  -- some choices are taken before
  abbrev pub along : {A : Type 0} (l m : rel.Choices) (g g' : rel.Choices → A) (x : rel.Choices → A) →
      ((rest : rel.Choices) → g (rel.joined l rest) ≡ g' rest) → ((rest : rel.Choices) → g' (rel.joined m rest) ≡ x rest) →
      (rest : rel.Choices) → g (rel.joined (rel.joined l m) rest) ≡ x rest
  along l m g g' x e d rest = ap g (rel.associates l m rest) ∙ e (rel.joined m rest) ∙ d rest

  pub out_after : {n : rel.Stage} {o : Out W} {g' : rel.Choices → Out V} (l : rel.Choices) (g : rel.Choices → Out V) →
      ((rest : rel.Choices) → g (rel.joined l rest) ≡ g' rest) → FollowsOut rel n o g' → FollowsOut rel n o g
  out_after l g e (goes_on n w c m g' k d) = goes_on n w c (rel.joined l m) g k (along l m g g' _ e d)
  out_after l g e (unwinds n w c m g' k d) = unwinds n w c (rel.joined l m) g k (along l m g g' _ e d)
  out_after l g e (halts n halt w c m g' k d) = halts n halt w c (rel.joined l m) g k (along l m g g' _ e d)
  out_after l g e (lapsed n halt w g' k) = lapsed n halt w g k
  out_after l g e (outlived n halt w later s g' k d) = outlived n halt w later s g k (out_after l g e d)
  out_after l g e (refused n o halt c m g' k d) = refused n o halt c (rel.joined l m) g k (along l m g g' _ e d)

  pub choice_after : {n : rel.Stage} {o : Choice W} {g' : rel.Choices → Choice V} (l : rel.Choices) (g : rel.Choices → Choice V) →
      ((rest : rel.Choices) → g (rel.joined l rest) ≡ g' rest) → FollowsChoice rel n o g' → FollowsChoice rel n o g
  choice_after l g e (takes n w c m g' k d) = takes n w c (rel.joined l m) g k (along l m g g' _ e d)
  choice_after l g e (declines n w c m g' k d) = declines n w c (rel.joined l m) g k (along l m g g' _ e d)
  choice_after l g e (neither n halt w c m g' k d) = neither n halt w c (rel.joined l m) g k (along l m g g' _ e d)
  choice_after l g e (lapsed_choice n halt w g' k) = lapsed_choice n halt w g k
  choice_after l g e (outlived_choice n halt w later s g' k d) = outlived_choice n halt w later s g k (choice_after l g e d)
  choice_after l g e (refused_choice n o halt c m g' k d) = refused_choice n o halt c (rel.joined l m) g k (along l m g g' _ e d)

  pub goes : (n : rel.Stage) (w : W) (c : rel.Known) → rel.related n w c → FollowsOut rel n (Go w) (λ t. Go (rel.feed t c))
  goes n w c k = goes_on n w c rel.none _ k (λ rest. ap (λ t. Go (rel.feed t c)) (rel.from_none rest))

  pub panics_on : (n : rel.Stage) (w : W) (c : rel.Known) → rel.related n w c → FollowsOut rel n (Unwind w) (λ t. Unwind (rel.feed t c))
  panics_on n w c k = unwinds n w c rel.none _ k (λ rest. ap (λ t. Unwind (rel.feed t c)) (rel.from_none rest))

  pub ends : (n : rel.Stage) (halt : Halt) (w : W) (c : rel.Known) → rel.related n w c → FollowsOut rel n (Halts halt w) (λ t. Halts halt (rel.feed t c))
  ends n halt w c k = halts n halt w c rel.none _ (rel.at_halt n w c k) (λ rest. ap (λ t. Halts halt (rel.feed t c)) (rel.from_none rest))

  pub says_yes : (n : rel.Stage) (w : W) (c : rel.Known) → rel.related n w c → FollowsChoice rel n (Yes w) (λ t. Yes (rel.feed t c))
  says_yes n w c k = takes n w c rel.none _ k (λ rest. ap (λ t. Yes (rel.feed t c)) (rel.from_none rest))

  pub says_no : (n : rel.Stage) (w : W) (c : rel.Known) → rel.related n w c → FollowsChoice rel n (No w) (λ t. No (rel.feed t c))
  says_no n w c k = declines n w c rel.none _ k (λ rest. ap (λ t. No (rel.feed t c)) (rel.from_none rest))

  -- one effect after another
  pub after_go : {n : rel.Stage} {o : Out W} {g : rel.Choices → Out V} {f : W → Out W} (f' : V → Out V) → FollowsOut rel n o g → FollowsOuts rel f f' →
      FollowsOut rel n (on_go o f) (λ t. on_go (g t) f')
  after_go {n} {o} {g} {f} f' (goes_on m w c l _ k d) e = out_after l (λ t. on_go (g t) f') (λ rest. ap (λ x. on_go x f') (d rest)) (e m w c k)
  after_go {n} {o} {g} {f} f' (unwinds m w c l _ k d) e = unwinds m w c l _ k (λ rest. ap (λ x. on_go x f') (d rest))
  after_go {n} {o} {g} {f} f' (halts m halt w c l _ k d) e = halts m halt w c l _ k (λ rest. ap (λ x. on_go x f') (d rest))
  after_go {n} {o} {g} {f} f' (lapsed m halt w _ k) e = lapsed m halt w _ k
  after_go {n} {o} {g} {f} f' (outlived m halt w later s _ k d) e = outlived m halt w later (on_go s f) _ k (after_go f' d e)
  after_go {n} {o} {g} {f} f' (refused m _ halt c l _ k d) e = refused m _ halt c l _ k (λ rest. ap (λ x. on_go x f') (d rest))

  -- a drop made while unwinding, and what comes next
  pub after_drop : {n : rel.Stage} {o : Out W} {g : rel.Choices → Out V} {f : W → Out W} (f' : V → Out V) → FollowsOut rel n o g → FollowsOuts rel f f' →
      FollowsOut rel n (aborting o f) (λ t. aborting (g t) f')
  after_drop {n} {o} {g} {f} f' (goes_on m w c l _ k d) e = out_after l (λ t. aborting (g t) f') (λ rest. ap (λ x. aborting x f') (d rest)) (e m w c k)
  after_drop {n} {o} {g} {f} f' (unwinds m w c l _ k d) e = halts m Aborted w c l _ (rel.at_halt m w c k) (λ rest. ap (λ x. aborting x f') (d rest))
  after_drop {n} {o} {g} {f} f' (halts m halt w c l _ k d) e = halts m halt w c l _ k (λ rest. ap (λ x. aborting x f') (d rest))
  after_drop {n} {o} {g} {f} f' (lapsed m halt w _ k) e = lapsed m halt w _ k
  after_drop {n} {o} {g} {f} f' (outlived m halt w later s _ k d) e = outlived m halt w later (aborting s f) _ k (after_drop f' d e)
  after_drop {n} {o} {g} {f} f' (refused m _ halt c l _ k d) e = refused m _ halt c l _ k (λ rest. ap (λ x. aborting x f') (d rest))

-- Turns of loops, each of which spends a tick or takes a choice, are bounded by a number.

-- what is said at a stage is said at another
pub record Within {W V : Type 0} (rel : Relation W V) (later n : rel.Stage) : Type 0 where
  pub relating : (w : W) (c : rel.Known) → rel.related later w c → rel.related n w c
  pub halting : (w : W) (c : rel.Known) → rel.halted later w c → rel.halted n w c
  pub lapsing : (halt : Halt) (w : W) → rel.lapses later halt w → rel.lapses n halt w
  pub outliving : (halt : Halt) (w : W) (shadow : rel.Stage) → rel.outlives later halt w shadow → rel.outlives n halt w shadow

-- where a tick goes on, less is left
abbrev pub FollowsTick : {W V : Type 0} → (rel : Relation W V) → (rel.Stage → ℕ) → rel.Stage → Out W → (rel.Choices → Out V) → Type 0
FollowsTick rel left n (Go w) g = (later : rel.Stage) × (suc (left later) ≤ left n) × Within rel later n × FollowsOut rel later (Go w) g
FollowsTick rel left n (Unwind w) g = FollowsOut rel n (Unwind w) g
FollowsTick rel left n (Halts halt w) g = FollowsOut rel n (Halts halt w) g

abbrev pub FollowsTicks : {W V : Type 0} → (rel : Relation W V) → (rel.Stage → ℕ) → (W → Out W) → (V → Out V) → Type 0
FollowsTicks {W} {V} rel left f f' =
    (n : rel.Stage) (w : W) (c : rel.Known) → rel.related n w c → FollowsTick rel left n (f w) (λ t. f' (rel.feed t c))

-- the bounds are one; or the second is no less, and the first lapses where it is met; or both are greater than what is
-- left, each turn leaves less, and there are no shadows
pub data Bounds {W V : Type 0} (rel : Relation W V) (tick : W → Out W) (tick' : V → Out V) : ℕ → ℕ → Type 0 where
  one_bound : (n : ℕ) → Bounds rel tick tick' n n
  more_turns : (n n' : ℕ) → n ≤ n' → ((s : rel.Stage) (w : W) (c : rel.Known) → rel.related s w c → rel.lapses s OutOfTicks w) → Bounds rel tick tick' n n'
  great_bounds : (n n' : ℕ) (left : rel.Stage → ℕ) → ((s : rel.Stage) (w : W) (c : rel.Known) → rel.related s w c → left s < n) →
      ((s : rel.Stage) (w : W) (c : rel.Known) → rel.related s w c → left s < n') → FollowsTicks rel left tick tick' →
      ((s : rel.Stage) (halt : Halt) (w : W) (later : rel.Stage) → rel.outlives s halt w later → ⊥) → Bounds rel tick tick' n n'

pub within_out : {W V : Type 0} (rel : Relation W V) {later n : rel.Stage} {o : Out W} {g : rel.Choices → Out V} → Within rel later n →
    FollowsOut rel later o g → FollowsOut rel n o g
within_out rel i (goes_on m w c l g k d) = goes_on _ w c l g (i.relating w c k) d
within_out rel i (unwinds m w c l g k d) = unwinds _ w c l g (i.relating w c k) d
within_out rel i (halts m halt w c l g k d) = halts _ halt w c l g (i.halting w c k) d
within_out rel i (lapsed m halt w g k) = lapsed _ halt w g (i.lapsing halt w k)
within_out rel i (outlived m halt w s shadow g k d) = outlived _ halt w s shadow g (i.outliving halt w s k) d
within_out rel i (refused m o halt c l g k d) = refused _ o halt c l g k d

-- A run beside the same run with one tick more, as one that follows another: where the first is out of ticks, the second
-- outlives it. So bodies run on with one tick more, whatever is done within them follows itself so.
use Rattle.std.proofs.Common.{◌≡◌, ℕ, zero, suc, [], ◌∷◌, ◌++◌, refl, ap, sym, subst, ◌∙◌, append-nil}
use Rattle.mir_base.specs.declared.trace.Event.{Event}
use Rattle.mir_base.specs.Trace.{Trace}
use Rattle.store_model.proofs.Effects.Following.{Relation, FollowsOut, goes_on, unwinds, halts, lapsed, outlived, refused, FollowsOuts, FollowsChoice, takes, declines, neither, FollowsChoices, FollowsEffects}
use Rattle.store_model.proofs.Concrete.MoreTicks.{Beside, OneMore, After, paced, Begun, begun_further, More, both_go, both_unwind, both_halt, one_goes_on, MoreAnswer, both_return, both_end, both_halt_in, one_runs_on, MoreChoice, both_take, both_decline, both_neither, MoreBodies, act_more, choose_more, drop_more, give_more, panicked, spend_more}
use Rattle.store_model.specs.Concrete.Effects.{concrete_effects}
use Rattle.store_model.specs.Effects.{Halt, Aborted, OutOfTicks, Stuck, StuckAt, BadUse, BadStore, NoChoice, Infeasible, Unreachable, Out, Go, Unwind, Halts, Choice, Effects}
use Rattle.store_model.specs.Concrete.Bodies.{CodeOfBodies, ended, after_tick, run_body, outcome_of, GoesOnFrom}
use Rattle.store_model.specs.Concrete.Location.{Setting}
use Rattle.store_model.specs.Concrete.State.{State, with_event, tick, with_activation, Answer, Bodies}

-- out of ticks, the run goes on beside, after what has been told
abbrev Outlives : Beside → Halt → State → Beside → Type 0
Outlives OneMore OutOfTicks w (After before) = before ≡ w.trace
Outlives _ _ w later = ⊥

abbrev pub one_tick_more : Relation State State
one_tick_more = record {
  Known = State;
  Choices = Unit {0};
  feed = λ t c. c;
  none = tt;
  joined = λ a b. tt;
  from_none = λ t. refl;
  associates = λ a b c. refl;
  Stage = Beside;
  related = λ n w c. (paced n w ≡ c) × Begun n w.trace;
  halted = λ n w c. (paced n w ≡ c) × Begun n w.trace;
  at_halt = λ n w c r. r;
  lapses = λ n halt w. ⊥;
  outlives = Outlives;
  refuses = λ halt. ⊥;
}

pub more_follows : (n : Beside) (o o' : Out State) → More n o o' → FollowsOut one_tick_more n o (λ t. o')
more_follows n _ _ (both_go _ w b) = goes_on n w (paced n w) tt _ (refl, b) (λ rest. refl)
more_follows n _ _ (both_unwind _ w b) = unwinds n w (paced n w) tt _ (refl, b) (λ rest. refl)
more_follows n _ _ (both_halt _ halt w b) = halts n halt w (paced n w) tt _ (refl, b) (λ rest. refl)
more_follows n _ _ (one_goes_on w o h) = outlived OneMore OutOfTicks w (After w.trace) o _ refl (more_follows (After w.trace) o o h)

choice_follows : (n : Beside) (o o' : Choice State) → MoreChoice n o o' → FollowsChoice one_tick_more n o (λ t. o')
choice_follows n _ _ (both_take _ w b) = takes n w (paced n w) tt _ (refl, b) (λ rest. refl)
choice_follows n _ _ (both_decline _ w b) = declines n w (paced n w) tt _ (refl, b) (λ rest. refl)
choice_follows n _ _ (both_neither _ halt w b) = neither n halt w (paced n w) tt _ (refl, b) (λ rest. refl)

-- after some events the two are one
alone : (before : Trace) (o o' : Out State) → More (After before) o o' → More (After before) o' o'
alone before _ _ (both_go _ w b) = both_go (After before) w b
alone before _ _ (both_unwind _ w b) = both_unwind (After before) w b
alone before _ _ (both_halt _ halt w b) = both_halt (After before) halt w b

pub follows_more : (n : Beside) (o : Out State) (g : Unit {0} → Out State) → FollowsOut one_tick_more n o g → More n o (g tt)
follows_more n _ _ (goes_on _ w c l g r d) = subst (More n (Go w)) (ap Go r.0 ∙ sym (d tt)) (both_go n w r.1)
follows_more n _ _ (unwinds _ w c l g r d) = subst (More n (Unwind w)) (ap Unwind r.0 ∙ sym (d tt)) (both_unwind n w r.1)
follows_more n _ _ (halts _ halt w c l g r d) = subst (More n (Halts halt w)) (ap (Halts halt) r.0 ∙ sym (d tt)) (both_halt n halt w r.1)
follows_more n _ _ (lapsed _ halt w g r) = absurd r
follows_more n _ _ (refused _ o halt c l g r d) = absurd r
follows_more OneMore _ _ (outlived _ OutOfTicks w (After before) shadow g r d) =
    one_goes_on w (g tt) (subst (λ t. More (After t) (g tt) (g tt)) r (alone before shadow (g tt) (follows_more (After before) shadow g d)))
follows_more n _ _ (outlived _ halt w later shadow g r d) = absurd r

out_at : (f : State → Out State) → ((n : Beside) (w : State) → Begun n w.trace → More n (f w) (f (paced n w))) → FollowsOuts one_tick_more f f
out_at f e n w c r = subst (λ c. FollowsOut one_tick_more n (f w) (λ t. f c)) r.0 (more_follows n (f w) (f (paced n w)) (e n w r.1))

choice_at : (f : State → Choice State) → ((n : Beside) (w : State) → Begun n w.trace → MoreChoice n (f w) (f (paced n w))) → FollowsChoices one_tick_more f f
choice_at f e n w c r = subst (λ c. FollowsChoice one_tick_more n (f w) (λ t. f c)) r.0 (choice_follows n (f w) (f (paced n w)) (e n w r.1))

pub values_follow : (setting : Setting) (run : Bodies) → MoreBodies run → (fuel : ℕ) →
    FollowsEffects one_tick_more (concrete_effects setting run fuel) (concrete_effects setting run fuel)
values_follow setting run runs fuel = record {
  acting = λ action. out_at _ (λ n w b. act_more n setting run runs action w b);
  choosing = λ test. choice_at _ (λ n w b. choose_more n setting test w b);
  dropping = λ mode site. out_at _ (drop_more setting run runs fuel mode site);
  panicking = λ why. out_at _ (λ n w b. panicked n setting why w b);
  ticking = out_at _ (λ n w b. spend_more n w.ticks w b);
  giving = λ site. out_at _ (λ n w b. give_more n setting run runs site w b);
}

-- what is done within bodies follows itself, if the effects do
abbrev pub FollowsWithin : CodeOfBodies → Type 0
FollowsWithin code = (p : Effects State) → FollowsEffects one_tick_more p p → (turns body : ℕ) →
    FollowsOuts one_tick_more (code.within p turns body) (code.within p turns body)

ended_more : (n : Beside) (body answer : ℕ) (o o' : Out State) → More n o o' → MoreAnswer n (ended body answer o) (ended body answer o')
ended_more n body answer _ _ (both_go _ w b) = both_return n _ _ (begun_further n w.trace (Event.Return body ∷ []) b)
ended_more n body answer _ _ (both_unwind _ w b) = both_end n _ (begun_further n w.trace (Event.Unwind body ∷ []) b)
ended_more n body answer _ _ (both_halt _ halt w b) = both_halt_in n halt w b
ended_more n body answer _ _ (one_goes_on w o h) = one_runs_on w (ended body answer o) (ended_more (After w.trace) body answer o o h)

after_tick_more : (n : Beside) (o o' : Out State) (next : State → Answer) → More n o o' →
    ((n : Beside) (w : State) → Begun n w.trace → MoreAnswer n (next w) (next (paced n w))) → MoreAnswer n (after_tick o next) (after_tick o' next)
after_tick_more n _ _ next (both_go _ w b) e = e n w b
after_tick_more n _ _ next (both_unwind _ w b) e = both_end n w b
after_tick_more n _ _ next (both_halt _ halt w b) e = both_halt_in n halt w b
after_tick_more n _ _ next (one_goes_on w o h) e = one_runs_on w (after_tick o next) (after_tick_more (After w.trace) o o next h e)

module _ (setting : Setting) (code : CodeOfBodies) (within : FollowsWithin code) where
  pub bodies_more : (most : ℕ) → MoreBodies (run_body setting code most)
  bodies_more zero n event body args w b = both_halt_in n OutOfTicks w b
  bodies_more (suc most) n event body args w b =
      after_tick_more n (tick w) (tick (paced n w)) _ (spend_more n w.ticks w b)
      (λ n v c. ended_more n body (code.answer body) _ _ (follows_more n _ _
      (within (concrete_effects setting (run_body setting code most) (suc most)) (values_follow setting (run_body setting code most) (bodies_more most) (suc most))
      (suc most) body n (with_activation (record { body = body; cells = code.arguments body args }) (with_event event v))
      (with_activation (record { body = body; cells = code.arguments body args }) (with_event event (paced n v)))
      (refl, begun_further n v.trace (event ∷ []) c))))

told_after : (before : Trace) (a a' : Answer) → MoreAnswer (After before) a a' → (later : Trace) × ((outcome_of a').0 ≡ before ++ later)
told_after before _ _ (both_return _ value w b) = b
told_after before _ _ (both_end _ w b) = b
told_after before _ _ (both_halt_in _ halt w b) = b

-- so what is told with one tick more goes on from what was told
pub goes_on_from : (a a' : Answer) → MoreAnswer OneMore a a' → GoesOnFrom (outcome_of a) (outcome_of a')
goes_on_from _ _ (both_return _ value w b) = refl
goes_on_from _ _ (both_end _ w b) = refl
goes_on_from _ _ (both_halt_in _ Aborted w b) = refl
goes_on_from _ _ (both_halt_in _ OutOfTicks w b) = ([], sym (append-nil w.trace))
goes_on_from _ _ (both_halt_in _ Stuck w b) = refl
goes_on_from _ _ (both_halt_in _ (StuckAt body block) w b) = refl
goes_on_from _ _ (both_halt_in _ (BadUse site) w b) = refl
goes_on_from _ _ (both_halt_in _ (BadStore site) w b) = refl
goes_on_from _ _ (both_halt_in _ NoChoice w b) = refl
goes_on_from _ _ (both_halt_in _ Infeasible w b) = refl
goes_on_from _ _ (both_halt_in _ Unreachable w b) = refl
goes_on_from _ _ (one_runs_on w a h) = told_after w.trace a a h

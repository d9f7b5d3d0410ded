-- The laws of runs and of calls, from the statement of the pass over the forms alone: no run is stuck, a call leaves
-- whole what its references name, and each call inside a run meets the law of calls.
use Rattle.std.proofs.Common.{◌≡◌, ℕ, ◌&&◌, Bool, true, false, List, [], Some, None, refl, sym, ◌∙◌, subst}
use Rattle.std.specs.Prelude.{slice_get}
use Rattle.mir_base.specs.declared.trace.Event.{Event}
use Rattle.mir_ty.specs.declared.def.Sig.{Sig}
use Rattle.store_model.proofs.Effects.Following as following
use Rattle.store_model.proofs.Effects.Following.{FollowsEffects}
use Rattle.store_model.specs.Abstract.Effects.{AbstractState, presence, abstract_effects}
use Rattle.store_model.specs.Abstract.Presence.{all_present}
use Rattle.store_model.specs.Effects.{EffectSite, Action, Mode, Stuck, Out, Go, Unwind, Halts, Effects}
use Rattle.store_model.specs.Values.Datum.{Datum}
use Rattle.store_model.specs.Concrete.Effects as values
use Rattle.store_model.specs.Concrete.Effects.{concrete_effects}
use Rattle.store_model.specs.Concrete.State.{State, Bodies, Answer}
use Rattle.src_meaning.specs.Programs.{setting_of, code_of}
use Rattle.typed_tree.specs.Tree.{BodyTree, ProgramTree}
use Rattle.well_typed.specs.Program.{WellTyped}
use Rattle.soundness_values.specs.Laws.{IsSound, NeverStuck, CallsLeaveWhole}
use Rattle.soundness_values.specs.RunCalls.{ObeyTheLaw, run_with, CallsOfRuns}
use Rattle.soundness_values.proofs.AlsoTests.{Also, nothing_else, checks_also}
use Rattle.soundness_values.proofs.Bodies.{Keep}
use Rattle.soundness_values.proofs.BodyHeads.{size, sized}
use Rattle.soundness_values.proofs.ByTheLaw.{allowed, left_so}
use Rattle.soundness_values.proofs.CallsLaw.{may_run_by, left_by}
use Rattle.soundness_values.proofs.Checked.{Checking, Checks, with_facts, if_ok, checked_effects}
use Rattle.soundness_values.proofs.CheckedBodies.{is_reference_param}
use Rattle.soundness_values.proofs.Contracts.{targets_of, uniques_of, MayRun}
use Rattle.soundness_values.proofs.EffectsFollow.{related_alike, effects_follow}
use Rattle.soundness_values.proofs.Facts.{Facts}
use Rattle.soundness_values.proofs.OneStep.{step_keeps}
use Rattle.soundness_values.proofs.OwedLaws.{calls_leave_whole, never_stuck}
use Rattle.soundness_values.proofs.NeverStuck.{Shows}
use Rattle.soundness_values.proofs.Owing.{PassShows, PassShowsMore, checked_body, returned_so, panicked_so, calls_keep, as_passed, Runs, is_so, related_so, bodies_keep_so, Owing, owed}
use Rattle.soundness_values.proofs.Dropped.{feeding}
use Rattle.soundness_values.proofs.Relating.{Kept, feeds, checked_rel}
use Rattle.soundness_values.proofs.Simulation.{checks_by}

-- nothing more is said of how a body answers, of states, and of where a run ends
abbrev pub AnyAnswer : Event → ℕ → List Datum → State → Answer → Type 0
AnyAnswer event n args w answer = Unit {0}

abbrev pub AnyState : Event → ℕ → List Datum → State → State → Kept → Type 0
AnyState event n args w v k = Unit {0}

abbrev pub AnyEnd : Event → ℕ → List Datum → State → State → Type 0
AnyEnd event n args w v = Unit {0}

abbrev pub AnyBody : BodyTree → Checking Facts → Type 0
AnyBody b v = Unit {0}

abbrev pub NoTests : ℕ → Also
NoTests n = nothing_else

-- what follows a checked run follows one that tests more
more_tests : (said : State → Kept → Type 0) (halted : State → Type 0) (also : Also) (checks : Checks Facts)
    (one : Effects State) (other : Effects AbstractState) →
    FollowsEffects (checked_rel said halted) one (checked_effects checks other) →
    FollowsEffects (checked_rel said halted) one (checked_effects (checks_also also checks) other)
more_tests said halted also checks one other f = record {
  acting = λ action n w k s. acts action n w k (also.act k.1 action) (f.acting action n w k s);
  choosing = f.choosing;
  dropping = λ mode site n w k s. drops mode site n w k (also.drop site.place) (f.dropping mode site n w k s);
  panicking = f.panicking;
  ticking = f.ticking;
  giving = f.giving;
}
  where
    acts : (action : Action) (n : Unit {0}) (w : State) (k : Kept) (b : Bool) →
        following.FollowsOut (checked_rel said halted) n (one.act action w)
        (λ t. (checked_effects checks other).act action (feeds t k)) →
        following.FollowsOut (checked_rel said halted) n (one.act action w)
        (λ t. if_ok (b && checks.act_ok action (feeding t k.0) k.1) (feeds t k)
        (with_facts (checks.act_facts action (feeding t k.0) k.1) (checks.unwound_facts action (feeding t k.0) k.1)
        (other.act action (feeding t k.0))))
    acts action n w k true h = h
    acts action n w k false h = following.refused n (one.act action w) Stuck k [] _ tt (λ rest. refl)

    drops : (mode : Mode) (site : EffectSite) (n : Unit {0}) (w : State) (k : Kept) (b : Bool) →
        following.FollowsOut (checked_rel said halted) n (one.drop mode site w)
        (λ t. (checked_effects checks other).drop mode site (feeds t k)) →
        following.FollowsOut (checked_rel said halted) n (one.drop mode site w)
        (λ t. if_ok (b && checks.drop_ok mode site (feeding t k.0) k.1) (feeds t k)
        (with_facts (checks.drop_facts mode site (feeding t k.0) k.1) (checks.drop_facts mode site (feeding t k.0) k.1)
        (other.drop mode site (feeding t k.0))))
    drops mode site n w k true h = h
    drops mode site n w k false h = following.refused n (one.drop mode site w) Stuck k [] _ tt (λ rest. refl)

-- more is shown than is asked
pub shown_any : (p : ProgramTree) → PassShows p → PassShowsMore p NoTests AnyBody AnyBody
shown_any p pass n fuel b e list = by (checked_body p NoTests n fuel b e list) (pass n fuel b e list)
  where
    by : (o : Out (Checking Facts)) → Shows {V = Checking Facts} (λ v. v.lost) (λ v. v.free.choices)
        (λ v. (v.facts.refilled ≡ None) × (all_present (presence 0 v.free.cells) ≡ true))
        (λ v. v.facts.refilled ≡ None) o →
        Shows {V = Checking Facts} (λ v. v.lost) (λ v. v.free.choices) (returned_so p NoTests AnyBody AnyBody b)
        (panicked_so p NoTests AnyBody AnyBody b) o
    by (Go v) h = (h.0, h.1, tt)
    by (Unwind v) h = (h, tt)
    by (Halts halt v) h = h

module _ (p : ProgramTree) (typed : WellTyped p) (also : ℕ → Also) (pass : PassShowsMore p also AnyBody AnyBody) where
  pub nothing_owing : Owing p AnyAnswer AnyState AnyEnd also AnyBody AnyBody typed
  nothing_owing = record {
    shows = pass;
    more_starts = λ event n ticks b args w e t k. tt;
    follow = λ run keep fuel event n args w sig e b eb may.
        more_tests (Runs p AnyAnswer AnyState AnyEnd also AnyBody AnyBody typed event n args w) (AnyEnd event n args w) (also n)
        (checks_by p.items (λ key. (setting_of p).local_ty n key) (is_reference_param p.items b))
        (concrete_effects (setting_of p) run fuel)
        (abstract_effects p.items (λ key. (setting_of p).local_ty n key))
        (effects_follow (setting_of p) n (targets_of p.items 1 sig.params args)
        (uniques_of (targets_of p.items 1 sig.params args)) w (is_reference_param p.items b)
        (as_passed p AnyAnswer AnyState AnyEnd also AnyBody AnyBody typed n args w sig e b eb may) run (size p) (sized p)
        refl (bodies_keep_so p AnyAnswer AnyState AnyEnd also AnyBody AnyBody typed run keep n args w sig e b eb may) fuel
        (Runs p AnyAnswer AnyState AnyEnd also AnyBody AnyBody typed event n args w) (AnyEnd event n args w)
        (record {
          related = λ v k s. related_so p AnyAnswer AnyState AnyEnd also AnyBody AnyBody typed event n args w v k s sig e b eb may;
          at_halt = λ v k s. tt;
          unchanged = λ v u k c s a t x r. is_so sig e b eb may r tt;
          panicked = λ why v k s. is_so sig e b eb may
              (related_alike (setting_of p) n (targets_of p.items 1 sig.params args)
              (uniques_of (targets_of p.items 1 sig.params args)) w (is_reference_param p.items b)
              (as_passed p AnyAnswer AnyState AnyEnd also AnyBody AnyBody typed n args w sig e b eb may) v (values.panics (setting_of p) why v) k
              refl (related_so p AnyAnswer AnyState AnyEnd also AnyBody AnyBody typed event n args w v k s sig e b eb may)) tt;
          act_goes = λ action v k s h l u c x d r. is_so sig e b eb may r tt;
          act_winds = λ action v k s h l u c x d r. is_so sig e b eb may r tt;
          act_ends = λ action v k s h halt u x m. tt;
          takes = λ test v k s h l u c x d r. is_so sig e b eb may r tt;
          declines = λ test v k s h l u c x d r. is_so sig e b eb may r tt;
          choice_ends = λ test v k s halt u x m. tt;
          drop_goes = λ mode site v k s h u c x r. is_so sig e b eb may r tt;
          drop_winds = λ mode site v k s h u c x r. is_so sig e b eb may r tt;
          drop_ends = λ mode site v k s h halt u x m. tt;
        }));
    more_returns = λ event n b args w v k e r h. tt;
    more_panics = λ event n b args w v k e r h. tt;
    more_stops = λ event n b args w v k halt m r. tt;
    more_lapses = λ event n args w v halt h. tt;
    more_ticks = λ event n args w k. tt;
  }

  -- bodies that obey the law keep to the contract of calls, and the other way round
  keeps_by : (run : Bodies) → ObeyTheLaw p run → Keep (calls_keep p AnyAnswer AnyState AnyEnd also AnyBody AnyBody) run
  keeps_by run obeys event n args w k sig e =
      let may = by k sig e in
      let law = allowed (setting_of p) sig.params args w may in (
        left_so (setting_of p) sig.params args w may sig.result (run event n args w)
            (obeys event n sig args w e law.0 law.1),
        tt,
      )
    where
      some_sig : {a b : Sig} → Some a ≡ Some b → a ≡ b
      some_sig x = cc

      by : (k : (s : Sig) × (slice_get p.items.bodies n ≡ Some s) × MayRun (setting_of p) s.params args w) (sig : Sig) →
          slice_get p.items.bodies n ≡ Some sig → MayRun (setting_of p) sig.params args w
      by k sig e = subst (λ (s : Sig). MayRun (setting_of p) s.params args w) (some_sig (sym k.1 ∙ e)) k.2

  obeys_by : (run : Bodies) → Keep (calls_keep p AnyAnswer AnyState AnyEnd also AnyBody AnyBody) run → ObeyTheLaw p run
  obeys_by run keep event n sig args w e whole may =
      left_by (setting_of p) sig.params args w sig.result (run event n args w)
      (keep event n args w (sig, e, may_run_by (setting_of p) sig.params args w whole may) sig e).0

  -- each call inside a run meets the law of calls
  pub calls_within : (others : Bodies) (fuel : ℕ) → ObeyTheLaw p others →
      ObeyTheLaw p (run_with (setting_of p) (code_of p) others fuel)
  calls_within others fuel obeys =
      obeys_by (run_with (setting_of p) (code_of p) others fuel)
      (step_keeps p (calls_keep p AnyAnswer AnyState AnyEnd also AnyBody AnyBody) Kept (Checking Facts) feeds (λ v. v.lost)
      (λ v. v.free.choices) (owed p AnyAnswer AnyState AnyEnd also AnyBody AnyBody typed nothing_owing) others (keeps_by others obeys) fuel)

-- ---- the laws

-- from the pass with any tests
module _ (also : ProgramTree → ℕ → Also) (pass : (p : ProgramTree) → IsSound p → PassShowsMore p (also p) AnyBody AnyBody)
  where
    pub never_stuck_with : NeverStuck
    never_stuck_with p asked ticks body block sound =
        never_stuck p AnyAnswer AnyState AnyEnd (also p) AnyBody AnyBody sound.typed
        (nothing_owing p sound.typed (also p) (pass p sound)) asked ticks body block

    pub calls_with : CallsLeaveWhole
    calls_with p event fuel n sig values w sound e whole may =
        calls_leave_whole p AnyAnswer AnyState AnyEnd (also p) AnyBody AnyBody sound.typed
        (nothing_owing p sound.typed (also p) (pass p sound)) event fuel n sig values w e whole may

    pub calls_of_runs_with : CallsOfRuns
    calls_of_runs_with p others fuel sound obeys = calls_within p sound.typed (also p) (pass p sound) others fuel obeys

-- from the pass with the tests of `Checks` alone
module _ (pass : (p : ProgramTree) → IsSound p → PassShows p) where
  pub never_stuck_by : NeverStuck
  never_stuck_by = never_stuck_with (λ p. NoTests) (λ p sound. shown_any p (pass p sound))

  pub calls_by : CallsLeaveWhole
  calls_by = calls_with (λ p. NoTests) (λ p sound. shown_any p (pass p sound))

  pub calls_of_runs_by : CallsOfRuns
  calls_of_runs_by = calls_of_runs_with (λ p. NoTests) (λ p sound. shown_any p (pass p sound))

-- The fifth and the sixth law from one statement of the pass over the forms: that the checked run with the tests of
-- protected parameters never complains and gives a whole result, and that its locals are clear where it ends.
use Rattle.std.proofs.Common.{◌≡◌, ◌≢◌, ℕ, ℤ, Bool, List, Option, Some, None}
use Rattle.std.specs.Prelude.{slice_get}
use Rattle.mir_base.specs.declared.trace.End.{End}
use Rattle.mir_base.specs.declared.trace.Event.{Event}
use Rattle.mir_ty.specs.declared.def.Sig.{Sig}
use Rattle.store_model.specs.Abstract.Effects.{presence}
use Rattle.store_model.specs.Abstract.Presence.{all_present}
use Rattle.store_model.specs.Effects.{Out, Go, Unwind, Halts}
use Rattle.store_model.specs.Values.Datum.{Datum}
use Rattle.store_model.specs.Concrete.Bodies.{run_body}
use Rattle.store_model.specs.Concrete.State.{State, Bodies}
use Rattle.src_meaning.specs.Programs.{source, setting_of, code_of}
use Rattle.typed_tree.specs.Tree.{BodyTree, ProgramTree}
use Rattle.soundness_values.specs.Laws.{IsSound, NeverStuck, CallsLeaveWhole, EndsOnce, EndsSo, references, MayBePassed, LeftBy, AreOf}
use Rattle.soundness_values.specs.RunCalls.{ObeyTheLaw, run_with, CallsOfRuns}
use Rattle.soundness_values.proofs.CallsCounted.{falls, calls_counted}
use Rattle.soundness_values.proofs.Checked.{Checking}
use Rattle.soundness_values.proofs.CountedOwing.{ClearAtReturn, ClearAtPanic}
use Rattle.soundness_values.proofs.Facts.{Facts}
use Rattle.soundness_values.proofs.LawsByPass.{AnyAnswer, AnyState, AnyEnd, AnyBody, nothing_owing, calls_within}
use Rattle.soundness_values.proofs.NeverStuck.{Shows}
use Rattle.soundness_values.proofs.OnceBy.{ends_once}
use Rattle.soundness_values.proofs.OnceByPass.{protected, PassShowsAll}
use Rattle.soundness_values.proofs.OwedLaws.{never_stuck, calls_leave_whole}
use Rattle.soundness_values.proofs.Owing.{PassShowsMore, checked_body, returned_so, panicked_so}
use Rattle.soundness_values.proofs.ProtectTests.{protect_tests}
use Rattle.soundness_values.proofs.SelfKept.{drops_protect}

-- less is asked for the law of runs
shown_less : (p : ProgramTree) → PassShowsAll p → PassShowsMore p (protect_tests p.items (protected p)) AnyBody AnyBody
shown_less p pass n fuel b e list =
    by (checked_body p (protect_tests p.items (protected p)) n fuel b e list) (pass n fuel b e list)
  where
    by : (o : Out (Checking Facts)) → Shows {V = Checking Facts} (λ v. v.lost) (λ v. v.free.choices)
        (returned_so p (protect_tests p.items (protected p))
        (ClearAtReturn p (protected p) (protect_tests p.items (protected p)))
        (ClearAtPanic p (protected p) (protect_tests p.items (protected p))) b)
        (panicked_so p (protect_tests p.items (protected p))
        (ClearAtReturn p (protected p) (protect_tests p.items (protected p)))
        (ClearAtPanic p (protected p) (protect_tests p.items (protected p))) b) o →
        Shows {V = Checking Facts} (λ v. v.lost) (λ v. v.free.choices)
        (returned_so p (protect_tests p.items (protected p)) AnyBody AnyBody b)
        (panicked_so p (protect_tests p.items (protected p)) AnyBody AnyBody b) o
    by (Go v) h = (h.0, h.1, tt)
    by (Unwind v) h = (h.0, tt)
    by (Halts halt v) h = h

-- ---- of one program

module _ (p : ProgramTree) (sound : IsSound p) (pass : PassShowsAll p) where
  -- no run of it is stuck
  pub never_stuck_at : (asked : List ℤ) (ticks body block : ℕ) → (source p asked ticks).1 ≢ End.Stuck body block
  never_stuck_at asked ticks body block =
      never_stuck p AnyAnswer AnyState AnyEnd (protect_tests p.items (protected p)) AnyBody AnyBody sound.typed
      (nothing_owing p sound.typed (protect_tests p.items (protected p)) (shown_less p pass)) asked ticks body block

  -- a call in it leaves whole what its references name
  pub call_at : (event : Event) (fuel n : ℕ) (sig : Sig) (values : List Datum) (w : State) →
      slice_get p.items.bodies n ≡ Some sig → AreOf p.items sig.params values →
      MayBePassed (setting_of p) w (references p.items sig.params values) →
      LeftBy (setting_of p) w (references p.items sig.params values) sig.result
      (run_body (setting_of p) (code_of p) fuel event n values w)
  call_at event fuel n sig values w e whole may =
      calls_leave_whole p AnyAnswer AnyState AnyEnd (protect_tests p.items (protected p)) AnyBody AnyBody sound.typed
      (nothing_owing p sound.typed (protect_tests p.items (protected p)) (shown_less p pass)) event fuel n sig values w e
      whole may

  -- each call inside a run of it meets the law of calls
  pub call_of_run_at : (others : Bodies) (fuel : ℕ) → ObeyTheLaw p others →
      ObeyTheLaw p (run_with (setting_of p) (code_of p) others fuel)
  call_of_run_at others fuel obeys =
      calls_within p sound.typed (protect_tests p.items (protected p)) (shown_less p pass) others fuel obeys

  -- each value with a serial number ends once in it
  pub once_at : (asked : List ℤ) (ticks : ℕ) → EndsSo (source p asked ticks).0 (source p asked ticks).1
  once_at asked ticks =
      ends_once p (protected p) (protect_tests p.items (protected p)) sound.typed
      (falls p (protected p) sound.typed (drops_protect p sound)) (drops_protect p sound)
      (calls_counted p (protected p) sound.typed (drops_protect p sound)) pass asked ticks

-- ---- of all programs

module _ (pass : (p : ProgramTree) → IsSound p → PassShowsAll p) where
  -- no run is stuck
  pub never_stuck_of : NeverStuck
  never_stuck_of p asked ticks body block sound = never_stuck_at p sound (pass p sound) asked ticks body block

  -- a call leaves whole what its references name
  pub calls_of : CallsLeaveWhole
  calls_of p event fuel n sig values w sound e whole may =
      call_at p sound (pass p sound) event fuel n sig values w e whole may

  -- each call inside a run meets the law of calls
  pub calls_of_runs_of : CallsOfRuns
  calls_of_runs_of p others fuel sound obeys = call_of_run_at p sound (pass p sound) others fuel obeys

  -- each value with a serial number ends once
  pub once_of : EndsOnce
  once_of p asked ticks sound = once_at p sound (pass p sound) asked ticks

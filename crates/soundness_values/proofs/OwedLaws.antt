-- From what is owed to the laws: no run is stuck, since `main` is called with no arguments and so leaves the state by
-- the contract of calls; and each call changes what its `&mut` arguments name alone and leaves whole what is named.
use Rattle.std.proofs.Common.{◌≡◌, ◌≢◌, ℕ, suc, ℤ, List, [], Some, sym, subst}
use Rattle.std.specs.Prelude.{slice_get}
use Rattle.mir_base.specs.declared.trace.End.{End}
use Rattle.mir_base.specs.declared.trace.Event.{Event}
use Rattle.mir_ty.specs.declared.def.Sig.{Sig}
use Rattle.mir_ty.specs.declared.ty.TyId.{TyId}
use Rattle.store_model.specs.Values.Datum.{Datum}
use Rattle.store_model.specs.Effects.{Halt, Aborted, OutOfTicks, Stuck}
use Rattle.store_model.specs.Concrete.Bodies.{outcome_of, end_of_halt, run_body, main_of}
use Rattle.store_model.specs.Concrete.State.{State, Answer, beginning}
use Rattle.src_meaning.specs.Programs.{source, setting_of, code_of}
use Rattle.typed_tree.specs.Tree.{BodyTree, ProgramTree}
use Rattle.well_typed.specs.Program.{WellTyped}
use Rattle.soundness_values.specs.Laws.{references, MayBePassed, LeftBy, AreOf}
use Rattle.soundness_values.proofs.AlsoTests.{Also}
use Rattle.soundness_values.proofs.Bodies.{Keep, bodies_keep}
use Rattle.soundness_values.proofs.CallsLaw.{may_run_by, left_by}
use Rattle.soundness_values.proofs.Checked.{Checking}
use Rattle.soundness_values.proofs.Contracts.{targets_of, MayRun, LeftSo, returned, unwound, halted}
use Rattle.soundness_values.proofs.Facts.{Facts}
use Rattle.soundness_values.proofs.Known.{Target}
use Rattle.soundness_values.proofs.LadderEnds.{MayEnd}
use Rattle.soundness_values.proofs.MainHead.{Main, main_head}
use Rattle.soundness_values.proofs.Owing.{calls_keep, Owing, owed}
use Rattle.soundness_values.proofs.Relating.{Kept, feeds}

module _ (p : ProgramTree) (Extra : Event → ℕ → List Datum → State → Answer → Type 0)
    (More : Event → ℕ → List Datum → State → State → Kept → Type 0)
    (Ended : Event → ℕ → List Datum → State → State → Type 0)
    (also : ℕ → Also) (AtReturn AtPanic : BodyTree → Checking Facts → Type 0) (typed : WellTyped p)
    (owing : Owing p Extra More Ended also AtReturn AtPanic typed) where
  -- each body keeps to the contract of calls, however much fuel and however many ticks there are
  pub all_keep : (n : ℕ) → Keep (calls_keep p Extra More Ended also AtReturn AtPanic) (run_body (setting_of p) (code_of p) n)
  all_keep n = bodies_keep p (calls_keep p Extra More Ended also AtReturn AtPanic) Kept (Checking Facts) feeds (λ v. v.lost)
      (λ v. v.free.choices) (owed p Extra More Ended also AtReturn AtPanic typed owing) n

  -- the law of calls
  pub calls_leave_whole : (event : Event) (fuel n : ℕ) (sig : Sig) (values : List Datum) (w : State) →
      slice_get p.items.bodies n ≡ Some sig → AreOf p.items sig.params values →
      MayBePassed (setting_of p) w (references p.items sig.params values) →
      LeftBy (setting_of p) w (references p.items sig.params values) sig.result
      (run_body (setting_of p) (code_of p) fuel event n values w)
  calls_leave_whole event fuel n sig values w e whole may =
      left_by (setting_of p) sig.params values w sig.result (run_body (setting_of p) (code_of p) fuel event n values w)
      (all_keep fuel event n values w (sig, e, may_run_by (setting_of p) sig.params values w whole may) sig e).0

  not_stuck : (targets : List Target) (result : TyId) (w : State) (answer : Answer) →
      LeftSo (setting_of p) targets result w answer → (body block : ℕ) → (outcome_of answer).1 ≢ End.Stuck body block
  not_stuck targets result w _ (returned value v l fit) body block e = absurd (let never : ⊥ = cc in never)
  not_stuck targets result w _ (unwound v l) body block e = absurd (let never : ⊥ = cc in never)
  not_stuck targets result w _ (halted halt v h) body block e = by halt h e
    where
      by : (halt : Halt) → MayEnd halt → end_of_halt halt ≡ End.Stuck body block → ⊥
      by Aborted h e = absurd (let never : ⊥ = cc in never)
      by OutOfTicks h e = absurd (let never : ⊥ = cc in never)
      by other h e = h

  module _ (asked : List ℤ) (ticks : ℕ) where
    abbrev main : Main p
    main = main_head p typed

    may_run_main : (params : List TyId) → params ≡ [] → MayRun (setting_of p) params [] (beginning asked ticks)
    may_run_main params none = subst (λ l. MayRun (setting_of p) l [] (beginning asked ticks)) (sym none)
        (record { whole = tt; stands = tt; alone = tt })

    -- how `main` ends
    pub main_ends : LeftSo (setting_of p) (targets_of p.items 1 main.sig.params []) main.sig.result
        (beginning asked ticks)
        (run_body (setting_of p) (code_of p) (suc ticks) (Event.Call (main_of p.items)) (main_of p.items) []
        (beginning asked ticks))
        × Extra (Event.Call (main_of p.items)) (main_of p.items) [] (beginning asked ticks)
        (run_body (setting_of p) (code_of p) (suc ticks) (Event.Call (main_of p.items)) (main_of p.items) []
        (beginning asked ticks))
    main_ends = all_keep (suc ticks) (Event.Call (main_of p.items)) (main_of p.items) [] (beginning asked ticks)
        (main.sig, main.there, may_run_main main.sig.params main.none) main.sig main.there

    -- no run is stuck
    pub never_stuck : (body block : ℕ) → (source p asked ticks).1 ≢ End.Stuck body block
    never_stuck body block = not_stuck (targets_of p.items 1 main.sig.params []) main.sig.result
        (beginning asked ticks)
        (run_body (setting_of p) (code_of p) (suc ticks) (Event.Call (main_of p.items)) (main_of p.items) []
        (beginning asked ticks)) main_ends.0 body block

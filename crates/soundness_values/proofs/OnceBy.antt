-- The law of once, from the statement of the pass with more tests, and from what calls do to the account of numbers:
-- where `main` returns or unwinds nothing is held and nothing is in flight, so each number has ended once; and wherever
-- a run halts each has ended at most once.
use Rattle.std.proofs.Common.{◌≡◌, ℕ, suc, ℤ, not, ◌&&◌, Bool, true, List, [], Some, refl, sym, subst, arith}
use Rattle.std.specs.Prelude.{slice_get}
use Rattle.mir_base.specs.declared.trace.Event.{Event}
use Rattle.mir_base.specs.Once.{times, no_line}
use Rattle.mir_ty.specs.declared.def.Sig.{Sig}
use Rattle.mir_ty.specs.declared.ty.TyId.{TyId}
use Rattle.mir_ty.specs.ItemTable.{ItemTable}
use Rattle.store_model.specs.Effects.{Halt, Aborted, OutOfTicks}
use Rattle.store_model.specs.Places.Place.{Place}
use Rattle.store_model.specs.Values.Datum.{Datum}
use Rattle.store_model.specs.Concrete.Bodies.{outcome_of, end_of_halt, run_body, main_of}
use Rattle.store_model.specs.Concrete.Drops.{drop_impl}
use Rattle.store_model.specs.Concrete.Location.{Setting, DynamicType, concrete_ty}
use Rattle.store_model.specs.Concrete.State.{State, Activation, Bodies, Answer, beginning}
use Rattle.src_meaning.specs.Programs.{source, setting_of, code_of}
use Rattle.typed_tree.specs.Tree.{BodyTree, ProgramTree}
use Rattle.well_typed.specs.Program.{WellTyped}
use Rattle.soundness_values.specs.Frames.{Alike, none_runs, one_runs, written}
use Rattle.soundness_values.specs.Laws.{EndsSo}
use Rattle.soundness_values.proofs.AlsoTests.{Also}
use Rattle.soundness_values.proofs.Bodies.{Keep}
use Rattle.soundness_values.proofs.BodyHeads.{size, sized}
use Rattle.soundness_values.proofs.Contracts as contracts
use Rattle.soundness_values.proofs.Contracts.{targets_of, MayRun, Leaves, LeftSo}
use Rattle.soundness_values.proofs.CountedContract as counts
use Rattle.soundness_values.proofs.CountedContract.{Before, Ended}
use Rattle.soundness_values.proofs.CountedFollow.{CallsCount, all_follow}
use Rattle.soundness_values.proofs.CountedOwing.{CountsAnswer, CountsState, CountsEnd, ClearAtReturn, ClearAtPanic, counts_start, counts_return, counts_panic, counts_stop, counts_lapse, counts_no_tick}
use Rattle.soundness_values.proofs.DropBodiesCount.{unit_numbers}
use Rattle.soundness_values.proofs.DropsCount.{is_content}
use Rattle.soundness_values.proofs.Forgotten.{InFlight}
use Rattle.soundness_values.proofs.Known.{Target}
use Rattle.soundness_values.proofs.LadderEnds.{MayEnd}
use Rattle.soundness_values.proofs.MainHead.{Main, main_head}
use Rattle.soundness_values.proofs.OwedLaws.{main_ends}
use Rattle.soundness_values.proofs.Owing.{PassShowsMore, calls_keep, Owing}
use Rattle.soundness_values.proofs.Tally.{exactly_once}

-- what calls are to do, in each activation
abbrev pub AllCallsCount : (p : ProgramTree) (protects : ℕ → ℕ → Bool) (also : ℕ → Also) (typed : WellTyped p)
    (falls_tested : (n : ℕ) (place : Place) → (also n).drop place ≡ true →
    not (is_content place.steps && protects n place.local) ≡ true)
    (drop_protected : (f : DynamicType) (of : ℕ × ℕ) → drop_impl p.items (concrete_ty p.items f) ≡ Some of →
    protects of.1 1 ≡ true) → Type 0
AllCallsCount p protects also typed falls_tested drop_protected =
    (run : Bodies) (keep : Keep (calls_keep p (CountsAnswer p protects also) (CountsState p protects also)
    (CountsEnd p protects also) also (ClearAtReturn p protects also) (ClearAtPanic p protects also)) run) (fuel : ℕ)
    (event : Event) (n : ℕ) (args : List Datum) (w : State) (sig : Sig) (e : slice_get p.items.bodies n ≡ Some sig)
    (b : BodyTree) (eb : slice_get p.bodies n ≡ Some b) (may : MayRun (setting_of p) sig.params args w) →
    CallsCount p protects also typed falls_tested drop_protected run keep fuel event n args w sig e b eb may

module _ (p : ProgramTree) (protects : ℕ → ℕ → Bool) (also : ℕ → Also) (typed : WellTyped p)
    (falls_tested : (n : ℕ) (place : Place) → (also n).drop place ≡ true →
    not (is_content place.steps && protects n place.local) ≡ true)
    (drop_protected : (f : DynamicType) (of : ℕ × ℕ) → drop_impl p.items (concrete_ty p.items f) ≡ Some of →
    protects of.1 1 ≡ true)
    (calls : AllCallsCount p protects also typed falls_tested drop_protected)
    (pass : PassShowsMore p also (ClearAtReturn p protects also) (ClearAtPanic p protects also)) where
  abbrev items : ItemTable
  items = p.items

  abbrev setting : Setting
  setting = setting_of p

  pub counts_owing : Owing p (CountsAnswer p protects also) (CountsState p protects also) (CountsEnd p protects also) also
      (ClearAtReturn p protects also) (ClearAtPanic p protects also) typed
  counts_owing = record {
    shows = pass;
    more_starts = λ event n ticks b args w eb t k.
        counts_start p protects also typed event n ticks b args w eb k.0 k.1 k.2;
    follow = λ run keep fuel event n args w sig e b eb may.
        all_follow p protects also typed falls_tested drop_protected run keep fuel event n args w sig e b eb may
        (calls run keep fuel event n args w sig e b eb may);
    more_returns = λ event n b args w v k eb r h. counts_return p protects also typed event n b args w v k eb r h;
    more_panics = λ event n b args w v k eb r h. counts_panic p protects also typed event n b args w v k eb r h;
    more_stops = λ event n b args w v k halt m r. counts_stop p protects also typed event n args w v k halt r;
    more_lapses = λ event n args w v halt h. counts_lapse p protects also typed event n args w v halt h;
    more_ticks = λ event n args w k. counts_no_tick p protects also typed event n args w;
  }

  module _ (asked : List ℤ) (ticks : ℕ) where
    abbrev begins : State
    begins = beginning asked ticks

    abbrev main : Main p
    main = main_head p typed

    -- no number was made, none is held
    none_yet : InFlight (size p) [] [] (beginning asked ticks)
    none_yet = record {
      sum = λ k. refl;
      once = λ k. let none : times k [] ≡ 0 = refl in omega arith;
      has_ended = λ k. let none : times k [] ≡ 0 = refl in omega arith;
      fresh = λ k l. refl;
      in_order = no_line;
    }

    before : (ts : List Target) → Before setting (size p) (sized p) protects [] [] (Event.Call (main_of items))
        (main_of items) [] ts (beginning asked ticks)
    before ts = record {
      counted = none_yet;
      makes_none = refl;
      was_made = λ k e. absurd (let never : ⊥ = cc in never);
      at_most = λ k. let none : times k [] ≡ 0 = refl in omega arith;
      covered = λ k l. absurd (let none : times k [] ≡ 0 = refl in let never : ⊥ = omega arith in never);
      heads = tt;
      spaced = λ m t e u. tt;
      exact = λ m t e u. tt;
    }

    as_none : (acts others : List Activation) → Alike acts others → others ≡ [] → acts ≡ []
    as_none _ _ none_runs x = refl
    as_none _ _ (one_runs body a b older older' same j) x = absurd (let never : ⊥ = cc in never)

    none_left : (acts : List Activation) → Alike acts [] → acts ≡ []
    none_left acts a = as_none acts [] a refl

    left_none : (params : List TyId) → params ≡ [] → (v : State) →
        Leaves setting (targets_of items 1 params []) (beginning asked ticks) v → v.activations ≡ []
    left_none params none v = subst (λ (l : List TyId). Leaves setting (targets_of items 1 l []) (beginning asked ticks) v →
        v.activations ≡ []) (sym none) (λ l. none_left v.activations (frame_of l.news l.frame))
      where
        frame_of : (news : List Datum) → Alike v.activations (written [] news (beginning asked ticks)).activations →
            Alike v.activations []
        frame_of news a = a

    once_so : (answer : Answer) →
        LeftSo setting (targets_of items 1 main.sig.params []) main.sig.result (beginning asked ticks) answer →
        Ended setting (size p) (sized p) protects [] [] (Event.Call (main_of items)) answer →
        EndsSo (outcome_of answer).0 (outcome_of answer).1
    once_so _ (contracts.returned value v l fit) (counts.returned _ _ flow heads) =
        exactly_once (size p) v (left_none main.sig.params main.none v l)
        (subst (λ n. InFlight (size p) n [] v) (unit_numbers items main.sig.result value main.gives_unit fit) flow)
    once_so _ (contracts.unwound v l) (counts.unwound _ flow heads) =
        exactly_once (size p) v (left_none main.sig.params main.none v l) flow
    once_so _ (contracts.halted halt v m) (counts.halted _ _ once) = by halt m
      where
        by : (halt : Halt) → MayEnd halt → EndsSo v.trace (end_of_halt halt)
        by Aborted m = once
        by OutOfTicks m = once
        by other m = absurd m

    pub ends_once : EndsSo (source p asked ticks).0 (source p asked ticks).1
    ends_once =
        let ends = main_ends p (CountsAnswer p protects also) (CountsState p protects also) (CountsEnd p protects also) also
        (ClearAtReturn p protects also) (ClearAtPanic p protects also) typed counts_owing asked ticks in
        once_so (run_body setting (code_of p) (suc ticks) (Event.Call (main_of items)) (main_of items) []
        (beginning asked ticks)) ends.0
        (ends.1 main.sig main.there [] [] (before (targets_of items 1 main.sig.params [])))

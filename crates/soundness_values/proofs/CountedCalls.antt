-- A call keeps the account of numbers, where the body that is called does so: the numbers of its arguments are in flight
-- before it, and those of its result are stored after it.
use Rattle.std.proofs.Common.{◌≡◌, ℕ, ◌+◌, ◌<◌, ◌&&◌, Bool, true, false, List, [], ◌∷◌, ◌++◌, length, Option, Some, if◌then◌else◌, refl, ap, sym, ◌∙◌, subst, arith}
use Rattle.std.specs.Prelude.{slice_get}
use Rattle.std.specs.Option.{option_map_or}
use Rattle.std.proofs.lemmas.Bool.{false≢true}
use Rattle.mir_base.specs.Once.{times, IsAtMostOnce}
use Rattle.mir_ty.specs.declared.ty.TyId.{TyId}
use Rattle.mir_ty.specs.ItemTable.{ItemTable}
use Rattle.store_model.specs.declared.address.Addr.{Addr}
use Rattle.store_model.specs.Values.Datum.{Datum}
use Rattle.store_model.specs.Values.Wholeness.{serials}
use Rattle.store_model.specs.Effects as effects
use Rattle.store_model.specs.Effects.{EffectSite, Operand, Halt, Stuck, BadUse, BadStore, Aborted, OutOfTicks, StuckAt, NoChoice, Infeasible, Unreachable, Out, Go, Unwind, Halts, on_go, halting_if}
use Rattle.store_model.specs.Abstract.Effects as free
use Rattle.store_model.specs.Abstract.Effects.{AbstractState, presence, may_use, when, watched_at, unless_never, operand_used, operands_used, returns_by_choice}
use Rattle.store_model.specs.Abstract.Presence.{Presence, itself_gone, presence_along}
use Rattle.store_model.specs.Places.Place.{Step}
use Rattle.store_model.specs.Places.TypeForms.{same_id}
use Rattle.store_model.specs.Concrete.Effects as values
use Rattle.store_model.specs.Concrete.Effects.{or_stuck, evaluate_operands, put, answered}
use Rattle.store_model.specs.Concrete.Location.{Setting}
use Rattle.store_model.specs.Concrete.State.{State, Bodies, Answer, Returns, Unwinds, HaltsIn}
use Rattle.soundness_values.proofs.Arguments.{Untouched}
use Rattle.soundness_values.proofs.Calling.{all_stay, may_run, left_known}
use Rattle.soundness_values.proofs.Checks.{id_of, may_store, takes_well, after_operand, named_by_all, after_operands, after_namings, all_apart, none_taken, passes, calls_well}
use Rattle.soundness_values.proofs.Contracts.{targets_of, MayRun, LeftSo, returned, unwound, halted}
use Rattle.soundness_values.proofs.CountedActs.{IsGo, go_past, went_past, lands_at}
use Rattle.soundness_values.proofs.CountedArgs.{ArgsOut, args_refused, args_there, args_out}
use Rattle.soundness_values.proofs.CountedForms.{chosen_go}
use Rattle.soundness_values.proofs.CountedMarks.{Marked, TargetOk, args_of, targets_ok}
use Rattle.soundness_values.proofs.CountedOthers.{put_never}
use Rattle.soundness_values.proofs.CountedPanics.{wound_past}
use Rattle.soundness_values.proofs.CountedStores.{AllSpaced}
use Rattle.soundness_values.proofs.CountedTakes.{Counted, as_many_older}
use Rattle.soundness_values.proofs.Counts.{times_append}
use Rattle.soundness_values.proofs.Dropped.{feeding}
use Rattle.soundness_values.proofs.Facts.{Naming, Facts, Each}
use Rattle.soundness_values.proofs.Forgotten.{InFlight}
use Rattle.soundness_values.proofs.Guards.{HeadsStand}
use Rattle.soundness_values.proofs.Known.{Target}
use Rattle.soundness_values.proofs.NumbersHeld.{serials_of_args}
use Rattle.soundness_values.proofs.OnlyStuck.{no_lapse, stuck_if, put_so}
use Rattle.soundness_values.proofs.Passing.{moves_any, Moves}
use Rattle.soundness_values.proofs.ProtectTests.{marked}
use Rattle.soundness_values.proofs.Running.{Passed, Runs}
use Rattle.soundness_values.proofs.Taking.{first, second, MayLapse}
use Rattle.soundness_values.proofs.Tally.{flying_alike}

-- ---- operands that are refused in the free run, whatever its choices are

abbrev pub is_bad_use : Out AbstractState → Bool
is_bad_use (Halts (BadUse site) w) = true
is_bad_use o = false

pub record RefusedAll (items : ItemTable) (local_ty : ℕ → Option TyId) (args : List Operand)
    (cells : List (ℕ × Presence)) : Type 0 where
  pub site : EffectSite
  pub cells_after : List (ℕ × Presence)
  pub so : (t : List Bool) (more : AbstractState → Out AbstractState) →
      operands_used items local_ty args more (feeding t cells) ≡ Halts (BadUse site) (feeding t cells_after)

module _ (items : ItemTable) (local_ty : ℕ → Option TyId) where
  -- one that goes on, and then others
  refused_then : (operand : Operand) (args : List Operand) (cells cells' : List (ℕ × Presence)) →
      ((t : List Bool) → operand_used items local_ty operand (feeding t cells) ≡ Go (feeding t cells')) →
      (is_bad_use (operands_used items local_ty args Go (feeding [] cells')) ≡ true →
      RefusedAll items local_ty args cells') →
      is_bad_use (operands_used items local_ty (operand ∷ args) Go (feeding [] cells)) ≡ true →
      RefusedAll items local_ty (operand ∷ args) cells
  refused_then operand args cells cells' e later h =
      let r = later (subst (λ o. is_bad_use (on_go o (operands_used items local_ty args Go)) ≡ true) (e []) h) in
      record {
        site = r.site;
        cells_after = r.cells_after;
        so = λ t more. ap (λ o. on_go o (operands_used items local_ty args more)) (e t) ∙ r.so t more;
      }

  pub all_refused : (args : List Operand) (cells : List (ℕ × Presence)) →
      is_bad_use (operands_used items local_ty args Go (feeding [] cells)) ≡ true → RefusedAll items local_ty args cells
  all_refused [] cells h = absurd (false≢true h)
  all_refused (effects.Number value kind ∷ args) cells h =
      refused_then (effects.Number value kind) args cells cells (λ t. refl) (all_refused args cells) h
  all_refused (effects.Truth value ∷ args) cells h =
      refused_then (effects.Truth value) args cells cells (λ t. refl) (all_refused args cells) h
  all_refused (effects.UnitValue ∷ args) cells h =
      refused_then effects.UnitValue args cells cells (λ t. refl) (all_refused args cells) h
  all_refused (effects.Moved site ∷ args) cells h =
      by (may_use (watched_at items local_ty site) (presence site.place.local cells)) refl (λ x. all_refused args x)
    where
      by : (b : Bool) → may_use (watched_at items local_ty site) (presence site.place.local cells) ≡ b →
          ((x : List (ℕ × Presence)) → is_bad_use (operands_used items local_ty args Go (feeding [] x)) ≡ true →
          RefusedAll items local_ty args x) → RefusedAll items local_ty (effects.Moved site ∷ args) cells
      by false m again = record {
        site = site;
        cells_after = cells;
        so = λ t more. ap (λ b. on_go (when b (BadUse site) (λ x. Go (free.after items local_ty true site x))
            (feeding t cells)) (operands_used items local_ty args more)) m;
      }
      by true m again = refused_then (effects.Moved site) args cells
          (free.after items local_ty true site (feeding [] cells)).cells
          (λ t. ap (λ b. when b (BadUse site) (λ x. Go (free.after items local_ty true site x)) (feeding t cells)) m)
          (again (free.after items local_ty true site (feeding [] cells)).cells) h
  all_refused (effects.Copied site ∷ args) cells h =
      by (may_use (watched_at items local_ty site) (presence site.place.local cells)) refl
      (free.never_at items local_ty site) refl (λ x. all_refused args x)
    where
      by : (b : Bool) → may_use (watched_at items local_ty site) (presence site.place.local cells) ≡ b →
          (n : Bool) → free.never_at items local_ty site ≡ n →
          ((x : List (ℕ × Presence)) → is_bad_use (operands_used items local_ty args Go (feeding [] x)) ≡ true →
          RefusedAll items local_ty args x) → RefusedAll items local_ty (effects.Copied site ∷ args) cells
      by false m n k again = record {
        site = site;
        cells_after = cells;
        so = λ t more. ap (λ b. on_go (when b (BadUse site)
            (unless_never items local_ty (free.never_at items local_ty site)) (feeding t cells))
            (operands_used items local_ty args more)) m;
      }
      by true m false k again = refused_then (effects.Copied site) args cells cells
          (λ t. ap (λ b. when b (BadUse site) (unless_never items local_ty (free.never_at items local_ty site))
          (feeding t cells)) m ∙ ap (λ b. unless_never items local_ty b (feeding t cells)) k) (again cells) h
      by true m true k again = absurd (false≢true (sym (ap (λ b. is_bad_use (on_go (when b (BadUse site)
          (unless_never items local_ty (free.never_at items local_ty site)) (feeding [] cells))
          (operands_used items local_ty args Go))) m
          ∙ ap (λ b. is_bad_use (on_go (unless_never items local_ty b (feeding [] cells))
          (operands_used items local_ty args Go))) k) ∙ h))

module _ (setting : Setting) (number : ℕ) (targets : List Target) (uniques : List Addr) (base : State)
    (is_target : ℕ → Bool) (passed : Passed setting number targets uniques base is_target) (size : ℕ → ℕ)
    (sized : (body key : ℕ) (id : TyId) → setting.local_ty body key ≡ Some id → key < size body)
    (loose : setting.strict ≡ false) (dropping : List ℕ) (guards : List (Addr × ℕ))
    (deep : Each (λ (g : Addr × ℕ). g.0.depth < length base.activations) guards)
    (spaced : AllSpaced guards targets) (protects : ℕ → ℕ → Bool)
    (exact : (m : ℕ) (t : Target) → slice_get targets m ≡ Some t → t.unique ≡ true →
    Each (λ (g : Addr × ℕ). t.address ≡ g.0 → protects number t.local ≡ true) guards) where
  abbrev items : ItemTable
  items = setting.items

  abbrev local_ty : ℕ → Option TyId
  local_ty key = setting.local_ty number key

  abbrev R : State → List (ℕ × Presence) → Facts → Type 0
  R = Runs setting number targets uniques base is_target

  abbrev C : List ℕ → State → Type 0
  C = Counted setting number targets uniques base is_target passed size sized dropping guards deep

  abbrev takes : Facts → Operand → Bool
  takes = takes_well items local_ty is_target

  abbrev after : Operand → Facts → Facts
  after = after_operand items local_ty is_target

  -- how a body answers that keeps the account
  pub data Answered : Answer → Type 0 where
    gives : (value : Datum) (v : State) → InFlight size (serials value) dropping v → HeadsStand setting guards v →
        Answered (Returns value v)
    winds : (v : State) → InFlight size [] dropping v → HeadsStand setting guards v → Answered (Unwinds v)
    stops : (halt : Halt) (v : State) → IsAtMostOnce v.trace → Answered (HaltsIn halt v)

  module _ (run : Bodies) (w : State) (cells : List (ℕ × Presence)) (facts : Facts) (r : R w cells facts)
      (to : EffectSite) (params : List TyId) (result : TyId) (args : List Operand)
      (test : calls_well items local_ty is_target facts cells to params result args ≡ true)
      (answer : List Datum → State → Answer) (bodies : List ℕ) where
    abbrev last : Facts
    last = after_operands items local_ty is_target args facts

    abbrev names : List Naming
    names = named_by_all items local_ty is_target facts args

    abbrev known : Facts
    known = after_namings items local_ty is_target names last

    abbrev pub CountsSo : Type 0
    CountsSo = (ds : List Datum) (v : State) → MayRun setting params ds v →
        InFlight size (serials_of_args ds) dropping v → HeadsStand setting guards v →
        Each (TargetOk setting number targets uniques base is_target passed size sized loose dropping guards deep spaced protects exact bodies) (targets_of items 1 params ds) → Answered (answer ds v)

    abbrev pub CalledOut : Out State
    CalledOut = halting_if (values.never_at setting w to) Stuck (values.with_operands setting args w
        (λ ds v. answered setting to (answer ds v)))

    abbrev pub Freely : List Bool → Out AbstractState
    Freely t = halting_if (free.never_at items local_ty to) Unreachable
        (operands_used items local_ty args (returns_by_choice items local_ty to) (feeding t cells))

    -- what is counted where the call goes on, panics or ends
    pub record CallDone : Type 0 where
      pub went : (t : List Bool) → IsGo (Freely t) → (u : State) → CalledOut ≡ Go u → C [] u
      pub wound : (u : State) → CalledOut ≡ Unwind u → C [] u
      pub ended : (halt : Halt) (u : State) → CalledOut ≡ Halts halt u → MayLapse halt u → IsAtMostOnce u.trace

    stores : may_store items local_ty is_target known cells to.place ≡ true
    stores = first (may_store items local_ty is_target known cells to.place) _
        (first (may_store items local_ty is_target known cells to.place && option_map_or (same_id result)
        (id_of items local_ty is_target to.place) false) _ test)

    rest : (passes items local_ty is_target last facts cells params args
        && (all_apart items local_ty is_target names && none_taken items local_ty is_target args names)) ≡ true
    rest = second (may_store items local_ty is_target known cells to.place && option_map_or (same_id result)
        (id_of items local_ty is_target to.place) false) _ test

    stay : Each (Untouched setting number targets uniques base is_target passed args) names
    stay = all_stay setting number targets uniques base is_target passed args names (second (all_apart items local_ty is_target names) _
        (second (passes items local_ty is_target last facts cells params args) _ rest))

    module _ (answers : (ds : List Datum) (v : State) → MayRun setting params ds v →
        LeftSo setting (targets_of items 1 params ds) result v (answer ds v)) (counts : CountsSo) (c : C [] w) where
      -- the arguments are there
      module _ (ds : List Datum) (v : State) (e : evaluate_operands setting args w ≡ Some (ds, v))
          (cells' : List (ℕ × Presence)) (z : (t : List Bool) (more : AbstractState → Out AbstractState) →
          operands_used items local_ty args more (feeding t cells) ≡ more (feeding t cells')) (q : R v cells' last)
          (m : Moves setting number targets uniques base is_target passed (moves_any args) r.known.held r.known.older cells v cells')
          (marks : Marked setting number targets uniques base is_target passed size sized loose dropping guards deep spaced protects exact last cells (length r.known.older) m.now bodies 1 params names ds)
          (done : C (serials_of_args ds ++ []) v)
          (still : (key : ℕ) (steps : List Step) → itself_gone (presence_along steps (presence key cells)) ≡ true →
          itself_gone (presence_along steps (presence key cells')) ≡ true) where
        may : MayRun setting params ds v
        may = may_run setting number targets uniques base is_target passed run w cells facts r to params result args test answer ds v cells' q m
            (args_of setting number targets uniques base is_target passed size sized loose dropping guards deep spaced protects exact last cells (length r.known.older) m.now bodies 1 params names ds marks)

        answered_so : Answered (answer ds v)
        answered_so = counts ds v may
            (flying_alike size (serials_of_args ds ++ []) (serials_of_args ds) dropping v
            (λ k. times_append k (serials_of_args ds) [] ∙ (let x : times k (serials_of_args ds) + 0
            ≡ times k (serials_of_args ds) = omega arith in x)) done.flow) done.heads
            (targets_ok setting number targets uniques base is_target passed size sized loose dropping guards deep spaced protects exact last cells (length r.known.older) m.now bodies
            (as_many_older setting number targets uniques base is_target passed w cells facts r) 1 params names ds marks)

        is : CalledOut ≡ halting_if (values.never_at setting w to) Stuck (answered setting to (answer ds v))
        is = ap (λ o. halting_if (values.never_at setting w to) Stuck
            (or_stuck {A = List Datum × State} o (λ x. answered setting to (answer x.0 x.1)) w)) e

        store_goes : (t : List Bool) → IsGo (Freely t) → (t' : List Bool)
            × IsGo (free.store items local_ty to (feeding t' cells'))
        store_goes t g =
            let x = chosen_go t cells' (if free.never_at items local_ty to then Halts Infeasible
            else free.store items local_ty to)
            (go_past (free.never_at items local_ty to) (returns_by_choice items local_ty to (feeding t cells'))
            (subst (λ o. IsGo (halting_if (free.never_at items local_ty to) Unreachable o))
            (z t (returns_by_choice items local_ty to)) g)) in
            (x.0, by (free.never_at items local_ty to) x.0 x.1)
          where
            by : (n : Bool) (t' : List Bool) → IsGo ((if n then Halts Infeasible else free.store items local_ty to)
                (feeding t' cells')) → IsGo (free.store items local_ty to (feeding t' cells'))
            by true t' x = absurd x
            by false t' x = x

        go_so : (o : Answer) → LeftSo setting (targets_of items 1 params ds) result v o → Answered o → (t : List Bool) →
            IsGo (Freely t) → (u : State) →
            halting_if (values.never_at setting w to) Stuck (answered setting to o) ≡ Go u → C [] u
        go_so _ (returned value y l fit) (gives _ _ flow heads) t g u x =
            let s = store_goes t g in
            lands_at setting number targets uniques base is_target passed size sized loose dropping guards deep spaced w cells facts r known to stores y cells'
            (left_known setting number targets uniques base is_target passed run w cells facts r to params result args test answer ds v cells' q m
            (args_of setting number targets uniques base is_target passed size sized loose dropping guards deep spaced protects exact last cells (length r.known.older) m.now bodies 1 params names ds marks) y l)
            still s.0 s.1 value [] (record {
              flow = flying_alike size (serials value) (serials value ++ []) dropping y
                  (λ k. sym (times_append k (serials value) [] ∙ (let n : times k (serials value) + 0
                  ≡ times k (serials value) = omega arith in n))) flow;
              heads = heads;
            }) u (went_past (values.never_at setting w to) (put setting to value y) u x)
        go_so _ (unwound y l) (winds _ flow heads) t g u x =
            absurd (let k = went_past (values.never_at setting w to) (Unwind y) u x in let never : ⊥ = cc in never)
        go_so _ (halted halt y h) (stops _ _ once) t g u x =
            absurd (let k = went_past (values.never_at setting w to) (Halts halt y) u x in let never : ⊥ = cc in never)

        wind_same : {a b : State} → Unwind a ≡ Unwind b → a ≡ b
        wind_same k = cc

        wind_so : (o : Answer) → LeftSo setting (targets_of items 1 params ds) result v o → Answered o → (u : State) →
            halting_if (values.never_at setting w to) Stuck (answered setting to o) ≡ Unwind u → C [] u
        wind_so _ (returned value y l fit) (gives _ _ flow heads) u x =
            absurd (put_never setting to value y u (wound_past (values.never_at setting w to) (put setting to value y) u x))
        wind_so _ (unwound y l) (winds _ flow heads) u x =
            subst (C []) (wind_same (wound_past (values.never_at setting w to) (Unwind y) u x))
            (record { flow = flow; heads = heads })
        wind_so _ (halted halt y h) (stops _ _ once) u x =
            absurd (let k = wound_past (values.never_at setting w to) (Halts halt y) u x in let never : ⊥ = cc in never)

        halts_past : (b : Bool) (halt other : Halt) (y u : State) → halting_if b Stuck (Halts halt y) ≡ Halts other u →
            y ≡ u
        halts_past true halt other y u k = cc
        halts_past false halt other y u k = cc

        end_so : (o : Answer) → LeftSo setting (targets_of items 1 params ds) result v o → Answered o → (halt : Halt)
            (u : State) → halting_if (values.never_at setting w to) Stuck (answered setting to o) ≡ Halts halt u →
            MayLapse halt u → IsAtMostOnce u.trace
        end_so _ (returned value y l fit) (gives _ _ flow heads) halt u x lapse =
            absurd (no_lapse _ halt u (stuck_if (values.never_at setting w to) (put setting to value y)
            (put_so setting to value y)) x lapse)
        end_so _ (unwound y l) (winds _ flow heads) halt u x lapse =
            absurd (no_lapse _ halt u (stuck_if (values.never_at setting w to) (Unwind y) tt) x lapse)
        end_so _ (halted other y h) (stops _ _ once) halt u x lapse =
            subst (λ (s : State). IsAtMostOnce s.trace) (halts_past (values.never_at setting w to) other halt y u x) once

        done_so : CallDone
        done_so = record {
          went = λ t g u x. go_so (answer ds v) (answers ds v may) answered_so t g u (sym is ∙ x);
          wound = λ u x. wind_so (answer ds v) (answers ds v may) answered_so u (sym is ∙ x);
          ended = λ halt u x lapse. end_so (answer ds v) (answers ds v may) answered_so halt u (sym is ∙ x) lapse;
        }

      -- where no argument is refused
      pub call_done : marked items protects number bodies 1 facts args ≡ true →
          is_bad_use (operands_used items local_ty args Go (feeding [] cells)) ≡ false → CallDone
      call_done marks fine =
          by (args_out setting number targets uniques base is_target passed size sized loose dropping guards deep spaced protects exact last cells bodies args params facts w cells r 1
          (first (passes items local_ty is_target last facts cells params args) _ rest) stay marks [] c)
        where
          by : ArgsOut setting number targets uniques base is_target passed size sized loose dropping guards deep spaced protects exact last cells bodies w cells facts r 1 params args [] → CallDone
          by (args_refused site cells' z) = absurd (false≢true (sym fine ∙ ap is_bad_use (z [] Go)))
          by (args_there ds v e cells' z q m marks done still) = done_so ds v e cells' z q m marks done still

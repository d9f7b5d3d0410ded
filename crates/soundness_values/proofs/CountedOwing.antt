-- What the induction on ticks owes of numbers: how an activation begins, and how it returns, panics, halts or has no
-- tick. What is left is what each effect does to the account (`Effects`).
use Rattle.std.proofs.Common.{◌≡◌, ◌⊎◌, inl, inr, ℕ, zero, suc, ◌+◌, ◌<◌, ◌≤◌, Bool, true, false, List, [], ◌∷◌, length, Option, Some, None, refl, ap, sym, ◌∙◌, subst, arith}
use Rattle.std.specs.Prelude.{slice_get}
use Rattle.std.specs.Option.{option_map_or}
use Rattle.mir_base.specs.declared.trace.Event.{Event}
use Rattle.mir_base.specs.Once.{IsAtMostOnce}
use Rattle.mir_ty.specs.declared.def.Sig.{Sig}
use Rattle.mir_ty.specs.declared.ty.TyId.{TyId}
use Rattle.mir_ty.specs.Facts.{needs_drop}
use Rattle.store_model.specs.declared.address.Addr.{Addr}
use Rattle.store_model.specs.Values.Datum.{Datum}
use Rattle.store_model.specs.Abstract.Effects.{presence}
use Rattle.store_model.specs.Abstract.Presence.{Presence, itself_gone}
use Rattle.store_model.specs.Effects.{Halt, Aborted, OutOfTicks}
use Rattle.store_model.specs.Concrete.Bodies.{cells_of_youngest}
use Rattle.store_model.specs.Concrete.Location.{Setting, OfType}
use Rattle.store_model.specs.Concrete.State.{State, Answer, Returns, Unwinds, HaltsIn, Cells, cell, with_event, without_activation, older_of}
use Rattle.src_meaning.specs.Locals.OfBody.{local_ty}
use Rattle.src_meaning.specs.Programs.{setting_of, arguments_from}
use Rattle.typed_tree.specs.Tree.{BodyTree, ProgramTree}
use Rattle.well_typed.specs.Program.{WellTyped}
use Rattle.soundness_values.proofs.AlsoTests.{Also}
use Rattle.soundness_values.proofs.Bodies.{begun}
use Rattle.soundness_values.proofs.BodyHeads.{size, sized, typed_below, types_are, heads_of}
use Rattle.soundness_values.proofs.Checked.{Checking}
use Rattle.soundness_values.proofs.Contracts.{targets_of, uniques_of, MayRun}
use Rattle.soundness_values.proofs.Counts.{in_value}
use Rattle.soundness_values.proofs.CountedContract.{dropping_by, Before, Ended, returned, unwound, halted, ends_at, before_ends, heads_deep, heads_begin, heads_end}
use Rattle.soundness_values.proofs.Dropped.{Lapses}
use Rattle.soundness_values.proofs.Entering.{as_many_args}
use Rattle.soundness_values.proofs.Facts.{Facts, each_more}
use Rattle.soundness_values.proofs.Fits.{Fits}
use Rattle.soundness_values.proofs.Forgotten.{InFlight}
use Rattle.soundness_values.proofs.Guards.{HeadsStand}
use Rattle.soundness_values.proofs.Known.{Known}
use Rattle.soundness_values.proofs.NumbersHeld.{args_held, none_below, first_alone, empty_of}
use Rattle.soundness_values.proofs.CountedTakes.{known_older}
use Rattle.soundness_values.proofs.Owing.{starting_of, returned_so, panicked_so, Runs, is_so, may_of, related_so, known_so}
use Rattle.soundness_values.proofs.Relating.{Kept, feeds}
use Rattle.soundness_values.proofs.Tally.{begins, returns, panics_out}

module _ (p : ProgramTree) (protects : ℕ → ℕ → Bool) (also : ℕ → Also) where
  abbrev setting : Setting
  setting = setting_of p

  abbrev BeforeCall : List ℕ → List (Addr × ℕ) → Event → ℕ → List Datum → Sig → State → Type 0
  BeforeCall dropping guards event n args sig w =
      Before setting (size p) (sized p) protects dropping guards event n args (targets_of p.items 1 sig.params args) w

  -- how a body answers
  abbrev pub CountsAnswer : Event → ℕ → List Datum → State → Answer → Type 0
  CountsAnswer event n args w answer = (sig : Sig) → slice_get p.items.bodies n ≡ Some sig → (dropping : List ℕ)
      (guards : List (Addr × ℕ)) → BeforeCall dropping guards event n args sig w →
      Ended setting (size p) (sized p) protects dropping guards event answer

  -- what is counted of a state of its activation
  abbrev pub CountsState : Event → ℕ → List Datum → State → State → Kept → Type 0
  CountsState event n args w v k = (sig : Sig) → slice_get p.items.bodies n ≡ Some sig → (dropping : List ℕ)
      (guards : List (Addr × ℕ)) → BeforeCall dropping guards event n args sig w →
      InFlight (size p) [] (dropping_by event dropping) v × HeadsStand setting guards v

  abbrev pub CountsEnd : Event → ℕ → List Datum → State → State → Type 0
  CountsEnd event n args w v = (sig : Sig) → slice_get p.items.bodies n ≡ Some sig → (dropping : List ℕ)
      (guards : List (Addr × ℕ)) → BeforeCall dropping guards event n args sig w → IsAtMostOnce v.trace

  -- a local holds nothing that would need dropping
  abbrev pub LocalClear : BodyTree → Checking Facts → ℕ → Type 0
  LocalClear b v local = (itself_gone (presence local v.free.cells) ≡ true)
      ⊎ (option_map_or (needs_drop p.items) (local_ty p.items b local) false ≡ false)

  abbrev pub ClearAtReturn : BodyTree → Checking Facts → Type 0
  ClearAtReturn b v = (local : ℕ) → 0 < local → LocalClear b v local

  abbrev pub ClearAtPanic : BodyTree → Checking Facts → Type 0
  ClearAtPanic b v = (local : ℕ) → LocalClear b v local

  module _ (typed : WellTyped p) where
    abbrev RunsIn : Event → ℕ → List Datum → State → State → Kept → Type 0
    RunsIn = Runs p CountsAnswer CountsState CountsEnd also ClearAtReturn ClearAtPanic typed

    -- ---- as it begins

    -- each argument has its local
    enough : (n : ℕ) (sig : Sig) (b : BodyTree) (args : List Datum) (w : State) →
        slice_get p.items.bodies n ≡ Some sig → slice_get p.bodies n ≡ Some b → MayRun setting sig.params args w →
        1 + length args ≤ size p n
    enough n sig b args w e eb may = by args (as_many_args setting sig.params args may.whole)
      where
        above : (l : List TyId) (m : ℕ) → length l ≡ suc m → (id : TyId) × (slice_get l m ≡ Some id)
        above [] m x = absurd (let never : ⊥ = cc in never)
        above (id ∷ l) zero x = (id, refl)
        above (id ∷ l) (suc m) x = above l m (less x)
          where
            less : {a b : ℕ} → suc a ≡ suc b → a ≡ b
            less z = cc

        by : (ds : List Datum) → length ds ≡ length sig.params → 1 + length ds ≤ size p n
        by [] x =
            let first = sized p n 0 sig.result ((heads_of p typed).head n sig b e eb).0.answer in
            let none : length {A = Datum} [] ≡ 0 = refl in
            omega arith
        by (d ∷ ds) x =
            let last = above sig.params (length ds) (sym x) in
            let there = sized p n (1 + length ds) last.0
            (((heads_of p typed).head n sig b e eb).0.typed (length ds) last.0 last.1) in
            let count : length (d ∷ ds) ≡ suc (length ds) = refl in
            omega arith

    pub counts_start : (event : Event) (n ticks : ℕ) (b : BodyTree) (args : List Datum) (w : State) →
        slice_get p.bodies n ≡ Some b → (sig : Sig) → slice_get p.items.bodies n ≡ Some sig →
        MayRun setting sig.params args w → CountsState event n args w (begun event n args ticks w) (starting_of p b)
    counts_start event n ticks b args w eb sig e may sig' e' dropping guards before = (
      begins (size p) dropping event n args ticks w before.makes_none before.was_made
          (λ k. args_held k args 1 (size p n) (enough n sig b args w e eb may)) before.counted,
      heads_begin setting (size p) (sized p) protects guards w (begun event n args ticks w)
          (record { body = n; cells = arguments_from 1 args }) refl before.heads,
    )

    -- ---- as it ends

    -- a local that is clear holds no number
    clear_empty : (k n : ℕ) (b : BodyTree) → slice_get p.bodies n ≡ Some b → (c : Cells) (cells : List (ℕ × Presence)) →
        ((key : ℕ) (id : TyId) → setting.local_ty n key ≡ Some id →
        Fits p.items (OfType id) (presence key cells) (cell key c)) → (v : Checking Facts) → v.free.cells ≡ cells →
        (key : ℕ) → key < size p n → LocalClear b v key → in_value k (cell key c) ≡ 0
    clear_empty k n b eb c cells fits v same key l clear =
        let id = typed_below p n key l in
        empty_of p.items k (cell key c) id.0 (presence key cells) (by id.0 id.1 clear) (fits key id.0 id.1)
      where
        by : (id : TyId) → setting.local_ty n key ≡ Some id → LocalClear b v key →
            (itself_gone (presence key cells) ≡ true) ⊎ (needs_drop p.items id ≡ false)
        by id is (inl gone) = inl (subst (λ x. itself_gone (presence key x) ≡ true) same gone)
        by id is (inr free_of) = inr (sym (ap (λ o. option_map_or (needs_drop p.items) o false)
            (sym (ap (λ (f : ℕ → Option TyId). f key) (types_are p n b eb)) ∙ is)) ∙ free_of)

    -- ---- what is counted of an activation, and where it ends

    counted_of : (event : Event) (n : ℕ) (args : List Datum) (w v : State) (k : Kept) → RunsIn event n args w v k →
        CountsState event n args w v k
    counted_of event n args w v k (is_so sig e b eb may r m) = m

    module _ (event : Event) (n : ℕ) (b : BodyTree) (args : List Datum) (w v : State) (k : Kept)
        (eb : slice_get p.bodies n ≡ Some b) (runs : RunsIn event n args w v k) where
      abbrev KnownNow : Sig → Type 0
      KnownNow sig = Known setting n (targets_of p.items 1 sig.params args)
          (uniques_of (targets_of p.items 1 sig.params args)) w v k.0

      known_now : (sig : Sig) → slice_get p.items.bodies n ≡ Some sig → k.1.refilled ≡ None → KnownNow sig
      known_now sig e none =
          let may = may_of p CountsAnswer CountsState CountsEnd also ClearAtReturn ClearAtPanic typed event n args w v k runs
          sig e in
          known_so p CountsAnswer CountsState CountsEnd also ClearAtReturn ClearAtPanic typed n args w sig e b eb may v k
          (related_so p CountsAnswer CountsState CountsEnd also ClearAtReturn ClearAtPanic typed event n args w v k runs sig
          e b eb may) none

      heads_left : (told : Event) (sig : Sig) → KnownNow sig → (dropping : List ℕ) (guards : List (Addr × ℕ)) →
          BeforeCall dropping guards event n args sig w → HeadsStand setting guards v →
          HeadsStand setting guards (with_event told (without_activation v))
      heads_left told sig known dropping guards before heads =
          heads_end setting (size p) (sized p) protects guards v (with_event told (without_activation v))
          (record { body = n; cells = known.held })
          (known.is_there ∙ ap (λ l. (record { body = n; cells = known.held }) ∷ l) (sym (ap older_of known.is_there)))
          (each_more (λ (g : Addr × ℕ). g.0.depth < length w.activations)
          (λ (g : Addr × ℕ). g.0.depth < length (older_of v.activations)) guards
          (λ g l. let many = known_older setting n (targets_of p.items 1 sig.params args)
          (uniques_of (targets_of p.items 1 sig.params args)) w v k.0 known in
          let same : length (older_of v.activations) ≡ length known.older =
          ap (λ l. length (older_of l)) known.is_there in
          omega arith)
          (heads_deep setting (size p) (sized p) protects guards w before.heads)) heads

      -- by its return, with its result
      pub counts_return : returned_so p also ClearAtReturn ClearAtPanic b (feeds [] k) → CountsAnswer event n args w
          (Returns (cell 0 (cells_of_youngest v.activations)) (with_event (Event.Return n) (without_activation v)))
      counts_return h sig e dropping guards before =
          let known = known_now sig e h.0 in
          let c = counted_of event n args w v k runs sig e dropping guards before in
          returned (cell 0 (cells_of_youngest v.activations)) (with_event (Event.Return n) (without_activation v))
          (returns (size p) (dropping_by event dropping) v n known.held known.older known.is_there
          (λ m. first_alone m (size p n) known.held
          (sized p n 0 sig.result ((heads_of p typed).head n sig b e eb).0.answer)
          (λ key a l. clear_empty m n b eb known.held k.0 known.fits (feeds [] k) refl key l (h.2 key a))) c.0)
          (heads_left (Event.Return n) sig known dropping guards before c.1)

      -- by a panic, with nothing
      pub counts_panic : panicked_so p also ClearAtReturn ClearAtPanic b (feeds [] k) → CountsAnswer event n args w
          (Unwinds (with_event (Event.Unwind n) (without_activation v)))
      counts_panic h sig e dropping guards before =
          let known = known_now sig e h.0 in
          let c = counted_of event n args w v k runs sig e dropping guards before in
          unwound (with_event (Event.Unwind n) (without_activation v))
          (panics_out (size p) (dropping_by event dropping) v n known.held known.older known.is_there
          (λ m. none_below m (size p n) known.held
          (λ key l. clear_empty m n b eb known.held k.0 known.fits (feeds [] k) refl key l (h.1 key))) c.0)
          (heads_left (Event.Unwind n) sig known dropping guards before c.1)

    -- at any point
    pub counts_at : (event : Event) (n : ℕ) (args : List Datum) (w v : State) (k : Kept) → RunsIn event n args w v k →
        CountsEnd event n args w v
    counts_at event n args w v k runs sig e dropping guards before =
        let c = counted_of event n args w v k runs sig e dropping guards before in
        ends_at setting (size p) (sized p) protects (dropping_by event dropping) [] guards v before.at_most before.covered
        c.1 c.0

    pub counts_stop : (event : Event) (n : ℕ) (args : List Datum) (w v : State) (k : Kept) (halt : Halt) →
        RunsIn event n args w v k → CountsAnswer event n args w (HaltsIn halt v)
    counts_stop event n args w v k halt runs sig e dropping guards before =
        halted halt v (counts_at event n args w v k runs sig e dropping guards before)

    pub counts_lapse : (event : Event) (n : ℕ) (args : List Datum) (w v : State) (halt : Halt) →
        Lapses (CountsEnd event n args w) halt v → CountsAnswer event n args w (HaltsIn halt v)
    counts_lapse event n args w v Aborted h sig e dropping guards before = halted Aborted v (h sig e dropping guards before)
    counts_lapse event n args w v OutOfTicks h sig e dropping guards before =
        halted OutOfTicks v (h sig e dropping guards before)
    counts_lapse event n args w v other h sig e dropping guards before = absurd h

    pub counts_no_tick : (event : Event) (n : ℕ) (args : List Datum) (w : State) →
        CountsAnswer event n args w (HaltsIn OutOfTicks w)
    counts_no_tick event n args w sig e dropping guards before = halted OutOfTicks w
        (before_ends setting (size p) (sized p) protects dropping guards event n args (targets_of p.items 1 sig.params args)
        w before)

-- What the induction on ticks owes, but for the statement of the pass over the forms: each activation of a body that
-- was entered by the contract follows a checked free run, and leaves the state by the contract. What more is said of
-- the states of an activation, and of how it ends, may be added.
use Rattle.std.proofs.Common.{◌≡◌, ℕ, suc, Bool, true, List, [], length, Option, Some, None, refl, sym, ◌∙◌, subst}
use Rattle.std.specs.Prelude.{slice_get}
use Rattle.std.specs.List.{range_with_len}
use Rattle.std.proofs.lemmas.Option.{none-some}
use Rattle.mir_base.specs.declared.trace.Event.{Event}
use Rattle.mir_ty.specs.declared.def.Sig.{Sig}
use Rattle.mir_ty.specs.declared.ty.TyId.{TyId}
use Rattle.mir_ty.specs.ItemTable.{ItemTable}
use Rattle.store_model.proofs.Effects.Following.{FollowsEffects}
use Rattle.store_model.specs.declared.address.Addr.{Addr}
use Rattle.store_model.specs.Values.Datum.{Datum}
use Rattle.store_model.specs.Effects.{Halt, Aborted, OutOfTicks, Out, Effects}
use Rattle.store_model.specs.Abstract.Effects.{presence, params_present, abstract_effects}
use Rattle.store_model.specs.Abstract.Presence.{Presence, all_present}
use Rattle.store_model.specs.Concrete.Bodies.{cells_of_youngest}
use Rattle.store_model.specs.Concrete.Effects.{concrete_effects}
use Rattle.store_model.specs.Concrete.Location.{Setting}
use Rattle.store_model.specs.Concrete.State.{State, Bodies, Answer, Returns, Unwinds, HaltsIn, cell, with_event, without_activation}
use Rattle.src_meaning.specs.Locals.OfBody.{local_ty, local_of}
use Rattle.src_meaning.specs.Locals.Effects.{at_locals}
use Rattle.src_meaning.specs.Programs.{activation, setting_of}
use Rattle.typed_tree.specs.Tree.{BodyTree, ProgramTree}
use Rattle.well_typed.specs.Program.{WellTyped}
use Rattle.soundness_values.proofs.AlsoTests.{Also, nothing_else, checks_also}
use Rattle.soundness_values.proofs.Bodies.{Contract, Keep, Owed, begun}
use Rattle.soundness_values.proofs.BodyHeads.{size, sized, types_are, Heads, heads_of}
use Rattle.soundness_values.proofs.Checked.{Checking, checked_effects}
use Rattle.soundness_values.proofs.CheckedBodies.{checks_of, is_reference_param}
use Rattle.soundness_values.proofs.Contracts.{targets_of, uniques_of, MayRun, Leaves, LeftSo, returned, unwound, halted}
use Rattle.soundness_values.proofs.DropCalls.{drops_keep}
use Rattle.soundness_values.proofs.DropHeads.{drop_heads_of}
use Rattle.soundness_values.proofs.Dropped.{Lapses}
use Rattle.soundness_values.proofs.EffectsFollow.{BodiesKeep}
use Rattle.soundness_values.proofs.Entering.{each_from, as_many_args, passed_at, runs_at}
use Rattle.soundness_values.proofs.Facts.{Facts, no_facts}
use Rattle.soundness_values.proofs.Feeding.{fed}
use Rattle.soundness_values.proofs.Known.{Target, StandsFor, Known}
use Rattle.soundness_values.proofs.LadderEnds.{MayEnd}
use Rattle.soundness_values.proofs.MethodHeads.{methods_of}
use Rattle.soundness_values.proofs.NeverStuck as never_stuck
use Rattle.soundness_values.proofs.NeverStuck.{Shows}
use Rattle.soundness_values.proofs.Relating.{Kept, feeds}
use Rattle.soundness_values.proofs.Running as running
use Rattle.soundness_values.proofs.Running.{Passed}
use Rattle.soundness_values.proofs.Simulation.{Related, as_known, as_emptied, checks_by}
use Rattle.soundness_values.proofs.Virtual.{virtual_keeps}
use Rattle.soundness_values.proofs.Starts.{known_at_end, result_is_whole}

module _ (p : ProgramTree) where
  abbrev items : ItemTable
  items = p.items

  abbrev setting : Setting
  setting = setting_of p

  -- ---- the statement of the pass

  abbrev pub starting_of : BodyTree → Kept
  starting_of b = (params_present (range_with_len 1 (length b.params)), no_facts)

  -- the checked run of a body, with the tests beside
  module _ (also : ℕ → Also) where
    abbrev pub checked_of : (n : ℕ) (b : BodyTree) → slice_get p.bodies n ≡ Some b → Effects (Checking Facts)
    checked_of n b e = checked_effects (checks_also (also n) (checks_of items b))
        (abstract_effects items (local_ty items b))

    abbrev pub checked_body : (n fuel : ℕ) (b : BodyTree) → slice_get p.bodies n ≡ Some b → List Bool →
        Out (Checking Facts)
    checked_body n fuel b e list =
        activation items (at_locals (local_of items b) (checked_of n b e)) fuel b (feeds list (starting_of b))

  -- the checked run of a body never complains, and its result is whole where it returns
  abbrev pub PassShows : Type 0
  PassShows = (n fuel : ℕ) (b : BodyTree) (e : slice_get p.bodies n ≡ Some b) (list : List Bool) →
      Shows {V = Checking Facts} (λ v. v.lost) (λ v. v.free.choices)
      (λ v. (v.facts.refilled ≡ None) × (all_present (presence 0 v.free.cells) ≡ true))
      (λ v. v.facts.refilled ≡ None) (checked_body (λ m. nothing_else) n fuel b e list)

  module _ (also : ℕ → Also) (AtReturn AtPanic : BodyTree → Checking Facts → Type 0) where
    -- and more, where it returns and where it panics
    abbrev pub returned_so : BodyTree → Checking Facts → Type 0
    returned_so b v = (v.facts.refilled ≡ None) × (all_present (presence 0 v.free.cells) ≡ true) × AtReturn b v

    abbrev pub panicked_so : BodyTree → Checking Facts → Type 0
    panicked_so b v = (v.facts.refilled ≡ None) × AtPanic b v

    abbrev pub PassShowsMore : Type 0
    PassShowsMore = (n fuel : ℕ) (b : BodyTree) (e : slice_get p.bodies n ≡ Some b) (list : List Bool) →
        Shows {V = Checking Facts} (λ v. v.lost) (λ v. v.free.choices) (returned_so b) (panicked_so b)
        (checked_body also n fuel b e list)

  module _ (Extra : Event → ℕ → List Datum → State → Answer → Type 0)
      (More : Event → ℕ → List Datum → State → State → Kept → Type 0)
      (Ended : Event → ℕ → List Datum → State → State → Type 0)
      (also : ℕ → Also) (AtReturn AtPanic : BodyTree → Checking Facts → Type 0) where
    -- the contract of bodies
    abbrev pub calls_keep : Contract
    calls_keep = record {
      pre = λ event n args w.
          (sig : Sig) × (slice_get items.bodies n ≡ Some sig) × MayRun setting sig.params args w;
      post = λ event n args w answer. (sig : Sig) → slice_get items.bodies n ≡ Some sig →
          LeftSo setting (targets_of items 1 sig.params args) sig.result w answer × Extra event n args w answer;
    }

    module _ (typed : WellTyped p) where
      -- the heads of bodies
      abbrev pub heads : Heads p
      heads = heads_of p typed

      module _ (n : ℕ) (args : List Datum) (w : State) (sig : Sig) (e : slice_get items.bodies n ≡ Some sig)
          (b : BodyTree) (eb : slice_get p.bodies n ≡ Some b) (may : MayRun setting sig.params args w) where
        abbrev pub targets : List Target
        targets = targets_of items 1 sig.params args

        abbrev pub as_passed : Passed setting n (targets_of items 1 sig.params args)
            (uniques_of (targets_of items 1 sig.params args)) w (is_reference_param items b)
        as_passed = passed_at setting n (is_reference_param items b) sig.params sig.result (heads.head n sig b e eb).0
            args w may

        abbrev pub RelatedIn : State → Kept → Type 0
        RelatedIn = Related setting n (targets_of items 1 sig.params args)
            (uniques_of (targets_of items 1 sig.params args)) w (is_reference_param items b) as_passed

      -- a state of an activation, with what is known of it, and what more is said
      pub data Runs (event : Event) (n : ℕ) (args : List Datum) (w : State) (v : State) (k : Kept) : Type 0 where
        is_so : (sig : Sig) (e : slice_get items.bodies n ≡ Some sig) (b : BodyTree)
            (eb : slice_get p.bodies n ≡ Some b) (may : MayRun setting sig.params args w) →
            RelatedIn n args w sig e b eb may v k → More event n args w v k → Runs event n args w v k

      -- by whichever proof that the call may be made
      pub related_by : (n : ℕ) (targets : List Target) (uniques : List Addr) (w : State) (is_target : ℕ → Bool)
          (one other : Passed setting n targets uniques w is_target) (v : State) (k : Kept) →
          Related setting n targets uniques w is_target one v k → Related setting n targets uniques w is_target other v
          k
      related_by n targets uniques w is_target one other v k (as_known none r) = as_known none r
      related_by n targets uniques w is_target one other v k (as_emptied hole is h) = as_emptied hole is (record {
        before = h.before;
        cells_before = h.cells_before;
        runs = h.runs;
        standing = h.standing;
        reached = h.reached;
        may = h.may;
        emptied = h.emptied;
        cells_are = h.cells_are;
      })

      some_sig : {a b : Sig} → Some a ≡ Some b → a ≡ b
      some_sig x = cc

      some_body : {a b : BodyTree} → Some a ≡ Some b → a ≡ b
      some_body x = cc

      pub related_so : (event : Event) (n : ℕ) (args : List Datum) (w v : State) (k : Kept) → Runs event n args w v k →
          (sig : Sig) (e : slice_get items.bodies n ≡ Some sig) (b : BodyTree) (eb : slice_get p.bodies n ≡ Some b)
          (may : MayRun setting sig.params args w) → RelatedIn n args w sig e b eb may v k
      related_so event n args w v k (is_so sig' e' b' eb' may' r m) sig e b eb may =
          by sig (some_sig (sym e' ∙ e)) b (some_body (sym eb' ∙ eb)) e eb may
        where
          by : (sig : Sig) → sig' ≡ sig → (b : BodyTree) → b' ≡ b → (e : slice_get items.bodies n ≡ Some sig)
              (eb : slice_get p.bodies n ≡ Some b) (may : MayRun setting sig.params args w) →
              RelatedIn n args w sig e b eb may v k
          by sig same b also = subst (λ (s : Sig). (e : slice_get items.bodies n ≡ Some s)
              (eb : slice_get p.bodies n ≡ Some b) (may : MayRun setting s.params args w) →
              RelatedIn n args w s e b eb may v k) same
              (subst (λ (c : BodyTree). (e : slice_get items.bodies n ≡ Some sig')
              (eb : slice_get p.bodies n ≡ Some c) (may : MayRun setting sig'.params args w) →
              RelatedIn n args w sig' e c eb may v k) also
              (λ e eb may. related_by n (targets_of items 1 sig'.params args)
              (uniques_of (targets_of items 1 sig'.params args)) w (is_reference_param items b')
              (as_passed n args w sig' e' b' eb' may') (as_passed n args w sig' e b' eb may) v k r))

      pub more_so : (event : Event) (n : ℕ) (args : List Datum) (w v : State) (k : Kept) → Runs event n args w v k →
          More event n args w v k
      more_so event n args w v k (is_so sig e b eb may r m) = m

      pub may_of : (event : Event) (n : ℕ) (args : List Datum) (w v : State) (k : Kept) → Runs event n args w v k →
          (sig : Sig) → slice_get items.bodies n ≡ Some sig → MayRun setting sig.params args w
      may_of event n args w v k (is_so sig' e' b eb may r m) sig e =
          subst (λ (s : Sig). MayRun setting s.params args w) (some_sig (sym e' ∙ e)) may

      -- ---- how an activation ends

      pub known_so : (n : ℕ) (args : List Datum) (w : State) (sig : Sig) (e : slice_get items.bodies n ≡ Some sig)
          (b : BodyTree) (eb : slice_get p.bodies n ≡ Some b) (may : MayRun setting sig.params args w) (v : State)
          (k : Kept) → RelatedIn n args w sig e b eb may v k → k.1.refilled ≡ None →
          Known setting n (targets_of items 1 sig.params args) (uniques_of (targets_of items 1 sig.params args)) w v k.0
      known_so n args w sig e b eb may v k (as_known none r) h = r.known
      known_so n args w sig e b eb may v k (as_emptied hole is x) h = absurd (none-some hole (sym h ∙ is))

      leaves_so : (event : Event) (n : ℕ) (w v : State) (cells : List (ℕ × Presence)) (ts : List Target) →
          Known setting n ts (uniques_of ts) w v cells → Leaves setting ts w (with_event event (without_activation v))
      leaves_so event n w v cells ts k =
          let end = known_at_end setting n ts (uniques_of ts) event w v cells k in
          record {
            news = end.values;
            many = end.many;
            frame = end.frame;
            stands = each_from (λ t. StandsFor setting 0 t (with_event event (without_activation v))) ts
                (λ m t at. let s = end.stands m t at in
                record {
                  standing = s.standing;
                  stands = s.stands;
                  of_type = s.of_type;
                  by_impl = s.by_impl;
                  whole = s.whole;
                });
          }

      may_end : (ended : State → Type 0) (halt : Halt) (v : State) → Lapses ended halt v → MayEnd halt
      may_end ended Aborted v h = tt
      may_end ended OutOfTicks v h = tt
      may_end ended other v h = h

      as_may_end : (halt : Halt) → never_stuck.MayEnd halt → MayEnd halt
      as_may_end Aborted h = tt
      as_may_end OutOfTicks h = tt
      as_may_end other h = h

      -- the checked run, by the types of its locals
      abbrev pub checked_by : (n : ℕ) → BodyTree → (ℕ → Option TyId) → Effects (Checking Facts)
      checked_by n b lt = checked_effects (checks_also (also n) (checks_by items lt (is_reference_param items b)))
          (abstract_effects items lt)

      -- what bodies keep that keep the contract
      module _ (run : Bodies) (keep : Keep calls_keep run) where
        plain_keeps : (m : ℕ) (sig : Sig) → slice_get items.bodies m ≡ Some sig → (ds : List Datum) (v : State) →
            MayRun setting sig.params ds v → LeftSo setting (targets_of items 1 sig.params ds) sig.result v
            (run (Event.Call m) m ds v)
        plain_keeps m sig e ds v may = (keep (Event.Call m) m ds v (sig, e, may) sig e).0

        drop_keeps : (event : Event) (m : ℕ) (sig : Sig) (ds : List Datum) (v : State) →
            slice_get items.bodies m ≡ Some sig → MayRun setting sig.params ds v →
            LeftSo setting (targets_of items 1 sig.params ds) sig.result v (run event m ds v)
        drop_keeps event m sig ds v e may = (keep event m ds v (sig, e, may) sig e).0

        pub bodies_keep_so : (n : ℕ) (args : List Datum) (w : State) (sig : Sig)
            (e : slice_get items.bodies n ≡ Some sig) (b : BodyTree) (eb : slice_get p.bodies n ≡ Some b)
            (may : MayRun setting sig.params args w) → BodiesKeep setting n (targets_of items 1 sig.params args)
            (uniques_of (targets_of items 1 sig.params args)) w (is_reference_param items b)
            (as_passed n args w sig e b eb may) run (size p) (sized p)
        bodies_keep_so n args w sig e b eb may = record {
          plain = plain_keeps;
          virtual = λ trait_no method head h. virtual_keeps setting run plain_keeps trait_no method head.0 head.1
              (methods_of p typed trait_no method head h);
          drops = drops_keep setting (size p) (sized p) run drop_keeps (λ f of h found. drop_heads_of p typed f of h);
        }

      -- what is left: the pass over the forms, and what more is said
      pub record Owing : Type 1 where
        pub shows : PassShowsMore also AtReturn AtPanic
        pub more_starts : (event : Event) (n ticks : ℕ) (b : BodyTree) (args : List Datum) (w : State) →
            slice_get p.bodies n ≡ Some b → w.ticks ≡ suc ticks → calls_keep.pre event n args w →
            More event n args w (begun event n args ticks w) (starting_of b)
        pub follow : (run : Bodies) → Keep calls_keep run → (fuel : ℕ) (event : Event) (n : ℕ) (args : List Datum)
            (w : State) (sig : Sig) (e : slice_get items.bodies n ≡ Some sig) (b : BodyTree)
            (eb : slice_get p.bodies n ≡ Some b) (may : MayRun setting sig.params args w) →
            FollowsEffects (fed Kept feeds (Runs event n args w) (Lapses (Ended event n args w)))
            (concrete_effects setting run fuel) (checked_by n b (λ key. setting.local_ty n key))
        pub more_returns : (event : Event) (n : ℕ) (b : BodyTree) (args : List Datum) (w v : State) (k : Kept) →
            slice_get p.bodies n ≡ Some b → Runs event n args w v k → returned_so also AtReturn AtPanic b (feeds [] k) → Extra event n args w
            (Returns (cell 0 (cells_of_youngest v.activations)) (with_event (Event.Return n) (without_activation v)))
        pub more_panics : (event : Event) (n : ℕ) (b : BodyTree) (args : List Datum) (w v : State) (k : Kept) →
            slice_get p.bodies n ≡ Some b → Runs event n args w v k → panicked_so also AtReturn AtPanic b (feeds [] k) → Extra event n args w
            (Unwinds (with_event (Event.Unwind n) (without_activation v)))
        pub more_stops : (event : Event) (n : ℕ) (b : BodyTree) (args : List Datum) (w v : State) (k : Kept)
            (halt : Halt) → never_stuck.MayEnd halt → Runs event n args w v k → Extra event n args w (HaltsIn halt v)
        pub more_lapses : (event : Event) (n : ℕ) (args : List Datum) (w v : State) (halt : Halt) →
            Lapses (Ended event n args w) halt v → Extra event n args w (HaltsIn halt v)
        pub more_ticks : (event : Event) (n : ℕ) (args : List Datum) (w : State) → calls_keep.pre event n args w →
            Extra event n args w (HaltsIn OutOfTicks w)

      module _ (owing : Owing) where
        follows : (run : Bodies) → Keep calls_keep run → (fuel : ℕ) (event : Event) (n : ℕ) (b : BodyTree)
            (args : List Datum) (w : State) (eb : slice_get p.bodies n ≡ Some b) → calls_keep.pre event n args w →
            FollowsEffects (fed Kept feeds (Runs event n args w) (Lapses (Ended event n args w)))
            (concrete_effects setting run fuel) (checked_of also n b eb)
        follows run keep fuel event n b args w eb k =
            subst (λ (lt : ℕ → Option TyId). FollowsEffects (fed Kept feeds (Runs event n args w)
            (Lapses (Ended event n args w))) (concrete_effects setting run fuel) (checked_by n b lt))
            (types_are p n b eb) (owing.follow run keep fuel event n args w k.0 k.1 b eb k.2)

        -- all that is owed, but for what is left
        pub owed : Owed p calls_keep Kept (Checking Facts) feeds (λ v. v.lost) (λ v. v.free.choices)
        owed = record {
          all_taken = λ c. refl;
          never_lost = λ list c. refl;
          related = Runs;
          lapses = λ event n args w. Lapses (Ended event n args w);
          checks = checked_of also;
          starting = starting_of;
          returned = returned_so also AtReturn AtPanic;
          panicked = panicked_so also AtReturn AtPanic;
          there = λ event n args w k. heads.there n k.0 k.1;
          starts = λ event n ticks b args w eb t k. is_so k.0 k.1 b eb k.2
              (as_known refl (subst (λ m. running.Runs setting n (targets_of items 1 k.0.params args)
              (uniques_of (targets_of items 1 k.0.params args)) w (is_reference_param items b)
              (begun event n args ticks w) (params_present (range_with_len 1 m)) no_facts)
              (as_many_args setting k.0.params args k.2.whole ∙ sym (heads.head n k.0 b k.1 eb).1)
              (runs_at setting n (is_reference_param items b) k.0.params k.0.result (heads.head n k.0 b k.1 eb).0 args w
              k.2 event ticks)))
              (owing.more_starts event n ticks b args w eb t k);
          follow = follows;
          shows = owing.shows;
          returns = λ event n b args w v c eb r h sig e. (
            (let may = may_of event n args w v c r sig e in
                let k = known_so n args w sig e b eb may v c (related_so event n args w v c r sig e b eb may) h.0 in
                returned (cell 0 (cells_of_youngest v.activations)) (with_event (Event.Return n) (without_activation v))
                (leaves_so (Event.Return n) n w v c.0 (targets_of items 1 sig.params args) k)
                (result_is_whole setting n (targets_of items 1 sig.params args)
                (uniques_of (targets_of items 1 sig.params args)) w v c.0 sig.result k
                (heads.head n sig b e eb).0.answer h.1)),
            owing.more_returns event n b args w v c eb r h,
          );
          panics_out = λ event n b args w v c eb r h sig e. (
            (let may = may_of event n args w v c r sig e in
                let k = known_so n args w sig e b eb may v c (related_so event n args w v c r sig e b eb may) h.0 in
                unwound (with_event (Event.Unwind n) (without_activation v))
                (leaves_so (Event.Unwind n) n w v c.0 (targets_of items 1 sig.params args) k)),
            owing.more_panics event n b args w v c eb r h,
          );
          stops_in = λ event n b args w v c halt m eb r sig e. (
            halted halt v (as_may_end halt m),
            owing.more_stops event n b args w v c halt m r,
          );
          lapse = λ event n args w v halt h sig e. (
            halted halt v (may_end (Ended event n args w) halt v h),
            owing.more_lapses event n args w v halt h,
          );
          no_ticks = λ event n args w k sig e. (halted OutOfTicks w tt, owing.more_ticks event n args w k);
        }

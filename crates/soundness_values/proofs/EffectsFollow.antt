-- The record of all effects: a run on values follows a checked free run, by the contract of bodies, whatever else is
-- said of the states.
use Rattle.std.proofs.Common.{◌≡◌, ℕ, zero, suc, ◌<◌, Bool, true, false, List, [], ◌∷◌, ◌++◌, Option, Some, None, refl, ap, sym, ◌∙◌, subst}
use Rattle.std.specs.Prelude.{slice_get}
use Rattle.std.specs.Option.{option_map_or}
use Rattle.mir_base.specs.declared.trace.Event.{Event}
use Rattle.mir_base.specs.declared.trace.Why.{Why}
use Rattle.mir_ty.specs.declared.def.Sig.{Sig}
use Rattle.mir_ty.specs.declared.ty.TyId.{TyId}
use Rattle.mir_ty.specs.ItemTable.{ItemTable}
use Rattle.store_model.proofs.Effects.Following.{FollowsEffects}
use Rattle.store_model.specs.declared.address.Addr.{Addr}
use Rattle.store_model.specs.Values.Datum.{Datum, Gone}
use Rattle.store_model.specs.Effects.{EffectSite, Action, Test, Mode, Halt, OutOfTicks, Stuck, Out, Go, Unwind, Halts, Choice, Yes, No, Neither}
use Rattle.store_model.specs.Abstract.Effects as free
use Rattle.store_model.specs.Abstract.Effects.{AbstractState}
use Rattle.store_model.specs.Abstract.Presence.{Presence}
use Rattle.store_model.specs.Concrete.Effects as values
use Rattle.store_model.specs.Concrete.Effects.{act, concrete_effects, virtual_body}
use Rattle.store_model.specs.Concrete.Location.{Setting, stored_at}
use Rattle.store_model.specs.Concrete.State.{State, Activation, Bodies, HaltsIn, spend}
use Rattle.soundness_values.specs.Frames.{Alike}
use Rattle.soundness_values.proofs.Doing.{FollowsOut, goes_on, unwinds, lapsed, as_following, as_following_choice}
use Rattle.soundness_values.proofs.Checked.{with_facts}
use Rattle.soundness_values.proofs.Facts.{Facts}
use Rattle.soundness_values.proofs.Dropped.{feeding}
use Rattle.soundness_values.proofs.Known.{Target}
use Rattle.soundness_values.proofs.LadderEnds.{DropsKeep}
use Rattle.soundness_values.proofs.Running.{Passed, Runs}
use Rattle.soundness_values.proofs.Changing.{runs_alike}
use Rattle.soundness_values.proofs.Checks.{head_of, may_act, after_action, after_unwound, may_choose, after_taken, after_declined, may_drop, after_drop, may_give, is_none}
use Rattle.soundness_values.proofs.Standings.{alike_itself}
use Rattle.soundness_values.proofs.Taking.{first, MayLapse}
use Rattle.soundness_values.proofs.Relating.{Kept, feeds, checked_rel, if_allowed, chosen_if_allowed}
use Rattle.soundness_values.proofs.Testing.{gives_whole}
use Rattle.soundness_values.proofs.Emptied.{Hole}
use Rattle.soundness_values.proofs.Dropping.{nothing_kept}
use Rattle.soundness_values.proofs.Contracts.{targets_of, MayRun, LeftSo}
use Rattle.soundness_values.proofs.Simulation.{Related, as_known, as_emptied, checked, rel_of, Going, Winding, Ending, Taking, Declining, known_if, act_follows, choice_follows, drop_follows}

module _ (setting : Setting) (number : ℕ) (targets : List Target) (uniques : List Addr) (base : State)
    (is_target : ℕ → Bool) (passed : Passed setting number targets uniques base is_target) where
  abbrev items : ItemTable
  items = setting.items

  abbrev local_ty : ℕ → Option TyId
  local_ty key = setting.local_ty number key

  abbrev Rel : State → Kept → Type 0
  Rel = Related setting number targets uniques base is_target passed

  -- of a state with the same activations the same is known
  pub related_alike : (w v : State) (k : Kept) → v.activations ≡ w.activations → Rel w k → Rel v k
  related_alike w v k e (as_known none r) = as_known none (runs_alike setting number targets uniques base is_target
      passed w v k.0 k.1 r (subst (λ (l : List Activation). Alike l w.activations) (sym e)
      (alike_itself w.activations)))
  related_alike w v k e (as_emptied hole is h) = as_emptied hole is (record {
    before = h.before;
    cells_before = h.cells_before;
    runs = h.runs;
    standing = h.standing;
    reached = h.reached;
    may = h.may;
    emptied = subst (λ (l : List Activation). Alike l (stored_at h.standing.address Gone h.before).activations) (sym e)
        h.emptied;
    cells_are = h.cells_are;
  })

  -- what bodies keep
  pub record BodiesKeep (run : Bodies) (size : ℕ → ℕ) (sized : (body key : ℕ) (id : TyId) → setting.local_ty body key
      ≡ Some id → key < size body) : Type 0 where
    pub plain : (n : ℕ) (sig : Sig) → slice_get items.bodies n ≡ Some sig → (ds : List Datum) (v : State) →
        MayRun setting sig.params ds v → LeftSo setting (targets_of items 1 sig.params ds) sig.result v
        (run (Event.Call n) n ds v)
    pub virtual : (trait_no method : ℕ) (head : List TyId × TyId) →
        head_of items local_ty is_target trait_no method ≡ Some head → (ds : List Datum) (v : State) →
        MayRun setting head.0 ds v → LeftSo setting (targets_of items 1 head.0 ds) head.1 v
        (option_map_or (λ n. run (Event.Call n) n ds v) (virtual_body setting trait_no method v ds) (HaltsIn Stuck v))
    pub drops : DropsKeep setting size sized (nothing_kept setting size) run

  module _ (run : Bodies) (size : ℕ → ℕ) (sized : (body key : ℕ) (id : TyId) → setting.local_ty body key ≡ Some id →
      key < size body) (loose : setting.strict ≡ false) (keep : BodiesKeep run size sized) (fuel : ℕ)
      (said : State → Kept → Type 0) (halted : State → Type 0) where
    abbrev GoingIn : Out State → (List Bool → Out AbstractState) → Facts → Type 0
    GoingIn = Going setting number targets uniques base is_target passed run said halted

    abbrev WindingIn : Out State → (List Bool → Out AbstractState) → Facts → Type 0
    WindingIn = Winding setting number targets uniques base is_target passed run said halted

    abbrev EndingIn : Out State → Type 0
    EndingIn = Ending setting number targets uniques base is_target passed run said halted

    -- what more is said, and that each effect keeps it
    pub record Adds : Type 0 where
      pub related : (w : State) (k : Kept) → said w k → Rel w k
      pub at_halt : (w : State) (k : Kept) → said w k → halted w
      pub unchanged : (w v : State) (k c : Kept) → said w k → v.activations ≡ w.activations → v.trace ≡ w.trace →
          v.serial ≡ w.serial → Rel v c → said v c
      pub panicked : (why : Why) (w : State) (k : Kept) → said w k → said (values.panics setting why w) k
      pub act_goes : (action : Action) (w : State) (k : Kept) → said w k →
          may_act items local_ty is_target k.1 k.0 action ≡ true →
          GoingIn (act setting run action w) (λ t. free.act items local_ty action (feeding t k.0))
          (after_action items local_ty is_target action k.1)
      pub act_winds : (action : Action) (w : State) (k : Kept) → said w k →
          may_act items local_ty is_target k.1 k.0 action ≡ true →
          WindingIn (act setting run action w) (λ t. free.act items local_ty action (feeding t k.0))
          (after_unwound items local_ty is_target action k.1)
      pub act_ends : (action : Action) (w : State) (k : Kept) → said w k →
          may_act items local_ty is_target k.1 k.0 action ≡ true → EndingIn (act setting run action w)
      pub takes : (test : Test) (w : State) (k : Kept) → said w k → may_choose items local_ty is_target k.1 test ≡ true
          →
          (l : List Bool) (v : State) (c : List (ℕ × Presence)) → values.choose setting test w ≡ Yes v →
          ((rest : List Bool) → free.choose items local_ty test (feeding (l ++ rest) k.0) ≡ Yes (feeding rest c)) →
          Rel v (c, after_taken items local_ty is_target test k.1) →
          said v (c, after_taken items local_ty is_target test k.1)
      pub declines : (test : Test) (w : State) (k : Kept) → said w k →
          may_choose items local_ty is_target k.1 test ≡ true →
          (l : List Bool) (v : State) (c : List (ℕ × Presence)) → values.choose setting test w ≡ No v →
          ((rest : List Bool) → free.choose items local_ty test (feeding (l ++ rest) k.0) ≡ No (feeding rest c)) →
          Rel v (c, after_declined items local_ty is_target test k.1) →
          said v (c, after_declined items local_ty is_target test k.1)
      pub choice_ends : (test : Test) (w : State) (k : Kept) → said w k → (halt : Halt) (v : State) →
          values.choose setting test w ≡ Neither halt v → MayLapse halt v → halted v
      pub drop_goes : (mode : Mode) (site : EffectSite) (w : State) (k : Kept) → said w k →
          may_drop items local_ty is_target mode k.1 site.place ≡ true → (v : State) (c : List (ℕ × Presence)) →
          values.drop setting run fuel mode site w ≡ Go v →
          Rel v (c, after_drop items local_ty is_target site.place k.1) →
          said v (c, after_drop items local_ty is_target site.place k.1)
      pub drop_winds : (mode : Mode) (site : EffectSite) (w : State) (k : Kept) → said w k →
          may_drop items local_ty is_target mode k.1 site.place ≡ true → (v : State) (c : List (ℕ × Presence)) →
          values.drop setting run fuel mode site w ≡ Unwind v →
          Rel v (c, after_drop items local_ty is_target site.place k.1) →
          said v (c, after_drop items local_ty is_target site.place k.1)
      pub drop_ends : (mode : Mode) (site : EffectSite) (w : State) (k : Kept) → said w k →
          may_drop items local_ty is_target mode k.1 site.place ≡ true → (halt : Halt) (v : State) →
          values.drop setting run fuel mode site w ≡ Halts halt v → MayLapse halt v → halted v

    -- all effects follow
    pub effects_follow : Adds → FollowsEffects (rel_of setting number targets uniques base is_target passed run said
        halted) (concrete_effects setting run fuel)
        (checked setting number targets uniques base is_target passed run said
        halted)
    effects_follow adds = record {
      acting = λ action n w k s. as_following (checked_rel said halted)
          (if_allowed said halted (may_act items local_ty is_target k.1 k.0 action) k _ _
          (λ h. act_follows setting number targets uniques base is_target passed run said halted keep.plain keep.virtual
          action w k (adds.related w k s) h (adds.act_goes action w k s h) (adds.act_winds action w k s h)
          (adds.act_ends action w k s h)));
      choosing = λ test n w k s. as_following_choice (checked_rel said halted)
          (chosen_if_allowed said halted (may_choose items local_ty is_target k.1 test) k _ _
          (λ h. choice_follows setting number targets uniques base is_target passed run said halted keep.plain
          keep.virtual test w k (adds.related w k s) h (adds.takes test w k s h) (adds.declines test w k s h)
          (adds.choice_ends test w k s) (λ c r. adds.unchanged w w k c s refl refl refl r)));
      dropping = λ mode site n w k s. as_following (checked_rel said halted)
          (if_allowed said halted (may_drop items local_ty is_target mode k.1 site.place) k _ _
          (λ h. drop_follows setting number targets uniques base is_target passed run said halted keep.plain
          keep.virtual
          size sized loose keep.drops fuel mode site w k (adds.related w k s) h (adds.drop_goes mode site w k s h)
          (adds.drop_winds mode site w k s h) (adds.drop_ends mode site w k s h)));
      panicking = λ why n w k s. as_following (checked_rel said halted)
          (unwinds tt (values.panics setting why w) k [] _ (adds.panicked why w k s) (λ rest. refl));
      ticking = λ n w k s. as_following (checked_rel said halted) (ticks w k s w.ticks);
      giving = λ site n w k s. as_following (checked_rel said halted)
          (if_allowed said halted (may_give items local_ty is_target k.1 k.0 site.place) k _ _ (gives site w k s));
    }
      where
        ticks : (w : State) (k : Kept) → said w k → (n : ℕ) → FollowsOut (checked_rel said halted) tt (spend n w)
            (λ t. with_facts k.1 k.1 (free.tick items local_ty (feeding t k.0)))
        ticks w k s zero = lapsed tt OutOfTicks w _ (adds.at_halt w k s)
        ticks w k s (suc n) = goes_on tt (record w { ticks = n }) k (false ∷ []) _
            (adds.unchanged w (record w { ticks = n }) k k s refl refl refl
            (related_alike w (record w { ticks = n }) k refl (adds.related w k s))) (λ rest. refl)

        gives : (site : EffectSite) (w : State) (k : Kept) → said w k →
            may_give items local_ty is_target k.1 k.0 site.place ≡ true →
            FollowsOut (checked_rel said halted) tt (values.give setting run site w)
            (λ t. with_facts k.1 k.1 (Go (feeding t k.0)))
        gives site w k s h =
            let known = known_if setting number targets uniques base is_target passed run said halted keep.plain
            keep.virtual w k (adds.related w k s) (first (is_none k.1.refilled) _ h) in
            subst (λ o. FollowsOut (checked_rel said halted) tt o (λ t. with_facts k.1 k.1 (Go (feeding t k.0))))
            (sym (gives_whole setting number targets uniques base is_target passed w k.0 k.1 known.1 run site h))
            (goes_on tt w k [] _ s (λ rest. refl))

  -- nothing more is said
  pub nothing_added : (run : Bodies) (size : ℕ → ℕ) (sized : (body key : ℕ) (id : TyId) → setting.local_ty body key
      ≡ Some id → key < size body) (loose : setting.strict ≡ false) (keep : BodiesKeep run size sized) (fuel : ℕ) →
      Adds run size sized loose keep fuel Rel (λ w. Unit {0})
  nothing_added run size sized loose keep fuel = record {
    related = λ w k s. s;
    at_halt = λ w k s. tt;
    unchanged = λ w v k c s e t n r. r;
    panicked = λ why w k s. related_alike w (values.panics setting why w) k refl s;
    act_goes = λ action w k s h l v c e d r. r;
    act_winds = λ action w k s h l v c e d r. r;
    act_ends = λ action w k s h halt v e m. tt;
    takes = λ test w k s h l v c e d r. r;
    declines = λ test w k s h l v c e d r. r;
    choice_ends = λ test w k s halt v e m. tt;
    drop_goes = λ mode site w k s h v c e r. r;
    drop_winds = λ mode site w k s h v c e r. r;
    drop_ends = λ mode site w k s h halt v e m. tt;
  }

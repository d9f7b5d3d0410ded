-- All effects follow, and each keeps the account of numbers, but for calls: what calls do is asked for (`CallsCount`).
use Rattle.std.proofs.Common.{◌≡◌, ◌⊎◌, inl, inr, ℕ, zero, suc, ◌&&◌, ◌||◌, not, Bool, true, false, List, [], ◌∷◌, ◌++◌, Option, Some, None, refl, ap, sym, ◌∙◌, subst}
use Rattle.std.specs.Prelude.{slice_get}
use Rattle.std.specs.Option.{option_map_or}
use Rattle.std.proofs.lemmas.Bool.{false≢true}
use Rattle.mir_base.specs.declared.trace.Event.{Event}
use Rattle.mir_ty.specs.Facts.{needs_drop}
use Rattle.mir_ty.specs.declared.def.Sig.{Sig}
use Rattle.mir_ty.specs.declared.ty.TyId.{TyId}
use Rattle.mir_ty.specs.ItemTable.{ItemTable, type_at}
use Rattle.store_model.proofs.Effects.Following.{FollowsEffects}
use Rattle.store_model.specs.declared.address.Addr.{Addr}
use Rattle.store_model.specs.Values.Datum.{Datum}
use Rattle.store_model.specs.Effects as effects
use Rattle.store_model.specs.Effects.{EffectSite, Action, Test, Mode, OutOfTicks, BadStore, Out, Go, Unwind, Halts, Yes, No}
use Rattle.store_model.specs.Abstract.Effects as free
use Rattle.store_model.specs.Abstract.Effects.{AbstractState, presence, may_store, watched_at, choice_after, when, dropped}
use Rattle.store_model.specs.Abstract.Presence.{Presence}
use Rattle.store_model.specs.Places.Place.{Step, Place}
use Rattle.store_model.specs.Concrete.Drops.{drop_impl}
use Rattle.store_model.specs.Concrete.Effects as values
use Rattle.store_model.specs.Concrete.Effects.{act, concrete_effects}
use Rattle.store_model.specs.Concrete.Location.{Setting, DynamicType, concrete_ty, named_by}
use Rattle.store_model.specs.Concrete.State.{State, Bodies, spend}
use Rattle.src_meaning.specs.Programs.{setting_of}
use Rattle.typed_tree.specs.Tree.{BodyTree, ProgramTree}
use Rattle.well_typed.specs.Program.{WellTyped}
use Rattle.soundness_values.proofs.AlsoTests.{Also}
use Rattle.soundness_values.proofs.Bodies.{Keep}
use Rattle.soundness_values.proofs.BodyHeads.{size, sized}
use Rattle.soundness_values.proofs.Checked.{with_facts, chosen_with}
use Rattle.soundness_values.proofs.CheckedBodies.{is_reference_param}
use Rattle.soundness_values.proofs.Checks as checks
use Rattle.soundness_values.proofs.Checks.{no_steps, is_none, may_change, acts_well, may_act, after_action, after_unwound, may_choose, after_taken, after_declined, may_drop, after_drop, may_give, unless_refilled, refills}
use Rattle.soundness_values.proofs.Contracts.{targets_of, uniques_of, MayRun}
use Rattle.soundness_values.proofs.CountedActs.{IsGo, told}
use Rattle.soundness_values.proofs.CountedContract.{dropping_by, Before, heads_deep}
use Rattle.soundness_values.proofs.CountedOthers.{acts_never_wind, goes_counted, winds_counted, yes_counted, no_counted, tested_same}
use Rattle.soundness_values.proofs.CountedOwing.{CountsAnswer, CountsState, CountsEnd, ClearAtReturn, ClearAtPanic, counts_at}
use Rattle.soundness_values.proofs.CountedPlaces.{refill_counted}
use Rattle.soundness_values.proofs.CountedTakes.{Fine, Counted}
use Rattle.soundness_values.proofs.Doing.{FollowsOut, FollowsChoice, goes_on, unwinds, lapsed, refused, as_following, as_following_choice}
use Rattle.soundness_values.proofs.Dropped.{Lapses, feeding}
use Rattle.soundness_values.proofs.DropBodiesCount.{drops_counted}
use Rattle.soundness_values.proofs.DropsCount.{is_content, drop_goes, drop_winds, drop_ends}
use Rattle.soundness_values.proofs.EffectsFollow.{BodiesKeep, related_alike}
use Rattle.soundness_values.proofs.Facts.{Facts}
use Rattle.soundness_values.proofs.Feeding.{fed}
use Rattle.soundness_values.proofs.Guards.{heads_alike}
use Rattle.soundness_values.proofs.Known.{Target}
use Rattle.soundness_values.proofs.OnlyStuck.{calls_nothing, no_lapse, acts_stuck, no_lapse_choice, choice_stuck}
use Rattle.soundness_values.proofs.Owing.{calls_keep, as_passed, Runs, is_so, more_so, related_so, bodies_keep_so, checked_by}
use Rattle.soundness_values.proofs.Relating.{Kept, feeds, checked_rel, if_allowed, chosen_if_allowed}
use Rattle.soundness_values.proofs.Running as running
use Rattle.soundness_values.proofs.Running.{sure_place, sure_from, sure_in, sure_behind, Passed}
use Rattle.soundness_values.proofs.Simulation.{Related, as_known, as_emptied, act_follows, choice_follows, drop_follows, known_if}
use Rattle.soundness_values.proofs.Standings.{alike_itself}
use Rattle.soundness_values.proofs.Taking.{first, second}
use Rattle.soundness_values.proofs.Tally.{counted_alike}
use Rattle.soundness_values.proofs.Testing.{gives_whole}

-- a place behind a parameter has steps
sure_steps : (items : ItemTable) (local_ty : ℕ → Option TyId) (is_target : ℕ → Bool) (facts : Facts) (place : Place) →
    sure_place items local_ty is_target facts place ≡ true → is_target place.local ≡ true →
    no_steps place.steps ≡ false
sure_steps items local_ty is_target facts place h t = by (local_ty place.local) h
  where
    behind : (to : TyId) (steps : List Step) → sure_behind items local_ty is_target facts place.local to steps ≡ true →
        no_steps steps ≡ false
    behind to [] k = absurd (false≢true k)
    behind to (step ∷ steps) k = refl

    from : (id : TyId) (o : Option TyId) → sure_from items local_ty is_target facts place id o ≡ true →
        no_steps place.steps ≡ false
    from id None k = absurd (false≢true (sym (ap (λ b. not b) t) ∙ first (not (is_target place.local)) _ k))
    from id (Some to) k = behind to place.steps (second (is_target place.local) _ k)

    by : (o : Option TyId) → sure_in items local_ty is_target facts place o ≡ true → no_steps place.steps ≡ false
    by None k = absurd (false≢true k)
    by (Some id) k = from id (named_by (type_at items id)) k

fine_chosen : (o : Out AbstractState) (u : AbstractState) → (choice_after o ≡ Yes u) ⊎ (choice_after o ≡ No u) → Fine o
fine_chosen (Go w) u e = tt
fine_chosen (Unwind w) u e = tt
fine_chosen (Halts halt w) u (inl e) = absurd (let never : ⊥ = cc in never)
fine_chosen (Halts halt w) u (inr e) = absurd (let never : ⊥ = cc in never)

pub go_of : (o : Out AbstractState) (u : AbstractState) → o ≡ Go u → IsGo o
go_of o u e = subst IsGo (sym e) tt

pub wind_of : (o : Out AbstractState) (u : AbstractState) → o ≡ Unwind u → Fine o
wind_of o u e = subst Fine (sym e) tt

module _ (p : ProgramTree) (protects : ℕ → ℕ → Bool) (also : ℕ → Also) (typed : WellTyped p)
    (falls_tested : (n : ℕ) (place : Place) → (also n).drop place ≡ true →
    not (is_content place.steps && protects n place.local) ≡ true)
    (drop_protected : (f : DynamicType) (of : ℕ × ℕ) → drop_impl p.items (concrete_ty p.items f) ≡ Some of →
    protects of.1 1 ≡ true) (run : Bodies)
    (keep : Keep (calls_keep p (CountsAnswer p protects also) (CountsState p protects also) (CountsEnd p protects also)
    also (ClearAtReturn p protects also) (ClearAtPanic p protects also)) run)
    (fuel : ℕ) (event : Event) (n : ℕ) (args : List Datum) (w : State) (sig : Sig)
    (e : slice_get p.items.bodies n ≡ Some sig) (b : BodyTree) (eb : slice_get p.bodies n ≡ Some b)
    (may : MayRun (setting_of p) sig.params args w) where
  abbrev items : ItemTable
  items = p.items

  abbrev setting : Setting
  setting = setting_of p

  abbrev pub local_ty : ℕ → Option TyId
  local_ty key = setting.local_ty n key

  abbrev pub targets : List Target
  targets = targets_of items 1 sig.params args

  abbrev pub uniques : List Addr
  uniques = uniques_of (targets_of items 1 sig.params args)

  abbrev pub is_target : ℕ → Bool
  is_target = is_reference_param items b

  abbrev pub passed : Passed setting n (targets_of items 1 sig.params args) (uniques_of (targets_of items 1 sig.params args))
      w (is_reference_param items b)
  passed = as_passed p (CountsAnswer p protects also) (CountsState p protects also) (CountsEnd p protects also) also
      (ClearAtReturn p protects also) (ClearAtPanic p protects also) typed n args w sig e b eb may

  abbrev pub Rel : State → Kept → Type 0
  Rel = Related setting n targets uniques w is_target passed

  abbrev pub R : State → List (ℕ × Presence) → Facts → Type 0
  R = running.Runs setting n targets uniques w is_target

  abbrev pub said : State → Kept → Type 0
  said = Runs p (CountsAnswer p protects also) (CountsState p protects also) (CountsEnd p protects also) also
      (ClearAtReturn p protects also) (ClearAtPanic p protects also) typed event n args w

  abbrev pub halted : State → Type 0
  halted = CountsEnd p protects also event n args w

  abbrev pub B : List ℕ → List (Addr × ℕ) → Type 0
  B D G = Before setting (size p) (sized p) protects D G event n args targets w

  abbrev pub C : (D : List ℕ) (G : List (Addr × ℕ)) → B D G → List ℕ → State → Type 0
  C D G before = Counted setting n targets uniques w is_target passed (size p) (sized p) (dropping_by event D) G
      (heads_deep setting (size p) (sized p) protects G w before.heads)

  pub counted_of : (v : State) (k : Kept) → said v k → (D : List ℕ) (G : List (Addr × ℕ)) (before : B D G) →
      C D G before [] v
  counted_of v k s D G before =
      let m = more_so p (CountsAnswer p protects also) (CountsState p protects also) (CountsEnd p protects also) also
      (ClearAtReturn p protects also) (ClearAtPanic p protects also) typed event n args w v k s sig e D G before in
      record { flow = m.0; heads = m.1 }

  some_sig : {x y : Sig} → Some x ≡ Some y → x ≡ y
  some_sig z = cc

  pub before_of : (s : Sig) → slice_get items.bodies n ≡ Some s → (D : List ℕ) (G : List (Addr × ℕ)) →
      Before setting (size p) (sized p) protects D G event n args (targets_of items 1 s.params args) w → B D G
  before_of s z D G before = subst (λ (x : Sig). Before setting (size p) (sized p) protects D G event n args
      (targets_of items 1 x.params args) w) (some_sig (sym z ∙ e)) before

  pub kept : (v : State) (k : Kept) → Rel v k → ((D : List ℕ) (G : List (Addr × ℕ)) (before : B D G) → C D G before [] v) →
      said v k
  kept v k r f = is_so sig e b eb may r (λ s z D G before.
      let c = f D G (before_of s z D G before) in (c.flow, c.heads))

  pub related_of : (v : State) (k : Kept) → said v k → Rel v k
  related_of v k s = related_so p (CountsAnswer p protects also) (CountsState p protects also) (CountsEnd p protects also)
      also (ClearAtReturn p protects also) (ClearAtPanic p protects also) typed event n args w v k s sig e b eb may

  abbrev pub keeps : BodiesKeep setting n (targets_of items 1 sig.params args)
      (uniques_of (targets_of items 1 sig.params args)) w (is_reference_param items b) passed run (size p) (sized p)
  keeps = bodies_keep_so p (CountsAnswer p protects also) (CountsState p protects also) (CountsEnd p protects also) also
      (ClearAtReturn p protects also) (ClearAtPanic p protects also) typed run keep n args w sig e b eb may

  -- ---- what is asked of calls

  abbrev pub FollowsAct : Action → State → Kept → Type 0
  FollowsAct action v k = FollowsOut (checked_rel said halted) tt (act setting run action v)
      (λ t. with_facts (after_action items local_ty is_target action k.1)
      (after_unwound items local_ty is_target action k.1) (free.act items local_ty action (feeding t k.0)))

  abbrev pub CallsCount : Type 0
  CallsCount = (action : Action) (v : State) (k : Kept) → said v k → k.1.refilled ≡ None → R v k.0 k.1 →
      calls_nothing action ≡ false → acts_well items local_ty is_target k.1 k.0 action ≡ true →
      (also n).act k.1 action ≡ true → FollowsAct action v k

  -- ---- actions

  known_act : (action : Action) (k : Kept) → k.1.refilled ≡ None →
      may_act items local_ty is_target k.1 k.0 action ≡ true → acts_well items local_ty is_target k.1 k.0 action ≡ true
  known_act action k none h = sym (ap (λ o. unless_refilled o (acts_well items local_ty is_target k.1 k.0 action)
      (λ hole. refills items local_ty is_target k.1 hole action)) none) ∙ h

  emptied_act : (action : Action) (k : Kept) (hole : Place) → k.1.refilled ≡ Some hole →
      may_act items local_ty is_target k.1 k.0 action ≡ true → refills items local_ty is_target k.1 hole action ≡ true
  emptied_act action k hole is h = sym (ap (λ o. unless_refilled o (acts_well items local_ty is_target k.1 k.0 action)
      (λ hole. refills items local_ty is_target k.1 hole action)) is) ∙ h

  -- a place that was emptied is filled, by nothing else than a move
  data Refills (action : Action) : Type 0 where
    by_move : (to site : EffectSite) → action ≡ effects.Put to (effects.Moved site) → Refills action

  refills_so : (action : Action) (facts : Facts) (hole : Place) → refills items local_ty is_target facts hole action ≡ true
      → Refills action
  refills_so (effects.Put to (effects.Moved site)) facts hole h = by_move to site refl
  refills_so other facts hole h = absurd (false≢true h)

  module _ (action : Action) (v : State) (k : Kept) (s : said v k)
      (h : may_act items local_ty is_target k.1 k.0 action ≡ true) where
    went : calls_nothing action ≡ true → (t : List Bool) → IsGo (free.act items local_ty action (feeding t k.0)) →
        (u : State) → act setting run action v ≡ Go u → (D : List ℕ) (G : List (Addr × ℕ)) (before : B D G) →
        C D G before [] u
    went plain t g u x D G before = by (related_of v k s)
      where
        by : Rel v k → C D G before [] u
        by (as_known none r) =
            goes_counted setting n targets uniques w is_target passed (size p) (sized p) refl (dropping_by event D) G
            (heads_deep setting (size p) (sized p) protects G w before.heads) before.spaced v k.0 k.1 r run action plain
            (known_act action k none h) t g (counted_of v k s D G before) u x
        by (as_emptied hole is hd) =
            filled (refills_so action k.1 hole (emptied_act action k hole is h)) (emptied_act action k hole is h)
          where
            filled : Refills action → refills items local_ty is_target k.1 hole action ≡ true → C D G before [] u
            filled (by_move to site same) test =
                refill_counted setting n targets uniques w is_target passed (size p) (sized p) refl
                (dropping_by event D) G (heads_deep setting (size p) (sized p) protects G w before.heads) before.spaced
                v k.0 k.1 hole hd run to site
                (subst (λ a. refills items local_ty is_target k.1 hole a ≡ true) same test)
                (counted_of v k s D G before) u (subst (λ a. act setting run a v ≡ Go u) same x)

    wound : calls_nothing action ≡ true → (t : List Bool) → Fine (free.act items local_ty action (feeding t k.0)) →
        (u : State) → act setting run action v ≡ Unwind u → (D : List ℕ) (G : List (Addr × ℕ)) (before : B D G) →
        C D G before [] u
    wound plain t g u x D G before = by (related_of v k s)
      where
        by : Rel v k → C D G before [] u
        by (as_known none r) =
            winds_counted setting n targets uniques w is_target passed (size p) (sized p) refl (dropping_by event D) G
            (heads_deep setting (size p) (sized p) protects G w before.heads) before.spaced v k.0 k.1 r run action plain
            (known_act action k none h) t g (counted_of v k s D G before) u x
        by (as_emptied hole is hd) =
            filled (refills_so action k.1 hole (emptied_act action k hole is h))
          where
            filled : Refills action → C D G before [] u
            filled (by_move to site same) = absurd (never_moved to site u
                (subst (λ a. act setting run a v ≡ Unwind u) same x))
              where
                never_moved : (to site : EffectSite) (u : State) →
                    act setting run (effects.Put to (effects.Moved site)) v ≡ Unwind u → ⊥
                never_moved to site u y = acts_never_wind setting run (effects.Put to (effects.Moved site)) v refl u y

    plain_follows : calls_nothing action ≡ true → FollowsAct action v k
    plain_follows plain =
        act_follows setting n targets uniques w is_target passed run said halted keeps.plain keeps.virtual action v k
        (related_of v k s) h
        (λ l u c x d r. kept u (c, after_action items local_ty is_target action k.1) r
        (went plain (l ++ []) (go_of _ _ (d [])) u x))
        (λ l u c x d r. kept u (c, after_unwound items local_ty is_target action k.1) r
        (wound plain (l ++ []) (wind_of _ _ (d [])) u x))
        (λ halt u x m. absurd (no_lapse _ halt u (acts_stuck setting run action v plain) x m))

  acts : CallsCount → (action : Action) (v : State) (k : Kept) → said v k →
      may_act items local_ty is_target k.1 k.0 action ≡ true → (also n).act k.1 action ≡ true → FollowsAct action v k
  acts calls action v k s h tested = by (calls_nothing action) refl
    where
      of_call : Rel v k → calls_nothing action ≡ false → FollowsAct action v k
      of_call (as_known none r) c = calls action v k s none r c (known_act action k none h) tested
      of_call (as_emptied hole is hd) c =
          filled (refills_so action k.1 hole (emptied_act action k hole is h))
        where
          filled : Refills action → FollowsAct action v k
          filled (by_move to site same) = absurd (false≢true (sym c ∙ ap calls_nothing same))

      by : (x : Bool) → calls_nothing action ≡ x → FollowsAct action v k
      by true plain = plain_follows action v k s h plain
      by false c = of_call (related_of v k s) c

  -- ---- conditions

  chooses : (test : Test) (v : State) (k : Kept) (s : said v k) → may_choose items local_ty is_target k.1 test ≡ true →
      FollowsChoice (checked_rel said halted) tt (values.choose setting test v)
      (λ t. chosen_with (after_taken items local_ty is_target test k.1)
      (after_declined items local_ty is_target test k.1) (free.choose items local_ty test (feeding t k.0)))
  chooses (effects.IsTrue operand) v k s h =
      let r = known_if setting n targets uniques w is_target passed run said halted keeps.plain keeps.virtual v k
      (related_of v k s) (first (is_none k.1.refilled) _ h) in
      let takes = first (checks.takes_well items local_ty is_target k.1 operand) _ (second (is_none k.1.refilled) _ h) in
      choice_follows setting n targets uniques w is_target passed run said halted keeps.plain keeps.virtual
      (effects.IsTrue operand) v k (related_of v k s) h
      (λ l u c x d q. kept u _ q (λ D G before.
      yes_counted setting n targets uniques w is_target passed (size p) (sized p) refl (dropping_by event D) G
      (heads_deep setting (size p) (sized p) protects G w before.heads) before.spaced v k.0 k.1 r.1 run operand (l ++ [])
      takes (fine_chosen _ _ (inl (d []))) (counted_of v k s D G before) u x))
      (λ l u c x d q. kept u _ q (λ D G before.
      no_counted setting n targets uniques w is_target passed (size p) (sized p) refl (dropping_by event D) G
      (heads_deep setting (size p) (sized p) protects G w before.heads) before.spaced v k.0 k.1 r.1 run operand (l ++ [])
      takes (fine_chosen _ _ (inr (d []))) (counted_of v k s D G before) u x))
      (λ halt u x m. absurd (no_lapse_choice setting _ halt u (choice_stuck setting (effects.IsTrue operand) v) x m))
      (λ c q. kept v c q (counted_of v k s))
  chooses (effects.HasVariant site variant) v k s h =
      let r = known_if setting n targets uniques w is_target passed run said halted keeps.plain keeps.virtual v k
      (related_of v k s) (first (is_none k.1.refilled) _ h) in
      choice_follows setting n targets uniques w is_target passed run said halted keeps.plain keeps.virtual
      (effects.HasVariant site variant) v k (related_of v k s) h
      (λ l u c x d q. kept u _ q (λ D G before. subst (C D G before [])
      ((tested_same setting n targets uniques w is_target passed (size p) (sized p) refl (dropping_by event D) G
      (heads_deep setting (size p) (sized p) protects G w before.heads) before.spaced v k.0 k.1 r.1 run site variant u).0 x)
      (counted_of v k s D G before)))
      (λ l u c x d q. kept u _ q (λ D G before. subst (C D G before [])
      ((tested_same setting n targets uniques w is_target passed (size p) (sized p) refl (dropping_by event D) G
      (heads_deep setting (size p) (sized p) protects G w before.heads) before.spaced v k.0 k.1 r.1 run site variant u).1 x)
      (counted_of v k s D G before)))
      (λ halt u x m. absurd (no_lapse_choice setting _ halt u
      (choice_stuck setting (effects.HasVariant site variant) v) x m))
      (λ c q. kept v c q (counted_of v k s))

  -- ---- drops

  drops : (mode : Mode) (site : EffectSite) (v : State) (k : Kept) → said v k →
      may_drop items local_ty is_target mode k.1 site.place ≡ true → (also n).drop site.place ≡ true →
      FollowsOut (checked_rel said halted) tt (values.drop setting run fuel mode site v)
      (λ t. with_facts (after_drop items local_ty is_target site.place k.1)
      (after_drop items local_ty is_target site.place k.1) (free.drop items local_ty mode site (feeding t k.0)))
  drops mode site v k s h tested = by (may_store (watched_at items local_ty site) (presence site.place.local k.0)) refl
    where
      r : (k.1.refilled ≡ None) × R v k.0 k.1
      r = known_if setting n targets uniques w is_target passed run said halted keeps.plain keeps.virtual v k
          (related_of v k s) (first (is_none k.1.refilled) _ h)

      sure : sure_place items local_ty is_target k.1 site.place ≡ true
      sure = first (sure_place items local_ty is_target k.1 site.place) _ (second (is_none k.1.refilled) _ h)

      or_second : (a b : Bool) → (a || b) ≡ true → a ≡ false → b ≡ true
      or_second true b x y = absurd (false≢true (sym y))
      or_second false b x y = x

      falls : is_target site.place.local ≡ true → (may_change items local_ty is_target site.place ≡ true)
          × (not (is_content site.place.steps && protects n site.place.local) ≡ true)
      falls t =
          let kind = or_second (no_steps site.place.steps) _
          (second (sure_place items local_ty is_target k.1 site.place) _ (second (is_none k.1.refilled) _ h))
          (sure_steps items local_ty is_target k.1 site.place sure t) in
          let value = first (checks.is_value items local_ty is_target site.place
          && may_change items local_ty is_target site.place) _
          (second (checks.is_normal items local_ty is_target mode) _ kind) in (
            second (checks.is_value items local_ty is_target site.place) _ value,
            falls_tested n site.place tested,
          )

      by : (m : Bool) → may_store (watched_at items local_ty site) (presence site.place.local k.0) ≡ m →
          FollowsOut (checked_rel said halted) tt (values.drop setting run fuel mode site v)
          (λ t. with_facts (after_drop items local_ty is_target site.place k.1)
          (after_drop items local_ty is_target site.place k.1) (free.drop items local_ty mode site (feeding t k.0)))
      by false m = refused tt _ (BadStore site) (k.0, after_drop items local_ty is_target site.place k.1) [] _ tt
          (λ rest. ap (λ x. with_facts (after_drop items local_ty is_target site.place k.1)
          (after_drop items local_ty is_target site.place k.1) (when x (BadStore site)
          (dropped items local_ty (option_map_or (needs_drop items) (free.ty_at items local_ty site) false) mode site)
          (feeding rest k.0))) m)
      by true m =
          drop_follows setting n targets uniques w is_target passed run said halted keeps.plain keeps.virtual
          (size p) (sized p) refl keeps.drops fuel mode site v k (related_of v k s) h
          (λ u c x q. kept u _ q (λ D G before.
          drop_goes setting n targets uniques w is_target passed (size p) (sized p) refl protects (dropping_by event D) G
          (heads_deep setting (size p) (sized p) protects G w before.heads) before.spaced before.exact before.at_most
          before.covered run (drops_counted p protects also typed drop_protected run keep) fuel mode v k.0 k.1 r.1 site sure m
          falls (counted_of v k s D G before) u x))
          (λ u c x q. kept u _ q (λ D G before.
          drop_winds setting n targets uniques w is_target passed (size p) (sized p) refl protects (dropping_by event D) G
          (heads_deep setting (size p) (sized p) protects G w before.heads) before.spaced before.exact before.at_most
          before.covered run (drops_counted p protects also typed drop_protected run keep) fuel mode v k.0 k.1 r.1 site sure m
          falls (counted_of v k s D G before) u x))
          (λ halt u x y. λ sig' z D G prior.
          let before = before_of sig' z D G prior in
          drop_ends setting n targets uniques w is_target passed (size p) (sized p) refl protects (dropping_by event D) G
          (heads_deep setting (size p) (sized p) protects G w before.heads) before.spaced before.exact before.at_most
          before.covered run (drops_counted p protects also typed drop_protected run keep) fuel mode v k.0 k.1 r.1 site sure m
          falls (counted_of v k s D G before) halt u x)

  -- ---- all of them

  pub all_follow : CallsCount → FollowsEffects (fed Kept feeds said (Lapses halted)) (concrete_effects setting run fuel)
      (checked_by p (CountsAnswer p protects also) (CountsState p protects also) (CountsEnd p protects also) also
      (ClearAtReturn p protects also) (ClearAtPanic p protects also) typed n b (λ key. setting.local_ty n key))
  all_follow calls = record {
    acting = λ action m v k s. as_following (checked_rel said halted)
        (if_allowed said halted ((also n).act k.1 action && may_act items local_ty is_target k.1 k.0 action) k _ _
        (λ h. acts calls action v k s (second ((also n).act k.1 action) _ h) (first ((also n).act k.1 action) _ h)));
    choosing = λ test m v k s. as_following_choice (checked_rel said halted)
        (chosen_if_allowed said halted (may_choose items local_ty is_target k.1 test) k _ _
        (λ h. chooses test v k s h));
    dropping = λ mode site m v k s. as_following (checked_rel said halted)
        (if_allowed said halted ((also n).drop site.place && may_drop items local_ty is_target mode k.1 site.place) k _ _
        (λ h. drops mode site v k s (second ((also n).drop site.place) _ h) (first ((also n).drop site.place) _ h)));
    panicking = λ why m v k s. as_following (checked_rel said halted)
        (unwinds tt (values.panics setting why v) k [] _ (kept (values.panics setting why v) k
        (related_alike setting n targets uniques w is_target passed v (values.panics setting why v) k refl
        (related_of v k s))
        (λ D G before. told setting n targets uniques w is_target passed (size p) (sized p) refl (dropping_by event D) G
        (heads_deep setting (size p) (sized p) protects G w before.heads) before.spaced [] (Event.Panicked why) v refl refl
        (counted_of v k s D G before))) (λ rest. refl));
    ticking = λ m v k s. as_following (checked_rel said halted) (ticks v k s v.ticks);
    giving = λ site m v k s. as_following (checked_rel said halted)
        (if_allowed said halted (may_give items local_ty is_target k.1 k.0 site.place) k _ _ (gives site v k s));
  }
    where
      ticks : (v : State) (k : Kept) → said v k → (m : ℕ) → FollowsOut (checked_rel said halted) tt (spend m v)
          (λ t. with_facts k.1 k.1 (free.tick items local_ty (feeding t k.0)))
      ticks v k s zero = lapsed tt OutOfTicks v _ (counts_at p protects also typed event n args w v k s)
      ticks v k s (suc m) = goes_on tt (record v { ticks = m }) k (false ∷ []) _
          (kept (record v { ticks = m }) k
          (related_alike setting n targets uniques w is_target passed v (record v { ticks = m }) k refl (related_of v k s))
          (λ D G before. let c = counted_of v k s D G before in record {
            flow = counted_alike (size p) [] (dropping_by event D) v (record v { ticks = m }) refl refl refl c.flow;
            heads = heads_alike setting G v (record v { ticks = m }) (alike_itself v.activations) c.heads;
          })) (λ rest. refl)

      gives : (site : EffectSite) (v : State) (k : Kept) → said v k →
          may_give items local_ty is_target k.1 k.0 site.place ≡ true →
          FollowsOut (checked_rel said halted) tt (values.give setting run site v)
          (λ t. with_facts k.1 k.1 (Go (feeding t k.0)))
      gives site v k s h =
          let known = known_if setting n targets uniques w is_target passed run said halted keeps.plain
          keeps.virtual v k (related_of v k s) (first (is_none k.1.refilled) _ h) in
          subst (λ o. FollowsOut (checked_rel said halted) tt o (λ t. with_facts k.1 k.1 (Go (feeding t k.0))))
          (sym (gives_whole setting n targets uniques w is_target passed v k.0 k.1 known.1 run site h))
          (goes_on tt v k [] _ s (λ rest. refl))

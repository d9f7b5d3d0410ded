-- Actions that call nothing, all of them, and conditions: each keeps the account of numbers, where it goes on and where
-- it panics.
use Rattle.std.proofs.Common.{◌≡◌, ℕ, ◌<◌, Bool, true, false, List, [], length, Option, Some, None, refl, subst}
use Rattle.std.specs.Option.{option_map_or}
use Rattle.std.proofs.lemmas.Bool.{false≢true}
use Rattle.mir_base.specs.declared.trace.Event.{Event}
use Rattle.mir_ty.specs.declared.ty.Ty.{Ty}
use Rattle.mir_ty.specs.declared.ty.TyId.{TyId}
use Rattle.mir_ty.specs.ItemTable.{ItemTable}
use Rattle.store_model.specs.declared.address.Addr.{Addr}
use Rattle.store_model.specs.Values.Datum.{Datum, Gone, Number, Truth, UnitValue, Aggregate, Box, Address, data_from}
use Rattle.store_model.specs.Effects as effects
use Rattle.store_model.specs.Effects.{EffectSite, Operand, AggregateKind, OfTuple, OfArray, OfVariant, OfClosure, Action, Stuck, Out, Go, Unwind, Halts, Choice, Yes, No, Neither, halting_if}
use Rattle.store_model.specs.Abstract.Effects as free
use Rattle.store_model.specs.Abstract.Presence.{Presence}
use Rattle.store_model.specs.Concrete.Drops.{drop_impl}
use Rattle.store_model.specs.Concrete.Effects as values
use Rattle.store_model.specs.Concrete.Effects.{act, or_stuck, evaluate_operand, with_operand, put, put_if, tell_after, made, whole_at}
use Rattle.store_model.specs.Concrete.Location.{Setting, Located, Reached, Reaches, CutOff, Nowhere, reach, on_reached, stored_at}
use Rattle.store_model.specs.Concrete.State.{State, Bodies, numbered_next}
use Rattle.soundness_values.proofs.Checks.{takes_well, acts_well, after_operand}
use Rattle.soundness_values.proofs.CountedActs.{IsGo}
use Rattle.soundness_values.proofs.CountedForms.{put_counted, not_counted, box_counted, unsize_counted, build_counted, touch_counted, print_counted, bounds_counted}
use Rattle.soundness_values.proofs.CountedPairs.{compare_counted, compute_counted, negate_counted, ask_counted, forget_counted}
use Rattle.soundness_values.proofs.CountedPanics.{wound_past, compute_winds, negate_winds, bounds_wind, ask_winds}
use Rattle.soundness_values.proofs.CountedPlaces.{borrow_counted}
use Rattle.soundness_values.proofs.CountedStores.{AllSpaced}
use Rattle.soundness_values.proofs.CountedTakes.{Fine, Counted, takes_one}
use Rattle.soundness_values.proofs.Dropped.{feeding}
use Rattle.soundness_values.proofs.Facts.{Facts, Each}
use Rattle.soundness_values.proofs.Known.{Target}
use Rattle.soundness_values.proofs.OnlyStuck.{calls_nothing}
use Rattle.soundness_values.proofs.Running.{Passed, Runs}

-- ---- actions that panic in no run

never_winds_if : (b : Bool) (o : Out State) → ((u : State) → o ≡ Unwind u → ⊥) → (u : State) →
    halting_if b Stuck o ≡ Unwind u → ⊥
never_winds_if b o h u e = h u (wound_past b o u e)

or_stuck_never : {A : Type 0} (o : Option A) (next : A → Out State) (w : State) →
    ((a : A) (u : State) → next a ≡ Unwind u → ⊥) → (u : State) → or_stuck o next w ≡ Unwind u → ⊥
or_stuck_never None next w h u e = let never : ⊥ = cc in never
or_stuck_never (Some a) next w h u e = h a u e

abbrev pub never_panics : Action → Bool
never_panics (effects.Compute to operator left right) = false
never_panics (effects.Negate to operand) = false
never_panics (effects.Bounds index count) = false
never_panics (effects.Ask to) = false
never_panics (effects.Call to body args) = false
never_panics (effects.CallVirtual to trait_no method args) = false
never_panics (effects.Free site) = false
never_panics action = true

module _ (setting : Setting) where
  pub put_never : (to : EffectSite) (d : Datum) (w u : State) → put setting to d w ≡ Unwind u → ⊥
  put_never to d w u e = by (reach setting w to.place) e
    where
      by : (r : Reached) → on_reached r (λ s. Go (stored_at s.address d w)) (Halts Stuck w) (Halts Stuck w) ≡ Unwind u → ⊥
      by (Reaches s) k = let never : ⊥ = cc in never
      by CutOff k = let never : ⊥ = cc in never
      by Nowhere k = let never : ⊥ = cc in never

  told_never : (event : Event) (o : Out State) → ((u : State) → o ≡ Unwind u → ⊥) → (u : State) →
      tell_after setting event o ≡ Unwind u → ⊥
  told_never event (Go w) h u e = let never : ⊥ = cc in never
  told_never event (Unwind w) h u e = h w refl
  told_never event (Halts halt w) h u e = let never : ⊥ = cc in never

  put_if_never : (to : EffectSite) (o : Option Datum) (w u : State) → put_if setting to o w ≡ Unwind u → ⊥
  put_if_never to o w u e = or_stuck_never o (λ d. put setting to d w) w (λ d. put_never to d w) u e

  with_never : (operand : Operand) (w : State) (next : Datum → State → Out State) →
      ((d : Datum) (v u : State) → next d v ≡ Unwind u → ⊥) → (u : State) →
      with_operand setting operand w next ≡ Unwind u → ⊥
  with_never operand w next h u e = or_stuck_never (evaluate_operand setting operand w)
      (λ (x : Datum × State). next x.0 x.1) w (λ x. h x.0 x.1) u e

  printed_never : (d : Datum) (w u : State) → values.printed setting d w ≡ Unwind u → ⊥
  printed_never (Number n) w u e = let never : ⊥ = cc in never
  printed_never other w u e = let never : ⊥ = cc in never

  built_never : (to : EffectSite) (kind : AggregateKind) (ds : List Datum) (w u : State) →
      values.built setting to kind ds w ≡ Unwind u → ⊥
  built_never to OfTuple ds w u e = put_never to (Aggregate 0 None (data_from ds)) w u e
  built_never to OfArray ds w u e = put_never to (Aggregate 0 None (data_from ds)) w u e
  built_never to (OfClosure closure) ds w u e = put_never to (Aggregate 0 None (data_from ds)) w u e
  built_never to (OfVariant adt variant) ds w u e = by (drop_impl setting.items (Some (Ty.Adt adt))) e
    where
      by : (o : Option (ℕ × ℕ)) →
          values.made_event setting adt to (made adt variant ds (Some w.serial) o) o w ≡ Unwind u → ⊥
      by None k = put_never to (made adt variant ds (Some w.serial) None) w u k
      by (Some of) k = told_never (Event.Make adt w.serial) _
          (put_never to (made adt variant ds (Some w.serial) (Some of)) (numbered_next w)) u k

  module _ (run : Bodies) where
    acted_never : (action : Action) (w : State) → never_panics action ≡ true → (u : State) →
        values.acted setting run action w ≡ Unwind u → ⊥
    acted_never (effects.Put to from) w h u e = with_never from w (put setting to) (put_never to) u e
    acted_never (effects.Compare to operator left right) w h u e =
        with_never left w (λ a x. with_operand setting right x
        (λ b. put_if setting to (option_map_or (λ t. Some (Truth t)) (values.compared operator a b) None)))
        (λ a x y k. with_never right x
        (λ b. put_if setting to (option_map_or (λ t. Some (Truth t)) (values.compared operator a b) None))
        (λ b v. put_if_never to (option_map_or (λ t. Some (Truth t)) (values.compared operator a b) None) v) y k) u e
    acted_never (effects.Not to operand) w h u e = with_never operand w
        (λ d. put_if setting to (values.negated setting d)) (λ d v. put_if_never to (values.negated setting d) v) u e
    acted_never (effects.Build to kind parts) w h u e = or_stuck_never (values.evaluate_operands setting parts w)
        (λ (x : List Datum × State). values.built setting to kind x.0 x.1) w (λ x. built_never to kind x.0 x.1) u e
    acted_never (effects.NewBox to content) w h u e = with_never content w (values.boxed setting to)
        (λ d v. told_never (Event.Boxed v.serial) _ (put_never to (Box v.serial None d) (numbered_next v))) u e
    acted_never (effects.Unsize to trait_no operand) w h u e = with_never operand w
        (values.impl_put setting to (values.impl_boxed setting trait_no w operand)) (λ d v. put_if_never to _ v) u e
    acted_never (effects.Borrow to unique base) w h u e = or_stuck_never (whole_at setting w base)
        (λ (s : Located). put setting to (Address s.address) w) w (λ s. put_never to (Address s.address) w) u e
    acted_never (effects.Touch base) w h u e = or_stuck_never (whole_at setting w base) (λ (s : Located). Go w) w
        (λ s y k. let never : ⊥ = cc in never) u e
    acted_never (effects.Print operand) w h u e = with_never operand w (values.printed setting) printed_never u e
    acted_never (effects.Forget operand) w h u e = with_never operand w
        (λ d v. Go (values.with_events setting
        (option_map_or (values.forgotten setting.items d) (values.type_of_operand setting w operand) []) v))
        (λ d v y k. let never : ⊥ = cc in never) u e
    acted_never other w h u e = absurd (false≢true h)

    pub acts_never_wind : (action : Action) (w : State) → never_panics action ≡ true → (u : State) →
        act setting run action w ≡ Unwind u → ⊥
    acts_never_wind action w h u e =
        never_winds_if (effects.stores_where (values.never_at setting w) action) (values.acted setting run action w)
        (acted_never action w h) u e

module _ (setting : Setting) (number : ℕ) (targets : List Target) (uniques : List Addr) (base : State)
    (is_target : ℕ → Bool) (passed : Passed setting number targets uniques base is_target) (size : ℕ → ℕ)
    (sized : (body key : ℕ) (id : TyId) → setting.local_ty body key ≡ Some id → key < size body)
    (loose : setting.strict ≡ false) (dropping : List ℕ) (guards : List (Addr × ℕ))
    (deep : Each (λ (g : Addr × ℕ). g.0.depth < length base.activations) guards)
    (spaced : AllSpaced guards targets) where
  abbrev items : ItemTable
  items = setting.items

  abbrev local_ty : ℕ → Option TyId
  local_ty key = setting.local_ty number key

  abbrev R : State → List (ℕ × Presence) → Facts → Type 0
  R = Runs setting number targets uniques base is_target

  abbrev C : List ℕ → State → Type 0
  C = Counted setting number targets uniques base is_target passed size sized dropping guards deep

  abbrev takes : Facts → Operand → Bool
  takes = takes_well items local_ty is_target

  abbrev after : Operand → Facts → Facts
  after = after_operand items local_ty is_target

  module _ (w : State) (cells : List (ℕ × Presence)) (facts : Facts) (runs : R w cells facts) (run : Bodies) where
    pub goes_counted : (action : Action) → calls_nothing action ≡ true →
        acts_well items local_ty is_target facts cells action ≡ true → (t : List Bool) →
        IsGo (free.act items local_ty action (feeding t cells)) → C [] w → (u : State) →
        act setting run action w ≡ Go u → C [] u
    goes_counted (effects.Put to from) n h t g c u e =
        put_counted setting number targets uniques base is_target passed size sized loose dropping guards deep spaced w cells facts runs run t to from h g c u e
    goes_counted (effects.Compare to operator left right) n h t g c u e =
        compare_counted setting number targets uniques base is_target passed size sized loose dropping guards deep spaced w cells facts runs run t to operator left right h g c u e
    goes_counted (effects.Not to operand) n h t g c u e =
        not_counted setting number targets uniques base is_target passed size sized loose dropping guards deep spaced w cells facts runs run t to operand h g c u e
    goes_counted (effects.Build to kind parts) n h t g c u e =
        build_counted setting number targets uniques base is_target passed size sized loose dropping guards deep spaced w cells facts runs run t to kind parts h g c u e
    goes_counted (effects.NewBox to content) n h t g c u e =
        box_counted setting number targets uniques base is_target passed size sized loose dropping guards deep spaced w cells facts runs run t to content h g c u e
    goes_counted (effects.Unsize to trait_no operand) n h t g c u e =
        unsize_counted setting number targets uniques base is_target passed size sized loose dropping guards deep spaced w cells facts runs run t to trait_no operand h g c u e
    goes_counted (effects.Touch site) n h t g c u e =
        touch_counted setting number targets uniques base is_target passed size sized loose dropping guards deep spaced w cells facts runs run t site h g c u e
    goes_counted (effects.Print operand) n h t g c u e =
        print_counted setting number targets uniques base is_target passed size sized loose dropping guards deep spaced w cells facts runs run t operand h g c u e
    goes_counted (effects.Forget operand) n h t g c u e =
        forget_counted setting number targets uniques base is_target passed size sized loose dropping guards deep spaced w cells facts runs run t operand h g c u e
    goes_counted (effects.Compute to operator left right) n h t g c u e =
        compute_counted setting number targets uniques base is_target passed size sized loose dropping guards deep spaced w cells facts runs run t to operator left right h g c u e
    goes_counted (effects.Negate to operand) n h t g c u e =
        negate_counted setting number targets uniques base is_target passed size sized loose dropping guards deep spaced w cells facts runs run t to operand h g c u e
    goes_counted (effects.Bounds index count) n h t g c u e =
        bounds_counted setting number targets uniques base is_target passed size sized loose dropping guards deep spaced w cells facts runs run t index count h g c u e
    goes_counted (effects.Ask to) n h t g c u e =
        ask_counted setting number targets uniques base is_target passed size sized loose dropping guards deep spaced w cells facts runs run t to h g c u e
    goes_counted (effects.Borrow to unique from) n h t g c u e =
        borrow_counted setting number targets uniques base is_target passed size sized loose dropping guards deep spaced w cells facts runs run to unique from h c u e
    goes_counted (effects.Call to body args) n h t g c u e = absurd (false≢true n)
    goes_counted (effects.CallVirtual to trait_no method args) n h t g c u e = absurd (false≢true n)
    goes_counted (effects.Free site) n h t g c u e = absurd (false≢true n)

    pub winds_counted : (action : Action) → calls_nothing action ≡ true →
        acts_well items local_ty is_target facts cells action ≡ true → (t : List Bool) →
        Fine (free.act items local_ty action (feeding t cells)) → C [] w → (u : State) →
        act setting run action w ≡ Unwind u → C [] u
    winds_counted (effects.Compute to operator left right) n h t g c u e =
        compute_winds setting number targets uniques base is_target passed size sized loose dropping guards deep spaced w cells facts runs run t to operator left right h g c u e
    winds_counted (effects.Negate to operand) n h t g c u e =
        negate_winds setting number targets uniques base is_target passed size sized loose dropping guards deep spaced w cells facts runs run t to operand h g c u e
    winds_counted (effects.Bounds index count) n h t g c u e =
        bounds_wind setting number targets uniques base is_target passed size sized loose dropping guards deep spaced w cells facts runs run t index count h g c u e
    winds_counted (effects.Ask to) n h t g c u e =
        ask_winds setting number targets uniques base is_target passed size sized loose dropping guards deep spaced w cells facts runs run t to h g c u e
    winds_counted (effects.Call to body args) n h t g c u e = absurd (false≢true n)
    winds_counted (effects.CallVirtual to trait_no method args) n h t g c u e = absurd (false≢true n)
    winds_counted (effects.Free site) n h t g c u e = absurd (false≢true n)
    winds_counted other n h t g c u e =
        absurd (acts_never_wind setting run other w refl u e)

    -- an operand that is a truth value has no number
    chosen_number : (operand : Operand) (t : List Bool) → takes facts operand ≡ true →
        Fine (free.operand_used items local_ty operand (feeding t cells)) → C [] w → (b : Bool) (v : State) →
        evaluate_operand setting operand w ≡ Some (Truth b, v) → C [] v
    chosen_number operand t h f c b v e =
        (takes_one setting number targets uniques base is_target passed size sized dropping guards deep w cells facts
        runs operand h t f [] c (Truth b) v e).counted

    pub yes_counted : (operand : Operand) (t : List Bool) → takes facts operand ≡ true →
        Fine (free.operand_used items local_ty operand (feeding t cells)) → C [] w → (v : State) →
        values.choose setting (effects.IsTrue operand) w ≡ Yes v → C [] v
    yes_counted operand t h f c v e = by (evaluate_operand setting operand w) refl e
      where
        yes_same : {a b : State} → Yes a ≡ Yes b → a ≡ b
        yes_same x = cc

        by : (o : Option (Datum × State)) → evaluate_operand setting operand w ≡ o →
            values.chosen_truth setting o w ≡ Yes v → C [] v
        by (Some (Truth true, x)) is k = subst (C []) (yes_same k) (chosen_number operand t h f c true x is)
        by (Some (Truth false, x)) is k = absurd (let never : ⊥ = cc in never)
        by None is k = absurd (let never : ⊥ = cc in never)
        by (Some (Gone, x)) is k = absurd (let never : ⊥ = cc in never)
        by (Some (Number n, x)) is k = absurd (let never : ⊥ = cc in never)
        by (Some (UnitValue, x)) is k = absurd (let never : ⊥ = cc in never)
        by (Some (Aggregate n s p, x)) is k = absurd (let never : ⊥ = cc in never)
        by (Some (Box s i d, x)) is k = absurd (let never : ⊥ = cc in never)
        by (Some (Address a, x)) is k = absurd (let never : ⊥ = cc in never)

    pub no_counted : (operand : Operand) (t : List Bool) → takes facts operand ≡ true →
        Fine (free.operand_used items local_ty operand (feeding t cells)) → C [] w → (v : State) →
        values.choose setting (effects.IsTrue operand) w ≡ No v → C [] v
    no_counted operand t h f c v e = by (evaluate_operand setting operand w) refl e
      where
        no_same : {a b : State} → No a ≡ No b → a ≡ b
        no_same x = cc

        by : (o : Option (Datum × State)) → evaluate_operand setting operand w ≡ o →
            values.chosen_truth setting o w ≡ No v → C [] v
        by (Some (Truth false, x)) is k = subst (C []) (no_same k) (chosen_number operand t h f c false x is)
        by (Some (Truth true, x)) is k = absurd (let never : ⊥ = cc in never)
        by None is k = absurd (let never : ⊥ = cc in never)
        by (Some (Gone, x)) is k = absurd (let never : ⊥ = cc in never)
        by (Some (Number n, x)) is k = absurd (let never : ⊥ = cc in never)
        by (Some (UnitValue, x)) is k = absurd (let never : ⊥ = cc in never)
        by (Some (Aggregate n s p, x)) is k = absurd (let never : ⊥ = cc in never)
        by (Some (Box s i d, x)) is k = absurd (let never : ⊥ = cc in never)
        by (Some (Address a, x)) is k = absurd (let never : ⊥ = cc in never)

    -- a test of a variant leaves the state
    pub tested_same : (site : EffectSite) (variant : ℕ) (v : State) →
        ((values.choose setting (effects.HasVariant site variant) w ≡ Yes v) → w ≡ v)
        × ((values.choose setting (effects.HasVariant site variant) w ≡ No v) → w ≡ v)
    tested_same site variant v = by (reach setting w site.place)
      where
        Same : Choice State → Type 0
        Same o = ((o ≡ Yes v) → w ≡ v) × ((o ≡ No v) → w ≡ v)

        stuck_same : Same (Neither Stuck w)
        stuck_same = ((λ e. absurd (let never : ⊥ = cc in never)), (λ e. absurd (let never : ⊥ = cc in never)))

        by_if : (b : Bool) → Same (values.chosen_if setting b w)
        by_if true = ((λ e. cc), (λ e. absurd (let never : ⊥ = cc in never)))
        by_if false = ((λ e. absurd (let never : ⊥ = cc in never)), (λ e. cc))

        tested : (d : Datum) → Same (values.variant_tested setting variant d w)
        tested (Aggregate active s p) = by_if _
        tested other = stuck_same

        by : (r : Reached) → Same (on_reached r (λ (s : Located). values.variant_tested setting variant s.value w)
            (Neither Stuck w) (Neither Stuck w))
        by (Reaches s) = tested s.value
        by CutOff = stuck_same
        by Nowhere = stuck_same

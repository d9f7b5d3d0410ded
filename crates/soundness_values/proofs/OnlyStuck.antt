-- An action that calls nothing halts in no way but stuck: so a run that may lapse does not end there.
use Rattle.std.proofs.Common.{◌≡◌, ℕ, ℤ, pos, Bool, true, false, List, [], ◌∷◌, Option, Some, None, subst}
use Rattle.mir_base.specs.declared.int_kind.IntKind.{IntKind}
use Rattle.mir_base.specs.declared.operator.Math.{Math}
use Rattle.mir_base.specs.declared.trace.Event.{Event}
use Rattle.std.specs.Prelude.{int_lt, neg_ℤ}
use Rattle.std.specs.Option.{option_map_or}
use Rattle.std.proofs.lemmas.Bool.{false≢true}
use Rattle.mir_ty.specs.declared.ty.Ty.{Ty}
use Rattle.store_model.specs.Places.TypeForms.{int_kind}
use Rattle.store_model.specs.Values.Datum.{Datum, Gone, Number, Truth, UnitValue, Aggregate, Box, Address, data_from}
use Rattle.store_model.specs.Effects as effects
use Rattle.store_model.specs.Effects.{EffectSite, Operand, AggregateKind, OfTuple, OfArray, OfVariant, OfClosure, Action, Test, Halt, Aborted, OutOfTicks, Stuck, Out, Go, Unwind, Halts, Choice, Yes, No, Neither, halting_if}
use Rattle.store_model.specs.Concrete.Drops.{drop_impl}
use Rattle.store_model.specs.Concrete.Effects as values
use Rattle.store_model.specs.Concrete.Effects.{act, or_stuck, evaluate_operand, with_operand, put, put_if, tell_after, made, whole_at}
use Rattle.store_model.specs.Concrete.Location.{Setting, Located, Reached, Reaches, CutOff, Nowhere, reach, on_reached, stored_at}
use Rattle.store_model.specs.Concrete.State.{State, Bodies, numbered_next}
use Rattle.soundness_values.proofs.Taking.{MayLapse}

abbrev pub HaltsStuck : Out State → Type 0
HaltsStuck (Go w) = Unit {0}
HaltsStuck (Unwind w) = Unit {0}
HaltsStuck (Halts Stuck w) = Unit {0}
HaltsStuck (Halts halt w) = ⊥

pub no_lapse : (o : Out State) (halt : Halt) (v : State) → HaltsStuck o → o ≡ Halts halt v → MayLapse halt v → ⊥
no_lapse o halt v h e m = by halt m (subst HaltsStuck e h)
  where
    by : (halt : Halt) → MayLapse halt v → HaltsStuck (Halts halt v) → ⊥
    by Aborted m k = k
    by OutOfTicks m k = k
    by other m k = m

pub stuck_if : (b : Bool) (o : Out State) → HaltsStuck o → HaltsStuck (halting_if b Stuck o)
stuck_if true (Go w) h = tt
stuck_if true (Unwind w) h = tt
stuck_if true (Halts halt w) h = h
stuck_if false o h = h

or_stuck_so : {A : Type 0} (o : Option A) (next : A → Out State) (w : State) → ((a : A) → HaltsStuck (next a)) →
    HaltsStuck (or_stuck o next w)
or_stuck_so None next w h = tt
or_stuck_so (Some a) next w h = h a

abbrev pub calls_nothing : Action → Bool
calls_nothing (effects.Call to body args) = false
calls_nothing (effects.CallVirtual to trait_no method args) = false
calls_nothing (effects.Free site) = false
calls_nothing action = true

module _ (setting : Setting) where
  pub put_so : (to : EffectSite) (d : Datum) (w : State) → HaltsStuck (put setting to d w)
  put_so to d w = by (reach setting w to.place)
    where
      by : (r : Reached) → HaltsStuck (on_reached r (λ s. Go (stored_at s.address d w)) (Halts Stuck w) (Halts Stuck w))
      by (Reaches s) = tt
      by CutOff = tt
      by Nowhere = tt

  told_so : (event : Event) (o : Out State) → HaltsStuck o → HaltsStuck (tell_after setting event o)
  told_so event (Go w) h = tt
  told_so event (Unwind w) h = tt
  told_so event (Halts halt w) h = h

  put_if_so : (to : EffectSite) (o : Option Datum) (w : State) → HaltsStuck (put_if setting to o w)
  put_if_so to o w = or_stuck_so o (λ d. put setting to d w) w (λ d. put_so to d w)

  with_so : (operand : Operand) (w : State) (next : Datum → State → Out State) →
      ((d : Datum) (v : State) → HaltsStuck (next d v)) → HaltsStuck (with_operand setting operand w next)
  with_so operand w next h = or_stuck_so (evaluate_operand setting operand w) (λ (x : Datum × State). next x.0 x.1) w
      (λ x. h x.0 x.1)

  computed_so : (to : EffectSite) (o : values.Computed) (w : State) → HaltsStuck (values.put_computed setting to o w)
  computed_so to (values.Gives n) w = put_so to (Number n) w
  computed_so to (values.PanicsBy why) w = tt

  compute_so : (to : EffectSite) (operator : Math) (kind : Option IntKind) (a b : Datum) (w : State) →
      HaltsStuck (values.compute setting to operator kind a b w)
  compute_so to operator (Some kind) (Number x) (Number y) w = computed_so to (values.computed operator kind x y) w
  compute_so to operator None a b w = tt
  compute_so to operator (Some kind) (Number x) other w = tt
  compute_so to operator (Some kind) other b w = tt

  negate_so : (to : EffectSite) (kind : Option IntKind) (d : Datum) (w : State) →
      HaltsStuck (values.negate setting to kind d w)
  negate_so to None d w = tt
  negate_so to (Some kind) (Number n) w = computed_so to (values.if_within kind (neg_ℤ n)) w
  negate_so to (Some kind) other w = tt

  printed_so : (d : Datum) (w : State) → HaltsStuck (values.printed setting d w)
  printed_so (Number n) w = tt
  printed_so other w = tt

  bounded_so : (count : ℕ) (d : Datum) (w : State) → HaltsStuck (values.bounded setting count d w)
  bounded_so count (Number n) w = by (int_lt n (pos count))
    where
      by : (b : Bool) → HaltsStuck (values.within_bounds setting b w)
      by true = tt
      by false = tt
  bounded_so count other w = tt

  built_so : (to : EffectSite) (kind : AggregateKind) (ds : List Datum) (w : State) →
      HaltsStuck (values.built setting to kind ds w)
  built_so to OfTuple ds w = put_so to (Aggregate 0 None (data_from ds)) w
  built_so to OfArray ds w = put_so to (Aggregate 0 None (data_from ds)) w
  built_so to (OfClosure closure) ds w = put_so to (Aggregate 0 None (data_from ds)) w
  built_so to (OfVariant adt variant) ds w = by (drop_impl setting.items (Some (Ty.Adt adt)))
    where
      by : (o : Option (ℕ × ℕ)) → HaltsStuck (values.made_event setting adt to (made adt variant ds (Some w.serial) o) o w)
      by None = put_so to (made adt variant ds (Some w.serial) None) w
      by (Some of) = told_so (Event.Make adt w.serial) _
          (put_so to (made adt variant ds (Some w.serial) (Some of)) (numbered_next w))

  asked_so : (to : EffectSite) (l : List ℤ) (w : State) → HaltsStuck (values.asked setting to l w)
  asked_so to [] w = tt
  asked_so to (n ∷ rest) w = told_so (Event.Asked n) _ (put_so to (Number n) (record w { asked = rest }))

  module _ (run : Bodies) where
    acted_so : (action : Action) (w : State) → calls_nothing action ≡ true → HaltsStuck (values.acted setting run action w)
    acted_so (effects.Put to from) w h = with_so from w (put setting to) (put_so to)
    acted_so (effects.Compare to operator left right) w h =
        with_so left w (λ a x. with_operand setting right x
        (λ b. put_if setting to (option_map_or (λ t. Some (Truth t)) (values.compared operator a b) None)))
        (λ a x. with_so right x (λ b. put_if setting to (option_map_or (λ t. Some (Truth t)) (values.compared operator a b) None))
        (λ b v. put_if_so to (option_map_or (λ t. Some (Truth t)) (values.compared operator a b) None) v))
    acted_so (effects.Not to operand) w h = with_so operand w (λ d. put_if setting to (values.negated setting d))
        (λ d v. put_if_so to (values.negated setting d) v)
    acted_so (effects.Build to kind parts) w h = or_stuck_so (values.evaluate_operands setting parts w)
        (λ (x : List Datum × State). values.built setting to kind x.0 x.1) w (λ x. built_so to kind x.0 x.1)
    acted_so (effects.NewBox to content) w h = with_so content w (values.boxed setting to)
        (λ d v. told_so (Event.Boxed v.serial) _ (put_so to (Box v.serial None d) (numbered_next v)))
    acted_so (effects.Unsize to trait_no operand) w h = with_so operand w
        (values.impl_put setting to (values.impl_boxed setting trait_no w operand)) (λ d v. put_if_so to _ v)
    acted_so (effects.Borrow to unique base) w h = or_stuck_so (whole_at setting w base)
        (λ (s : Located). put setting to (Address s.address) w) w (λ s. put_so to (Address s.address) w)
    acted_so (effects.Touch base) w h = or_stuck_so (whole_at setting w base) (λ (s : Located). Go w) w (λ s. tt)
    acted_so (effects.Print operand) w h = with_so operand w (values.printed setting) printed_so
    acted_so (effects.Forget operand) w h = with_so operand w
        (λ d v. Go (values.with_events setting (option_map_or (values.forgotten setting.items d) (values.type_of_operand setting w operand) []) v)) (λ d v. tt)
    acted_so (effects.Free box) w h = absurd (false≢true h)
    acted_so (effects.Compute to operator left right) w h =
        with_so left w (λ a x. with_operand setting right x
        (values.compute setting to operator (int_kind (values.ty_of_operand setting w left)) a))
        (λ a x. with_so right x (values.compute setting to operator (int_kind (values.ty_of_operand setting w left)) a)
        (λ b v. compute_so to operator (int_kind (values.ty_of_operand setting w left)) a b v))
    acted_so (effects.Negate to operand) w h = with_so operand w
        (values.negate setting to (int_kind (values.ty_of_operand setting w operand)))
        (λ d v. negate_so to (int_kind (values.ty_of_operand setting w operand)) d v)
    acted_so (effects.Bounds index count) w h = with_so index w (values.bounded setting count) (bounded_so count)
    acted_so (effects.Call to body args) w h = absurd (false≢true h)
    acted_so (effects.CallVirtual to trait_no method args) w h = absurd (false≢true h)
    acted_so (effects.Ask to) w h = asked_so to w.asked w

    pub acts_stuck : (action : Action) (w : State) → calls_nothing action ≡ true →
        HaltsStuck (act setting run action w)
    acts_stuck action w h = stuck_if (effects.stores_where (values.never_at setting w) action) _ (acted_so action w h)

  -- and no condition ends a run
  abbrev pub HaltsStuckChoice : Choice State → Type 0
  HaltsStuckChoice (Yes w) = Unit {0}
  HaltsStuckChoice (No w) = Unit {0}
  HaltsStuckChoice (Neither Stuck w) = Unit {0}
  HaltsStuckChoice (Neither halt w) = ⊥

  pub no_lapse_choice : (o : Choice State) (halt : Halt) (v : State) → HaltsStuckChoice o → o ≡ Neither halt v →
      MayLapse halt v → ⊥
  no_lapse_choice o halt v h e m = by halt m (subst HaltsStuckChoice e h)
    where
      by : (halt : Halt) → MayLapse halt v → HaltsStuckChoice (Neither halt v) → ⊥
      by Aborted m k = k
      by OutOfTicks m k = k
      by other m k = m

  pub choice_stuck : (test : Test) (w : State) → HaltsStuckChoice (values.choose setting test w)
  choice_stuck (effects.IsTrue operand) w = by (evaluate_operand setting operand w)
    where
      by : (o : Option (Datum × State)) → HaltsStuckChoice (values.chosen_truth setting o w)
      by None = tt
      by (Some (Truth true, v)) = tt
      by (Some (Truth false, v)) = tt
      by (Some (Gone, v)) = tt
      by (Some (Number n, v)) = tt
      by (Some (UnitValue, v)) = tt
      by (Some (Aggregate n s p, v)) = tt
      by (Some (Box s i d, v)) = tt
      by (Some (Address a, v)) = tt
  choice_stuck (effects.HasVariant site variant) w = by (reach setting w site.place)
    where
      by_if : (b : Bool) → HaltsStuckChoice (values.chosen_if setting b w)
      by_if true = tt
      by_if false = tt

      tested : (d : Datum) → HaltsStuckChoice (values.variant_tested setting variant d w)
      tested (Aggregate active s p) = by_if _
      tested other = tt

      by : (r : Reached) → HaltsStuckChoice (on_reached r (λ (s : Located). values.variant_tested setting variant s.value w)
          (Neither Stuck w) (Neither Stuck w))
      by (Reaches s) = tested s.value
      by CutOff = tt
      by Nowhere = tt

-- Each effect on values is the same under two settings that answer alike.
use Rattle.std.proofs.Common.{◌≡◌, ℕ, ◌==◌, pos, int_lt, Bool, true, false, not, ◌||◌, List, [], ◌∷◌, ℤ, neg_ℤ, Option, Some, None, slice_get, refl, ap, subst, ◌∙◌}
use Rattle.std.specs.Prelude.{option_and_then}
use Rattle.std.specs.Option.{option_map_or}
use Rattle.mir_base.specs.declared.int_kind.IntKind.{IntKind}
use Rattle.mir_base.specs.declared.operator.Math.{Math}
use Rattle.mir_base.specs.declared.trace.Event.{Event}
use Rattle.mir_ty.specs.declared.def.ImplDef.{ImplDef}
use Rattle.mir_ty.specs.declared.ty.Ty.{Ty}
use Rattle.mir_ty.specs.ItemTable.{ItemTable, type_at}
use Rattle.store_model.specs.Concrete.Drops.{Begins, drop_impl}
use Rattle.store_model.specs.Concrete.Effects.{Computed, Gives, PanicsBy, computed, compared, if_within, body_of_youngest, or_stuck, if_so, impl_of, with_impl, made, ty_of_place, never_at, ty_of_operand, whole, whole_at, evaluate_operand, evaluate_operands, with_operand, with_two_operands, with_operands, put, put_if, tell_after, negated, made_event, built, boxed, impl_boxed, printed, with_events, type_of_operand, if_nothing_numbered, freed, put_computed, compute, negate, within_bounds, bounded, answered, object_body, virtual_body, asked, chosen_truth, chosen_if, variant_tested, choose, impl_put, called, acted, act, give, dropped_if, nothing_if, drop, panics, concrete_effects}
use Rattle.store_model.specs.Concrete.Location.{Setting, DynamicType, Located, located_at, Reached, reach, on_reached, stored_at}
use Rattle.store_model.specs.Concrete.State.{State, numbered_next, tick, Answer, Returns, Unwinds, HaltsIn, Bodies}
use Rattle.store_model.specs.Effects as effects
use Rattle.store_model.specs.Effects.{EffectSite, Operand, AggregateKind, OfTuple, OfArray, OfVariant, OfClosure, Action, Test, Mode, Stuck, Out, Go, Unwind, Halts, Choice, Neither, Effects, halting_if, stores_where}
use Rattle.store_model.specs.Places.Place.{place_ty, ty_along}
use Rattle.store_model.specs.Places.TypeForms.{box_content, int_kind}
use Rattle.store_model.specs.Values.Datum.{Datum, Gone, Number, Truth, Aggregate, Box, Address}
use Rattle.store_model.specs.Values.Wholeness.{is_whole, serials}
use Rattle.listing_write.proofs.Reading.Alike.{int, bool, unit, adt}
use Rattle.listing_write.proofs.Reading.Tested.{OptTy, OptId, dyn_of_alike, adt_of_alike}
use Rattle.listing_write.proofs.Reading.Tested as tested
use Rattle.listing_runs.proofs.Asked.{DynAlike, of_type, of_object, OptDyn, no_dynamic, never_same, kind_same, then_id, along_alike, drop_impl_same}
use Rattle.listing_runs.proofs.Dropped.{drop_alike}
use Rattle.listing_runs.proofs.Forgotten.{forgotten_of, dynamic_of}
use Rattle.listing_runs.proofs.Reached.{LocatedAlike, stands, stands_same, OptLocated, no_place, a_place, ReachedAlike, both_reach, both_cut_off, both_nowhere, found_as, located_same, reached_same, SettingsAlike, at_alike, reach_alike}

module _ (left right : Setting) (alike : SettingsAlike left right) where
  abbrev L : ItemTable
  L = left.items

  abbrev R : ItemTable
  R = right.items

  -- the types of places and operands
  place_alike : (w : State) (site : EffectSite) → OptTy L R (ty_of_place left w site) (ty_of_place right w site)
  place_alike w site =
      tested.at_alike L R alike.items.held alike.items.types
      (place_ty L (λ local. option_and_then (λ body. left.local_ty body local) (body_of_youngest w)) site.place)
      (place_ty R (λ local. option_and_then (λ body. right.local_ty body local) (body_of_youngest w)) site.place)
      (then_id L R (ty_along L site.place.steps) (ty_along R site.place.steps)
      (option_and_then (λ body. left.local_ty body site.place.local) (body_of_youngest w))
      (option_and_then (λ body. right.local_ty body site.place.local) (body_of_youngest w))
      (local (body_of_youngest w)) (along_alike L R alike.items site.place.steps))
    where
      local : (o : Option ℕ) → OptId L R (option_and_then (λ body. left.local_ty body site.place.local) o)
          (option_and_then (λ body. right.local_ty body site.place.local) o)
      local None = tt
      local (Some body) = alike.locals body site.place.local

  never_at_same : (w : State) (site : EffectSite) → never_at left w site ≡ never_at right w site
  never_at_same w site = never_same L R (ty_of_place left w site) (ty_of_place right w site) (place_alike w site)

  operand_alike : (w : State) (operand : Operand) →
      OptTy L R (ty_of_operand left w operand) (ty_of_operand right w operand)
  operand_alike w (effects.Copied site) = place_alike w site
  operand_alike w (effects.Moved site) = place_alike w site
  operand_alike w (effects.Number value kind) = int kind
  operand_alike w (effects.Truth value) = bool
  operand_alike w effects.UnitValue = unit

  kind_of_operand : (w : State) (operand : Operand) →
      int_kind (ty_of_operand left w operand) ≡ int_kind (ty_of_operand right w operand)
  kind_of_operand w operand =
      kind_same L R (ty_of_operand left w operand) (ty_of_operand right w operand) (operand_alike w operand)

  -- what stands at a place whose value is used
  whole_alike : (s t : Located) → LocatedAlike L R s t → OptLocated L R (whole left s) (whole right t)
  whole_alike s t (stands address value h) = by (is_whole value)
    where
      by : (b : Bool) → OptLocated L R (if_so b s) (if_so b t)
      by true = a_place (stands address value h)
      by false = no_place

  whole_at_alike : (w : State) (site : EffectSite) → OptLocated L R (whole_at left w site) (whole_at right w site)
  whole_at_alike w site = by (reach left w site.place) (reach right w site.place)
      (reach_alike left right alike w site.place)
    where
      by : (x y : Reached) → ReachedAlike L R x y →
          OptLocated L R (on_reached x (whole left) None None) (on_reached y (whole right) None None)
      by _ _ (both_reach {s = s} {t = t} h) = whole_alike s t h
      by _ _ both_cut_off = no_place
      by _ _ both_nowhere = no_place

  evaluated_same : (operand : Operand) (w : State) → evaluate_operand left operand w ≡ evaluate_operand right operand w
  evaluated_same (effects.Copied site) w =
      located_same L R (λ s. Some (s.value, w)) (λ s. Some (s.value, w)) None (whole_at left w site)
      (whole_at right w site) (whole_at_alike w site) (stands_same L R (λ address value. Some (value, w)))
  evaluated_same (effects.Moved site) w =
      located_same L R (λ s. Some (s.value, stored_at s.address Gone w))
      (λ s. Some (s.value, stored_at s.address Gone w))
      None (whole_at left w site) (whole_at right w site) (whole_at_alike w site)
      (stands_same L R (λ address value. Some (value, stored_at address Gone w)))
  evaluated_same (effects.Number value kind) w = refl
  evaluated_same (effects.Truth value) w = refl
  evaluated_same effects.UnitValue w = refl

  all_evaluated_same : (operands : List Operand) (w : State) →
      evaluate_operands left operands w ≡ evaluate_operands right operands w
  all_evaluated_same [] w = refl
  all_evaluated_same (operand ∷ operands) w =
      λ i. option_and_then
      (λ (one : Datum × State). option_map_or (λ (rest : List Datum × State). Some (one.0 ∷ rest.0, rest.1))
      (all_evaluated_same operands one.1 i) None) (evaluated_same operand w i)

  -- what is done with values of operands
  abbrev NextSame : (Datum → State → Out State) → (Datum → State → Out State) → Type 0
  NextSame f g = (value : Datum) (w : State) → f value w ≡ g value w

  with_same : (operand : Operand) (w : State) (f g : Datum → State → Out State) → NextSame f g →
      with_operand left operand w f ≡ with_operand right operand w g
  with_same operand w f g on =
      λ i. or_stuck (evaluated_same operand w i) (λ (t : Datum × State). on t.0 t.1 i) w

  with_two_same : (one two : Operand) (w : State) (f g : Datum → Datum → State → Out State) →
      ((value : Datum) → NextSame (f value) (g value)) →
      with_two_operands left one two w f ≡ with_two_operands right one two w g
  with_two_same one two w f g on =
      with_same one w (λ a w. with_operand left two w (f a)) (λ a w. with_operand right two w (g a))
      (λ a w. with_same two w (f a) (g a) (on a))

  with_all_same : (operands : List Operand) (w : State) (f g : List Datum → State → Out State) →
      ((values : List Datum) (w : State) → f values w ≡ g values w) →
      with_operands left operands w f ≡ with_operands right operands w g
  with_all_same operands w f g on =
      λ i. or_stuck (all_evaluated_same operands w i) (λ (t : List Datum × State). on t.0 t.1 i) w

  put_same : (to : EffectSite) (value : Datum) (w : State) → put left to value w ≡ put right to value w
  put_same to value w =
      reached_same L R (λ s. Go (stored_at s.address value w)) (λ s. Go (stored_at s.address value w)) (Halts Stuck w)
      (Halts Stuck w) (Halts Stuck w) refl (reach left w to.place) (reach right w to.place)
      (reach_alike left right alike w to.place) (stands_same L R (λ address v. Go (stored_at address value w)))

  put_if_same : (to : EffectSite) (o p : Option Datum) → o ≡ p → (w : State) → put_if left to o w ≡ put_if right to p w
  put_if_same to o p h w = λ i. or_stuck (h i) (λ v. put_same to v w i) w

  told_same : (event : Event) (out out' : Out State) → out ≡ out' →
      tell_after left event out ≡ tell_after right event out'
  told_same event out out' h = subst (λ o. tell_after left event out ≡ tell_after right event o) h (own out)
    where
      own : (out : Out State) → tell_after left event out ≡ tell_after right event out
      own (Go w) = refl
      own (Unwind w) = refl
      own (Halts halt w) = refl

  made_same : (number : ℕ) (to : EffectSite) (value : Datum) (of : Option (ℕ × ℕ)) (w : State) →
      made_event left number to value of w ≡ made_event right number to value of w
  made_same number to value None w = put_same to value w
  made_same number to value (Some of) w =
      told_same (Event.Make number w.serial) (put left to value (numbered_next w))
      (put right to value (numbered_next w))
      (put_same to value (numbered_next w))

  built_same : (to : EffectSite) (kind : AggregateKind) (parts : List Datum) (w : State) →
      built left to kind parts w ≡ built right to kind parts w
  built_same to OfTuple parts w = put_same to _ w
  built_same to OfArray parts w = put_same to _ w
  built_same to (OfClosure closure) parts w = put_same to _ w
  built_same to (OfVariant n variant) parts w =
      made_same n to (made n variant parts (Some w.serial) (drop_impl L (Some (Ty.Adt n))))
      (drop_impl L (Some (Ty.Adt n))) w
      ∙ ap (λ (of : Option (ℕ × ℕ)). made_event right n to (made n variant parts (Some w.serial) of) of w)
      (drop_impl_same L R alike.items (Some (Ty.Adt n)) (Some (Ty.Adt n)) (adt n))

  boxed_same : (to : EffectSite) (content : Datum) (w : State) → boxed left to content w ≡ boxed right to content w
  boxed_same to content w =
      told_same (Event.Boxed w.serial) (put left to (Box w.serial None content) (numbered_next w))
      (put right to (Box w.serial None content) (numbered_next w))
      (put_same to (Box w.serial None content) (numbered_next w))

  impl_boxed_same : (trait_no : ℕ) (w : State) (operand : Operand) →
      impl_boxed left trait_no w operand ≡ impl_boxed right trait_no w operand
  impl_boxed_same trait_no w operand =
      let x : Option Ty = ty_of_operand left w operand in
      let y : Option Ty = ty_of_operand right w operand in
      let inside : OptTy L R (option_and_then (type_at L) (box_content x))
      (option_and_then (type_at R) (box_content y)) =
      tested.at_alike L R alike.items.held alike.items.types (box_content x) (box_content y)
      (tested.content_alike L R x y (operand_alike w operand)) in
      λ i. option_and_then (impl_of (record L { impls = alike.items.impls i }) trait_no)
      (adt_of_alike L R (option_and_then (type_at L) (box_content x)) (option_and_then (type_at R) (box_content y))
      inside i)

  impl_put_same : (to : EffectSite) (o p : Option ℕ) → o ≡ p → (value : Datum) (w : State) →
      impl_put left to o value w ≡ impl_put right to p value w
  impl_put_same to o p h value w =
      put_if_same to (option_and_then (λ n. with_impl n value) o) (option_and_then (λ n. with_impl n value) p)
      (ap (λ (o : Option ℕ). option_and_then (λ n. with_impl n value) o) h) w

  printed_same : (value : Datum) (w : State) → printed left value w ≡ printed right value w
  printed_same (Number number) w = refl
  printed_same value w = refl

  type_of_operand_alike : (w : State) (operand : Operand) →
      OptDyn L R (type_of_operand left w operand) (type_of_operand right w operand)
  type_of_operand_alike w (effects.Copied site) =
      dynamic_of L R alike.items (whole_at left w site) (whole_at right w site) (whole_at_alike w site)
  type_of_operand_alike w (effects.Moved site) =
      dynamic_of L R alike.items (whole_at left w site) (whole_at right w site) (whole_at_alike w site)
  type_of_operand_alike w operand = no_dynamic

  numbered_same : (list : List ℕ) (out : Out State) (w : State) →
      if_nothing_numbered left list out w ≡ if_nothing_numbered right list out w
  numbered_same [] out w = refl
  numbered_same (serial ∷ rest) out w = refl

  freed_same : (value : Datum) (s t : Located) → LocatedAlike L R s t → (w : State) →
      freed left s value w ≡ freed right t value w
  freed_same (Box serial impl_no inside) s t (stands address value h) w = numbered_same (serials inside) _ w
  freed_same value s t h w = refl

  freed_there : (w : State) (s t : Located) → LocatedAlike L R s t → freed left s s.value w ≡ freed right t t.value w
  freed_there w s t (stands address value h) = freed_same value s t (stands address value h) w

  computed_same : (to : EffectSite) (c : Computed) (w : State) → put_computed left to c w ≡ put_computed right to c w
  computed_same to (Gives number) w = put_same to (Number number) w
  computed_same to (PanicsBy why) w = refl

  compute_same : (to : EffectSite) (operator : Math) (kind : Option IntKind) (a b : Datum) (w : State) →
      compute left to operator kind a b w ≡ compute right to operator kind a b w
  compute_same to operator (Some kind) (Number a) (Number b) w = computed_same to (computed operator kind a b) w
  compute_same to operator kind a b w = refl

  negate_same : (to : EffectSite) (kind : Option IntKind) (value : Datum) (w : State) →
      negate left to kind value w ≡ negate right to kind value w
  negate_same to (Some kind) (Number a) w = computed_same to (if_within kind (neg_ℤ a)) w
  negate_same to kind value w = refl

  within_same : (b : Bool) (w : State) → within_bounds left b w ≡ within_bounds right b w
  within_same true w = refl
  within_same false w = refl

  bounded_same : (length : ℕ) (value : Datum) (w : State) → bounded left length value w ≡ bounded right length value w
  bounded_same length (Number number) w = within_same (int_lt number (pos length)) w
  bounded_same length value w = refl

  answered_same : (to : EffectSite) (answer : Answer) → answered left to answer ≡ answered right to answer
  answered_same to (Returns value w) = put_same to value w
  answered_same to (Unwinds w) = refl
  answered_same to (HaltsIn halt w) = refl

  object_same : (trait_no method : ℕ) (d e : DynamicType) → DynAlike L R d e →
      object_body left trait_no method d ≡ object_body right trait_no method e
  object_same trait_no method d e (of_type h) = refl
  object_same trait_no method d e (of_object {a = a} {b = b} h n) =
      λ i. option_and_then
      (λ body. if_so (dyn_of_alike L R trait_no (type_at L a) (type_at R b) (alike.items.types a b h) i) body)
      (option_and_then (λ (impl : ImplDef). slice_get impl.bodies method) (slice_get (alike.items.impls i) n))

  virtual_same : (trait_no method : ℕ) (w : State) (args : List Datum) →
      virtual_body left trait_no method w args ≡ virtual_body right trait_no method w args
  virtual_same trait_no method w (Address address ∷ rest) =
      by (located_at left w address) (located_at right w address) (at_alike left right alike w address)
    where
      by : (x y : Option Located) → OptLocated L R x y →
          option_and_then (λ s. object_body left trait_no method s.dynamic) x
          ≡ option_and_then (λ s. object_body right trait_no method s.dynamic) y
      by _ _ no_place = refl
      by _ _ (a_place {s = s} {t = t} h) = object_same trait_no method s.dynamic t.dynamic (found_as L R s t h)
  virtual_same trait_no method w args = refl

  asked_same : (to : EffectSite) (numbers : List ℤ) (w : State) → asked left to numbers w ≡ asked right to numbers w
  asked_same to [] w = refl
  asked_same to (number ∷ rest) w =
      told_same (Event.Asked number) (put left to (Number number) (record w { asked = rest }))
      (put right to (Number number) (record w { asked = rest }))
      (put_same to (Number number) (record w { asked = rest }))

  -- tests
  truth_same : (o : Option (Datum × State)) (w : State) → chosen_truth left o w ≡ chosen_truth right o w
  truth_same (Some (Truth true, v)) w = refl
  truth_same (Some (Truth false, v)) w = refl
  truth_same o w = refl

  chosen_same : (b : Bool) (w : State) → chosen_if left b w ≡ chosen_if right b w
  chosen_same true w = refl
  chosen_same false w = refl

  variant_same : (variant : ℕ) (value : Datum) (w : State) →
      variant_tested left variant value w ≡ variant_tested right variant value w
  variant_same variant (Aggregate active serial parts) w = chosen_same (variant == active) w
  variant_same variant value w = refl

  choose_same : (test : Test) (w : State) → choose left test w ≡ choose right test w
  choose_same (effects.IsTrue operand) w =
      truth_same (evaluate_operand left operand w) w
      ∙ ap (λ (o : Option (Datum × State)). chosen_truth right o w) (evaluated_same operand w)
  choose_same (effects.HasVariant site variant) w =
      reached_same L R (λ s. variant_tested left variant s.value w) (λ s. variant_tested right variant s.value w)
      (Neither Stuck w) (Neither Stuck w) (Neither Stuck w) refl (reach left w site.place) (reach right w site.place)
      (reach_alike left right alike w site.place) there
    where
      there : (s t : Located) → LocatedAlike L R s t →
          variant_tested left variant s.value w ≡ variant_tested right variant t.value w
      there s t (stands address value h) = variant_same variant value w

  module _ (run : Bodies) where
    called_same : (to : EffectSite) (o p : Option ℕ) → o ≡ p → (args : List Datum) (w : State) →
        called left run to o args w ≡ called right run to p args w
    called_same to o p h args w =
        λ i. or_stuck (h i) (λ (body : ℕ). answered_same to (run (Event.Call body) body args w) i) w

    -- what stands at a place is used
    used_same : (site : EffectSite) (w : State) (f g : Located → Out State) →
        ((s t : Located) → LocatedAlike L R s t → f s ≡ g t) →
        or_stuck (whole_at left w site) f w ≡ or_stuck (whole_at right w site) g w
    used_same site w f g on = by (whole_at left w site) (whole_at right w site) (whole_at_alike w site)
      where
        by : (x y : Option Located) → OptLocated L R x y → or_stuck x f w ≡ or_stuck y g w
        by _ _ no_place = refl
        by _ _ (a_place {s = s} {t = t} h) = on s t h

    acted_same : (action : Action) (w : State) → acted left run action w ≡ acted right run action w
    acted_same (effects.Put to from) w = with_same from w (put left to) (put right to) (put_same to)
    acted_same (effects.Compare to operator one two) w =
        with_two_same one two w _ _
        (λ a b w. put_if_same to (option_map_or (λ t. Some (Truth t)) (compared operator a b) None)
        (option_map_or (λ t. Some (Truth t)) (compared operator a b) None) refl w)
    acted_same (effects.Not to operand) w =
        with_same operand w _ _ (λ v w. put_if_same to (negated left v) (negated right v) (negated_same v) w)
      where
        negated_same : (v : Datum) → negated left v ≡ negated right v
        negated_same (Truth b) = refl
        negated_same v = refl
    acted_same (effects.Build to kind parts) w = with_all_same parts w (built left to kind) (built right to kind)
        (built_same to kind)
    acted_same (effects.NewBox to content) w = with_same content w (boxed left to) (boxed right to) (boxed_same to)
    acted_same (effects.Unsize to trait_no operand) w =
        with_same operand w _ _
        (impl_put_same to (impl_boxed left trait_no w operand) (impl_boxed right trait_no w operand)
        (impl_boxed_same trait_no w operand))
    acted_same (effects.Borrow to unique base) w =
        used_same base w (λ s. put left to (Address s.address) w) (λ s. put right to (Address s.address) w) there
      where
        there : (s t : Located) → LocatedAlike L R s t →
            put left to (Address s.address) w ≡ put right to (Address t.address) w
        there s t (stands address value h) = put_same to (Address address) w
    acted_same (effects.Touch base) w = used_same base w (λ s. Go w) (λ s. Go w) (λ s t h. refl)
    acted_same (effects.Print operand) w = with_same operand w (printed left) (printed right) printed_same
    acted_same (effects.Forget operand) w =
        with_same operand w _ _
        (λ v w'. ap (λ (events : List Event). Go (with_events left events w'))
        (forgotten_of L R alike.items v (type_of_operand left w operand) (type_of_operand right w operand)
        (type_of_operand_alike w operand)))
    acted_same (effects.Free box) w =
        reached_same L R (λ s. freed left s s.value w) (λ s. freed right s s.value w) (Halts Stuck w) (Halts Stuck w)
        (Halts Stuck w) refl (reach left w box.place) (reach right w box.place)
        (reach_alike left right alike w box.place)
        (freed_there w)
    acted_same (effects.Compute to operator one two) w =
        with_two_same one two w _ _
        (λ a b w'. compute_same to operator (int_kind (ty_of_operand left w one)) a b w'
        ∙ ap (λ (kind : Option IntKind). compute right to operator kind a b w') (kind_of_operand w one))
    acted_same (effects.Negate to operand) w =
        with_same operand w _ _
        (λ v w'. negate_same to (int_kind (ty_of_operand left w operand)) v w'
        ∙ ap (λ (kind : Option IntKind). negate right to kind v w') (kind_of_operand w operand))
    acted_same (effects.Bounds index length) w =
        with_same index w (bounded left length) (bounded right length) (bounded_same length)
    acted_same (effects.Call to body args) w =
        with_all_same args w _ _ (called_same to (Some body) (Some body) refl)
    acted_same (effects.CallVirtual to trait_no method args) w =
        with_all_same args w _ _
        (λ values w. called_same to (virtual_body left trait_no method w values)
        (virtual_body right trait_no method w values)
        (virtual_same trait_no method w values) values w)
    acted_same (effects.Ask to) w = asked_same to w.asked w

    act_same : (action : Action) (w : State) → act left run action w ≡ act right run action w
    act_same action w =
        λ i. halting_if (stores_where (λ site. never_at_same w site i) action) Stuck (acted_same action w i)

    give_same : (site : EffectSite) (w : State) → give left run site w ≡ give right run site w
    give_same site w = used_same site w (λ s. Go w) (λ s. Go w) (λ s t h. refl)

    -- drops
    dropped_same : (fuel : ℕ) (b : Bool) (mode : Mode) (s t : Located) → LocatedAlike L R s t → (w : State) →
        dropped_if left run fuel b mode s w ≡ dropped_if right run fuel b mode t w
    dropped_same fuel true mode s t h w = drop_alike left right alike run fuel Begins s t h mode w
    dropped_same fuel false mode s t h w = refl

    nothing_same : (b c : Bool) → b ≡ c → (w : State) → nothing_if left run b w ≡ nothing_if right run c w
    nothing_same b c h w = subst (λ d. nothing_if left run b w ≡ nothing_if right run d w) h (own b)
      where
        own : (b : Bool) → nothing_if left run b w ≡ nothing_if right run b w
        own true = refl
        own false = refl

    drop_same : (fuel : ℕ) (mode : Mode) (site : EffectSite) (w : State) →
        drop left run fuel mode site w ≡ drop right run fuel mode site w
    drop_same fuel mode site w =
        reached_same L R (λ s. dropped_if left run fuel (not left.strict || is_whole s.value) mode s w)
        (λ s. dropped_if right run fuel (not right.strict || is_whole s.value) mode s w)
        (nothing_if left run left.strict w)
        (nothing_if right run right.strict w) (Halts Stuck w) (nothing_same left.strict right.strict alike.strict w)
        (reach left w site.place) (reach right w site.place) (reach_alike left right alike w site.place) there
      where
        there : (s t : Located) → LocatedAlike L R s t →
            dropped_if left run fuel (not left.strict || is_whole s.value) mode s w
            ≡ dropped_if right run fuel (not right.strict || is_whole t.value) mode t w
        there s t (stands address value h) =
            dropped_same fuel (not left.strict || is_whole value) mode s t (stands address value h) w
            ∙ ap (λ (b : Bool). dropped_if right run fuel (not b || is_whole value) mode t w) alike.strict

    pub effects_same : (fuel : ℕ) → concrete_effects left run fuel ≡ concrete_effects right run fuel
    effects_same fuel = λ i. record {
      act = λ action w. act_same action w i;
      choose = λ test w. choose_same test w i;
      drop = λ mode site w. drop_same fuel mode site w i;
      panic = panics left;
      tick = tick;
      give = λ site w. give_same site w i;
    }

-- The effects on values do not look at where a body that they call is stuck: to forget it in their answers is to forget it
-- in the answers of the bodies. So two sets of bodies that agree up to the place are effects that agree up to it.
use Rattle.std.proofs.Common.{◌≡◌, ℕ, zero, suc, ◌==◌, ◌<◌, ℤ, Bool, true, false, not, ◌||◌, List, [], ◌∷◌, Option, Some, None, refl, ap, sym, ◌∙◌}
use Rattle.mir_base.specs.declared.int_kind.IntKind.{IntKind}
use Rattle.mir_base.specs.declared.operator.Math.{Math}
use Rattle.mir_base.specs.declared.trace.Event.{Event}
use Rattle.cfg_meaning.specs.Walk.{renamed, renamed_choice, naming}
use Rattle.store_model.proofs.Concrete.Effects.{ticks_of, Spent, Spending, Agree, values_tied}
use Rattle.store_model.proofs.Effects.Laws.{Tied}
use Rattle.store_model.specs.declared.address.At.TheVariants.{Part, Inside}
use Rattle.store_model.specs.Concrete.Drops.{drop_body_out, unwinding_out, in_mode, same_if, if_still_typed, Stage, Begins, HasRun, gone_at, freed_there, freed_at, as_read, if_part, with_body, own_body, drop_impl, drop_value, drop_parts, dropped_there, drop_at}
use Rattle.store_model.specs.Concrete.Effects.{Computed, Gives, PanicsBy, computed, or_stuck, whole_at, evaluate_operand, evaluate_operands, put, put_if, tell_after, made_event, built, printed, if_nothing_numbered, freed, put_computed, compute, negate, within_bounds, bounded, answered, asked, chosen_truth, never_at, virtual_body, called, acted, act, dropped_if, nothing_if, drop, concrete_effects}
use Rattle.store_model.specs.Concrete.Location.{Setting, DynamicType, concrete_ty, Located, into, Reached, Reaches, CutOff, Nowhere, reach, on_reached, stored_at}
use Rattle.store_model.specs.Concrete.State.{State, with_event, numbered_next, Answer, Returns, Unwinds, HaltsIn, Bodies}
use Rattle.store_model.specs.Effects as effects
use Rattle.store_model.specs.Effects.{EffectSite, AggregateKind, OfTuple, OfArray, OfVariant, OfClosure, Action, Mode, Normal, Unwinding, Halt, Stuck, Out, Go, Unwind, Halts, halting_if, stores_where}
use Rattle.store_model.specs.Values.Datum.{Datum, Data, Gone, Number, Truth, UnitValue, Aggregate, Box, Address, no_part, a_part}
use Rattle.store_model.specs.Values.Wholeness.{is_whole, serials}
use Rattle.lower_rules.specs.CodeLaws.{without_place}

abbrev pub answer_without_place : Answer → Answer
answer_without_place (Returns value w) = Returns value w
answer_without_place (Unwinds w) = Unwinds w
answer_without_place (HaltsIn halt w) = HaltsIn (without_place halt) w

abbrev pub bodies_without_place : Bodies → Bodies
bodies_without_place run event body args w = answer_without_place (run event body args w)

-- two sets of bodies agree up to the place of being stuck
abbrev pub AgreeUpToPlace : ℕ → Bodies → Bodies → Type 0
AgreeUpToPlace n run run' = Agree n (bodies_without_place run) (bodies_without_place run')

spent_without_place : (m : ℕ) (a : Answer) → Spent m a → Spent m (answer_without_place a)
spent_without_place m (Returns value w) h = record { spent = h.spent }
spent_without_place m (Unwinds w) h = record { spent = h.spent }
spent_without_place m (HaltsIn halt w) h = record { spent = tt }

spending_without_place : (run : Bodies) → Spending run → Spending (bodies_without_place run)
spending_without_place run spending m event body args w l = spent_without_place m (run event body args w) (spending m event body args w l)

-- an outcome that names no place
record Placeless (o : Out State) : Type 0 where
  same : renamed without_place o ≡ o

goes : (w : State) → Placeless (Go w)
goes w = record { same = refl }

unwinds : (w : State) → Placeless (Unwind w)
unwinds w = record { same = refl }

stuck : (w : State) → Placeless (Halts Stuck w)
stuck w = record { same = refl }

or_placeless : {A : Type 0} (o : Option A) (next : A → Out State) (w : State) → ((a : A) → Placeless (next a)) → Placeless (or_stuck o next w)
or_placeless None next w e = stuck w
or_placeless (Some a) next w e = e a

reached_placeless : (r : Reached) (f : Located → Out State) (cut_off nowhere : Out State) → ((s : Located) → Placeless (f s)) → Placeless cut_off → Placeless nowhere →
    Placeless (on_reached r f cut_off nowhere)
reached_placeless (Reaches s) f cut_off nowhere e d c = e s
reached_placeless CutOff f cut_off nowhere e d c = d
reached_placeless Nowhere f cut_off nowhere e d c = c

told_placeless : (setting : Setting) (event : Event) (o : Out State) → Placeless o → Placeless (tell_after setting event o)
told_placeless setting event (Go w) h = goes (with_event event w)
told_placeless setting event (Unwind w) h = unwinds w
told_placeless setting event (Halts halt w) h = by_halt halt h
  where
    by_halt : (halt : Halt) → Placeless (Halts halt w) → Placeless (Halts halt w)
    by_halt halt h = h

or_renamed : {A : Type 0} (o : Option A) (next next' : A → Out State) (w : State) → ((a : A) → renamed without_place (next a) ≡ next' a) →
    renamed without_place (or_stuck o next w) ≡ or_stuck o next' w
or_renamed None next next' w e = refl
or_renamed (Some a) next next' w e = e a

halting_renamed : (b : Bool) (o o' : Out State) → renamed without_place o ≡ o' → renamed without_place (halting_if b Stuck o) ≡ halting_if b Stuck o'
halting_renamed b o o' e = by_out b o ∙ ap (halting_if b Stuck) e
  where
    by_out : (b : Bool) (o : Out State) → renamed without_place (halting_if b Stuck o) ≡ halting_if b Stuck (renamed without_place o)
    by_out true (Go w) = refl
    by_out true (Unwind w) = refl
    by_out true (Halts halt w) = refl
    by_out false o = refl

module _ (setting : Setting) where
  put_placeless : (to : EffectSite) (value : Datum) (w : State) → Placeless (put setting to value w)
  put_placeless to value w = reached_placeless (reach setting w to.place) _ _ _ (λ s. goes (stored_at s.address value w)) (stuck w) (stuck w)

  put_if_placeless : (to : EffectSite) (value : Option Datum) (w : State) → Placeless (put_if setting to value w)
  put_if_placeless to value w = or_placeless value (λ v. put setting to v w) w (λ v. put_placeless to v w)

  made_placeless : (adt : ℕ) (to : EffectSite) (value : Datum) (of : Option (ℕ × ℕ)) (w : State) → Placeless (made_event setting adt to value of w)
  made_placeless adt to value None w = put_placeless to value w
  made_placeless adt to value (Some of) w = told_placeless setting (Event.Make adt w.serial) _ (put_placeless to value (numbered_next w))

  built_placeless : (to : EffectSite) (kind : AggregateKind) (parts : List Datum) (w : State) → Placeless (built setting to kind parts w)
  built_placeless to OfTuple parts w = put_placeless to _ w
  built_placeless to OfArray parts w = put_placeless to _ w
  built_placeless to (OfClosure closure) parts w = put_placeless to _ w
  built_placeless to (OfVariant adt variant) parts w = made_placeless adt to _ _ w

  printed_placeless : (value : Datum) (w : State) → Placeless (printed setting value w)
  printed_placeless (Number number) w = goes (with_event (Event.Printed number) w)
  printed_placeless _ w = stuck w

  unnumbered_placeless : (list : List ℕ) (freed : Out State) (w : State) → Placeless freed → Placeless (if_nothing_numbered setting list freed w)
  unnumbered_placeless [] freed w h = h
  unnumbered_placeless (serial ∷ list) freed w h = stuck w

  freed_placeless : (s : Located) (value : Datum) (w : State) → Placeless (freed setting s value w)
  freed_placeless s (Box serial impl_no inside) w = unnumbered_placeless (serials inside) _ w (goes _)
  freed_placeless s _ w = stuck w

  put_computed_placeless : (to : EffectSite) (answer : Computed) (w : State) → Placeless (put_computed setting to answer w)
  put_computed_placeless to (Gives number) w = put_placeless to (Number number) w
  put_computed_placeless to (PanicsBy why) w = unwinds _

  compute_placeless : (to : EffectSite) (operator : Math) (kind : Option IntKind) (a b : Datum) (w : State) → Placeless (compute setting to operator kind a b w)
  compute_placeless to operator (Some kind) (Number a) (Number b) w = put_computed_placeless to (computed operator kind a b) w
  compute_placeless to operator _ _ _ w = stuck w

  negate_placeless : (to : EffectSite) (kind : Option IntKind) (a : Datum) (w : State) → Placeless (negate setting to kind a w)
  negate_placeless to (Some kind) (Number a) w = put_computed_placeless to _ w
  negate_placeless to _ _ w = stuck w

  within_placeless : (b : Bool) (w : State) → Placeless (within_bounds setting b w)
  within_placeless true w = goes w
  within_placeless false w = unwinds _

  bounded_placeless : (count : ℕ) (value : Datum) (w : State) → Placeless (bounded setting count value w)
  bounded_placeless count (Number number) w = within_placeless _ w
  bounded_placeless count _ w = stuck w

  asked_placeless : (to : EffectSite) (numbers : List ℤ) (w : State) → Placeless (asked setting to numbers w)
  asked_placeless to [] w = unwinds _
  asked_placeless to (number ∷ rest) w = told_placeless setting (Event.Asked number) _ (put_placeless to (Number number) (record w { asked = rest }))

  answered_renamed : (to : EffectSite) (a : Answer) → renamed without_place (answered setting to a) ≡ answered setting to (answer_without_place a)
  answered_renamed to (Returns value w) = (put_placeless to value w).same
  answered_renamed to (Unwinds w) = refl
  answered_renamed to (HaltsIn halt w) = refl

  module _ (run : Bodies) where
    abbrev run' : Bodies
    run' = bodies_without_place run

    called_renamed : (to : EffectSite) (body : Option ℕ) (args : List Datum) (w : State) → renamed without_place (called setting run to body args w) ≡ called setting run' to body args w
    called_renamed to body args w = or_renamed body _ _ w (λ body. answered_renamed to (run (Event.Call body) body args w))

    acted_renamed : (action : Action) (w : State) → renamed without_place (acted setting run action w) ≡ acted setting run' action w
    acted_renamed (effects.Put to from) w = or_renamed (evaluate_operand setting from w) _ _ w (λ x. (put_placeless to x.0 x.1).same)
    acted_renamed (effects.Compare to operator left right) w =
        or_renamed (evaluate_operand setting left w) _ _ w (λ x. or_renamed (evaluate_operand setting right x.1) _ _ x.1 (λ y. (put_if_placeless to _ y.1).same))
    acted_renamed (effects.Not to operand) w = or_renamed (evaluate_operand setting operand w) _ _ w (λ x. (put_if_placeless to _ x.1).same)
    acted_renamed (effects.Build to kind parts) w = or_renamed (evaluate_operands setting parts w) _ _ w (λ x. (built_placeless to kind x.0 x.1).same)
    acted_renamed (effects.NewBox to content) w =
        or_renamed (evaluate_operand setting content w) _ _ w (λ x. (told_placeless setting (Event.Boxed x.1.serial) _ (put_placeless to _ (numbered_next x.1))).same)
    acted_renamed (effects.Unsize to trait_no operand) w = or_renamed (evaluate_operand setting operand w) _ _ w (λ x. (put_if_placeless to _ x.1).same)
    acted_renamed (effects.Borrow to unique base) w = or_renamed (whole_at setting w base) _ _ w (λ s. (put_placeless to (Address s.address) w).same)
    acted_renamed (effects.Touch base) w = or_renamed (whole_at setting w base) _ _ w (λ s. refl)
    acted_renamed (effects.Print operand) w = or_renamed (evaluate_operand setting operand w) _ _ w (λ x. (printed_placeless x.0 x.1).same)
    acted_renamed (effects.Forget operand) w = or_renamed (evaluate_operand setting operand w) _ _ w (λ x. refl)
    acted_renamed (effects.Free box) w =
        (reached_placeless (reach setting w box.place) (λ s. freed setting s s.value w) _ _ (λ s. freed_placeless s s.value w) (stuck w) (stuck w)).same
    acted_renamed (effects.Compute to operator left right) w =
        or_renamed (evaluate_operand setting left w) _ _ w (λ x. or_renamed (evaluate_operand setting right x.1) _ _ x.1 (λ y. (compute_placeless to operator _ x.0 y.0 y.1).same))
    acted_renamed (effects.Negate to operand) w = or_renamed (evaluate_operand setting operand w) _ _ w (λ x. (negate_placeless to _ x.0 x.1).same)
    acted_renamed (effects.Bounds index count) w = or_renamed (evaluate_operand setting index w) _ _ w (λ x. (bounded_placeless count x.0 x.1).same)
    acted_renamed (effects.Call to body args) w = or_renamed (evaluate_operands setting args w) _ _ w (λ x. called_renamed to (Some body) x.0 x.1)
    acted_renamed (effects.CallVirtual to trait_no method args) w =
        or_renamed (evaluate_operands setting args w) _ _ w (λ x. called_renamed to (virtual_body setting trait_no method x.1 x.0) x.0 x.1)
    acted_renamed (effects.Ask to) w = (asked_placeless to w.asked w).same

    act_renamed : (action : Action) (w : State) → renamed without_place (act setting run action w) ≡ act setting run' action w
    act_renamed action w = halting_renamed (stores_where (never_at setting w) action) _ _ (acted_renamed action w)

    truth_renamed : (o : Option (Datum × State)) (w : State) → renamed_choice without_place (chosen_truth setting o w) ≡ chosen_truth setting o w
    truth_renamed (Some (Truth true, v)) w = refl
    truth_renamed (Some (Truth false, v)) w = refl
    truth_renamed _ w = refl

    -- dropping
    unwinding_renamed : (o : Out State) → renamed without_place (unwinding_out o) ≡ unwinding_out (renamed without_place o)
    unwinding_renamed (Go w) = refl
    unwinding_renamed (Unwind w) = refl
    unwinding_renamed (Halts halt w) = refl

    in_mode_renamed : (mode : Mode) (o o' : Out State) (next next' : Mode → State → Out State) → renamed without_place o ≡ o' →
        ((mode : Mode) (v : State) → renamed without_place (next mode v) ≡ next' mode v) → renamed without_place (in_mode mode o next) ≡ in_mode mode o' next'
    in_mode_renamed mode o o' next next' q e = by_out o ∙ ap (λ o. in_mode mode o next') q
      where
        by_out : (o : Out State) → renamed without_place (in_mode mode o next) ≡ in_mode mode (renamed without_place o) next'
        by_out (Go w) = e mode w
        by_out (Unwind w) = unwinding_renamed (next Unwinding w) ∙ ap unwinding_out (e Unwinding w)
        by_out (Halts halt w) = refl

    body_out_renamed : (mode : Mode) (a : Answer) → renamed without_place (drop_body_out mode a) ≡ drop_body_out mode (answer_without_place a)
    body_out_renamed Normal (Returns value w) = refl
    body_out_renamed Normal (Unwinds w) = refl
    body_out_renamed Normal (HaltsIn halt w) = refl
    body_out_renamed Unwinding (Returns value w) = refl
    body_out_renamed Unwinding (Unwinds w) = refl
    body_out_renamed Unwinding (HaltsIn halt w) = refl

    same_if_renamed : (b : Bool) (next next' : State → Out State) (w : State) → renamed without_place (next w) ≡ next' w → renamed without_place (same_if b next w) ≡ same_if b next' w
    same_if_renamed true next next' w e = e
    same_if_renamed false next next' w e = refl

    still_renamed : (dynamic : DynamicType) (o : Option Located) (next next' : Located → State → Out State) (w : State) →
        ((s : Located) → renamed without_place (next s w) ≡ next' s w) → renamed without_place (if_still_typed setting.items dynamic o next w) ≡ if_still_typed setting.items dynamic o next' w
    still_renamed dynamic None next next' w e = refl
    still_renamed dynamic (Some s) next next' w e = same_if_renamed _ (next s) (next' s) w (e s)

    gone_renamed : (s : Located) (w : State) → renamed without_place (gone_at setting run s w) ≡ gone_at setting run' s w
    gone_renamed s w = still_renamed s.dynamic _ _ _ w (λ s. refl)

    freed_there_renamed : (value : Datum) (s : Located) (w : State) → renamed without_place (freed_there setting run value s w) ≡ freed_there setting run' value s w
    freed_there_renamed (Box serial impl_no inside) s w = refl
    freed_there_renamed other s w = refl

    freed_at_renamed : (s : Located) (w : State) → renamed without_place (freed_at setting run s w) ≡ freed_at setting run' s w
    freed_at_renamed s w = still_renamed s.dynamic _ _ _ w (λ s. freed_there_renamed s.value s w)

    module _ (again again' : Stage → Located → Mode → State → Out State)
        (again_renamed : (stage : Stage) (s : Located) (mode : Mode) (w : State) → renamed without_place (again stage s mode w) ≡ again' stage s mode w) (ticks : ℕ) where
      read_renamed : (b : Bool) (drop drop' : Located → Mode → State → Out State) (s : Located) (mode : Mode) (w : State) → renamed without_place (drop s mode w) ≡ drop' s mode w →
          renamed without_place (as_read setting run again ticks b drop s mode w) ≡ as_read setting run' again' ticks b drop' s mode w
      read_renamed true drop drop' s mode w h = h
      read_renamed false drop drop' s mode w h = again_renamed Begins s mode w

      part_renamed : (o : Option Located) (drop drop' : Located → Mode → State → Out State) (mode : Mode) (w : State) → ((s : Located) → renamed without_place (drop s mode w) ≡ drop' s mode w) →
          renamed without_place (if_part setting run again ticks o drop mode w) ≡ if_part setting run' again' ticks o drop' mode w
      part_renamed None drop drop' mode w e = refl
      part_renamed (Some s) drop drop' mode w e = read_renamed (w.ticks == ticks) drop drop' s mode w (e s)

      with_body_renamed : (of : Option (ℕ × ℕ)) (serial : Option ℕ) (s : Located) (parts parts' : Mode → State → Out State) (mode : Mode) (w : State) →
          renamed without_place (parts mode w) ≡ parts' mode w →
          renamed without_place (with_body setting run again ticks of serial s parts mode w) ≡ with_body setting run' again' ticks of serial s parts' mode w
      with_body_renamed None serial s parts parts' mode w e = e
      with_body_renamed (Some of) serial s parts parts' mode w e =
          in_mode_renamed mode _ _ (again HasRun s) (again' HasRun s) (body_out_renamed mode (run _ of.1 (Address s.address ∷ []) w)) (again_renamed HasRun s)

      mutual
        value_renamed : (value : Datum) (stage : Stage) (s : Located) (mode : Mode) (w : State) →
            renamed without_place (drop_value setting run again ticks value stage s mode w) ≡ drop_value setting run' again' ticks value stage s mode w
        value_renamed Gone stage s mode w = refl
        value_renamed (Number number) stage s mode w = gone_renamed s w
        value_renamed (Truth truth) stage s mode w = gone_renamed s w
        value_renamed UnitValue stage s mode w = gone_renamed s w
        value_renamed (Address address) stage s mode w = gone_renamed s w
        value_renamed (Aggregate variant serial parts) stage s mode w =
            with_body_renamed (own_body setting run again ticks stage (drop_impl setting.items (concrete_ty setting.items s.dynamic))) serial s
            (λ mode w. in_mode mode (drop_parts setting run again ticks parts zero s mode w) (λ mode. gone_at setting run s))
            (λ mode w. in_mode mode (drop_parts setting run' again' ticks parts zero s mode w) (λ mode. gone_at setting run' s)) mode w
            (in_mode_renamed mode _ _ (λ mode. gone_at setting run s) (λ mode. gone_at setting run' s) (parts_renamed parts zero s mode w) (λ mode v. gone_renamed s v))
        value_renamed (Box serial impl_no inside) stage s mode w =
            in_mode_renamed mode _ _ (λ mode. freed_at setting run s) (λ mode. freed_at setting run' s)
            (part_renamed (into setting.items Inside s) (drop_value setting run again ticks inside Begins) (drop_value setting run' again' ticks inside Begins) mode w
            (λ s. value_renamed inside Begins s mode w))
            (λ mode v. freed_at_renamed s v)

        parts_renamed : (parts : Data) (k : ℕ) (s : Located) (mode : Mode) (w : State) →
            renamed without_place (drop_parts setting run again ticks parts k s mode w) ≡ drop_parts setting run' again' ticks parts k s mode w
        parts_renamed no_part k s mode w = refl
        parts_renamed (a_part first rest) k s mode w =
            in_mode_renamed mode _ _ (drop_parts setting run again ticks rest (suc k) s) (drop_parts setting run' again' ticks rest (suc k) s)
            (part_renamed (into setting.items (Part k) s) (drop_value setting run again ticks first Begins) (drop_value setting run' again' ticks first Begins) mode w
            (λ s. value_renamed first Begins s mode w))
            (λ mode v. parts_renamed rest (suc k) s mode v)

    drop_at_renamed : (b : ℕ) (stage : Stage) (s : Located) (mode : Mode) (w : State) → renamed without_place (drop_at setting run b stage s mode w) ≡ drop_at setting run' b stage s mode w
    drop_at_renamed zero stage s mode w = refl
    drop_at_renamed (suc b) stage s mode w =
        still_renamed s.dynamic _ (dropped_there setting run (drop_at setting run b) stage mode) (dropped_there setting run' (drop_at setting run' b) stage mode) w
        (λ s. value_renamed (drop_at setting run b) (drop_at setting run' b) (drop_at_renamed b) w.ticks s.value stage s mode w)

    dropped_if_renamed : (b : ℕ) (whole : Bool) (mode : Mode) (s : Located) (w : State) → renamed without_place (dropped_if setting run b whole mode s w) ≡ dropped_if setting run' b whole mode s w
    dropped_if_renamed b true mode s w = drop_at_renamed b Begins s mode w
    dropped_if_renamed b false mode s w = refl

    nothing_renamed : (b : Bool) (w : State) → renamed without_place (nothing_if setting run b w) ≡ nothing_if setting run' b w
    nothing_renamed true w = refl
    nothing_renamed false w = refl

    drop_renamed : (b : ℕ) (mode : Mode) (site : EffectSite) (w : State) → renamed without_place (drop setting run b mode site w) ≡ drop setting run' b mode site w
    drop_renamed b mode site w = by_place (reach setting w site.place)
      where
        by_place : (r : Reached) →
            renamed without_place (on_reached r (λ s. dropped_if setting run b (not setting.strict || is_whole s.value) mode s w) (nothing_if setting run setting.strict w) (Halts Stuck w))
            ≡ on_reached r (λ s. dropped_if setting run' b (not setting.strict || is_whole s.value) mode s w) (nothing_if setting run' setting.strict w) (Halts Stuck w)
        by_place (Reaches s) = dropped_if_renamed b (not setting.strict || is_whole s.value) mode s w
        by_place CutOff = nothing_renamed setting.strict w
        by_place Nowhere = refl

  -- where the bodies agree up to the place, so do the effects
  pub tied_up_to_place : (run run' : Bodies) → Spending run' → (n b : ℕ) → n < b → AgreeUpToPlace n run' run →
      Tied (naming without_place (concrete_effects setting run b)) (naming without_place (concrete_effects setting run' b)) ticks_of n
  tied_up_to_place run run' spending n b great agree = record {
    acting = λ action w l. act_renamed run action w ∙ sym (tied.acting action w l) ∙ sym (act_renamed run' action w);
    choosing = λ test w l. refl;
    dropping = λ mode site w l. drop_renamed run b mode site w ∙ sym (tied.dropping mode site w l) ∙ sym (drop_renamed run' b mode site w);
    panicking = λ why w l. refl;
    ticking = λ w l. refl;
    giving = λ site w l. refl;
  }
    where
      tied : Tied (concrete_effects setting (bodies_without_place run') b) (concrete_effects setting (bodies_without_place run) b) ticks_of n
      tied = values_tied setting (bodies_without_place run') (bodies_without_place run) (spending_without_place run' spending) n agree b b great great

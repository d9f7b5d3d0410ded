-- The effects on values give no ticks back, if the bodies that are called give none; and a body spends a tick.
use Rattle.std.proofs.Common.{◌≡◌, inl, inr, sym, ℕ, zero, suc, ◌==◌, ◌<◌, ◌≤◌, ℤ, Bool, true, false, List, [], ◌∷◌, Option, Some, None, refl, ap, ◌∙◌, arith}
use Rattle.std.proofs.lemmas.Bool.{true≢false}
use Rattle.std.proofs.lemmas.Bool.Decides.{eqb_tells}
use Rattle.std.specs.Option.{option_map_or, option_and_then}
use Rattle.mir_base.specs.declared.int_kind.IntKind.{IntKind}
use Rattle.mir_base.specs.declared.operator.Math.{Math}
use Rattle.mir_base.specs.declared.trace.Event.{Event}
use Rattle.store_model.proofs.Effects.Laws.{NoMore, NoMoreOf, Ticked, Laws, Tied}
use Rattle.store_model.specs.Concrete.Effects.{Computed, Gives, PanicsBy, computed, or_stuck, whole_at, evaluate_operand, evaluate_operands, with_operand, with_two_operands, with_operands, put, put_if, tell_after, made_event, built, boxed, printed, if_nothing_numbered, freed, put_computed, compute, negate, within_bounds, bounded, answered, asked, chosen_truth, chosen_if, variant_tested, choose, never_at, virtual_body, called, acted, act, give, dropped_if, nothing_if, drop, concrete_effects}
use Rattle.mir_ty.specs.ItemTable.{ItemTable}
use Rattle.store_model.specs.declared.address.At.TheVariants.{Part, Inside}
use Rattle.store_model.specs.Values.Datum.{Datum, Data, Gone, Number, Truth, UnitValue, Aggregate, Box, Address, no_part, a_part}
use Rattle.store_model.specs.Concrete.Drops.{drop_body_out, unwinding_out, in_mode, same_if, if_still_typed, Stage, Begins, HasRun, gone_at, freed_there, freed_at, as_read, if_part, with_body, own_body, drop_impl, drop_value, drop_parts, dropped_there, drop_at}
use Rattle.store_model.specs.Effects as effects
use Rattle.store_model.specs.Effects.{EffectSite, Operand, AggregateKind, OfTuple, OfArray, OfVariant, OfClosure, Action, Test, Mode, Normal, Unwinding, Halt, OutOfTicks, Stuck, Out, Go, Unwind, Halts, Choice, Yes, No, Neither, Effects}
use Rattle.store_model.specs.Concrete.Bodies.{CodeOfBodies, ended, after_tick, run_body}
use Rattle.store_model.specs.Concrete.Location.{Setting, DynamicType, concrete_ty, Located, into, Reached, Reaches, CutOff, Nowhere, reach, on_reached, stored_at}
use Rattle.store_model.specs.Concrete.State.{State, with_event, numbered_next, spend, Answer, Returns, Unwinds, HaltsIn, Bodies}
use Rattle.store_model.specs.Values.Wholeness.{serials}

abbrev pub ticks_of : State → ℕ
ticks_of w = w.ticks

pub record Kept (m : ℕ) (o : Out State) : Type 0 where
  pub kept : NoMore ticks_of m o

pub record KeptChoice (m : ℕ) (o : Choice State) : Type 0 where
  pub kept : NoMoreOf ticks_of m o

abbrev pub AnswerLess : ℕ → Answer → Type 0
AnswerLess m (Returns value w) = w.ticks ≤ m
AnswerLess m (Unwinds w) = w.ticks ≤ m
AnswerLess m (HaltsIn halt w) = Unit {0}

pub record KeptAnswer (m : ℕ) (a : Answer) : Type 0 where
  pub kept : AnswerLess m a

abbrev pub TakenLess : {A : Type 0} → ℕ → Option (A × State) → Type 0
TakenLess m None = Unit {0}
TakenLess m (Some t) = t.1.ticks ≤ m

pub record KeptTaken {A : Type 0} (m : ℕ) (o : Option (A × State)) : Type 0 where
  pub kept : TakenLess m o

-- bodies that give no ticks back
abbrev pub Thrifty : Bodies → Type 0
Thrifty run = (m : ℕ) (event : Event) (body : ℕ) (args : List Datum) (w : State) → w.ticks ≤ m → KeptAnswer m (run event body args w)

module _ (m : ℕ) where
  halted : (halt : Halt) (w : State) → Kept m (Halts halt w)
  halted halt w = record { kept = tt }

  goes : (w : State) → w.ticks ≤ m → Kept m (Go w)
  goes w l = record { kept = l }

  step_less : {A : Type 0} (o : Option A) (next : A → Out State) (w : State) → ((a : A) → Kept m (next a)) → Kept m (or_stuck o next w)
  step_less None next w e = halted Stuck w
  step_less (Some a) next w e = e a

  reached_less : (r : Reached) (f : Located → Out State) (cut_off nowhere : Out State) → ((s : Located) → Kept m (f s)) → Kept m cut_off → Kept m nowhere →
      Kept m (on_reached r f cut_off nowhere)
  reached_less (Reaches s) f cut_off nowhere e d c = e s
  reached_less CutOff f cut_off nowhere e d c = d
  reached_less Nowhere f cut_off nowhere e d c = c

  after_taken : {A : Type 0} (o : Option (A × State)) (next : A → State → Out State) (w : State) → KeptTaken m o →
      ((a : A) (v : State) → v.ticks ≤ m → Kept m (next a v)) → Kept m (or_stuck o (λ t. next t.0 t.1) w)
  after_taken None next w h e = halted Stuck w
  after_taken (Some t) next w h e = e t.0 t.1 h.kept

  taken_of : (o : Option Located) (f : Located → Datum × State) → ((s : Located) → (f s).1.ticks ≤ m) →
      KeptTaken m (option_map_or (λ s. Some (f s)) o None)
  taken_of None f e = record { kept = tt }
  taken_of (Some s) f e = record { kept = e s }

  with_rest : (one : Datum) (o : Option (List Datum × State)) → KeptTaken m o →
      KeptTaken m (option_map_or (λ (rest : List Datum × State). Some (one ∷ rest.0, rest.1)) o None)
  with_rest one None h = record { kept = tt }
  with_rest one (Some rest) h = record { kept = h.kept }

  module _ (setting : Setting) where
    taken_less : (operand : Operand) (w : State) → w.ticks ≤ m → KeptTaken m (evaluate_operand setting operand w)
    taken_less (effects.Copied site) w l = taken_of (whole_at setting w site) (λ s. (s.value, w)) (λ s. l)
    taken_less (effects.Moved site) w l = taken_of (whole_at setting w site) (λ s. (s.value, stored_at s.address Gone w)) (λ s. l)
    taken_less (effects.Number value kind) w l = record { kept = l }
    taken_less (effects.Truth value) w l = record { kept = l }
    taken_less effects.UnitValue w l = record { kept = l }

    all_taken_less : (operands : List Operand) (w : State) → w.ticks ≤ m → KeptTaken m (evaluate_operands setting operands w)
    all_taken_less [] w l = record { kept = l }
    all_taken_less (operand ∷ operands) w l = go (all_taken_less operands) (evaluate_operand setting operand w) (taken_less operand w l)
      where
        go : ((v : State) → v.ticks ≤ m → KeptTaken m (evaluate_operands setting operands v)) → (o : Option (Datum × State)) → KeptTaken m o →
            KeptTaken m (option_and_then (λ (one : Datum × State). option_map_or (λ (rest : List Datum × State). Some (one.0 ∷ rest.0, rest.1)) (evaluate_operands setting operands one.1) None) o)
        go ih None h = record { kept = tt }
        go ih (Some one) h = with_rest one.0 (evaluate_operands setting operands one.1) (ih one.1 h.kept)

    taking_less : (operand : Operand) (next : Datum → State → Out State) → ((d : Datum) (v : State) → v.ticks ≤ m → Kept m (next d v)) →
        (w : State) → w.ticks ≤ m → Kept m (with_operand setting operand w next)
    taking_less operand next e w l = after_taken (evaluate_operand setting operand w) next w (taken_less operand w l) e

    taking_two_less : (left right : Operand) (next : Datum → Datum → State → Out State) → ((a b : Datum) (v : State) → v.ticks ≤ m → Kept m (next a b v)) →
        (w : State) → w.ticks ≤ m → Kept m (with_two_operands setting left right w next)
    taking_two_less left right next e w l = taking_less left (λ a v. with_operand setting right v (next a)) (λ a v k. taking_less right (next a) (e a) v k) w l

    taking_all_less : (operands : List Operand) (next : List Datum → State → Out State) → ((d : List Datum) (v : State) → v.ticks ≤ m → Kept m (next d v)) →
        (w : State) → w.ticks ≤ m → Kept m (with_operands setting operands w next)
    taking_all_less operands next e w l = after_taken (evaluate_operands setting operands w) next w (all_taken_less operands w l) e

    put_less : (to : EffectSite) (value : Datum) (w : State) → w.ticks ≤ m → Kept m (put setting to value w)
    put_less to value w l =
        reached_less (reach setting w to.place) (λ s. Go (stored_at s.address value w)) (Halts Stuck w) (Halts Stuck w)
        (λ s. goes (stored_at s.address value w) l) (halted Stuck w) (halted Stuck w)

    put_if_less : (to : EffectSite) (value : Option Datum) (w : State) → w.ticks ≤ m → Kept m (put_if setting to value w)
    put_if_less to value w l = step_less value (λ v. put setting to v w) w (λ v. put_less to v w l)

    told_less : (event : Event) (o : Out State) → Kept m o → Kept m (tell_after setting event o)
    told_less event (Go w) h = record { kept = h.kept }
    told_less event (Unwind w) h = record { kept = h.kept }
    told_less event (Halts halt w) h = record { kept = tt }

    made_less : (adt : ℕ) (to : EffectSite) (value : Datum) (of : Option (ℕ × ℕ)) (w : State) → w.ticks ≤ m → Kept m (made_event setting adt to value of w)
    made_less adt to value None w l = put_less to value w l
    made_less adt to value (Some of) w l = told_less (Event.Make adt w.serial) (put setting to value (numbered_next w)) (put_less to value (numbered_next w) l)

    built_less : (to : EffectSite) (kind : AggregateKind) (parts : List Datum) (w : State) → w.ticks ≤ m → Kept m (built setting to kind parts w)
    built_less to OfTuple parts w l = put_less to _ w l
    built_less to OfArray parts w l = put_less to _ w l
    built_less to (OfClosure closure) parts w l = put_less to _ w l
    built_less to (OfVariant adt variant) parts w l = made_less adt to _ _ w l

    boxed_less : (to : EffectSite) (content : Datum) (w : State) → w.ticks ≤ m → Kept m (boxed setting to content w)
    boxed_less to content w l =
        told_less (Event.Boxed w.serial) (put setting to (Box w.serial None content) (numbered_next w)) (put_less to (Box w.serial None content) (numbered_next w) l)

    printed_less : (value : Datum) (w : State) → w.ticks ≤ m → Kept m (printed setting value w)
    printed_less (Number number) w l = record { kept = l }
    printed_less _ w l = record { kept = tt }

    unnumbered_less : (list : List ℕ) (freed : Out State) (w : State) → Kept m freed → Kept m (if_nothing_numbered setting list freed w)
    unnumbered_less [] freed w h = h
    unnumbered_less (serial ∷ list) freed w h = halted Stuck w

    freed_less : (s : Located) (value : Datum) (w : State) → w.ticks ≤ m → Kept m (freed setting s value w)
    freed_less s (Box serial impl_no inside) w l =
        unnumbered_less (serials inside) (Go (with_event (Event.Freed serial) (stored_at s.address Gone w))) w (record { kept = l })
    freed_less s _ w l = record { kept = tt }

    put_computed_less : (to : EffectSite) (answer : Computed) (w : State) → w.ticks ≤ m → Kept m (put_computed setting to answer w)
    put_computed_less to (Gives number) w l = put_less to (Number number) w l
    put_computed_less to (PanicsBy why) w l = record { kept = l }

    compute_less : (to : EffectSite) (operator : Math) (kind : Option IntKind) (a b : Datum) (w : State) → w.ticks ≤ m → Kept m (compute setting to operator kind a b w)
    compute_less to operator (Some kind) (Number a) (Number b) w l = put_computed_less to (computed operator kind a b) w l
    compute_less to operator _ _ _ w l = record { kept = tt }

    negate_less : (to : EffectSite) (kind : Option IntKind) (a : Datum) (w : State) → w.ticks ≤ m → Kept m (negate setting to kind a w)
    negate_less to (Some kind) (Number a) w l = put_computed_less to _ w l
    negate_less to _ _ w l = record { kept = tt }

    within_less : (b : Bool) (w : State) → w.ticks ≤ m → Kept m (within_bounds setting b w)
    within_less true w l = record { kept = l }
    within_less false w l = record { kept = l }

    bounded_less : (count : ℕ) (value : Datum) (w : State) → w.ticks ≤ m → Kept m (bounded setting count value w)
    bounded_less count (Number number) w l = within_less _ w l
    bounded_less count _ w l = record { kept = tt }

    answered_less : (to : EffectSite) (answer : Answer) → KeptAnswer m answer → Kept m (answered setting to answer)
    answered_less to (Returns value w) h = put_less to value w h.kept
    answered_less to (Unwinds w) h = record { kept = h.kept }
    answered_less to (HaltsIn halt w) h = record { kept = tt }

    asked_less : (to : EffectSite) (numbers : List ℤ) (w : State) → w.ticks ≤ m → Kept m (asked setting to numbers w)
    asked_less to [] w l = record { kept = l }
    asked_less to (number ∷ rest) w l = told_less (Event.Asked number) _ (put_less to (Number number) (record w { asked = rest }) l)

    truth_less : (o : Option (Datum × State)) (w : State) → KeptTaken m o → KeptChoice m (chosen_truth setting o w)
    truth_less (Some (Truth true, v)) w h = record { kept = h.kept }
    truth_less (Some (Truth false, v)) w h = record { kept = h.kept }
    truth_less _ w h = record { kept = tt }

    chosen_if_less : (b : Bool) (w : State) → w.ticks ≤ m → KeptChoice m (chosen_if setting b w)
    chosen_if_less true w l = record { kept = l }
    chosen_if_less false w l = record { kept = l }

    variant_less : (variant : ℕ) (value : Datum) (w : State) → w.ticks ≤ m → KeptChoice m (variant_tested setting variant value w)
    variant_less variant (Aggregate active serial parts) w l = chosen_if_less _ w l
    variant_less variant _ w l = record { kept = tt }

    tested_less : (variant : ℕ) (r : Reached) (w : State) → w.ticks ≤ m →
        KeptChoice m (on_reached r (λ s. variant_tested setting variant s.value w) (Neither Stuck w) (Neither Stuck w))
    tested_less variant (Reaches s) w l = variant_less variant s.value w l
    tested_less variant CutOff w l = record { kept = tt }
    tested_less variant Nowhere w l = record { kept = tt }

    choose_less : (test : Test) (w : State) → w.ticks ≤ m → KeptChoice m (choose setting test w)
    choose_less (effects.IsTrue operand) w l = truth_less (evaluate_operand setting operand w) w (taken_less operand w l)
    choose_less (effects.HasVariant site variant) w l = tested_less variant (reach setting w site.place) w l

    module _ (run : Bodies) (thrifty : Thrifty run) where
      called_less : (to : EffectSite) (body : Option ℕ) (args : List Datum) (w : State) → w.ticks ≤ m → Kept m (called setting run to body args w)
      called_less to body args w l =
          step_less body (λ body. answered setting to (run (Event.Call body) body args w)) w
          (λ body. answered_less to (run (Event.Call body) body args w) (thrifty m (Event.Call body) body args w l))

      acted_less : (action : Action) (w : State) → w.ticks ≤ m → Kept m (acted setting run action w)
      acted_less (effects.Put to from) w l = taking_less from _ (put_less to) w l
      acted_less (effects.Compare to operator left right) w l = taking_two_less left right _ (λ a b v k. put_if_less to _ v k) w l
      acted_less (effects.Not to operand) w l = taking_less operand _ (λ d v k. put_if_less to _ v k) w l
      acted_less (effects.Build to kind parts) w l = taking_all_less parts _ (built_less to kind) w l
      acted_less (effects.NewBox to content) w l = taking_less content _ (boxed_less to) w l
      acted_less (effects.Unsize to trait_no operand) w l = taking_less operand _ (λ d v k. put_if_less to _ v k) w l
      acted_less (effects.Borrow to unique base) w l = step_less (whole_at setting w base) _ w (λ s. put_less to (Address s.address) w l)
      acted_less (effects.Touch base) w l = step_less (whole_at setting w base) _ w (λ s. goes w l)
      acted_less (effects.Print operand) w l = taking_less operand _ printed_less w l
      acted_less (effects.Forget operand) w l = taking_less operand _ (λ d v k. record { kept = k }) w l
      acted_less (effects.Free box) w l =
          reached_less (reach setting w box.place) (λ s. freed setting s s.value w) (Halts Stuck w) (Halts Stuck w)
          (λ s. freed_less s s.value w l) (halted Stuck w) (halted Stuck w)
      acted_less (effects.Compute to operator left right) w l = taking_two_less left right _ (compute_less to operator _) w l
      acted_less (effects.Negate to operand) w l = taking_less operand _ (negate_less to _) w l
      acted_less (effects.Bounds index count) w l = taking_less index _ (bounded_less count) w l
      acted_less (effects.Call to body args) w l = taking_all_less args _ (called_less to (Some body)) w l
      acted_less (effects.CallVirtual to trait_no method args) w l = taking_all_less args _ (λ values v k. called_less to _ values v k) w l
      acted_less (effects.Ask to) w l = asked_less to w.asked w l

      halting_less : (b : Bool) (halt : Halt) (o : Out State) → Kept m o → Kept m (effects.halting_if b halt o)
      halting_less true halt (Go w) h = record { kept = tt }
      halting_less true halt (Unwind w) h = record { kept = h.kept }
      halting_less true halt (Halts other w) h = record { kept = tt }
      halting_less false halt o h = h

      act_less : (action : Action) (w : State) → w.ticks ≤ m → Kept m (act setting run action w)
      act_less action w l =
          halting_less (effects.stores_where (never_at setting w) action) Stuck (acted setting run action w)
          (acted_less action w l)

      give_less : (site : EffectSite) (w : State) → w.ticks ≤ m → Kept m (give setting run site w)
      give_less site w l = step_less (whole_at setting w site) _ w (λ s. goes w l)

      -- dropping

      body_out_less : (mode : Mode) (answer : Answer) → KeptAnswer m answer → Kept m (drop_body_out mode answer)
      body_out_less mode (Returns value w) h = record { kept = h.kept }
      body_out_less Normal (Unwinds w) h = record { kept = h.kept }
      body_out_less Unwinding (Unwinds w) h = record { kept = tt }
      body_out_less mode (HaltsIn halt w) h = record { kept = tt }

      unwinding_less : (o : Out State) → Kept m o → Kept m (unwinding_out o)
      unwinding_less (Go w) h = record { kept = h.kept }
      unwinding_less (Unwind w) h = record { kept = h.kept }
      unwinding_less (Halts halt w) h = record { kept = tt }

      in_mode_less : (mode : Mode) (o : Out State) (next : Mode → State → Out State) → Kept m o → ((mode : Mode) (v : State) → v.ticks ≤ m → Kept m (next mode v)) →
          Kept m (in_mode mode o next)
      in_mode_less mode (Go w) next h e = e mode w h.kept
      in_mode_less mode (Unwind w) next h e = unwinding_less (next Unwinding w) (e Unwinding w h.kept)
      in_mode_less mode (Halts halt w) next h e = record { kept = tt }

      same_if_less : (b : Bool) (next : State → Out State) (w : State) → Kept m (next w) → Kept m (same_if b next w)
      same_if_less true next w h = h
      same_if_less false next w h = halted Stuck w

      still_found_less : (dynamic : DynamicType) (o : Option Located) (next : Located → State → Out State) (w : State) →
          ((s : Located) → Kept m (next s w)) → Kept m (if_still_typed setting.items dynamic o next w)
      still_found_less dynamic None next w e = halted Stuck w
      still_found_less dynamic (Some s) next w e = same_if_less _ (next s) w (e s)

      gone_less : (s : Located) (w : State) → w.ticks ≤ m → Kept m (gone_at setting run s w)
      gone_less s w l = still_found_less s.dynamic _ (λ s w. Go (stored_at s.address Gone w)) w (λ s. record { kept = l })

      freed_there_less : (value : Datum) (s : Located) (w : State) → w.ticks ≤ m → Kept m (freed_there setting run value s w)
      freed_there_less (Box serial impl_no inside) s w l = record { kept = l }
      freed_there_less _ s w l = halted Stuck w

      freed_at_less : (s : Located) (w : State) → w.ticks ≤ m → Kept m (freed_at setting run s w)
      freed_at_less s w l =
          still_found_less s.dynamic _ (λ s w. freed_there setting run s.value s w) w (λ s. freed_there_less s.value s w l)

      module _ (again : Stage → Located → Mode → State → Out State)
          (again_less : (stage : Stage) (s : Located) (mode : Mode) (w : State) → w.ticks ≤ m → Kept m (again stage s mode w)) (ticks : ℕ) where
        read_less : (b : Bool) (drop : Located → Mode → State → Out State) (s : Located) (mode : Mode) (w : State) → w.ticks ≤ m →
            Kept m (drop s mode w) → Kept m (as_read setting run again ticks b drop s mode w)
        read_less true drop s mode w l h = h
        read_less false drop s mode w l h = again_less Begins s mode w l

        part_less : (o : Option Located) (drop : Located → Mode → State → Out State) (mode : Mode) (w : State) → w.ticks ≤ m →
            ((s : Located) → Kept m (drop s mode w)) → Kept m (if_part setting run again ticks o drop mode w)
        part_less None drop mode w l e = halted Stuck w
        part_less (Some s) drop mode w l e = read_less _ drop s mode w l (e s)

        with_body_less : (of : Option (ℕ × ℕ)) (serial : Option ℕ) (s : Located) (parts : Mode → State → Out State) (mode : Mode) (w : State) → w.ticks ≤ m →
            ((mode : Mode) (v : State) → v.ticks ≤ m → Kept m (parts mode v)) → Kept m (with_body setting run again ticks of serial s parts mode w)
        with_body_less None serial s parts mode w l e = e mode w l
        with_body_less (Some of) serial s parts mode w l e =
            in_mode_less mode _ (again HasRun s) (body_out_less mode _ (thrifty m _ of.1 (Address s.address ∷ []) w l)) (again_less HasRun s)

        mutual
          value_less : (value : Datum) (stage : Stage) (s : Located) (mode : Mode) (w : State) → w.ticks ≤ m →
              Kept m (drop_value setting run again ticks value stage s mode w)
          value_less Gone stage s mode w l = goes w l
          value_less (Number number) stage s mode w l = gone_less s w l
          value_less (Truth truth) stage s mode w l = gone_less s w l
          value_less UnitValue stage s mode w l = gone_less s w l
          value_less (Address address) stage s mode w l = gone_less s w l
          value_less (Aggregate variant serial parts) stage s mode w l =
              with_body_less _ serial s _ mode w l
              (λ mode v k. in_mode_less mode (drop_parts setting run again ticks parts zero s mode v) _ (parts_less parts zero s mode v k) (λ mode u j. gone_less s u j))
          value_less (Box serial impl_no inside) stage s mode w l =
              in_mode_less mode _ _ (part_less (into setting.items Inside s) (drop_value setting run again ticks inside Begins) mode w l (λ s. value_less inside Begins s mode w l))
              (λ mode u j. freed_at_less s u j)

          parts_less : (parts : Data) (n : ℕ) (s : Located) (mode : Mode) (w : State) → w.ticks ≤ m →
              Kept m (drop_parts setting run again ticks parts n s mode w)
          parts_less no_part n s mode w l = goes w l
          parts_less (a_part first rest) n s mode w l =
              in_mode_less mode _ _ (part_less (into setting.items (Part n) s) (drop_value setting run again ticks first Begins) mode w l (λ s. value_less first Begins s mode w l))
              (λ mode u j. parts_less rest (suc n) s mode u j)

      pub drop_at_less : (n : ℕ) (stage : Stage) (s : Located) (mode : Mode) (w : State) → w.ticks ≤ m → Kept m (drop_at setting run n stage s mode w)
      drop_at_less zero stage s mode w l = record { kept = tt }
      drop_at_less (suc n) stage s mode w l =
          still_found_less s.dynamic _ (dropped_there setting run (drop_at setting run n) stage mode) w
          (λ s. value_less (drop_at setting run n) (drop_at_less n) w.ticks s.value stage s mode w l)

      dropped_if_less : (fuel : ℕ) (b : Bool) (mode : Mode) (s : Located) (w : State) → w.ticks ≤ m → Kept m (dropped_if setting run fuel b mode s w)
      dropped_if_less fuel true mode s w l = drop_at_less fuel Begins s mode w l
      dropped_if_less fuel false mode s w l = halted Stuck w

      nothing_if_less : (b : Bool) (w : State) → w.ticks ≤ m → Kept m (nothing_if setting run b w)
      nothing_if_less true w l = halted Stuck w
      nothing_if_less false w l = goes w l

      drop_less : (fuel : ℕ) (mode : Mode) (site : EffectSite) (w : State) → w.ticks ≤ m → Kept m (drop setting run fuel mode site w)
      drop_less fuel mode site w l =
          reached_less (reach setting w site.place) _ (nothing_if setting run setting.strict w) (Halts Stuck w)
          (λ s. dropped_if_less fuel _ mode s w l) (nothing_if_less setting.strict w l) (halted Stuck w)

spent : (n m : ℕ) (w : State) → n ≤ m → Ticked ticks_of m (spend n w)
spent zero m w l = tt
spent (suc n) m w l = l

pub values_laws : (setting : Setting) (run : Bodies) → Thrifty run → (fuel : ℕ) → Laws (concrete_effects setting run fuel) ticks_of
values_laws setting run thrifty fuel = record {
  acting = λ action w. (act_less w.ticks setting run thrifty action w (omega arith)).kept;
  choosing = λ test w. (choose_less w.ticks setting test w (omega arith)).kept;
  dropping = λ mode site w. (drop_less w.ticks setting run thrifty fuel mode site w (omega arith)).kept;
  panicking = λ why w. omega arith;
  ticking = λ w. spent w.ticks w.ticks w (omega arith);
  giving = λ site w. (give_less w.ticks setting run thrifty site w (omega arith)).kept;
}

-- bodies that spend a tick where they return or unwind
abbrev pub AnswerSpent : ℕ → Answer → Type 0
AnswerSpent m (Returns value w) = suc w.ticks ≤ m
AnswerSpent m (Unwinds w) = suc w.ticks ≤ m
AnswerSpent m (HaltsIn halt w) = Unit {0}

pub record Spent (m : ℕ) (a : Answer) : Type 0 where
  pub spent : AnswerSpent m a

abbrev pub Spending : Bodies → Type 0
Spending run = (m : ℕ) (event : Event) (body : ℕ) (args : List Datum) (w : State) → w.ticks ≤ m → Spent m (run event body args w)

spent_kept : (m : ℕ) (a : Answer) → Spent m a → KeptAnswer m a
spent_kept m (Returns value w) h = let k = h.spent in record { kept = omega arith }
spent_kept m (Unwinds w) h = let k = h.spent in record { kept = omega arith }
spent_kept m (HaltsIn halt w) h = record { kept = tt }

pub spending_thrifty : (run : Bodies) → Spending run → Thrifty run
spending_thrifty run spending m event body args w l = spent_kept m (run event body args w) (spending m event body args w l)

ended_spends : (m k body answer : ℕ) (o : Out State) → suc k ≤ m → NoMore ticks_of k o → Spent m (ended body answer o)
ended_spends m k body answer (Go w) h l = record { spent = omega arith }
ended_spends m k body answer (Unwind w) h l = record { spent = omega arith }
ended_spends m k body answer (Halts halt w) h l = record { spent = tt }

after_spending : (n m : ℕ) (w : State) (next : State → Answer) → n ≤ m →
    ((k : ℕ) (v : State) → v.ticks ≤ k → suc k ≤ m → Spent m (next v)) → Spent m (after_tick (spend n w) next)
after_spending zero m w next l e = record { spent = tt }
after_spending (suc n) m w next l e = e n (record w { ticks = n }) (omega arith) (omega arith)

-- what is done within bodies gives no ticks back, if the effects give none
abbrev pub KeepsTicks : CodeOfBodies → Type 0
KeepsTicks code =
    (p : Effects State) → Laws p ticks_of → (turns body m : ℕ) (w : State) → w.ticks ≤ m → NoMore ticks_of m (code.within p turns body w)

module _ (setting : Setting) (code : CodeOfBodies) (keeps : KeepsTicks code) where
  pub body_spends : (n : ℕ) → Spending (run_body setting code n)
  body_spends zero m event body args w l = record { spent = tt }
  body_spends (suc n) m event body args w l =
      after_spending w.ticks m w _ l
      (λ k v h j. ended_spends m k body (code.answer body) _ j
      (keeps (concrete_effects setting (run_body setting code n) (suc n)) (values_laws setting (run_body setting code n) (spending_thrifty (run_body setting code n) (body_spends n)) (suc n))
      (suc n) body k _ h))

  pub body_thrifty : (n : ℕ) → Thrifty (run_body setting code n)
  body_thrifty n = spending_thrifty (run_body setting code n) (body_spends n)

-- Two sets of bodies that agree where at most so many ticks are left, and two amounts of fuel that are greater, are the same
-- effects there.
abbrev pub Agree : ℕ → Bodies → Bodies → Type 0
Agree n run run' = (event : Event) (body : ℕ) (args : List Datum) (w : State) → w.ticks ≤ n → run event body args w ≡ run' event body args w

step_same : {A : Type 0} (o : Option A) (next next' : A → Out State) (w : State) → ((a : A) → next a ≡ next' a) → or_stuck o next w ≡ or_stuck o next' w
step_same None next next' w e = refl
step_same (Some a) next next' w e = e a

after_taken_same : {A : Type 0} (m : ℕ) (o : Option (A × State)) (next next' : A → State → Out State) (w : State) → KeptTaken m o →
    ((a : A) (v : State) → v.ticks ≤ m → next a v ≡ next' a v) → or_stuck o (λ t. next t.0 t.1) w ≡ or_stuck o (λ t. next' t.0 t.1) w
after_taken_same m None next next' w h e = refl
after_taken_same m (Some t) next next' w h e = e t.0 t.1 h.kept

reached_same : (r : Reached) (f f' : Located → Out State) (cut_off nowhere : Out State) → ((s : Located) → f s ≡ f' s) →
    on_reached r f cut_off nowhere ≡ on_reached r f' cut_off nowhere
reached_same (Reaches s) f f' cut_off nowhere e = e s
reached_same CutOff f f' cut_off nowhere e = refl
reached_same Nowhere f f' cut_off nowhere e = refl

in_mode_same : (m : ℕ) (mode : Mode) (o o' : Out State) (next next' : Mode → State → Out State) → o ≡ o' → Kept m o →
    ((mode : Mode) (v : State) → v.ticks ≤ m → next mode v ≡ next' mode v) → in_mode mode o next ≡ in_mode mode o' next'
in_mode_same m mode o o' next next' q h e = go o h ∙ ap (λ o. in_mode mode o next') q
  where
    go : (o : Out State) → Kept m o → in_mode mode o next ≡ in_mode mode o next'
    go (Go w) h = e mode w h.kept
    go (Unwind w) h = ap unwinding_out (e Unwinding w h.kept)
    go (Halts halt w) h = refl

after_body_same : (m : ℕ) (mode : Mode) (a : Answer) (next next' : Mode → State → Out State) → Spent m a →
    ((mode : Mode) (v : State) → suc v.ticks ≤ m → next mode v ≡ next' mode v) → in_mode mode (drop_body_out mode a) next ≡ in_mode mode (drop_body_out mode a) next'
after_body_same m mode (Returns value w) next next' h e = e mode w h.spent
after_body_same m Normal (Unwinds w) next next' h e = ap unwinding_out (e Unwinding w h.spent)
after_body_same m Unwinding (Unwinds w) next next' h e = refl
after_body_same m mode (HaltsIn halt w) next next' h e = refl

same_if_same : (b : Bool) (next next' : State → Out State) (w : State) → next w ≡ next' w → same_if b next w ≡ same_if b next' w
same_if_same true next next' w e = e
same_if_same false next next' w e = refl

still_found_same : (items : ItemTable) (dynamic : DynamicType) (o : Option Located) (next next' : Located → State → Out State) (w : State) →
    ((s : Located) → next s w ≡ next' s w) → if_still_typed items dynamic o next w ≡ if_still_typed items dynamic o next' w
still_found_same items dynamic None next next' w e = refl
still_found_same items dynamic (Some s) next next' w e = same_if_same _ (next s) (next' s) w (e s)

module _ (setting : Setting) (run run' : Bodies) (spending : Spending run) (n : ℕ) (agree : Agree n run run') where
  thrifty_run : Thrifty run
  thrifty_run = spending_thrifty run spending

  called_same : (to : EffectSite) (body : Option ℕ) (args : List Datum) (w : State) → w.ticks ≤ n →
      called setting run to body args w ≡ called setting run' to body args w
  called_same to body args w l =
      step_same body (λ body. answered setting to (run (Event.Call body) body args w)) (λ body. answered setting to (run' (Event.Call body) body args w)) w
      (λ body. ap (answered setting to) (agree (Event.Call body) body args w l))

  acted_same : (action : Action) (w : State) → w.ticks ≤ n → acted setting run action w ≡ acted setting run' action w
  acted_same (effects.Call to body args) w l =
      after_taken_same n (evaluate_operands setting args w) (called setting run to (Some body)) (called setting run' to (Some body)) w (all_taken_less n setting args w l)
      (called_same to (Some body))
  acted_same (effects.CallVirtual to trait_no method args) w l =
      after_taken_same n (evaluate_operands setting args w) (λ values w. called setting run to (virtual_body setting trait_no method w values) values w)
      (λ values w. called setting run' to (virtual_body setting trait_no method w values) values w) w (all_taken_less n setting args w l)
      (λ values v k. called_same to (virtual_body setting trait_no method v values) values v k)
  acted_same other w l = refl

  act_same : (action : Action) (w : State) → w.ticks ≤ n → act setting run action w ≡ act setting run' action w
  act_same action w l =
      ap (effects.halting_if (effects.stores_where (never_at setting w) action) Stuck) (acted_same action w l)

  module _ (ticks : ℕ) (few : ticks ≤ n) (again again' : Stage → Located → Mode → State → Out State)
      (again_less : (stage : Stage) (s : Located) (mode : Mode) (w : State) → w.ticks ≤ ticks → Kept ticks (again stage s mode w))
      (again_same : (stage : Stage) (s : Located) (mode : Mode) (w : State) → suc w.ticks ≤ ticks → again stage s mode w ≡ again' stage s mode w) where
    fewer : (v : ℕ) → v ≤ ticks → (v == ticks) ≡ false → suc v ≤ ticks
    fewer v l e = elim (eqb_tells v ticks) [ inl same ↦ absurd (true≢false (sym same.0 ∙ e)) | inr other ↦ let apart = other.1 in omega (arith, apart) ]

    read_same : (b : Bool) (drop drop' : Located → Mode → State → Out State) (s : Located) (mode : Mode) (w : State) →
        (b ≡ false → suc w.ticks ≤ ticks) → drop s mode w ≡ drop' s mode w →
        as_read setting run again ticks b drop s mode w ≡ as_read setting run' again' ticks b drop' s mode w
    read_same true drop drop' s mode w f h = h
    read_same false drop drop' s mode w f h = again_same Begins s mode w (f refl)

    part_same : (o : Option Located) (drop drop' : Located → Mode → State → Out State) (mode : Mode) (w : State) → w.ticks ≤ ticks →
        ((s : Located) → drop s mode w ≡ drop' s mode w) → if_part setting run again ticks o drop mode w ≡ if_part setting run' again' ticks o drop' mode w
    part_same None drop drop' mode w l e = refl
    part_same (Some s) drop drop' mode w l e = read_same (w.ticks == ticks) drop drop' s mode w (fewer w.ticks l) (e s)

    with_body_same : (of : Option (ℕ × ℕ)) (serial : Option ℕ) (s : Located) (parts parts' : Mode → State → Out State) (mode : Mode) (w : State) → w.ticks ≤ ticks →
        parts mode w ≡ parts' mode w →
        with_body setting run again ticks of serial s parts mode w ≡ with_body setting run' again' ticks of serial s parts' mode w
    with_body_same None serial s parts parts' mode w l e = e
    with_body_same (Some of) serial s parts parts' mode w l e =
        after_body_same ticks mode _ (again HasRun s) (again' HasRun s) (spending ticks _ of.1 (Address s.address ∷ []) w l) (again_same HasRun s)
        ∙ ap (λ a. in_mode mode (drop_body_out mode a) (again' HasRun s)) (agree _ of.1 (Address s.address ∷ []) w (omega arith))

    mutual
      value_same : (value : Datum) (stage : Stage) (s : Located) (mode : Mode) (w : State) → w.ticks ≤ ticks →
          drop_value setting run again ticks value stage s mode w ≡ drop_value setting run' again' ticks value stage s mode w
      value_same Gone stage s mode w l = refl
      value_same (Number number) stage s mode w l = refl
      value_same (Truth truth) stage s mode w l = refl
      value_same UnitValue stage s mode w l = refl
      value_same (Address address) stage s mode w l = refl
      value_same (Aggregate variant serial parts) stage s mode w l =
          with_body_same (own_body setting run again ticks stage (drop_impl setting.items (concrete_ty setting.items s.dynamic))) serial s
          (λ mode w. in_mode mode (drop_parts setting run again ticks parts zero s mode w) (λ mode. gone_at setting run s))
          (λ mode w. in_mode mode (drop_parts setting run' again' ticks parts zero s mode w) (λ mode. gone_at setting run' s)) mode w l
          (in_mode_same ticks mode (drop_parts setting run again ticks parts zero s mode w) (drop_parts setting run' again' ticks parts zero s mode w)
          (λ mode. gone_at setting run s) (λ mode. gone_at setting run' s)
          (parts_same parts zero s mode w l) (parts_less ticks setting run thrifty_run again again_less ticks parts zero s mode w l) (λ mode v k. refl))
      value_same (Box serial impl_no inside) stage s mode w l =
          in_mode_same ticks mode _ _ (λ mode. freed_at setting run s) (λ mode. freed_at setting run' s)
          (part_same (into setting.items Inside s) (drop_value setting run again ticks inside Begins) (drop_value setting run' again' ticks inside Begins) mode w l
          (λ s. value_same inside Begins s mode w l))
          (part_less ticks setting run thrifty_run again again_less ticks (into setting.items Inside s) (drop_value setting run again ticks inside Begins) mode w l
          (λ s. value_less ticks setting run thrifty_run again again_less ticks inside Begins s mode w l)) (λ mode v k. refl)

      parts_same : (parts : Data) (k : ℕ) (s : Located) (mode : Mode) (w : State) → w.ticks ≤ ticks →
          drop_parts setting run again ticks parts k s mode w ≡ drop_parts setting run' again' ticks parts k s mode w
      parts_same no_part k s mode w l = refl
      parts_same (a_part first rest) k s mode w l =
          in_mode_same ticks mode _ _ (drop_parts setting run again ticks rest (suc k) s) (drop_parts setting run' again' ticks rest (suc k) s)
          (part_same (into setting.items (Part k) s) (drop_value setting run again ticks first Begins) (drop_value setting run' again' ticks first Begins) mode w l
          (λ s. value_same first Begins s mode w l))
          (part_less ticks setting run thrifty_run again again_less ticks (into setting.items (Part k) s) (drop_value setting run again ticks first Begins) mode w l
          (λ s. value_less ticks setting run thrifty_run again again_less ticks first Begins s mode w l))
          (λ mode v j. parts_same rest (suc k) s mode v j)

  pub drop_at_same : (b b' : ℕ) (stage : Stage) (s : Located) (mode : Mode) (w : State) → w.ticks ≤ n → w.ticks < b → w.ticks < b' →
      drop_at setting run b stage s mode w ≡ drop_at setting run' b' stage s mode w
  drop_at_same zero b' stage s mode w l h h' = absurd (let never : ⊥ = omega arith in never)
  drop_at_same (suc b) zero stage s mode w l h h' = absurd (let never : ⊥ = omega arith in never)
  drop_at_same (suc b) (suc b') stage s mode w l h h' =
      still_found_same setting.items s.dynamic _ (dropped_there setting run (drop_at setting run b) stage mode) (dropped_there setting run' (drop_at setting run' b') stage mode) w
      (λ s. value_same w.ticks l (drop_at setting run b) (drop_at setting run' b') (drop_at_less w.ticks setting run thrifty_run b)
      (λ stage s mode v k. drop_at_same b b' stage s mode v (omega arith) (omega arith) (omega arith)) s.value stage s mode w (omega arith))

  module _ (b b' : ℕ) (great : n < b) (great' : n < b') where
    dropped_if_same : (whole : Bool) (mode : Mode) (s : Located) (w : State) → w.ticks ≤ n →
        dropped_if setting run b whole mode s w ≡ dropped_if setting run' b' whole mode s w
    dropped_if_same true mode s w l = drop_at_same b b' Begins s mode w l (omega arith) (omega arith)
    dropped_if_same false mode s w l = refl

    drop_same : (mode : Mode) (site : EffectSite) (w : State) → w.ticks ≤ n → drop setting run b mode site w ≡ drop setting run' b' mode site w
    drop_same mode site w l = reached_same (reach setting w site.place) _ _ _ _ (λ s. dropped_if_same _ mode s w l)

    pub values_tied : Tied (concrete_effects setting run b) (concrete_effects setting run' b') ticks_of n
    values_tied = record {
      acting = act_same;
      choosing = λ test w l. refl;
      dropping = drop_same;
      panicking = λ why w l. refl;
      ticking = λ w l. refl;
      giving = λ site w l. refl;
    }

-- what is done within bodies is the same with effects that are, and with two amounts of fuel for turns that are greater than the
-- ticks that are left
abbrev pub TiesTicks : CodeOfBodies → Type 0
TiesTicks code =
    (p q : Effects State) → Laws p ticks_of → (m : ℕ) → Tied p q ticks_of m → (turns turns' body : ℕ) → m < turns → m < turns' →
    (w : State) → w.ticks ≤ m → code.within p turns body w ≡ code.within q turns' body w

out_of_ticks : (k : ℕ) (w : State) (next : State → Answer) → k ≤ 0 → after_tick (spend k w) next ≡ HaltsIn OutOfTicks w
out_of_ticks zero w next l = refl
out_of_ticks (suc k) w next l = absurd (let never : ⊥ = omega arith in never)

after_spending_same : (k n m : ℕ) (w : State) (next next' : State → Answer) → k ≤ suc n → k ≤ suc m →
    ((v : State) → v.ticks ≤ n → v.ticks ≤ m → next v ≡ next' v) → after_tick (spend k w) next ≡ after_tick (spend k w) next'
after_spending_same zero n m w next next' l l' e = refl
after_spending_same (suc k) n m w next next' l l' e = e (record w { ticks = k }) (omega arith) (omega arith)

-- Two amounts of fuel for nesting that are no less than the ticks that are left give the same
module _ (setting : Setting) (code : CodeOfBodies) (keeps : KeepsTicks code) (ties : TiesTicks code) where
  abbrev bodies : ℕ → Bodies
  bodies n = run_body setting code n

  pub bodies_agree : (n m : ℕ) (event : Event) (body : ℕ) (args : List Datum) (w : State) → w.ticks ≤ n → w.ticks ≤ m →
      run_body setting code n event body args w ≡ run_body setting code m event body args w
  bodies_agree zero zero event body args w l l' = refl
  bodies_agree zero (suc m) event body args w l l' = sym (out_of_ticks w.ticks w _ l)
  bodies_agree (suc n) zero event body args w l l' = out_of_ticks w.ticks w _ l'
  bodies_agree (suc n) (suc m) event body args w l l' =
      after_spending_same w.ticks n m w _ _ l l'
      (λ v k k'. ap (ended body (code.answer body))
      (ties (concrete_effects setting (bodies n) (suc n)) (concrete_effects setting (bodies m) (suc m))
      (values_laws setting (bodies n) (body_thrifty setting code keeps n) (suc n)) v.ticks
      (values_tied setting (bodies n) (bodies m) (body_spends setting code keeps n) v.ticks
      (λ event body args u j. bodies_agree n m event body args u (omega arith) (omega arith)) (suc n) (suc m) (omega arith) (omega arith))
      (suc n) (suc m) body (omega arith) (omega arith) _ (omega arith)))

-- What is done in a body leaves the stack of bodies as it was: those that run, and those that wait for them.
use Rattle.std.proofs.Common.{◌≡◌, ℕ, zero, suc, ◌==◌, ℤ, Bool, true, false, List, [], ◌∷◌, Option, Some, None, refl, ap, ◌∙◌, map, length, if◌then◌else◌}
use Rattle.std.specs.Option.{option_map_or, option_and_then}
use Rattle.mir_base.specs.declared.int_kind.IntKind.{IntKind}
use Rattle.mir_base.specs.declared.operator.Math.{Math}
use Rattle.mir_base.specs.declared.trace.Event.{Event}
use Rattle.mir_base.specs.declared.trace.Why.{Why}
use Rattle.store_model.specs.Concrete.Effects.{Computed, Gives, PanicsBy, computed, or_stuck, whole_at, evaluate_operand, evaluate_operands, with_operand, with_two_operands, with_operands, put, put_if, tell_after, made_event, built, boxed, printed, if_nothing_numbered, freed, put_computed, compute, negate, within_bounds, bounded, answered, asked, chosen_truth, chosen_if, variant_tested, choose, never_at, called, acted, act, give, dropped_if, nothing_if, drop, concrete_effects}
use Rattle.store_model.specs.declared.address.Addr.{Addr}
use Rattle.store_model.specs.declared.address.At.TheVariants.{Part, Inside}
use Rattle.store_model.specs.Values.Datum.{Datum, Data, Gone, Number, Truth, UnitValue, Aggregate, Box, Address, no_part, a_part}
use Rattle.store_model.specs.Concrete.Drops.{drop_body_out, unwinding_out, in_mode, same_if, if_still_typed, Stage, Begins, HasRun, gone_at, freed_there, freed_at, as_read, if_part, with_body, drop_value, drop_parts, dropped_there, drop_at}
use Rattle.store_model.specs.Effects as effects
use Rattle.store_model.specs.Effects.{EffectSite, Operand, AggregateKind, OfTuple, OfArray, OfVariant, OfClosure, Action, Test, Mode, Normal, Unwinding, Halt, OutOfTicks, Stuck, Out, Go, Unwind, Halts, Choice, Yes, No, Neither, Effects}
use Rattle.store_model.specs.Concrete.Location.{Setting, DynamicType, Located, into, Reached, Reaches, CutOff, Nowhere, reach, on_reached, stored_at}
use Rattle.store_model.specs.Concrete.State.{State, Activation, with_cell, with_cell_at, with_event, numbered_next, spend, Answer, Returns, Unwinds, HaltsIn, Bodies}
use Rattle.store_model.specs.Values.Wholeness.{serials}

abbrev pub bodies_in : List Activation → List ℕ
bodies_in activations = map (λ a. a.body) activations

-- the bodies that run, the youngest first
abbrev pub stack : State → List ℕ
stack w = bodies_in w.activations

with_cell_keeps : (depth key : ℕ) (value : Datum) (activations : List Activation) → bodies_in (with_cell_at depth key value activations) ≡ bodies_in activations
with_cell_keeps depth key value [] = refl
with_cell_keeps depth key value (a ∷ older) = by_depth (depth == length older) (with_cell_keeps depth key value older)
  where
    by_depth : (b : Bool) → bodies_in (with_cell_at depth key value older) ≡ bodies_in older →
        bodies_in (if b then (record a { cells = with_cell key value a.cells }) ∷ older else a ∷ with_cell_at depth key value older) ≡ a.body ∷ bodies_in older
    by_depth true e = refl
    by_depth false e = ap (λ list. a.body ∷ list) e

stored_stack : (address : Addr) (value : Datum) (w : State) → stack (stored_at address value w) ≡ stack w
stored_stack address value w = with_cell_keeps address.depth address.key.0 _ w.activations

abbrev pub SameStack : List ℕ → Out State → Type 0
SameStack m (Go w) = stack w ≡ m
SameStack m (Unwind w) = stack w ≡ m
SameStack m (Halts halt w) = Unit {0}

abbrev pub SameStackOf : List ℕ → Choice State → Type 0
SameStackOf m (Yes w) = stack w ≡ m
SameStackOf m (No w) = stack w ≡ m
SameStackOf m (Neither halt w) = Unit {0}

record Kept (m : List ℕ) (o : Out State) : Type 0 where
  kept : SameStack m o

record KeptChoice (m : List ℕ) (o : Choice State) : Type 0 where
  kept : SameStackOf m o

abbrev pub AnswerSame : List ℕ → Answer → Type 0
AnswerSame m (Returns value w) = stack w ≡ m
AnswerSame m (Unwinds w) = stack w ≡ m
AnswerSame m (HaltsIn halt w) = Unit {0}

pub record KeptAnswer (m : List ℕ) (a : Answer) : Type 0 where
  pub kept : AnswerSame m a

abbrev TakenSame : {A : Type 0} → List ℕ → Option (A × State) → Type 0
TakenSame m None = Unit {0}
TakenSame m (Some t) = stack t.1 ≡ m

record KeptTaken {A : Type 0} (m : List ℕ) (o : Option (A × State)) : Type 0 where
  kept : TakenSame m o

-- bodies that leave the bodies that wait for them as they were
abbrev pub KeepsStack : Bodies → Type 0
KeepsStack run = (m : List ℕ) (event : Event) (body : ℕ) (args : List Datum) (w : State) → stack w ≡ m → KeptAnswer m (run event body args w)

module _ (m : List ℕ) where
  halted : (halt : Halt) (w : State) → Kept m (Halts halt w)
  halted halt w = record { kept = tt }

  goes : (w : State) → stack w ≡ m → Kept m (Go w)
  goes w l = record { kept = l }

  step_keeps : {A : Type 0} (o : Option A) (next : A → Out State) (w : State) → ((a : A) → Kept m (next a)) → Kept m (or_stuck o next w)
  step_keeps None next w e = halted Stuck w
  step_keeps (Some a) next w e = e a

  reached_keeps : (r : Reached) (f : Located → Out State) (cut_off nowhere : Out State) → ((s : Located) → Kept m (f s)) → Kept m cut_off → Kept m nowhere →
      Kept m (on_reached r f cut_off nowhere)
  reached_keeps (Reaches s) f cut_off nowhere e d c = e s
  reached_keeps CutOff f cut_off nowhere e d c = d
  reached_keeps Nowhere f cut_off nowhere e d c = c

  after_taken : {A : Type 0} (o : Option (A × State)) (next : A → State → Out State) (w : State) → KeptTaken m o →
      ((a : A) (v : State) → stack v ≡ m → Kept m (next a v)) → Kept m (or_stuck o (λ t. next t.0 t.1) w)
  after_taken None next w h e = halted Stuck w
  after_taken (Some t) next w h e = e t.0 t.1 h.kept

  taken_of : (o : Option Located) (f : Located → Datum × State) → ((s : Located) → stack (f s).1 ≡ m) →
      KeptTaken m (option_map_or (λ s. Some (f s)) o None)
  taken_of None f e = record { kept = tt }
  taken_of (Some s) f e = record { kept = e s }

  with_rest : (one : Datum) (o : Option (List Datum × State)) → KeptTaken m o →
      KeptTaken m (option_map_or (λ (rest : List Datum × State). Some (one ∷ rest.0, rest.1)) o None)
  with_rest one None h = record { kept = tt }
  with_rest one (Some rest) h = record { kept = h.kept }

  module _ (setting : Setting) where
    taken_keeps : (operand : Operand) (w : State) → stack w ≡ m → KeptTaken m (evaluate_operand setting operand w)
    taken_keeps (effects.Copied site) w l = taken_of (whole_at setting w site) (λ s. (s.value, w)) (λ s. l)
    taken_keeps (effects.Moved site) w l = taken_of (whole_at setting w site) (λ s. (s.value, stored_at s.address Gone w)) (λ s. stored_stack s.address Gone w ∙ l)
    taken_keeps (effects.Number value kind) w l = record { kept = l }
    taken_keeps (effects.Truth value) w l = record { kept = l }
    taken_keeps effects.UnitValue w l = record { kept = l }

    all_taken_keeps : (operands : List Operand) (w : State) → stack w ≡ m → KeptTaken m (evaluate_operands setting operands w)
    all_taken_keeps [] w l = record { kept = l }
    all_taken_keeps (operand ∷ operands) w l = go (all_taken_keeps operands) (evaluate_operand setting operand w) (taken_keeps operand w l)
      where
        go : ((v : State) → stack v ≡ m → KeptTaken m (evaluate_operands setting operands v)) → (o : Option (Datum × State)) → KeptTaken m o →
            KeptTaken m (option_and_then (λ (one : Datum × State). option_map_or (λ (rest : List Datum × State). Some (one.0 ∷ rest.0, rest.1)) (evaluate_operands setting operands one.1) None) o)
        go ih None h = record { kept = tt }
        go ih (Some one) h = with_rest one.0 (evaluate_operands setting operands one.1) (ih one.1 h.kept)

    taking_keeps : (operand : Operand) (next : Datum → State → Out State) → ((d : Datum) (v : State) → stack v ≡ m → Kept m (next d v)) →
        (w : State) → stack w ≡ m → Kept m (with_operand setting operand w next)
    taking_keeps operand next e w l = after_taken (evaluate_operand setting operand w) next w (taken_keeps operand w l) e

    taking_two_keeps : (left right : Operand) (next : Datum → Datum → State → Out State) → ((a b : Datum) (v : State) → stack v ≡ m → Kept m (next a b v)) →
        (w : State) → stack w ≡ m → Kept m (with_two_operands setting left right w next)
    taking_two_keeps left right next e w l = taking_keeps left (λ a v. with_operand setting right v (next a)) (λ a v k. taking_keeps right (next a) (e a) v k) w l

    taking_all_keeps : (operands : List Operand) (next : List Datum → State → Out State) → ((d : List Datum) (v : State) → stack v ≡ m → Kept m (next d v)) →
        (w : State) → stack w ≡ m → Kept m (with_operands setting operands w next)
    taking_all_keeps operands next e w l = after_taken (evaluate_operands setting operands w) next w (all_taken_keeps operands w l) e

    put_keeps : (to : EffectSite) (value : Datum) (w : State) → stack w ≡ m → Kept m (put setting to value w)
    put_keeps to value w l =
        reached_keeps (reach setting w to.place) (λ s. Go (stored_at s.address value w)) (Halts Stuck w) (Halts Stuck w)
        (λ s. goes (stored_at s.address value w) (stored_stack s.address value w ∙ l)) (halted Stuck w) (halted Stuck w)

    put_if_keeps : (to : EffectSite) (value : Option Datum) (w : State) → stack w ≡ m → Kept m (put_if setting to value w)
    put_if_keeps to value w l = step_keeps value (λ v. put setting to v w) w (λ v. put_keeps to v w l)

    told_keeps : (event : Event) (o : Out State) → Kept m o → Kept m (tell_after setting event o)
    told_keeps event (Go w) h = record { kept = h.kept }
    told_keeps event (Unwind w) h = record { kept = h.kept }
    told_keeps event (Halts halt w) h = record { kept = tt }

    made_keeps : (adt : ℕ) (to : EffectSite) (value : Datum) (of : Option (ℕ × ℕ)) (w : State) → stack w ≡ m → Kept m (made_event setting adt to value of w)
    made_keeps adt to value None w l = put_keeps to value w l
    made_keeps adt to value (Some of) w l = told_keeps (Event.Make adt w.serial) (put setting to value (numbered_next w)) (put_keeps to value (numbered_next w) l)

    built_keeps : (to : EffectSite) (kind : AggregateKind) (parts : List Datum) (w : State) → stack w ≡ m → Kept m (built setting to kind parts w)
    built_keeps to OfTuple parts w l = put_keeps to _ w l
    built_keeps to OfArray parts w l = put_keeps to _ w l
    built_keeps to (OfClosure closure) parts w l = put_keeps to _ w l
    built_keeps to (OfVariant adt variant) parts w l = made_keeps adt to _ _ w l

    boxed_keeps : (to : EffectSite) (content : Datum) (w : State) → stack w ≡ m → Kept m (boxed setting to content w)
    boxed_keeps to content w l =
        told_keeps (Event.Boxed w.serial) (put setting to (Box w.serial None content) (numbered_next w)) (put_keeps to (Box w.serial None content) (numbered_next w) l)

    printed_keeps : (value : Datum) (w : State) → stack w ≡ m → Kept m (printed setting value w)
    printed_keeps (Number number) w l = record { kept = l }
    printed_keeps _ w l = record { kept = tt }

    unnumbered_keeps : (list : List ℕ) (freed : Out State) (w : State) → Kept m freed → Kept m (if_nothing_numbered setting list freed w)
    unnumbered_keeps [] freed w h = h
    unnumbered_keeps (serial ∷ list) freed w h = halted Stuck w

    freed_keeps : (s : Located) (value : Datum) (w : State) → stack w ≡ m → Kept m (freed setting s value w)
    freed_keeps s (Box serial impl_no inside) w l =
        unnumbered_keeps (serials inside) (Go (with_event (Event.Freed serial) (stored_at s.address Gone w))) w (record { kept = stored_stack s.address Gone w ∙ l })
    freed_keeps s _ w l = record { kept = tt }

    put_computed_keeps : (to : EffectSite) (answer : Computed) (w : State) → stack w ≡ m → Kept m (put_computed setting to answer w)
    put_computed_keeps to (Gives number) w l = put_keeps to (Number number) w l
    put_computed_keeps to (PanicsBy why) w l = record { kept = l }

    compute_keeps : (to : EffectSite) (operator : Math) (kind : Option IntKind) (a b : Datum) (w : State) → stack w ≡ m → Kept m (compute setting to operator kind a b w)
    compute_keeps to operator (Some kind) (Number a) (Number b) w l = put_computed_keeps to (computed operator kind a b) w l
    compute_keeps to operator _ _ _ w l = record { kept = tt }

    negate_keeps : (to : EffectSite) (kind : Option IntKind) (a : Datum) (w : State) → stack w ≡ m → Kept m (negate setting to kind a w)
    negate_keeps to (Some kind) (Number a) w l = put_computed_keeps to _ w l
    negate_keeps to _ _ w l = record { kept = tt }

    within_keeps : (b : Bool) (w : State) → stack w ≡ m → Kept m (within_bounds setting b w)
    within_keeps true w l = record { kept = l }
    within_keeps false w l = record { kept = l }

    bounded_keeps : (count : ℕ) (value : Datum) (w : State) → stack w ≡ m → Kept m (bounded setting count value w)
    bounded_keeps count (Number number) w l = within_keeps _ w l
    bounded_keeps count _ w l = record { kept = tt }

    answered_keeps : (to : EffectSite) (answer : Answer) → KeptAnswer m answer → Kept m (answered setting to answer)
    answered_keeps to (Returns value w) h = put_keeps to value w h.kept
    answered_keeps to (Unwinds w) h = record { kept = h.kept }
    answered_keeps to (HaltsIn halt w) h = record { kept = tt }

    asked_keeps : (to : EffectSite) (numbers : List ℤ) (w : State) → stack w ≡ m → Kept m (asked setting to numbers w)
    asked_keeps to [] w l = record { kept = l }
    asked_keeps to (number ∷ rest) w l = told_keeps (Event.Asked number) _ (put_keeps to (Number number) (record w { asked = rest }) l)

    truth_keeps : (o : Option (Datum × State)) (w : State) → KeptTaken m o → KeptChoice m (chosen_truth setting o w)
    truth_keeps (Some (Truth true, v)) w h = record { kept = h.kept }
    truth_keeps (Some (Truth false, v)) w h = record { kept = h.kept }
    truth_keeps _ w h = record { kept = tt }

    chosen_if_keeps : (b : Bool) (w : State) → stack w ≡ m → KeptChoice m (chosen_if setting b w)
    chosen_if_keeps true w l = record { kept = l }
    chosen_if_keeps false w l = record { kept = l }

    variant_keeps : (variant : ℕ) (value : Datum) (w : State) → stack w ≡ m → KeptChoice m (variant_tested setting variant value w)
    variant_keeps variant (Aggregate active serial parts) w l = chosen_if_keeps _ w l
    variant_keeps variant _ w l = record { kept = tt }

    tested_keeps : (variant : ℕ) (r : Reached) (w : State) → stack w ≡ m →
        KeptChoice m (on_reached r (λ s. variant_tested setting variant s.value w) (Neither Stuck w) (Neither Stuck w))
    tested_keeps variant (Reaches s) w l = variant_keeps variant s.value w l
    tested_keeps variant CutOff w l = record { kept = tt }
    tested_keeps variant Nowhere w l = record { kept = tt }

    choose_keeps : (test : Test) (w : State) → stack w ≡ m → KeptChoice m (choose setting test w)
    choose_keeps (effects.IsTrue operand) w l = truth_keeps (evaluate_operand setting operand w) w (taken_keeps operand w l)
    choose_keeps (effects.HasVariant site variant) w l = tested_keeps variant (reach setting w site.place) w l

    module _ (run : Bodies) (keeps : KeepsStack run) where
      called_keeps : (to : EffectSite) (body : Option ℕ) (args : List Datum) (w : State) → stack w ≡ m → Kept m (called setting run to body args w)
      called_keeps to body args w l =
          step_keeps body (λ body. answered setting to (run (Event.Call body) body args w)) w
          (λ body. answered_keeps to (run (Event.Call body) body args w) (keeps m (Event.Call body) body args w l))

      acted_keeps : (action : Action) (w : State) → stack w ≡ m → Kept m (acted setting run action w)
      acted_keeps (effects.Put to from) w l = taking_keeps from _ (put_keeps to) w l
      acted_keeps (effects.Compare to operator left right) w l = taking_two_keeps left right _ (λ a b v k. put_if_keeps to _ v k) w l
      acted_keeps (effects.Not to operand) w l = taking_keeps operand _ (λ d v k. put_if_keeps to _ v k) w l
      acted_keeps (effects.Build to kind parts) w l = taking_all_keeps parts _ (built_keeps to kind) w l
      acted_keeps (effects.NewBox to content) w l = taking_keeps content _ (boxed_keeps to) w l
      acted_keeps (effects.Unsize to trait_no operand) w l = taking_keeps operand _ (λ d v k. put_if_keeps to _ v k) w l
      acted_keeps (effects.Borrow to unique base) w l = step_keeps (whole_at setting w base) _ w (λ s. put_keeps to (Address s.address) w l)
      acted_keeps (effects.Touch base) w l = step_keeps (whole_at setting w base) _ w (λ s. goes w l)
      acted_keeps (effects.Print operand) w l = taking_keeps operand _ printed_keeps w l
      acted_keeps (effects.Forget operand) w l = taking_keeps operand _ (λ d v k. record { kept = k }) w l
      acted_keeps (effects.Free box) w l =
          reached_keeps (reach setting w box.place) (λ s. freed setting s s.value w) (Halts Stuck w) (Halts Stuck w)
          (λ s. freed_keeps s s.value w l) (halted Stuck w) (halted Stuck w)
      acted_keeps (effects.Compute to operator left right) w l = taking_two_keeps left right _ (compute_keeps to operator _) w l
      acted_keeps (effects.Negate to operand) w l = taking_keeps operand _ (negate_keeps to _) w l
      acted_keeps (effects.Bounds index count) w l = taking_keeps index _ (bounded_keeps count) w l
      acted_keeps (effects.Call to body args) w l = taking_all_keeps args _ (called_keeps to (Some body)) w l
      acted_keeps (effects.CallVirtual to trait_no method args) w l = taking_all_keeps args _ (λ values v k. called_keeps to _ values v k) w l
      acted_keeps (effects.Ask to) w l = asked_keeps to w.asked w l

      halting_keeps : (b : Bool) (halt : Halt) (o : Out State) → Kept m o → Kept m (effects.halting_if b halt o)
      halting_keeps true halt (Go w) h = record { kept = tt }
      halting_keeps true halt (Unwind w) h = record { kept = h.kept }
      halting_keeps true halt (Halts other w) h = record { kept = tt }
      halting_keeps false halt o h = h

      act_keeps : (action : Action) (w : State) → stack w ≡ m → Kept m (act setting run action w)
      act_keeps action w l =
          halting_keeps (effects.stores_where (never_at setting w) action) Stuck (acted setting run action w)
          (acted_keeps action w l)

      give_keeps : (site : EffectSite) (w : State) → stack w ≡ m → Kept m (give setting run site w)
      give_keeps site w l = step_keeps (whole_at setting w site) _ w (λ s. goes w l)

      -- dropping

      body_out_keeps : (mode : Mode) (answer : Answer) → KeptAnswer m answer → Kept m (drop_body_out mode answer)
      body_out_keeps mode (Returns value w) h = record { kept = h.kept }
      body_out_keeps Normal (Unwinds w) h = record { kept = h.kept }
      body_out_keeps Unwinding (Unwinds w) h = record { kept = tt }
      body_out_keeps mode (HaltsIn halt w) h = record { kept = tt }

      unwinding_keeps : (o : Out State) → Kept m o → Kept m (unwinding_out o)
      unwinding_keeps (Go w) h = record { kept = h.kept }
      unwinding_keeps (Unwind w) h = record { kept = h.kept }
      unwinding_keeps (Halts halt w) h = record { kept = tt }

      in_mode_keeps : (mode : Mode) (o : Out State) (next : Mode → State → Out State) → Kept m o → ((mode : Mode) (v : State) → stack v ≡ m → Kept m (next mode v)) →
          Kept m (in_mode mode o next)
      in_mode_keeps mode (Go w) next h e = e mode w h.kept
      in_mode_keeps mode (Unwind w) next h e = unwinding_keeps (next Unwinding w) (e Unwinding w h.kept)
      in_mode_keeps mode (Halts halt w) next h e = record { kept = tt }

      same_if_keeps : (b : Bool) (next : State → Out State) (w : State) → Kept m (next w) → Kept m (same_if b next w)
      same_if_keeps true next w h = h
      same_if_keeps false next w h = halted Stuck w

      still_found_keeps : (dynamic : DynamicType) (o : Option Located) (next : Located → State → Out State) (w : State) →
          ((s : Located) → Kept m (next s w)) → Kept m (if_still_typed setting.items dynamic o next w)
      still_found_keeps dynamic None next w e = halted Stuck w
      still_found_keeps dynamic (Some s) next w e = same_if_keeps _ (next s) w (e s)

      gone_keeps : (s : Located) (w : State) → stack w ≡ m → Kept m (gone_at setting run s w)
      gone_keeps s w l = still_found_keeps s.dynamic _ (λ s w. Go (stored_at s.address Gone w)) w (λ s. record { kept = stored_stack s.address Gone w ∙ l })

      freed_there_keeps : (value : Datum) (s : Located) (w : State) → stack w ≡ m → Kept m (freed_there setting run value s w)
      freed_there_keeps (Box serial impl_no inside) s w l = record { kept = stored_stack s.address Gone w ∙ l }
      freed_there_keeps _ s w l = halted Stuck w

      freed_at_keeps : (s : Located) (w : State) → stack w ≡ m → Kept m (freed_at setting run s w)
      freed_at_keeps s w l =
          still_found_keeps s.dynamic _ (λ s w. freed_there setting run s.value s w) w (λ s. freed_there_keeps s.value s w l)

      module _ (again : Stage → Located → Mode → State → Out State)
          (again_keeps : (stage : Stage) (s : Located) (mode : Mode) (w : State) → stack w ≡ m → Kept m (again stage s mode w)) (ticks : ℕ) where
        read_keeps : (b : Bool) (drop : Located → Mode → State → Out State) (s : Located) (mode : Mode) (w : State) → stack w ≡ m →
            Kept m (drop s mode w) → Kept m (as_read setting run again ticks b drop s mode w)
        read_keeps true drop s mode w l h = h
        read_keeps false drop s mode w l h = again_keeps Begins s mode w l

        part_keeps : (o : Option Located) (drop : Located → Mode → State → Out State) (mode : Mode) (w : State) → stack w ≡ m →
            ((s : Located) → Kept m (drop s mode w)) → Kept m (if_part setting run again ticks o drop mode w)
        part_keeps None drop mode w l e = halted Stuck w
        part_keeps (Some s) drop mode w l e = read_keeps _ drop s mode w l (e s)

        with_body_keeps : (of : Option (ℕ × ℕ)) (serial : Option ℕ) (s : Located) (parts : Mode → State → Out State) (mode : Mode) (w : State) → stack w ≡ m →
            ((mode : Mode) (v : State) → stack v ≡ m → Kept m (parts mode v)) → Kept m (with_body setting run again ticks of serial s parts mode w)
        with_body_keeps None serial s parts mode w l e = e mode w l
        with_body_keeps (Some of) serial s parts mode w l e =
            in_mode_keeps mode _ (again HasRun s) (body_out_keeps mode _ (keeps m _ of.1 (Address s.address ∷ []) w l)) (again_keeps HasRun s)

        mutual
          value_keeps : (value : Datum) (stage : Stage) (s : Located) (mode : Mode) (w : State) → stack w ≡ m →
              Kept m (drop_value setting run again ticks value stage s mode w)
          value_keeps Gone stage s mode w l = goes w l
          value_keeps (Number number) stage s mode w l = gone_keeps s w l
          value_keeps (Truth truth) stage s mode w l = gone_keeps s w l
          value_keeps UnitValue stage s mode w l = gone_keeps s w l
          value_keeps (Address address) stage s mode w l = gone_keeps s w l
          value_keeps (Aggregate variant serial parts) stage s mode w l =
              with_body_keeps _ serial s _ mode w l
              (λ mode v k. in_mode_keeps mode (drop_parts setting run again ticks parts zero s mode v) _ (parts_keeps parts zero s mode v k) (λ mode u j. gone_keeps s u j))
          value_keeps (Box serial impl_no inside) stage s mode w l =
              in_mode_keeps mode _ _ (part_keeps (into setting.items Inside s) (drop_value setting run again ticks inside Begins) mode w l (λ s. value_keeps inside Begins s mode w l))
              (λ mode u j. freed_at_keeps s u j)

          parts_keeps : (parts : Data) (n : ℕ) (s : Located) (mode : Mode) (w : State) → stack w ≡ m →
              Kept m (drop_parts setting run again ticks parts n s mode w)
          parts_keeps no_part n s mode w l = goes w l
          parts_keeps (a_part first rest) n s mode w l =
              in_mode_keeps mode _ _ (part_keeps (into setting.items (Part n) s) (drop_value setting run again ticks first Begins) mode w l (λ s. value_keeps first Begins s mode w l))
              (λ mode u j. parts_keeps rest (suc n) s mode u j)

      drop_at_keeps : (n : ℕ) (stage : Stage) (s : Located) (mode : Mode) (w : State) → stack w ≡ m → Kept m (drop_at setting run n stage s mode w)
      drop_at_keeps zero stage s mode w l = record { kept = tt }
      drop_at_keeps (suc n) stage s mode w l =
          still_found_keeps s.dynamic _ (dropped_there setting run (drop_at setting run n) stage mode) w
          (λ s. value_keeps (drop_at setting run n) (drop_at_keeps n) w.ticks s.value stage s mode w l)

      dropped_if_keeps : (fuel : ℕ) (b : Bool) (mode : Mode) (s : Located) (w : State) → stack w ≡ m → Kept m (dropped_if setting run fuel b mode s w)
      dropped_if_keeps fuel true mode s w l = drop_at_keeps fuel Begins s mode w l
      dropped_if_keeps fuel false mode s w l = halted Stuck w

      nothing_if_keeps : (b : Bool) (w : State) → stack w ≡ m → Kept m (nothing_if setting run b w)
      nothing_if_keeps true w l = halted Stuck w
      nothing_if_keeps false w l = goes w l

      drop_keeps : (fuel : ℕ) (mode : Mode) (site : EffectSite) (w : State) → stack w ≡ m → Kept m (drop setting run fuel mode site w)
      drop_keeps fuel mode site w l =
          reached_keeps (reach setting w site.place) _ (nothing_if setting run setting.strict w) (Halts Stuck w)
          (λ s. dropped_if_keeps fuel _ mode s w l) (nothing_if_keeps setting.strict w l) (halted Stuck w)

spent_keeps : (n : ℕ) (w : State) → SameStack (stack w) (spend n w)
spent_keeps zero w = tt
spent_keeps (suc n) w = refl

-- the effects leave the stack as it was
pub record StackLaws (p : Effects State) : Type 0 where
  pub acting : (action : Action) (w : State) → SameStack (stack w) (p.act action w)
  pub choosing : (test : Test) (w : State) → SameStackOf (stack w) (p.choose test w)
  pub dropping : (mode : Mode) (site : EffectSite) (w : State) → SameStack (stack w) (p.drop mode site w)
  pub panicking : (why : Why) (w : State) → stack (p.panic why w) ≡ stack w
  pub ticking : (w : State) → SameStack (stack w) (p.tick w)
  pub giving : (site : EffectSite) (w : State) → SameStack (stack w) (p.give site w)

pub stack_laws : (setting : Setting) (run : Bodies) → KeepsStack run → (fuel : ℕ) → StackLaws (concrete_effects setting run fuel)
stack_laws setting run keeps fuel = record {
  acting = λ action w. (act_keeps (stack w) setting run keeps action w refl).kept;
  choosing = λ test w. (choose_keeps (stack w) setting test w refl).kept;
  dropping = λ mode site w. (drop_keeps (stack w) setting run keeps fuel mode site w refl).kept;
  panicking = λ why w. refl;
  ticking = λ w. spent_keeps w.ticks w;
  giving = λ site w. (give_keeps (stack w) setting run keeps site w refl).kept;
}

-- The effects on values with one tick more. Where a run is not out of ticks, it does the same in a world with one tick
-- more; otherwise what is done there instead is done after the same events. So two stages are followed at once: a
-- world beside the same with one tick more, and a world in which so much has been told, beside itself.
use Rattle.std.proofs.Common.{◌≡◌, sym, ℕ, zero, suc, ◌==◌, ℤ, Bool, true, false, List, [], ◌∷◌, ◌++◌, Option, Some, None, refl, ap, ◌∙◌, arith, append_assoc, append-nil}
use Rattle.std.specs.Option.{option_map_or, option_and_then}
use Rattle.mir_base.specs.declared.int_kind.IntKind.{IntKind}
use Rattle.mir_base.specs.declared.operator.Math.{Math}
use Rattle.mir_base.specs.declared.trace.Event.{Event}
use Rattle.mir_base.specs.declared.trace.Why.{Why}
use Rattle.mir_base.specs.Trace.{Trace}
use Rattle.store_model.specs.Concrete.Effects.{Computed, Gives, PanicsBy, computed, or_stuck, whole_at, evaluate_operand, evaluate_operands, with_operand, with_two_operands, with_operands, put, put_if, tell_after, made_event, built, boxed, printed, if_nothing_numbered, freed, put_computed, compute, negate, within_bounds, bounded, answered, asked, chosen_truth, chosen_if, variant_tested, choose, never_at, called, acted, act, give, dropped_if, nothing_if, drop}
use Rattle.store_model.specs.declared.address.At.TheVariants.{Part, Inside}
use Rattle.store_model.specs.Values.Datum.{Datum, Data, Gone, Number, Truth, UnitValue, Aggregate, Box, Address, no_part, a_part}
use Rattle.store_model.specs.Concrete.Drops.{drop_body_out, unwinding_out, in_mode, same_if, if_still_typed, Stage, Begins, HasRun, gone_at, freed_there, freed_at, as_read, if_part, with_body, own_body, drop_impl, drop_value, drop_parts, dropped_there, drop_at}
use Rattle.store_model.specs.Effects as effects
use Rattle.store_model.specs.Effects.{EffectSite, Operand, AggregateKind, OfTuple, OfArray, OfVariant, OfClosure, Action, Test, Mode, Normal, Unwinding, Halt, OutOfTicks, Stuck, Out, Go, Unwind, Halts, Choice, Yes, No, Neither, Effects}
use Rattle.store_model.specs.Concrete.Location.{Setting, DynamicType, concrete_ty, Located, into, Reached, Reaches, CutOff, Nowhere, reach, on_reached, stored_at}
use Rattle.store_model.specs.Concrete.State.{State, with_event, numbered_next, spend, Answer, Returns, Unwinds, HaltsIn, Bodies}
use Rattle.store_model.specs.Values.Wholeness.{serials}

pub data Beside : Type 0 where
  OneMore : Beside
  After : (before : Trace) → Beside

abbrev faster : Beside → ℕ → ℕ
faster OneMore ticks = suc ticks
faster (After before) ticks = ticks

-- the world beside a world
abbrev pub paced : Beside → State → State
paced n w = record w { ticks = faster n w.ticks }

-- what has been told at a stage
abbrev pub Begun : Beside → Trace → Type 0
Begun OneMore trace = Unit {0}
Begun (After before) trace = (later : Trace) × (trace ≡ before ++ later)

pub begun_further : (n : Beside) (trace later : Trace) → Begun n trace → Begun n (trace ++ later)
begun_further OneMore trace later b = tt
begun_further (After before) trace later (middle, e) = (middle ++ later, ap (λ t. t ++ later) e ∙ append_assoc before middle later)

pub data More : Beside → Out State → Out State → Type 0 where
  both_go : (n : Beside) (w : State) → Begun n w.trace → More n (Go w) (Go (paced n w))
  both_unwind : (n : Beside) (w : State) → Begun n w.trace → More n (Unwind w) (Unwind (paced n w))
  both_halt : (n : Beside) (halt : Halt) (w : State) → Begun n w.trace → More n (Halts halt w) (Halts halt (paced n w))
  one_goes_on : (w : State) (o : Out State) → More (After w.trace) o o → More OneMore (Halts OutOfTicks w) o

pub data MoreAnswer : Beside → Answer → Answer → Type 0 where
  both_return : (n : Beside) (value : Datum) (w : State) → Begun n w.trace → MoreAnswer n (Returns value w) (Returns value (paced n w))
  both_end : (n : Beside) (w : State) → Begun n w.trace → MoreAnswer n (Unwinds w) (Unwinds (paced n w))
  both_halt_in : (n : Beside) (halt : Halt) (w : State) → Begun n w.trace → MoreAnswer n (HaltsIn halt w) (HaltsIn halt (paced n w))
  one_runs_on : (w : State) (a : Answer) → MoreAnswer (After w.trace) a a → MoreAnswer OneMore (HaltsIn OutOfTicks w) a

pub data MoreChoice : Beside → Choice State → Choice State → Type 0 where
  both_take : (n : Beside) (w : State) → Begun n w.trace → MoreChoice n (Yes w) (Yes (paced n w))
  both_decline : (n : Beside) (w : State) → Begun n w.trace → MoreChoice n (No w) (No (paced n w))
  both_neither : (n : Beside) (halt : Halt) (w : State) → Begun n w.trace → MoreChoice n (Neither halt w) (Neither halt (paced n w))

data MoreTaken {A : Type 0} : Beside → Option (A × State) → Option (A × State) → Type 0 where
  none_taken : (n : Beside) → MoreTaken n None None
  both_taken : (n : Beside) (a : A) (w : State) → Begun n w.trace → MoreTaken n (Some (a, w)) (Some (a, paced n w))

-- bodies that do the same with one tick more
abbrev pub MoreBodies : Bodies → Type 0
MoreBodies run = (n : Beside) (event : Event) (body : ℕ) (args : List Datum) (w : State) → Begun n w.trace →
    MoreAnswer n (run event body args w) (run event body args (paced n w))

-- after some events
abbrev pub Later : (State → Out State) → Type 0
Later f = (before : Trace) (w : State) → Begun (After before) w.trace → More (After before) (f w) (f w)

abbrev pub MoreOuts : (State → Out State) → Type 0
MoreOuts f = (n : Beside) (w : State) → Begun n w.trace → More n (f w) (f (paced n w))

module _ (setting : Setting) where
  told_more : (n : Beside) (event : Event) (o o' : Out State) → More n o o' → More n (tell_after setting event o) (tell_after setting event o')
  told_more n event _ _ (both_go _ w b) = both_go n (with_event event w) (begun_further n w.trace (event ∷ []) b)
  told_more n event _ _ (both_unwind _ w b) = both_unwind n w b
  told_more n event _ _ (both_halt _ halt w b) = both_halt n halt w b
  told_more n event _ _ (one_goes_on w o h) = one_goes_on w (tell_after setting event o) (told_more (After w.trace) event o o h)

  answered_more : (put_more : (to : EffectSite) (value : Datum) → MoreOuts (put setting to value)) (n : Beside) (to : EffectSite) (a a' : Answer) →
      MoreAnswer n a a' → More n (answered setting to a) (answered setting to a')
  answered_more put_more n to _ _ (both_return _ value w b) = put_more to value n w b
  answered_more put_more n to _ _ (both_end _ w b) = both_unwind n w b
  answered_more put_more n to _ _ (both_halt_in _ halt w b) = both_halt n halt w b
  answered_more put_more n to _ _ (one_runs_on w a h) = one_goes_on w (answered setting to a) (answered_more put_more (After w.trace) to a a h)

halting_more : (n : Beside) (b : Bool) (halt : Halt) (o o' : Out State) → More n o o' → More n (effects.halting_if b halt o) (effects.halting_if b halt o')
halting_more n true halt _ _ (both_go _ w b) = both_halt n halt w b
halting_more n true halt _ _ (both_unwind _ w b) = both_unwind n w b
halting_more n true halt _ _ (both_halt _ other w b) = both_halt n other w b
halting_more n true halt _ _ (one_goes_on w o h) = one_goes_on w (effects.halting_if true halt o) (halting_more (After w.trace) true halt o o h)
halting_more n false halt o o' h = h

body_out_more : (n : Beside) (mode : Mode) (a a' : Answer) → MoreAnswer n a a' → More n (drop_body_out mode a) (drop_body_out mode a')
body_out_more n mode _ _ (both_return _ value w b) = both_go n w b
body_out_more n Normal _ _ (both_end _ w b) = both_unwind n w b
body_out_more n Unwinding _ _ (both_end _ w b) = both_halt n effects.Aborted w b
body_out_more n mode _ _ (both_halt_in _ halt w b) = both_halt n halt w b
body_out_more n mode _ _ (one_runs_on w a h) = one_goes_on w (drop_body_out mode a) (body_out_more (After w.trace) mode a a h)

unwinding_more : (n : Beside) (o o' : Out State) → More n o o' → More n (unwinding_out o) (unwinding_out o')
unwinding_more n _ _ (both_go _ w b) = both_unwind n w b
unwinding_more n _ _ (both_unwind _ w b) = both_unwind n w b
unwinding_more n _ _ (both_halt _ halt w b) = both_halt n halt w b
unwinding_more n _ _ (one_goes_on w o h) = one_goes_on w (unwinding_out o) (unwinding_more (After w.trace) o o h)

-- what comes next in both runs, and in the second by itself where the first has ended
in_mode_more : (n : Beside) (mode : Mode) (o o' : Out State) (next next' : Mode → State → Out State) → More n o o' →
    ((mode : Mode) (w : State) → Begun n w.trace → More n (next mode w) (next' mode (paced n w))) → ((mode : Mode) → Later (next' mode)) →
    More n (in_mode mode o next) (in_mode mode o' next')
in_mode_more n mode _ _ next next' (both_go _ w b) e d = e mode w b
in_mode_more n mode _ _ next next' (both_unwind _ w b) e d =
    unwinding_more n (next Unwinding w) (next' Unwinding (paced n w)) (e Unwinding w b)
in_mode_more n mode _ _ next next' (both_halt _ halt w b) e d = both_halt n halt w b
in_mode_more n mode _ _ next next' (one_goes_on w o h) e d =
    one_goes_on w (in_mode mode o next') (in_mode_more (After w.trace) mode o o next' next' h (λ mode v b. d mode w.trace v b) d)

put_follows : (setting : Setting) (to : EffectSite) (value : Datum) → MoreOuts (put setting to value)
put_follows setting to value n w b = go (reach setting w to.place)
  where
    go : (r : Reached) →
        More n (on_reached r (λ s. Go (stored_at s.address value w)) (Halts Stuck w) (Halts Stuck w))
        (on_reached r (λ s. Go (stored_at s.address value (paced n w))) (Halts Stuck (paced n w)) (Halts Stuck (paced n w)))
    go (Reaches s) = both_go n (stored_at s.address value w) b
    go CutOff = both_halt n Stuck w b
    go Nowhere = both_halt n Stuck w b

module _ (n : Beside) where
  no_step : (w : State) → Begun n w.trace → More n (Halts Stuck w) (Halts Stuck (paced n w))
  no_step w b = both_halt n Stuck w b

  step_more : {A : Type 0} (o : Option A) (next next' : A → Out State) (w : State) → Begun n w.trace → ((a : A) → More n (next a) (next' a)) →
      More n (or_stuck o next w) (or_stuck o next' (paced n w))
  step_more None next next' w b e = no_step w b
  step_more (Some a) next next' w b e = e a

  reached_more : (r : Reached) (f f' : Located → Out State) (cut_off cut_off' nowhere nowhere' : Out State) → ((s : Located) → More n (f s) (f' s)) →
      More n cut_off cut_off' → More n nowhere nowhere' → More n (on_reached r f cut_off nowhere) (on_reached r f' cut_off' nowhere')
  reached_more (Reaches s) f f' _ _ _ _ e d c = e s
  reached_more CutOff f f' _ _ _ _ e d c = d
  reached_more Nowhere f f' _ _ _ _ e d c = c

  after_taken : {A : Type 0} (o o' : Option (A × State)) (next : A → State → Out State) (w : State) → Begun n w.trace → MoreTaken n o o' →
      ((a : A) (v : State) → Begun n v.trace → More n (next a v) (next a (paced n v))) →
      More n (or_stuck o (λ t. next t.0 t.1) w) (or_stuck o' (λ t. next t.0 t.1) (paced n w))
  after_taken _ _ next w b (none_taken _) e = no_step w b
  after_taken _ _ next w b (both_taken _ a v c) e = e a v c

  taken_of : (o : Option Located) (f f' : Located → Datum × State) → ((s : Located) → MoreTaken n (Some (f s)) (Some (f' s))) →
      MoreTaken n (option_map_or (λ s. Some (f s)) o None) (option_map_or (λ s. Some (f' s)) o None)
  taken_of None f f' e = none_taken n
  taken_of (Some s) f f' e = e s

  with_rest : (one : Datum) (o o' : Option (List Datum × State)) → MoreTaken n o o' →
      MoreTaken n (option_map_or (λ (rest : List Datum × State). Some (one ∷ rest.0, rest.1)) o None)
      (option_map_or (λ (rest : List Datum × State). Some (one ∷ rest.0, rest.1)) o' None)
  with_rest one _ _ (none_taken _) = none_taken n
  with_rest one _ _ (both_taken _ rest v b) = both_taken n (one ∷ rest) v b

  module _ (setting : Setting) where
    taken_more : (operand : Operand) (w : State) → Begun n w.trace → MoreTaken n (evaluate_operand setting operand w) (evaluate_operand setting operand (paced n w))
    taken_more (effects.Copied site) w b = taken_of (whole_at setting w site) (λ s. (s.value, w)) (λ s. (s.value, paced n w)) (λ s. both_taken n s.value w b)
    taken_more (effects.Moved site) w b =
        taken_of (whole_at setting w site) (λ s. (s.value, stored_at s.address Gone w)) (λ s. (s.value, stored_at s.address Gone (paced n w)))
        (λ s. both_taken n s.value (stored_at s.address Gone w) b)
    taken_more (effects.Number value kind) w b = both_taken n (Number value) w b
    taken_more (effects.Truth value) w b = both_taken n (Truth value) w b
    taken_more effects.UnitValue w b = both_taken n UnitValue w b

    all_taken_more : (operands : List Operand) (w : State) → Begun n w.trace →
        MoreTaken n (evaluate_operands setting operands w) (evaluate_operands setting operands (paced n w))
    all_taken_more [] w b = both_taken n [] w b
    all_taken_more (operand ∷ operands) w b =
        go (all_taken_more operands) (evaluate_operand setting operand w) (evaluate_operand setting operand (paced n w)) (taken_more operand w b)
      where
        with_others : Datum × State → Option (List Datum × State)
        with_others one = option_map_or (λ (rest : List Datum × State). Some (one.0 ∷ rest.0, rest.1)) (evaluate_operands setting operands one.1) None

        go : ((v : State) → Begun n v.trace → MoreTaken n (evaluate_operands setting operands v) (evaluate_operands setting operands (paced n v))) →
            (o o' : Option (Datum × State)) → MoreTaken n o o' → MoreTaken n (option_and_then with_others o) (option_and_then with_others o')
        go ih _ _ (none_taken _) = none_taken n
        go ih _ _ (both_taken _ one v b) = with_rest one (evaluate_operands setting operands v) (evaluate_operands setting operands (paced n v)) (ih v b)

    taking_more : (operand : Operand) (next : Datum → State → Out State) →
        ((d : Datum) (v : State) → Begun n v.trace → More n (next d v) (next d (paced n v))) →
        (w : State) → Begun n w.trace → More n (with_operand setting operand w next) (with_operand setting operand (paced n w) next)
    taking_more operand next e w b =
        after_taken (evaluate_operand setting operand w) (evaluate_operand setting operand (paced n w)) next w b (taken_more operand w b) e

    taking_two_more : (left right : Operand) (next : Datum → Datum → State → Out State) →
        ((a d : Datum) (v : State) → Begun n v.trace → More n (next a d v) (next a d (paced n v))) →
        (w : State) → Begun n w.trace → More n (with_two_operands setting left right w next) (with_two_operands setting left right (paced n w) next)
    taking_two_more left right next e w b =
        taking_more left (λ a v. with_operand setting right v (next a)) (λ a v k. taking_more right (next a) (e a) v k) w b

    taking_all_more : (operands : List Operand) (next : List Datum → State → Out State) →
        ((d : List Datum) (v : State) → Begun n v.trace → More n (next d v) (next d (paced n v))) →
        (w : State) → Begun n w.trace → More n (with_operands setting operands w next) (with_operands setting operands (paced n w) next)
    taking_all_more operands next e w b =
        after_taken (evaluate_operands setting operands w) (evaluate_operands setting operands (paced n w)) next w b (all_taken_more operands w b) e

    put_more : (to : EffectSite) (value : Datum) (w : State) → Begun n w.trace → More n (put setting to value w) (put setting to value (paced n w))
    put_more to value w b = put_follows setting to value n w b

    put_if_more : (to : EffectSite) (value : Option Datum) (w : State) → Begun n w.trace → More n (put_if setting to value w) (put_if setting to value (paced n w))
    put_if_more to value w b = step_more value (λ v. put setting to v w) (λ v. put setting to v (paced n w)) w b (λ v. put_more to v w b)

    made_more : (adt : ℕ) (to : EffectSite) (value : Datum) (of : Option (ℕ × ℕ)) (w : State) → Begun n w.trace →
        More n (made_event setting adt to value of w) (made_event setting adt to value of (paced n w))
    made_more adt to value None w b = put_more to value w b
    made_more adt to value (Some of) w b =
        told_more setting n (Event.Make adt w.serial) (put setting to value (numbered_next w)) (put setting to value (numbered_next (paced n w)))
        (put_more to value (numbered_next w) b)

    built_more : (to : EffectSite) (kind : AggregateKind) (parts : List Datum) (w : State) → Begun n w.trace →
        More n (built setting to kind parts w) (built setting to kind parts (paced n w))
    built_more to OfTuple parts w b = put_more to _ w b
    built_more to OfArray parts w b = put_more to _ w b
    built_more to (OfClosure closure) parts w b = put_more to _ w b
    built_more to (OfVariant adt variant) parts w b = made_more adt to _ _ w b

    boxed_more : (to : EffectSite) (content : Datum) (w : State) → Begun n w.trace → More n (boxed setting to content w) (boxed setting to content (paced n w))
    boxed_more to content w b =
        told_more setting n (Event.Boxed w.serial) (put setting to (Box w.serial None content) (numbered_next w))
        (put setting to (Box w.serial None content) (numbered_next (paced n w)))
        (put_more to (Box w.serial None content) (numbered_next w) b)

    printed_more : (value : Datum) (w : State) → Begun n w.trace → More n (printed setting value w) (printed setting value (paced n w))
    printed_more (Number number) w b = both_go n (with_event (Event.Printed number) w) (begun_further n w.trace (Event.Printed number ∷ []) b)
    printed_more _ w b = no_step w b

    unnumbered_more : (list : List ℕ) (o o' : Out State) (w : State) → Begun n w.trace → More n o o' →
        More n (if_nothing_numbered setting list o w) (if_nothing_numbered setting list o' (paced n w))
    unnumbered_more [] o o' w b h = h
    unnumbered_more (serial ∷ list) o o' w b h = no_step w b

    freed_more : (s : Located) (value : Datum) (w : State) → Begun n w.trace → More n (freed setting s value w) (freed setting s value (paced n w))
    freed_more s (Box serial impl_no inside) w b =
        unnumbered_more (serials inside) (Go (with_event (Event.Freed serial) (stored_at s.address Gone w)))
        (Go (with_event (Event.Freed serial) (stored_at s.address Gone (paced n w)))) w b
        (both_go n (with_event (Event.Freed serial) (stored_at s.address Gone w)) (begun_further n w.trace (Event.Freed serial ∷ []) b))
    freed_more s _ w b = no_step w b

    pub panicked : (why : Why) (w : State) → Begun n w.trace → More n (Unwind (with_event (Event.Panicked why) w)) (Unwind (with_event (Event.Panicked why) (paced n w)))
    panicked why w b = both_unwind n (with_event (Event.Panicked why) w) (begun_further n w.trace (Event.Panicked why ∷ []) b)

    put_computed_more : (to : EffectSite) (answer : Computed) (w : State) → Begun n w.trace → More n (put_computed setting to answer w) (put_computed setting to answer (paced n w))
    put_computed_more to (Gives number) w b = put_more to (Number number) w b
    put_computed_more to (PanicsBy why) w b = panicked why w b

    compute_more : (to : EffectSite) (operator : Math) (kind : Option IntKind) (x y : Datum) (w : State) → Begun n w.trace →
        More n (compute setting to operator kind x y w) (compute setting to operator kind x y (paced n w))
    compute_more to operator (Some kind) (Number x) (Number y) w b = put_computed_more to (computed operator kind x y) w b
    compute_more to operator _ _ _ w b = no_step w b

    negate_more : (to : EffectSite) (kind : Option IntKind) (x : Datum) (w : State) → Begun n w.trace →
        More n (negate setting to kind x w) (negate setting to kind x (paced n w))
    negate_more to (Some kind) (Number x) w b = put_computed_more to _ w b
    negate_more to _ _ w b = no_step w b

    within_more : (c : Bool) (w : State) → Begun n w.trace → More n (within_bounds setting c w) (within_bounds setting c (paced n w))
    within_more true w b = both_go n w b
    within_more false w b = panicked Why.Index w b

    bounded_more : (count : ℕ) (value : Datum) (w : State) → Begun n w.trace → More n (bounded setting count value w) (bounded setting count value (paced n w))
    bounded_more count (Number number) w b = within_more _ w b
    bounded_more count _ w b = no_step w b

    asked_more : (to : EffectSite) (numbers : List ℤ) (w : State) → Begun n w.trace → More n (asked setting to numbers w) (asked setting to numbers (paced n w))
    asked_more to [] w b = panicked Why.Ask w b
    asked_more to (number ∷ rest) w b =
        told_more setting n (Event.Asked number) _ _ (put_more to (Number number) (record w { asked = rest }) b)

    truth_more : (o o' : Option (Datum × State)) (w : State) → Begun n w.trace → MoreTaken n o o' →
        MoreChoice n (chosen_truth setting o w) (chosen_truth setting o' (paced n w))
    truth_more _ _ w b (none_taken _) = both_neither n Stuck w b
    truth_more _ _ w b (both_taken _ (Truth true) v c) = both_take n v c
    truth_more _ _ w b (both_taken _ (Truth false) v c) = both_decline n v c
    truth_more _ _ w b (both_taken _ _ v c) = both_neither n Stuck w b

    chosen_if_more : (c : Bool) (w : State) → Begun n w.trace → MoreChoice n (chosen_if setting c w) (chosen_if setting c (paced n w))
    chosen_if_more true w b = both_take n w b
    chosen_if_more false w b = both_decline n w b

    variant_more : (variant : ℕ) (value : Datum) (w : State) → Begun n w.trace →
        MoreChoice n (variant_tested setting variant value w) (variant_tested setting variant value (paced n w))
    variant_more variant (Aggregate active serial parts) w b = chosen_if_more _ w b
    variant_more variant _ w b = both_neither n Stuck w b

    tested_more : (variant : ℕ) (r : Reached) (w : State) → Begun n w.trace →
        MoreChoice n (on_reached r (λ s. variant_tested setting variant s.value w) (Neither Stuck w) (Neither Stuck w))
        (on_reached r (λ s. variant_tested setting variant s.value (paced n w)) (Neither Stuck (paced n w)) (Neither Stuck (paced n w)))
    tested_more variant (Reaches s) w b = variant_more variant s.value w b
    tested_more variant CutOff w b = both_neither n Stuck w b
    tested_more variant Nowhere w b = both_neither n Stuck w b

    pub choose_more : (test : Test) (w : State) → Begun n w.trace → MoreChoice n (choose setting test w) (choose setting test (paced n w))
    choose_more (effects.IsTrue operand) w b = truth_more (evaluate_operand setting operand w) (evaluate_operand setting operand (paced n w)) w b (taken_more operand w b)
    choose_more (effects.HasVariant site variant) w b = tested_more variant (reach setting w site.place) w b

    module _ (run : Bodies) (runs : MoreBodies run) where
      called_more : (to : EffectSite) (body : Option ℕ) (args : List Datum) (w : State) → Begun n w.trace →
          More n (called setting run to body args w) (called setting run to body args (paced n w))
      called_more to None args w b = no_step w b
      called_more to (Some body) args w b =
          answered_more setting (put_follows setting) n to (run (Event.Call body) body args w) (run (Event.Call body) body args (paced n w))
          (runs n (Event.Call body) body args w b)

      acted_more : (action : Action) (w : State) → Begun n w.trace → More n (acted setting run action w) (acted setting run action (paced n w))
      acted_more (effects.Put to from) w b = taking_more from _ (put_more to) w b
      acted_more (effects.Compare to operator left right) w b = taking_two_more left right _ (λ x y v k. put_if_more to _ v k) w b
      acted_more (effects.Not to operand) w b = taking_more operand _ (λ d v k. put_if_more to _ v k) w b
      acted_more (effects.Build to kind parts) w b = taking_all_more parts _ (built_more to kind) w b
      acted_more (effects.NewBox to content) w b = taking_more content _ (boxed_more to) w b
      acted_more (effects.Unsize to trait_no operand) w b = taking_more operand _ (λ d v k. put_if_more to _ v k) w b
      acted_more (effects.Borrow to unique base) w b = step_more (whole_at setting w base) _ _ w b (λ s. put_more to (Address s.address) w b)
      acted_more (effects.Touch base) w b = step_more (whole_at setting w base) _ _ w b (λ s. both_go n w b)
      acted_more (effects.Print operand) w b = taking_more operand _ printed_more w b
      acted_more (effects.Forget operand) w b = taking_more operand _ (λ d v k. both_go n _ (begun_further n v.trace _ k)) w b
      acted_more (effects.Free box) w b =
          reached_more (reach setting w box.place) (λ s. freed setting s s.value w) (λ s. freed setting s s.value (paced n w))
          (Halts Stuck w) (Halts Stuck (paced n w)) (Halts Stuck w) (Halts Stuck (paced n w))
          (λ s. freed_more s s.value w b) (no_step w b) (no_step w b)
      acted_more (effects.Compute to operator left right) w b = taking_two_more left right _ (compute_more to operator _) w b
      acted_more (effects.Negate to operand) w b = taking_more operand _ (negate_more to _) w b
      acted_more (effects.Bounds index count) w b = taking_more index _ (bounded_more count) w b
      acted_more (effects.Call to body args) w b = taking_all_more args _ (called_more to (Some body)) w b
      acted_more (effects.CallVirtual to trait_no method args) w b = taking_all_more args _ (λ values v k. called_more to _ values v k) w b
      acted_more (effects.Ask to) w b = asked_more to w.asked w b

      pub act_more : (action : Action) (w : State) → Begun n w.trace → More n (act setting run action w) (act setting run action (paced n w))
      act_more action w b =
          halting_more n (effects.stores_where (never_at setting w) action) Stuck (acted setting run action w) (acted setting run action (paced n w))
          (acted_more action w b)

      pub give_more : (site : EffectSite) (w : State) → Begun n w.trace → More n (give setting run site w) (give setting run site (paced n w))
      give_more site w b = step_more (whole_at setting w site) _ _ w b (λ s. both_go n w b)

-- ticks are told apart alike
same_ticks : (n : Beside) (k ticks : ℕ) → (faster n k == faster n ticks) ≡ (k == ticks)
same_ticks OneMore k ticks = grind arith
same_ticks (After before) k ticks = refl

module _ (setting : Setting) (run : Bodies) (runs : MoreBodies run) where
  same_if_more : (n : Beside) (c : Bool) (next : State → Out State) (w : State) → Begun n w.trace → More n (next w) (next (paced n w)) →
      More n (same_if c next w) (same_if c next (paced n w))
  same_if_more n true next w b h = h
  same_if_more n false next w b h = both_halt n Stuck w b

  still_found_more : (dynamic : DynamicType) (o : Option Located) (next : Located → State → Out State) (n : Beside) (w : State) → Begun n w.trace →
      ((s : Located) → More n (next s w) (next s (paced n w))) →
      More n (if_still_typed setting.items dynamic o next w) (if_still_typed setting.items dynamic o next (paced n w))
  still_found_more dynamic None next n w b e = both_halt n Stuck w b
  still_found_more dynamic (Some s) next n w b e = same_if_more n _ (next s) w b (e s)

  gone_more : (s : Located) → MoreOuts (gone_at setting run s)
  gone_more s n w b = still_found_more s.dynamic _ (λ s w. Go (stored_at s.address Gone w)) n w b (λ s. both_go n (stored_at s.address Gone w) b)

  freed_there_more : (value : Datum) (s : Located) → MoreOuts (freed_there setting run value s)
  freed_there_more (Box serial impl_no inside) s n w b =
      both_go n (with_event (Event.Freed serial) (stored_at s.address Gone w)) (begun_further n w.trace (Event.Freed serial ∷ []) b)
  freed_there_more _ s n w b = both_halt n Stuck w b

  freed_at_more : (s : Located) → MoreOuts (freed_at setting run s)
  freed_at_more s n w b = still_found_more s.dynamic _ (λ s w. freed_there setting run s.value s w) n w b (λ s. freed_there_more s.value s n w b)

  abbrev Again : Beside → (again again' : Stage → Located → Mode → State → Out State) → Type 0
  Again n again again' = (stage : Stage) (s : Located) (mode : Mode) (w : State) → Begun n w.trace →
      More n (again stage s mode w) (again' stage s mode (paced n w))

  -- what was read with so many ticks left was read beside with as many as are left there then
  module _ (n : Beside) (again again' : Stage → Located → Mode → State → Out State) (now : Again n again again') (ticks : ℕ) where
    read_more : (c c' : Bool) → c' ≡ c → (drop drop' : Located → Mode → State → Out State) (s : Located) (mode : Mode) (w : State) → Begun n w.trace →
        More n (drop s mode w) (drop' s mode (paced n w)) →
        More n (as_read setting run again ticks c drop s mode w) (as_read setting run again' (faster n ticks) c' drop' s mode (paced n w))
    read_more true true e drop drop' s mode w b h = h
    read_more false false e drop drop' s mode w b h = now Begins s mode w b
    read_more true false e drop drop' s mode w b h = absurd (let never : false ≡ true = e in cc)
    read_more false true e drop drop' s mode w b h = absurd (let never : true ≡ false = e in cc)

    part_more : (o : Option Located) (drop drop' : Located → Mode → State → Out State) (mode : Mode) (w : State) → Begun n w.trace →
        ((s : Located) → More n (drop s mode w) (drop' s mode (paced n w))) →
        More n (if_part setting run again ticks o drop mode w) (if_part setting run again' (faster n ticks) o drop' mode (paced n w))
    part_more None drop drop' mode w b e = both_halt n Stuck w b
    part_more (Some s) drop drop' mode w b e =
        read_more (w.ticks == ticks) (faster n w.ticks == faster n ticks) (same_ticks n w.ticks ticks) drop drop' s mode w b (e s)

    module _ (afterwards : (before : Trace) → Again (After before) again' again') where
      with_body_more : (of : Option (ℕ × ℕ)) (serial : Option ℕ) (s : Located) (parts parts' : Mode → State → Out State) (mode : Mode) (w : State) →
          Begun n w.trace → More n (parts mode w) (parts' mode (paced n w)) →
          More n (with_body setting run again ticks of serial s parts mode w) (with_body setting run again' (faster n ticks) of serial s parts' mode (paced n w))
      with_body_more None serial s parts parts' mode w b h = h
      with_body_more (Some of) serial s parts parts' mode w b h =
          in_mode_more n mode _ _ (again HasRun s) (again' HasRun s) (body_out_more n mode _ _ (runs n _ of.1 (Address s.address ∷ []) w b))
          (λ mode v c. now HasRun s mode v c) (λ mode before v c. afterwards before HasRun s mode v c)

  mutual
    value_more : (n : Beside) (again again' : Stage → Located → Mode → State → Out State) → Again n again again' →
        ((before : Trace) → Again (After before) again' again') → (ticks : ℕ) (value : Datum) (stage : Stage) (s : Located) (mode : Mode) (w : State) →
        Begun n w.trace →
        More n (drop_value setting run again ticks value stage s mode w) (drop_value setting run again' (faster n ticks) value stage s mode (paced n w))
    value_more n again again' now afterwards ticks Gone stage s mode w b = both_go n w b
    value_more n again again' now afterwards ticks (Number number) stage s mode w b = gone_more s n w b
    value_more n again again' now afterwards ticks (Truth truth) stage s mode w b = gone_more s n w b
    value_more n again again' now afterwards ticks UnitValue stage s mode w b = gone_more s n w b
    value_more n again again' now afterwards ticks (Address address) stage s mode w b = gone_more s n w b
    value_more n again again' now afterwards ticks (Aggregate variant serial parts) stage s mode w b =
        with_body_more n again again' now ticks afterwards (own_body setting run again ticks stage (drop_impl setting.items (concrete_ty setting.items s.dynamic))) serial s _ _ mode w b
        (in_mode_more n mode _ _ (λ mode. gone_at setting run s) (λ mode. gone_at setting run s)
        (parts_more n again again' now afterwards ticks parts zero s mode w b) (λ mode v c. gone_more s n v c) (λ mode before v c. gone_more s (After before) v c))
    value_more n again again' now afterwards ticks (Box serial impl_no inside) stage s mode w b =
        in_mode_more n mode _ _ (λ mode. freed_at setting run s) (λ mode. freed_at setting run s)
        (part_more n again again' now ticks (into setting.items Inside s) (drop_value setting run again ticks inside Begins)
        (drop_value setting run again' (faster n ticks) inside Begins) mode w b
        (λ s. value_more n again again' now afterwards ticks inside Begins s mode w b))
        (λ mode v c. freed_at_more s n v c) (λ mode before v c. freed_at_more s (After before) v c)

    parts_more : (n : Beside) (again again' : Stage → Located → Mode → State → Out State) → Again n again again' →
        ((before : Trace) → Again (After before) again' again') → (ticks : ℕ) (parts : Data) (k : ℕ) (s : Located) (mode : Mode) (w : State) →
        Begun n w.trace →
        More n (drop_parts setting run again ticks parts k s mode w) (drop_parts setting run again' (faster n ticks) parts k s mode (paced n w))
    parts_more n again again' now afterwards ticks no_part k s mode w b = both_go n w b
    parts_more n again again' now afterwards ticks (a_part first rest) k s mode w b =
        in_mode_more n mode _ _ (drop_parts setting run again ticks rest (suc k) s) (drop_parts setting run again' (faster n ticks) rest (suc k) s)
        (part_more n again again' now ticks (into setting.items (Part k) s) (drop_value setting run again ticks first Begins)
        (drop_value setting run again' (faster n ticks) first Begins) mode w b
        (λ s. value_more n again again' now afterwards ticks first Begins s mode w b))
        (λ mode v c. parts_more n again again' now afterwards ticks rest (suc k) s mode v c)
        (λ mode before v c. parts_more (After before) again' again' (afterwards before) afterwards (faster n ticks) rest (suc k) s mode v c)

  drop_at_more : (fuel : ℕ) (n : Beside) (stage : Stage) (s : Located) (mode : Mode) (w : State) → Begun n w.trace →
      More n (drop_at setting run fuel stage s mode w) (drop_at setting run fuel stage s mode (paced n w))
  drop_at_more zero n stage s mode w b = both_halt n OutOfTicks w b
  drop_at_more (suc fuel) n stage s mode w b =
      still_found_more s.dynamic _ (dropped_there setting run (drop_at setting run fuel) stage mode) n w b
      (λ s. value_more n (drop_at setting run fuel) (drop_at setting run fuel) (drop_at_more fuel n) (λ before. drop_at_more fuel (After before))
      w.ticks s.value stage s mode w b)

  dropped_if_more : (fuel : ℕ) (c : Bool) (mode : Mode) (s : Located) (n : Beside) (w : State) → Begun n w.trace →
      More n (dropped_if setting run fuel c mode s w) (dropped_if setting run fuel c mode s (paced n w))
  dropped_if_more fuel true mode s n w b = drop_at_more fuel n Begins s mode w b
  dropped_if_more fuel false mode s n w b = both_halt n Stuck w b

  nothing_if_more : (c : Bool) (n : Beside) (w : State) → Begun n w.trace → More n (nothing_if setting run c w) (nothing_if setting run c (paced n w))
  nothing_if_more true n w b = both_halt n Stuck w b
  nothing_if_more false n w b = both_go n w b

  pub drop_more : (fuel : ℕ) (mode : Mode) (site : EffectSite) → MoreOuts (drop setting run fuel mode site)
  drop_more fuel mode site n w b =
      reached_more n (reach setting w site.place) _ _ (nothing_if setting run setting.strict w) (nothing_if setting run setting.strict (paced n w))
      (Halts Stuck w) (Halts Stuck (paced n w)) (λ s. dropped_if_more fuel _ mode s n w b) (nothing_if_more setting.strict n w b) (both_halt n Stuck w b)

-- a tick is spent, or there is one more
pub spend_more : (n : Beside) (k : ℕ) (w : State) → Begun n w.trace → More n (spend k w) (spend (faster n k) (paced n w))
spend_more OneMore zero w b = one_goes_on w (Go (record w { ticks = 0 })) (both_go (After w.trace) (record w { ticks = 0 }) ([], sym (append-nil w.trace)))
spend_more OneMore (suc k) w b = both_go OneMore (record w { ticks = k }) tt
spend_more (After before) zero w b = both_halt (After before) OutOfTicks w b
spend_more (After before) (suc k) w b = both_go (After before) (record w { ticks = k }) b

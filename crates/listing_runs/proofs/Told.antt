-- The effects on values tell of no body that does not exist, if the bodies that are called do not.
use Rattle.std.proofs.Common.{ℕ, suc, ◌<◌, Bool, true, false, List, [], ◌∷◌, ◌++◌, ℤ, Option, Some, None, slice_get}
use Rattle.std.specs.Prelude.{⊤, option_and_then}
use Rattle.std.specs.Option.{option_map_or}
use Rattle.mir_base.specs.declared.int_kind.IntKind.{IntKind}
use Rattle.mir_base.specs.declared.operator.Math.{Math}
use Rattle.mir_base.specs.declared.trace.Event.{Event}
use Rattle.mir_ty.specs.ItemTable.{ItemTable, type_at}
use Rattle.store_model.specs.declared.address.At.TheVariants.{Part, Inside}
use Rattle.store_model.specs.Concrete.Drops.{drop_impl}
use Rattle.store_model.specs.Concrete.Effects.{Computed, Gives, PanicsBy, computed, made_forgotten, if_typed, forgotten, forgotten_parts, or_stuck, if_so, whole_at, evaluate_operand, evaluate_operands, with_operand, with_two_operands, with_operands, put, put_if, tell_after, made_event, built, boxed, printed, type_of_operand, if_nothing_numbered, freed, put_computed, compute, negate, within_bounds, bounded, answered, row_body, object_body, virtual_body, asked, chosen_truth, chosen_if, variant_tested, choose, never_at, called, acted, act, give}
use Rattle.store_model.specs.Concrete.Location.{Setting, DynamicType, OfType, OfObject, concrete_ty, type_of_part, Located, located_at, Reached, Reaches, CutOff, Nowhere, reach, on_reached, stored_at}
use Rattle.store_model.specs.Concrete.State.{State, with_event, numbered_next, Answer, Returns, Unwinds, HaltsIn, Bodies}
use Rattle.store_model.specs.Effects as effects
use Rattle.store_model.specs.Effects.{EffectSite, Operand, AggregateKind, OfTuple, OfArray, OfVariant, OfClosure, Action, Test, Mode, Normal, Unwinding, Halt, OutOfTicks, Stuck, Out, Go, Unwind, Halts, Choice, Yes, No, Neither, halting_if, stores_where}
use Rattle.store_model.specs.Places.TypeForms.{is_dyn_of}
use Rattle.store_model.specs.Values.Datum.{Datum, Data, Gone, Number, Truth, UnitValue, Aggregate, Box, Address, no_part, a_part}
use Rattle.store_model.specs.Values.Wholeness.{serials}
use Rattle.listing_write.proofs.Reading.Basics.{Every}

pub both_every : {X : Type 0} (P : X → Type 0) (xs ys : List X) → Every P xs → Every P ys → Every P (xs ++ ys)
both_every P [] ys h k = k
both_every P (x ∷ xs) ys h k = (h.0, both_every P xs ys h.1 k)

module _ (bodies : ℕ) where
  -- an event tells of no body past the last
  abbrev pub Told : Event → Type 0
  Told (Event.Call body) = body < bodies
  Told (Event.Return body) = body < bodies
  Told (Event.Unwind body) = body < bodies
  Told _ = ⊤

  abbrev pub Good : State → Type 0
  Good w = Every Told w.trace

  pub told_then : (event : Event) → Told event → (w : State) → Good w → Good (with_event event w)
  told_then event h w l = both_every Told w.trace (event ∷ []) l (h, tt)

  abbrev out_of : Out State → State
  out_of (Go w) = w
  out_of (Unwind w) = w
  out_of (Halts halt w) = w

  abbrev choice_of : Choice State → State
  choice_of (Yes w) = w
  choice_of (No w) = w
  choice_of (Neither halt w) = w

  abbrev answer_of : Answer → State
  answer_of (Returns value w) = w
  answer_of (Unwinds w) = w
  answer_of (HaltsIn halt w) = w

  pub record Fine (o : Out State) : Type 0 where
    pub fine : Good (out_of o)

  pub record FineChoice (o : Choice State) : Type 0 where
    pub fine : Good (choice_of o)

  pub record FineAnswer (a : Answer) : Type 0 where
    pub fine : Good (answer_of a)

  abbrev GoodTaken : {A : Type 0} → Option (A × State) → Type 0
  GoodTaken None = ⊤
  GoodTaken (Some t) = Good t.1

  record FineTaken {A : Type 0} (o : Option (A × State)) : Type 0 where
    fine : GoodTaken o

  abbrev pub Within : Option ℕ → Type 0
  Within None = ⊤
  Within (Some body) = body < bodies

  -- the body that an action names exists
  abbrev pub Calls : Action → Type 0
  Calls (effects.Call to body args) = body < bodies
  Calls _ = ⊤

  -- the bodies that items name exist
  pub record BodiesExist (items : ItemTable) : Type 0 where
    pub impls : (n method : ℕ) →
        Within (option_and_then (λ impl. slice_get impl.bodies method) (slice_get items.impls n))
    pub drops : (n : ℕ) → Within (option_map_or (λ adt. adt.drop_body) (slice_get items.adts n) None)

  -- bodies that tell of none that does not exist
  abbrev pub TellsTruly : Bodies → Type 0
  TellsTruly run = (event : Event) (body : ℕ) (args : List Datum) (w : State) → Told event → body < bodies → Good w →
      FineAnswer (run event body args w)

  pub halted : (halt : Halt) (w : State) → Good w → Fine (Halts halt w)
  halted halt w l = record { fine = l }

  pub goes : (w : State) → Good w → Fine (Go w)
  goes w l = record { fine = l }

  step_fine : {A : Type 0} (o : Option A) (next : A → Out State) (w : State) → Good w → ((a : A) → Fine (next a)) →
      Fine (or_stuck o next w)
  step_fine None next w l e = halted Stuck w l
  step_fine (Some a) next w l e = e a

  pub reached_fine : (r : Reached) (f : Located → Out State) (cut_off nowhere : Out State) →
      ((s : Located) → Fine (f s)) →
      Fine cut_off → Fine nowhere → Fine (on_reached r f cut_off nowhere)
  reached_fine (Reaches s) f cut_off nowhere e d c = e s
  reached_fine CutOff f cut_off nowhere e d c = d
  reached_fine Nowhere f cut_off nowhere e d c = c

  after_taken : {A : Type 0} (o : Option (A × State)) (next : A → State → Out State) (w : State) → Good w →
      FineTaken o →
      ((a : A) (v : State) → Good v → Fine (next a v)) → Fine (or_stuck o (λ t. next t.0 t.1) w)
  after_taken None next w l h e = halted Stuck w l
  after_taken (Some t) next w l h e = e t.0 t.1 h.fine

  taken_of : (o : Option Located) (f : Located → Datum × State) → ((s : Located) → Good (f s).1) →
      FineTaken (option_map_or (λ s. Some (f s)) o None)
  taken_of None f e = record { fine = tt }
  taken_of (Some s) f e = record { fine = e s }

  with_rest : (one : Datum) (o : Option (List Datum × State)) → FineTaken o →
      FineTaken (option_map_or (λ (rest : List Datum × State). Some (one ∷ rest.0, rest.1)) o None)
  with_rest one None h = record { fine = tt }
  with_rest one (Some rest) h = record { fine = h.fine }

  -- what `forget` tells
  module _ (items : ItemTable) where
    made_told : (serial : Option ℕ) (of : Option (ℕ × ℕ)) → Every Told (made_forgotten serial of)
    made_told (Some serial) (Some of) = (tt, tt)
    made_told (Some serial) None = tt
    made_told None of = tt

    typed_told : (o : Option DynamicType) (forget : DynamicType → List Event) →
        ((d : DynamicType) → Every Told (forget d)) →
        Every Told (if_typed o forget)
    typed_told None forget e = tt
    typed_told (Some d) forget e = e d

    mutual
      forgotten_told : (value : Datum) (dynamic : DynamicType) → Every Told (forgotten items value dynamic)
      forgotten_told Gone dynamic = tt
      forgotten_told (Number number) dynamic = tt
      forgotten_told (Truth truth) dynamic = tt
      forgotten_told UnitValue dynamic = tt
      forgotten_told (Address address) dynamic = tt
      forgotten_told (Aggregate variant serial parts) dynamic =
          both_every Told (made_forgotten serial (drop_impl items (concrete_ty items dynamic)))
          (forgotten_parts items parts (λ n. type_of_part items (Part n) (Aggregate variant serial no_part) dynamic) 0)
          (made_told serial (drop_impl items (concrete_ty items dynamic)))
          (parts_told parts (λ n. type_of_part items (Part n) (Aggregate variant serial no_part) dynamic) 0)
      forgotten_told (Box serial impl_no inside) dynamic =
          both_every Told (if_typed (type_of_part items Inside (Box serial impl_no Gone) dynamic)
          (forgotten items inside))
          (Event.ForgotBox serial ∷ [])
          (typed_told (type_of_part items Inside (Box serial impl_no Gone) dynamic) (forgotten items inside)
          (λ d. forgotten_told inside d)) (tt, tt)

      parts_told : (parts : Data) (found_at : ℕ → Option DynamicType) (n : ℕ) →
          Every Told (forgotten_parts items parts found_at n)
      parts_told no_part found_at n = tt
      parts_told (a_part first rest) found_at n =
          both_every Told (if_typed (found_at n) (forgotten items first)) (forgotten_parts items rest found_at (suc n))
          (typed_told (found_at n) (forgotten items first) (λ d. forgotten_told first d))
          (parts_told rest found_at (suc n))

    all_forgotten : (value : Datum) (o : Option DynamicType) → Every Told (option_map_or (forgotten items value) o [])
    all_forgotten value None = tt
    all_forgotten value (Some d) = forgotten_told value d

  module _ (setting : Setting) where
    taken_fine : (operand : Operand) (w : State) → Good w → FineTaken (evaluate_operand setting operand w)
    taken_fine (effects.Copied site) w l = taken_of (whole_at setting w site) (λ s. (s.value, w)) (λ s. l)
    taken_fine (effects.Moved site) w l =
        taken_of (whole_at setting w site) (λ s. (s.value, stored_at s.address Gone w)) (λ s. l)
    taken_fine (effects.Number value kind) w l = record { fine = l }
    taken_fine (effects.Truth value) w l = record { fine = l }
    taken_fine effects.UnitValue w l = record { fine = l }

    all_taken_fine : (operands : List Operand) (w : State) → Good w → FineTaken (evaluate_operands setting operands w)
    all_taken_fine [] w l = record { fine = l }
    all_taken_fine (operand ∷ operands) w l =
        go (all_taken_fine operands) (evaluate_operand setting operand w) (taken_fine operand w l)
      where
        go : ((v : State) → Good v → FineTaken (evaluate_operands setting operands v)) → (o : Option (Datum × State)) →
            FineTaken o →
            FineTaken (option_and_then
            (λ (one : Datum × State). option_map_or (λ (rest : List Datum × State). Some (one.0 ∷ rest.0, rest.1))
            (evaluate_operands setting operands one.1) None) o)
        go ih None h = record { fine = tt }
        go ih (Some one) h = with_rest one.0 (evaluate_operands setting operands one.1) (ih one.1 h.fine)

    taking : (operand : Operand) (next : Datum → State → Out State) →
        ((d : Datum) (v : State) → Good v → Fine (next d v)) → (w : State) → Good w →
        Fine (with_operand setting operand w next)
    taking operand next e w l = after_taken (evaluate_operand setting operand w) next w l (taken_fine operand w l) e

    taking_two : (left right : Operand) (next : Datum → Datum → State → Out State) →
        ((a b : Datum) (v : State) → Good v → Fine (next a b v)) → (w : State) → Good w →
        Fine (with_two_operands setting left right w next)
    taking_two left right next e w l =
        taking left (λ a v. with_operand setting right v (next a)) (λ a v k. taking right (next a) (e a) v k) w l

    taking_all : (operands : List Operand) (next : List Datum → State → Out State) →
        ((d : List Datum) (v : State) → Good v → Fine (next d v)) → (w : State) → Good w →
        Fine (with_operands setting operands w next)
    taking_all operands next e w l =
        after_taken (evaluate_operands setting operands w) next w l (all_taken_fine operands w l) e

    put_fine : (to : EffectSite) (value : Datum) (w : State) → Good w → Fine (put setting to value w)
    put_fine to value w l =
        reached_fine (reach setting w to.place) (λ s. Go (stored_at s.address value w)) (Halts Stuck w) (Halts Stuck w)
        (λ s. goes (stored_at s.address value w) l) (halted Stuck w l) (halted Stuck w l)

    put_if_fine : (to : EffectSite) (value : Option Datum) (w : State) → Good w → Fine (put_if setting to value w)
    put_if_fine to value w l = step_fine value (λ v. put setting to v w) w l (λ v. put_fine to v w l)

    told_fine : (event : Event) → Told event → (o : Out State) → Fine o → Fine (tell_after setting event o)
    told_fine event h (Go w) k = record { fine = told_then event h w k.fine }
    told_fine event h (Unwind w) k = record { fine = k.fine }
    told_fine event h (Halts halt w) k = record { fine = k.fine }

    made_fine : (number : ℕ) (to : EffectSite) (value : Datum) (of : Option (ℕ × ℕ)) (w : State) → Good w →
        Fine (made_event setting number to value of w)
    made_fine number to value None w l = put_fine to value w l
    made_fine number to value (Some of) w l =
        told_fine (Event.Make number w.serial) tt (put setting to value (numbered_next w))
        (put_fine to value (numbered_next w) l)

    built_fine : (to : EffectSite) (kind : AggregateKind) (parts : List Datum) (w : State) → Good w →
        Fine (built setting to kind parts w)
    built_fine to OfTuple parts w l = put_fine to _ w l
    built_fine to OfArray parts w l = put_fine to _ w l
    built_fine to (OfClosure closure) parts w l = put_fine to _ w l
    built_fine to (OfVariant number variant) parts w l = made_fine number to _ _ w l

    boxed_fine : (to : EffectSite) (content : Datum) (w : State) → Good w → Fine (boxed setting to content w)
    boxed_fine to content w l =
        told_fine (Event.Boxed w.serial) tt (put setting to (Box w.serial None content) (numbered_next w))
        (put_fine to (Box w.serial None content) (numbered_next w) l)

    printed_fine : (value : Datum) (w : State) → Good w → Fine (printed setting value w)
    printed_fine (Number number) w l = record { fine = told_then (Event.Printed number) tt w l }
    printed_fine _ w l = record { fine = l }

    unnumbered_fine : (list : List ℕ) (out : Out State) (w : State) → Good w → Fine out →
        Fine (if_nothing_numbered setting list out w)
    unnumbered_fine [] out w l h = h
    unnumbered_fine (serial ∷ list) out w l h = halted Stuck w l

    freed_fine : (s : Located) (value : Datum) (w : State) → Good w → Fine (freed setting s value w)
    freed_fine s (Box serial impl_no inside) w l =
        unnumbered_fine (serials inside) (Go (with_event (Event.Freed serial) (stored_at s.address Gone w))) w l
        (record { fine = told_then (Event.Freed serial) tt (stored_at s.address Gone w) l })
    freed_fine s _ w l = record { fine = l }

    put_computed_fine : (to : EffectSite) (answer : Computed) (w : State) → Good w →
        Fine (put_computed setting to answer w)
    put_computed_fine to (Gives number) w l = put_fine to (Number number) w l
    put_computed_fine to (PanicsBy why) w l = record { fine = told_then (Event.Panicked why) tt w l }

    compute_fine : (to : EffectSite) (operator : Math) (kind : Option IntKind) (a b : Datum) (w : State) → Good w →
        Fine (compute setting to operator kind a b w)
    compute_fine to operator (Some kind) (Number a) (Number b) w l = put_computed_fine to (computed operator kind a b)
        w l
    compute_fine to operator _ _ _ w l = record { fine = l }

    negate_fine : (to : EffectSite) (kind : Option IntKind) (a : Datum) (w : State) → Good w →
        Fine (negate setting to kind a w)
    negate_fine to (Some kind) (Number a) w l = put_computed_fine to _ w l
    negate_fine to _ _ w l = record { fine = l }

    within_fine : (b : Bool) (w : State) → Good w → Fine (within_bounds setting b w)
    within_fine true w l = record { fine = l }
    within_fine false w l = record { fine = told_then _ tt w l }

    bounded_fine : (count : ℕ) (value : Datum) (w : State) → Good w → Fine (bounded setting count value w)
    bounded_fine count (Number number) w l = within_fine _ w l
    bounded_fine count _ w l = record { fine = l }

    answered_fine : (to : EffectSite) (answer : Answer) → FineAnswer answer → Fine (answered setting to answer)
    answered_fine to (Returns value w) h = put_fine to value w h.fine
    answered_fine to (Unwinds w) h = record { fine = h.fine }
    answered_fine to (HaltsIn halt w) h = record { fine = h.fine }

    asked_fine : (to : EffectSite) (numbers : List ℤ) (w : State) → Good w → Fine (asked setting to numbers w)
    asked_fine to [] w l = record { fine = told_then _ tt w l }
    asked_fine to (number ∷ rest) w l =
        told_fine (Event.Asked number) tt _ (put_fine to (Number number) (record w { asked = rest }) l)

    truth_fine : (o : Option (Datum × State)) (w : State) → Good w → FineTaken o → FineChoice (chosen_truth setting o w)
    truth_fine (Some (Truth true, v)) w l h = record { fine = h.fine }
    truth_fine (Some (Truth false, v)) w l h = record { fine = h.fine }
    truth_fine _ w l h = record { fine = l }

    chosen_fine : (b : Bool) (w : State) → Good w → FineChoice (chosen_if setting b w)
    chosen_fine true w l = record { fine = l }
    chosen_fine false w l = record { fine = l }

    variant_fine : (variant : ℕ) (value : Datum) (w : State) → Good w →
        FineChoice (variant_tested setting variant value w)
    variant_fine variant (Aggregate active serial parts) w l = chosen_fine _ w l
    variant_fine variant _ w l = record { fine = l }

    tested_fine : (variant : ℕ) (r : Reached) (w : State) → Good w →
        FineChoice (on_reached r (λ s. variant_tested setting variant s.value w) (Neither Stuck w) (Neither Stuck w))
    tested_fine variant (Reaches s) w l = variant_fine variant s.value w l
    tested_fine variant CutOff w l = record { fine = l }
    tested_fine variant Nowhere w l = record { fine = l }

    pub choose_fine : (test : Test) (w : State) → Good w → FineChoice (choose setting test w)
    choose_fine (effects.IsTrue operand) w l =
        truth_fine (evaluate_operand setting operand w) w l (taken_fine operand w l)
    choose_fine (effects.HasVariant site variant) w l = tested_fine variant (reach setting w site.place) w l

    module _ (exist : BodiesExist setting.items) (run : Bodies) (truly : TellsTruly run) where
      virtual_within : (trait_no method : ℕ) (w : State) (args : List Datum) →
          Within (virtual_body setting trait_no method w args)
      virtual_within trait_no method w (Address address ∷ rest) = by (located_at setting w address)
        where
          of_row : (b : Bool) (o : Option ℕ) → Within o → Within (option_and_then (λ body. if_so b body) o)
          of_row b None h = tt
          of_row true (Some body) h = h
          of_row false (Some body) h = tt

          object : (d : DynamicType) → Within (object_body setting trait_no method d)
          object (OfType id) = tt
          object (OfObject id n) =
              of_row (is_dyn_of trait_no (type_at setting.items id)) (row_body setting setting.items method n)
              (exist.impls n method)

          by : (o : Option Located) → Within (option_and_then (λ s. object_body setting trait_no method s.dynamic) o)
          by None = tt
          by (Some s) = object s.dynamic
      virtual_within trait_no method w _ = tt

      called_fine : (to : EffectSite) (o : Option ℕ) → Within o → (args : List Datum) (w : State) → Good w →
          Fine (called setting run to o args w)
      called_fine to None h args w l = halted Stuck w l
      called_fine to (Some body) h args w l =
          answered_fine to (run (Event.Call body) body args w) (truly (Event.Call body) body args w h h l)

      acted_fine : (action : Action) → Calls action → (w : State) → Good w → Fine (acted setting run action w)
      acted_fine (effects.Put to from) c w l = taking from _ (put_fine to) w l
      acted_fine (effects.Compare to operator left right) c w l =
          taking_two left right _ (λ a b v k. put_if_fine to _ v k) w l
      acted_fine (effects.Not to operand) c w l = taking operand _ (λ d v k. put_if_fine to _ v k) w l
      acted_fine (effects.Build to kind parts) c w l = taking_all parts _ (built_fine to kind) w l
      acted_fine (effects.NewBox to content) c w l = taking content _ (boxed_fine to) w l
      acted_fine (effects.Unsize to trait_no operand) c w l = taking operand _ (λ d v k. put_if_fine to _ v k) w l
      acted_fine (effects.Borrow to unique base) c w l =
          step_fine (whole_at setting w base) _ w l (λ s. put_fine to (Address s.address) w l)
      acted_fine (effects.Touch base) c w l = step_fine (whole_at setting w base) _ w l (λ s. goes w l)
      acted_fine (effects.Print operand) c w l = taking operand _ printed_fine w l
      acted_fine (effects.Forget operand) c w l =
          taking operand _
          (λ d v k. record {
            fine = both_every Told v.trace
                (option_map_or (forgotten setting.items d) (type_of_operand setting w operand) []) k
                (all_forgotten setting.items d (type_of_operand setting w operand));
          }) w l
      acted_fine (effects.Free box) c w l =
          reached_fine (reach setting w box.place) (λ s. freed setting s s.value w) (Halts Stuck w) (Halts Stuck w)
          (λ s. freed_fine s s.value w l) (halted Stuck w l) (halted Stuck w l)
      acted_fine (effects.Compute to operator left right) c w l =
          taking_two left right _ (compute_fine to operator _) w l
      acted_fine (effects.Negate to operand) c w l = taking operand _ (negate_fine to _) w l
      acted_fine (effects.Bounds index count) c w l = taking index _ (bounded_fine count) w l
      acted_fine (effects.Call to body args) c w l = taking_all args _ (called_fine to (Some body) c) w l
      acted_fine (effects.CallVirtual to trait_no method args) c w l =
          taking_all args _
          (λ values v k. called_fine to (virtual_body setting trait_no method v values)
          (virtual_within trait_no method v values) values v k) w l
      acted_fine (effects.Ask to) c w l = asked_fine to w.asked w l

      halting_fine : (b : Bool) (halt : Halt) (o : Out State) → Fine o → Fine (halting_if b halt o)
      halting_fine true halt (Go w) h = record { fine = h.fine }
      halting_fine true halt (Unwind w) h = record { fine = h.fine }
      halting_fine true halt (Halts other w) h = record { fine = h.fine }
      halting_fine false halt o h = h

      pub act_fine : (action : Action) → Calls action → (w : State) → Good w → Fine (act setting run action w)
      act_fine action c w l =
          halting_fine (stores_where (never_at setting w) action) Stuck (acted setting run action w)
          (acted_fine action c w l)

      pub give_fine : (site : EffectSite) (w : State) → Good w → Fine (give setting run site w)
      give_fine site w l = step_fine (whole_at setting w site) _ w l (λ s. goes w l)

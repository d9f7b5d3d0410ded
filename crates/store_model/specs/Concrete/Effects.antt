-- The effects on values: what a run of a program or of a graph does (The Rust Reference, "Expressions"; the rustc
-- development guide, "The MIR"). A value that is used must be whole. Where there is nothing that the rules allow, as
-- at a place that is gone, there is no step.
use Rattle.std.specs.Prelude.{ℕ, suc, ◌==◌, ℤ, pos, ◌+ℤ◌, ◌-ℤ◌, ◌*ℤ◌, neg_ℤ, int_lt, int_le, int_div, int_rem, Bool, true, false, ◌&&◌, ◌||◌, not, List, [], ◌∷◌, ◌++◌, Option, Some, None, length, slice_get, position, option_and_then}
use Rattle.std.specs.Option.{option_map_or}
use Rattle.mir_base.specs.declared.int_kind.IntKind.{IntKind}
use Rattle.mir_base.specs.declared.operator.Cmp.{Cmp}
use Rattle.mir_base.specs.declared.operator.Math.{Math}
use Rattle.mir_base.specs.declared.trace.Event.{Event}
use Rattle.mir_base.specs.declared.trace.Why.{Why}
use Rattle.mir_base.specs.IntKind.{least_of, greatest_of}
use Rattle.mir_ty.specs.declared.ty.Ty.{Ty}
use Rattle.mir_ty.specs.ItemTable.{ItemTable, type_at}
use Rattle.store_model.specs.declared.address.At.TheVariants.{Part, Inside}
use Rattle.store_model.specs.Values.Datum.{Datum, Data, Gone, Number, Truth, UnitValue, Aggregate, Box, Address, no_part, a_part, data_from}
use Rattle.store_model.specs.Concrete.Drops.{Begins, drop_impl, drop_at}
use Rattle.store_model.specs.Effects as effects
use Rattle.store_model.specs.Effects.{EffectSite, Operand, AggregateKind, OfTuple, OfArray, OfVariant, OfClosure, Action, Test, Mode, Halt, Stuck, Out, Go, Unwind, Halts, Choice, Yes, No, Neither, Effects, halting_if}
use Rattle.store_model.specs.Places.Place.{place_ty}
use Rattle.store_model.specs.Concrete.Location.{Setting, DynamicType, OfType, OfObject, concrete_ty, type_of_part, Located, located_at, reach, on_reached, stored_at}
use Rattle.store_model.specs.Places.TypeForms.{adt_of, box_content, int_kind, is_dyn_of, is_never}
use Rattle.store_model.specs.Concrete.State.{State, with_event, numbered_next, tick, Answer, Returns, Unwinds, HaltsIn, Bodies}
use Rattle.store_model.specs.Values.Wholeness.{is_whole, serials}

-- Comparisons and checked operations.

abbrev pub int_eq : ℤ → ℤ → Bool
int_eq a b = int_le a b && int_le b a

abbrev pub compared_numbers : Cmp → ℤ → ℤ → Bool
compared_numbers Cmp.Eq a b = int_eq a b
compared_numbers Cmp.Ne a b = not (int_eq a b)
compared_numbers Cmp.Lt a b = int_lt a b
compared_numbers Cmp.Le a b = int_le a b
compared_numbers Cmp.Gt a b = int_lt b a
compared_numbers Cmp.Ge a b = int_le b a

abbrev pub number_of_truth : Bool → ℤ
number_of_truth false = pos 0
number_of_truth true = pos 1

-- two numbers, or two truth values, of which `false` is the less
abbrev pub compared : Cmp → Datum → Datum → Option Bool
compared operator (Number a) (Number b) = Some (compared_numbers operator a b)
compared operator (Truth a) (Truth b) = Some (compared_numbers operator (number_of_truth a) (number_of_truth b))
compared operator left right = None

-- the number that an operation gives, or why it panics
pub data Computed : Type 0 where
  Gives : (number : ℤ) → Computed
  PanicsBy : (why : Why) → Computed

abbrev pub within_kind : Bool → ℤ → Computed
within_kind true number = Gives number
within_kind false number = PanicsBy Why.Overflow

abbrev pub fits : IntKind → ℤ → Bool
fits kind number = int_le (least_of kind) number && int_le number (greatest_of kind)

abbrev pub if_within : IntKind → ℤ → Computed
if_within kind number = within_kind (fits kind number) number

-- a remainder overflows where its quotient does
abbrev pub divided : Bool → IntKind → ℤ → ℤ → Computed
divided true kind quotient answer = PanicsBy Why.Divide
divided false kind quotient answer = within_kind (fits kind quotient) answer

abbrev pub computed : Math → IntKind → ℤ → ℤ → Computed
computed Math.Add kind a b = if_within kind (a +ℤ b)
computed Math.Sub kind a b = if_within kind (a -ℤ b)
computed Math.Mul kind a b = if_within kind (a *ℤ b)
computed Math.Div kind a b = divided (int_eq b (pos 0)) kind (int_div a b) (int_div a b)
computed Math.Rem kind a b = divided (int_eq b (pos 0)) kind (int_div a b) (int_rem a b)

-- What `forget` tells: a line for each numbered part, in the order in which it would be dropped or freed.

abbrev pub made_forgotten : Option ℕ → Option (ℕ × ℕ) → List Event
made_forgotten (Some serial) (Some of) = Event.ForgotMade of.0 serial ∷ []
made_forgotten serial of = []

abbrev pub if_typed : Option DynamicType → (DynamicType → List Event) → List Event
if_typed None forget = []
if_typed (Some dynamic) forget = forget dynamic

abbrev mutual
  pub forgotten : ItemTable → Datum → DynamicType → List Event
  forgotten items (Aggregate variant serial parts) dynamic =
      made_forgotten serial (drop_impl items (concrete_ty items dynamic))
      ++ forgotten_parts items parts (λ n. type_of_part items (Part n) (Aggregate variant serial no_part) dynamic) 0
  forgotten items (Box serial impl_no inside) dynamic =
      if_typed (type_of_part items Inside (Box serial impl_no Gone) dynamic) (forgotten items inside)
      ++ Event.ForgotBox serial ∷ []
  forgotten items value dynamic = []

  pub forgotten_parts : ItemTable → Data → (ℕ → Option DynamicType) → ℕ → List Event
  forgotten_parts items no_part found_at n = []
  forgotten_parts items (a_part first rest) found_at n =
      if_typed (found_at n) (forgotten items first) ++ forgotten_parts items rest found_at (suc n)

abbrev pub body_of_youngest : State → Option ℕ
body_of_youngest w = option_map_or (λ a. Some a.body) (slice_get w.activations 0) None

abbrev pub or_stuck : {A : Type 0} → Option A → (A → Out State) → State → Out State
or_stuck None next w = Halts Stuck w
or_stuck (Some a) next w = next a

abbrev pub if_so : {A : Type 0} → Bool → A → Option A
if_so true a = Some a
if_so false a = None

-- the impl of a trait for a struct or an enum
abbrev pub impl_of : ItemTable → ℕ → ℕ → Option ℕ
impl_of items trait_no adt = position (λ impl. (impl.trait_no == trait_no) && (impl.adt == adt)) items.impls

abbrev pub with_impl : ℕ → Datum → Option Datum
with_impl impl_no (Box serial other inside) = Some (Box serial (Some impl_no) inside)
with_impl impl_no value = None

-- a numbered value tells of its making
abbrev pub made : ℕ → ℕ → List Datum → Option ℕ → Option (ℕ × ℕ) → Datum
made adt variant parts serial None = Aggregate variant None (data_from parts)
made adt variant parts serial (Some of) = Aggregate variant serial (data_from parts)

module _ (setting : Setting) where
  -- the type that a place has by the body that runs
  abbrev pub ty_of_place : State → effects.EffectSite → Option Ty
  ty_of_place w site =
      option_and_then (type_at setting.items)
      (place_ty setting.items
      (λ local. option_and_then (λ body. setting.local_ty body local) (body_of_youngest w)) site.place)

  abbrev pub never_at : State → effects.EffectSite → Bool
  never_at w site = is_never (ty_of_place w site)

  abbrev pub ty_of_operand : State → Operand → Option Ty
  ty_of_operand w (effects.Copied site) = ty_of_place w site
  ty_of_operand w (effects.Moved site) = ty_of_place w site
  ty_of_operand w (effects.Number value kind) = Some (Ty.Int kind)
  ty_of_operand w (effects.Truth value) = Some Ty.Bool
  ty_of_operand w effects.UnitValue = Some Ty.Unit

  abbrev pub whole : Located → Option Located
  whole s = if_so (is_whole s.value) s

  -- what stands at a place whose value is used
  abbrev pub whole_at : State → EffectSite → Option Located
  whole_at w site = on_reached (reach setting w site.place) whole None None

  abbrev pub evaluate_operand : Operand → State → Option (Datum × State)
  evaluate_operand (effects.Copied site) w = option_map_or (λ s. Some (s.value, w)) (whole_at w site) None
  evaluate_operand (effects.Moved site) w =
      option_map_or (λ s. Some (s.value, stored_at s.address Gone w)) (whole_at w site) None
  evaluate_operand (effects.Number value kind) w = Some (Number value, w)
  evaluate_operand (effects.Truth value) w = Some (Truth value, w)
  evaluate_operand effects.UnitValue w = Some (UnitValue, w)

  abbrev pub evaluate_operands : List Operand → State → Option (List Datum × State)
  evaluate_operands [] w = Some ([], w)
  evaluate_operands (operand ∷ operands) w =
      option_and_then (λ one. option_map_or (λ rest. Some (one.0 ∷ rest.0, rest.1)) (evaluate_operands operands one.1)
      None)
      (evaluate_operand operand w)

  abbrev pub with_operand : Operand → State → (Datum → State → Out State) → Out State
  with_operand operand w next = or_stuck (evaluate_operand operand w) (λ t. next t.0 t.1) w

  abbrev pub with_two_operands : Operand → Operand → State → (Datum → Datum → State → Out State) → Out State
  with_two_operands left right w next = with_operand left w (λ a w. with_operand right w (next a))

  abbrev pub with_operands : List Operand → State → (List Datum → State → Out State) → Out State
  with_operands operands w next = or_stuck (evaluate_operands operands w) (λ t. next t.0 t.1) w

  -- a value is stored, whatever stood at its place
  abbrev pub put : EffectSite → Datum → State → Out State
  put to value w =
      on_reached (reach setting w to.place) (λ s. Go (stored_at s.address value w)) (Halts Stuck w) (Halts Stuck w)

  abbrev pub put_if : EffectSite → Option Datum → State → Out State
  put_if to value w = or_stuck value (λ v. put to v w) w

  abbrev pub tell_after : Event → Out State → Out State
  tell_after event (Go w) = Go (with_event event w)
  tell_after event (Unwind w) = Unwind w
  tell_after event (Halts halt w) = Halts halt w

  abbrev pub panics : Why → State → State
  panics why w = with_event (Event.Panicked why) w

  abbrev pub negated : Datum → Option Datum
  negated (Truth b) = Some (Truth (not b))
  negated _ = None

  -- a value with a `Drop` impl, or a box, gets its serial number as it is made
  abbrev pub made_event : ℕ → EffectSite → Datum → Option (ℕ × ℕ) → State → Out State
  made_event adt to value None w = put to value w
  made_event adt to value (Some of) w = tell_after (Event.Make adt w.serial) (put to value (numbered_next w))

  abbrev pub built : EffectSite → AggregateKind → List Datum → State → Out State
  built to OfTuple parts w = put to (Aggregate 0 None (data_from parts)) w
  built to OfArray parts w = put to (Aggregate 0 None (data_from parts)) w
  built to (OfClosure closure) parts w = put to (Aggregate 0 None (data_from parts)) w
  built to (OfVariant adt variant) parts w =
      made_event adt to (made adt variant parts (Some w.serial) (drop_impl setting.items (Some (Ty.Adt adt))))
      (drop_impl setting.items (Some (Ty.Adt adt))) w

  abbrev pub boxed : EffectSite → Datum → State → Out State
  boxed to content w = tell_after (Event.Boxed w.serial) (put to (Box w.serial None content) (numbered_next w))

  abbrev pub impl_boxed : ℕ → State → Operand → Option ℕ
  impl_boxed trait_no w operand =
      option_and_then (impl_of setting.items trait_no)
      (adt_of (option_and_then (type_at setting.items) (box_content (ty_of_operand w operand))))

  abbrev pub printed : Datum → State → Out State
  printed (Number number) w = Go (with_event (Event.Printed number) w)
  printed value w = Halts Stuck w

  abbrev pub with_events : List Event → State → State
  with_events events w = record w { trace = w.trace ++ events }

  abbrev pub type_of_operand : State → Operand → Option DynamicType
  type_of_operand w (effects.Copied site) = option_map_or (λ s. Some s.dynamic) (whole_at w site) None
  type_of_operand w (effects.Moved site) = option_map_or (λ s. Some s.dynamic) (whole_at w site) None
  type_of_operand w operand = None

  abbrev pub if_nothing_numbered : List ℕ → Out State → State → Out State
  if_nothing_numbered [] freed w = freed
  if_nothing_numbered (serial ∷ rest) freed w = Halts Stuck w

  -- a box is freed alone, where no numbered value is left in it
  abbrev pub freed : Located → Datum → State → Out State
  freed s (Box serial impl_no inside) w =
      if_nothing_numbered (serials inside) (Go (with_event (Event.Freed serial) (stored_at s.address Gone w))) w
  freed s value w = Halts Stuck w

  abbrev pub put_computed : EffectSite → Computed → State → Out State
  put_computed to (Gives number) w = put to (Number number) w
  put_computed to (PanicsBy why) w = Unwind (panics why w)

  abbrev pub compute : EffectSite → Math → Option IntKind → Datum → Datum → State → Out State
  compute to operator (Some kind) (Number a) (Number b) w = put_computed to (computed operator kind a b) w
  compute to operator kind left right w = Halts Stuck w

  abbrev pub negate : EffectSite → Option IntKind → Datum → State → Out State
  negate to (Some kind) (Number a) w = put_computed to (if_within kind (neg_ℤ a)) w
  negate to kind value w = Halts Stuck w

  abbrev pub within_bounds : Bool → State → Out State
  within_bounds true w = Go w
  within_bounds false w = Unwind (panics Why.Index w)

  abbrev pub bounded : ℕ → Datum → State → Out State
  bounded length (Number number) w = within_bounds (int_lt number (pos length)) w
  bounded length value w = Halts Stuck w

  abbrev pub answered : EffectSite → Answer → Out State
  answered to (Returns value w) = put to value w
  answered to (Unwinds w) = Unwind w
  answered to (HaltsIn halt w) = Halts halt w

  abbrev pub row_body : ItemTable → ℕ → ℕ → Option ℕ
  row_body items method impl_no = option_and_then (λ impl. slice_get impl.bodies method) (slice_get items.impls impl_no)

  abbrev pub object_body : ℕ → ℕ → DynamicType → Option ℕ
  object_body trait_no method (OfType id) = None
  object_body trait_no method (OfObject id impl_no) =
      option_and_then (λ body. if_so (is_dyn_of trait_no (type_at setting.items id)) body)
      (row_body setting.items method impl_no)

  -- the body of a trait's method, by the impl of the trait object that the first argument names
  abbrev pub virtual_body : ℕ → ℕ → State → List Datum → Option ℕ
  virtual_body trait_no method w (Address address ∷ rest) =
      option_and_then (λ s. object_body trait_no method s.dynamic) (located_at setting w address)
  virtual_body trait_no method w args = None

  abbrev pub asked : EffectSite → List ℤ → State → Out State
  asked to [] w = Unwind (panics Why.Ask w)
  asked to (number ∷ rest) w = tell_after (Event.Asked number) (put to (Number number) (record w { asked = rest }))

  abbrev pub chosen_truth : Option (Datum × State) → State → Choice State
  chosen_truth (Some (Truth true, v)) w = Yes v
  chosen_truth (Some (Truth false, v)) w = No v
  chosen_truth _ w = Neither Stuck w

  abbrev pub chosen_if : Bool → State → Choice State
  chosen_if true w = Yes w
  chosen_if false w = No w

  abbrev pub variant_tested : ℕ → Datum → State → Choice State
  variant_tested variant (Aggregate active serial parts) w = chosen_if (variant == active) w
  variant_tested variant value w = Neither Stuck w

  abbrev pub choose : Test → State → Choice State
  choose (effects.IsTrue operand) w = chosen_truth (evaluate_operand operand w) w
  choose (effects.HasVariant site variant) w =
      on_reached (reach setting w site.place) (λ s. variant_tested variant s.value w) (Neither Stuck w)
      (Neither Stuck w)

  abbrev pub impl_put : EffectSite → Option ℕ → Datum → State → Out State
  impl_put to impl_no value w = put_if to (option_and_then (λ n. with_impl n value) impl_no) w

  module _ (run : Bodies) where
    abbrev pub called : EffectSite → Option ℕ → List Datum → State → Out State
    called to body args w = or_stuck body (λ body. answered to (run (Event.Call body) body args w)) w

    abbrev pub acted : Action → State → Out State
    acted (effects.Put to from) w = with_operand from w (put to)
    acted (effects.Compare to operator left right) w =
        with_two_operands left right w
        (λ a b. put_if to (option_map_or (λ t. Some (Truth t)) (compared operator a b) None))
    acted (effects.Not to operand) w = with_operand operand w (λ v. put_if to (negated v))
    acted (effects.Build to kind parts) w = with_operands parts w (built to kind)
    acted (effects.NewBox to content) w = with_operand content w (boxed to)
    acted (effects.Unsize to trait_no operand) w = with_operand operand w (impl_put to (impl_boxed trait_no w operand))
    acted (effects.Borrow to unique base) w = or_stuck (whole_at w base) (λ s. put to (Address s.address) w) w
    acted (effects.Touch base) w = or_stuck (whole_at w base) (λ s. Go w) w
    acted (effects.Print operand) w = with_operand operand w printed
    acted (effects.Forget operand) w =
        with_operand operand w
        (λ v w'. Go (with_events (option_map_or (forgotten setting.items v) (type_of_operand w operand) []) w'))
    acted (effects.Free box) w =
        on_reached (reach setting w box.place) (λ s. freed s s.value w) (Halts Stuck w) (Halts Stuck w)
    acted (effects.Compute to operator left right) w =
        with_two_operands left right w (compute to operator (int_kind (ty_of_operand w left)))
    acted (effects.Negate to operand) w = with_operand operand w (negate to (int_kind (ty_of_operand w operand)))
    acted (effects.Bounds index length) w = with_operand index w (bounded length)
    acted (effects.Call to body args) w = with_operands args w (called to (Some body))
    acted (effects.CallVirtual to trait_no method args) w =
        with_operands args w (λ values w. called to (virtual_body trait_no method w values) values w)
    acted (effects.Ask to) w = asked to w.asked w

    -- no value of the type `!` is ever made, so none is stored
    abbrev pub act : Action → State → Out State
    act action w = halting_if (effects.stores_where (never_at w) action) Stuck (acted action w)

    -- the result of a body is whole
    abbrev pub give : EffectSite → State → Out State
    give site w = or_stuck (whole_at w site) (λ s. Go w) w

    -- in the strict meaning what is dropped is whole; otherwise what remains of it is dropped
    abbrev pub dropped_if : ℕ → Bool → Mode → Located → State → Out State
    dropped_if fuel true mode s w = drop_at setting run fuel Begins s mode w
    dropped_if fuel false mode s w = Halts Stuck w

    abbrev pub nothing_if : Bool → State → Out State
    nothing_if true w = Halts Stuck w
    nothing_if false w = Go w

    -- the fuel is greater than the ticks that are left
    abbrev pub drop : ℕ → Mode → EffectSite → State → Out State
    drop fuel mode site w =
        on_reached (reach setting w site.place)
        (λ s. dropped_if fuel (not setting.strict || is_whole s.value) mode s w)
        (nothing_if setting.strict w) (Halts Stuck w)

    abbrev pub concrete_effects : ℕ → Effects State
    concrete_effects fuel =
        record { act = act; choose = choose; drop = drop fuel; panic = panics; tick = tick; give = give }

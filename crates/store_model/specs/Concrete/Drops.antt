-- Dropping what stands at an address (The Rust Reference, "Destructors"; the rustc development guide, "Drop
-- elaboration"): the `Drop` body of the type, if it has one, then the parts as they stand then, a box after its
-- content, and then the place is gone. What is gone is not dropped. After the first panic the rest is dropped while
-- unwinding, and a panic out of a drop made while unwinding aborts the run at once.
use Rattle.std.specs.Prelude.{ℕ, zero, suc, ◌==◌, Bool, true, false, [], ◌∷◌, Option, Some, None, slice_get}
use Rattle.std.specs.Option.{option_map_or}
use Rattle.mir_base.specs.declared.trace.Event.{Event}
use Rattle.mir_ty.specs.declared.ty.Ty.{Ty}
use Rattle.mir_ty.specs.ItemTable.{ItemTable}
use Rattle.store_model.specs.declared.address.At.TheVariants.{Part, Inside}
use Rattle.store_model.specs.Values.Datum.{Datum, Data, Gone, Number, Truth, UnitValue, Aggregate, Box, Address, no_part, a_part}
use Rattle.store_model.specs.Effects.{Mode, Normal, Unwinding, Aborted, OutOfTicks, Stuck, Out, Go, Unwind, Halts}
use Rattle.store_model.specs.Concrete.Location.{Setting, DynamicType, OfType, OfObject, adt_of_impl, concrete_ty, is_of_type}
use Rattle.store_model.specs.Concrete.Location.{Located, into, located_at, stored_at}
use Rattle.store_model.specs.Places.TypeForms.{is_adt}
use Rattle.store_model.specs.Concrete.State.{State, with_event, Answer, Returns, Unwinds, HaltsIn, Bodies}

-- how a `Drop` body ends in a mode
abbrev pub drop_body_out : Mode → Answer → Out State
drop_body_out mode (Returns value w) = Go w
drop_body_out Normal (Unwinds w) = Unwind w
drop_body_out Unwinding (Unwinds w) = Halts Aborted w
drop_body_out mode (HaltsIn halt w) = Halts halt w

abbrev pub unwinding_out : Out State → Out State
unwinding_out (Go w) = Unwind w
unwinding_out (Unwind w) = Unwind w
unwinding_out (Halts halt w) = Halts halt w

-- what comes next is dropped in the same mode, and after a panic while unwinding
abbrev pub in_mode : Mode → Out State → (Mode → State → Out State) → Out State
in_mode mode (Go w) next = next mode w
in_mode mode (Unwind w) next = unwinding_out (next Unwinding w)
in_mode mode (Halts halt w) next = Halts halt w

-- the number and the `Drop` body of a struct or an enum that has one
abbrev pub with_drop_body : ℕ → Option ℕ → Option (ℕ × ℕ)
with_drop_body n None = None
with_drop_body n (Some body) = Some (n, body)

abbrev pub drop_impl : ItemTable → Option Ty → Option (ℕ × ℕ)
drop_impl items (Some (Ty.Adt n)) =
    with_drop_body n (option_map_or (λ adt. adt.drop_body) (slice_get items.adts n) None)
drop_impl items _ = None

abbrev pub serial_or_none : Option ℕ → ℕ
serial_or_none None = 0
serial_or_none (Some serial) = serial

-- A place has not lost what was found there while it is found as that type, as for references; a trait object, as the
-- concrete type of its impl. It need not be found in the same way.
abbrev pub still_of : ItemTable → DynamicType → DynamicType → Bool
still_of items (OfType id) now = is_of_type items id now
still_of items (OfObject id impl_no) now =
    option_map_or (λ n. is_adt n (concrete_ty items now)) (adt_of_impl items impl_no) false

abbrev pub same_if : Bool → (State → Out State) → State → Out State
same_if true next w = next w
same_if false next w = Halts Stuck w

abbrev pub if_still_typed :
    ItemTable → DynamicType → Option Located → (Located → State → Out State) → State → Out State
if_still_typed items dynamic None next w = Halts Stuck w
if_still_typed items dynamic (Some s) next w = same_if (still_of items dynamic s.dynamic) (next s) w

-- whether the `Drop` body of a value is still to run, or has run
pub data Stage : Type 0 where
  Begins : Stage
  HasRun : Stage

module _ (setting : Setting) (run : Bodies) where
  -- an address that has not lost its place: what stands there is still of the type that was found before
  abbrev pub still : Located → (Located → State → Out State) → State → Out State
  still s next w = if_still_typed setting.items s.dynamic (located_at setting w s.address) next w

  abbrev pub gone_at : Located → State → Out State
  gone_at s w = still s (λ s w. Go (stored_at s.address Gone w)) w

  -- the box that stands there then is freed: a `Drop` body run meanwhile may have stored another
  abbrev pub freed_there : Datum → Located → State → Out State
  freed_there (Box serial impl_no inside) s w = Go (with_event (Event.Freed serial) (stored_at s.address Gone w))
  freed_there value s w = Halts Stuck w

  abbrev pub freed_at : Located → State → Out State
  freed_at s w = still s (λ s w. freed_there s.value s w) w

  -- what stands at an address, where the value there was read when so many ticks were left: since then a `Drop` body
  -- may have run, and then it is read again
  module _ (again : Stage → Located → Mode → State → Out State) (ticks : ℕ) where
    abbrev pub as_read : Bool → (Located → Mode → State → Out State) → Located → Mode → State → Out State
    as_read true drop s mode w = drop s mode w
    as_read false drop s mode w = again Begins s mode w

    abbrev pub if_part : Option Located → (Located → Mode → State → Out State) → Mode → State → Out State
    if_part None drop mode w = Halts Stuck w
    if_part (Some s) drop mode w = as_read (w.ticks == ticks) drop s mode w

    -- the `Drop` body runs, and the value goes on to its parts as they stand then
    abbrev pub with_body :
        Option (ℕ × ℕ) → Option ℕ → Located → (Mode → State → Out State) → Mode → State → Out State
    with_body None serial s parts mode w = parts mode w
    with_body (Some of) serial s parts mode w =
        in_mode mode
        (drop_body_out mode (run (Event.Dropped of.0 (serial_or_none serial)) of.1 (Address s.address ∷ []) w))
        (again HasRun s)

    abbrev pub own_body : Stage → Option (ℕ × ℕ) → Option (ℕ × ℕ)
    own_body Begins of = of
    own_body HasRun of = None

    abbrev mutual
      pub drop_value : Datum → Stage → Located → Mode → State → Out State
      drop_value Gone stage s mode w = Go w
      drop_value (Number number) stage s mode w = gone_at s w
      drop_value (Truth truth) stage s mode w = gone_at s w
      drop_value UnitValue stage s mode w = gone_at s w
      drop_value (Address address) stage s mode w = gone_at s w
      drop_value (Aggregate variant serial parts) stage s mode w =
          with_body (own_body stage (drop_impl setting.items (concrete_ty setting.items s.dynamic))) serial s
          (λ mode w. in_mode mode (drop_parts parts 0 s mode w) (λ mode. gone_at s)) mode w
      drop_value (Box serial impl_no inside) stage s mode w =
          in_mode mode (if_part (into setting.items Inside s) (drop_value inside Begins) mode w) (λ mode. freed_at s)

      -- the parts from a number on, in order
      pub drop_parts : Data → ℕ → Located → Mode → State → Out State
      drop_parts no_part n s mode w = Go w
      drop_parts (a_part first rest) n s mode w =
          in_mode mode (if_part (into setting.items (Part n) s) (drop_value first Begins) mode w)
          (drop_parts rest (suc n) s)

  abbrev pub dropped_there : (Stage → Located → Mode → State → Out State) → Stage → Mode → Located → State → Out State
  dropped_there again stage mode s w = drop_value again w.ticks s.value stage s mode w

  -- what stands at an address is dropped. Before each reading again a tick is spent, so the fuel, which is to be
  -- greater than the ticks that are left, never ends a run by itself
  abbrev pub drop_at : ℕ → Stage → Located → Mode → State → Out State
  drop_at zero stage s mode w = Halts OutOfTicks w
  drop_at (suc n) stage s mode w = still s (dropped_there (drop_at n) stage mode) w

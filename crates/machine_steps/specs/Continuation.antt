-- What is left of a drop: the containers whose parts are being dropped, the innermost first, and what each is in the
-- definition of a drop. A container was read when so many ticks were left; while none was spent since, it stands as it
-- was read, but for the parts that were dropped.
use Rattle.std.specs.Prelude.{◌≡◌, ◌⊎◌, ℕ, zero, suc, ◌<◌, ◌≤◌, Bool, true, false, List, [], ◌∷◌, ◌++◌, Option, Some, None, slice_get, option_and_then}
use Rattle.std.specs.Option.{option_map_or}
use Rattle.mir_ty.specs.ItemTable.{ItemTable}
use Rattle.mir_ty.specs.Parts.{parts_of}
use Rattle.mir_ty.specs.declared.ty.TyId.{TyId}
use Rattle.store_model.specs.declared.address.Addr.{Addr}
use Rattle.store_model.specs.declared.address.At.{At}
use Rattle.store_model.specs.declared.address.At.TheVariants.{Part, Inside}
use Rattle.mir_base.specs.declared.trace.Event.{Event}
use Rattle.store_model.specs.Concrete.Drops.{Stage, Begins, HasRun, in_mode, drop_body_out, unwinding_out, gone_at, freed_at, drop_value, drop_parts, drop_at}
use Rattle.store_model.specs.Concrete.Location.{Setting, DynamicType, OfType, OfObject, Located, located_at, is_of_type, concrete_ty, adt_of_impl}
use Rattle.store_model.specs.Places.TypeForms.{is_adt}
use Rattle.store_model.specs.Concrete.State.{State, Answer, Bodies}
use Rattle.store_model.specs.Effects.{Mode, Out, Go}
use Rattle.store_model.specs.Values.Datum.{Datum, Data, Gone, Number, Truth, UnitValue, Aggregate, Address, no_part, a_part}
use Rattle.store_model.specs.Values.Parts.{count}

-- the parts from a number on
abbrev pub from_part : ℕ → Data → Data
from_part zero parts = parts
from_part (suc n) no_part = no_part
from_part (suc n) (a_part first rest) = from_part n rest

-- a container: its parts from a number on, of so many, are still to be dropped; or the content of a box was dropped,
-- and the box is to be freed
pub data Level : Type 0 where
  PartsOf : (dynamic : DynamicType) (variant next total ticks : ℕ) → Level
  ContentOf : (dynamic : DynamicType) → Level

-- the rest of a drop, in a mode
abbrev pub DropRest : Type 0
DropRest = Mode → State → Out State

abbrev pub AtEnd : DropRest → Type 0
AtEnd rest = (mode : Mode) (w : State) → rest mode w ≡ Go w

-- what is dropped next is behind the parts that are still to be dropped
abbrev pub IsBehind : Level → At → Type 0
IsBehind (PartsOf dynamic variant next total ticks) (Part n) = n < next
IsBehind (ContentOf dynamic) Inside = Unit {0}
IsBehind level step = ⊥

-- whether what was found as a type is still found as it
abbrev pub is_still : ItemTable → DynamicType → DynamicType → Bool
is_still items (OfType id) now = is_of_type items id now
is_still items (OfObject id impl_no) now =
    option_map_or (λ n. is_adt n (concrete_ty items now)) (adt_of_impl items impl_no) false

-- what is read again has to be of the type as which it was found
abbrev pub is_expected : ItemTable → Option DynamicType → DynamicType → Bool
is_expected items None now = true
is_expected items (Some dynamic) now = is_still items dynamic now

-- a part is read again where a tick was spent since its container was read
abbrev pub expected_if : Bool → DynamicType → Option DynamicType
expected_if true dynamic = None
expected_if false dynamic = Some dynamic

-- as what a part of a variant is found
abbrev pub found_of : Option TyId → Option DynamicType
found_of None = None
found_of (Some id) = Some (OfType id)

-- as what a part of a variant is found, by its number
abbrev pub type_of_number : ItemTable → DynamicType → ℕ → ℕ → Option DynamicType
type_of_number items dynamic variant n =
    found_of (option_and_then (λ ty. slice_get (parts_of items ty variant) n) (concrete_ty items dynamic))

-- what a drop puts aside at once
abbrev pub IsPlain : Datum → Type 0
IsPlain (Number number) = Unit {0}
IsPlain (Truth truth) = Unit {0}
IsPlain UnitValue = Unit {0}
IsPlain (Address address) = Unit {0}
IsPlain value = ⊥

-- the `Drop` body that is still to run
abbrev pub own_impl : Stage → Option (ℕ × ℕ) → Option (ℕ × ℕ)
own_impl Begins of = of
own_impl HasRun of = None

-- the serial number that the line of a `Drop` body tells
abbrev pub told_serial : Option ℕ → ℕ
told_serial None = 0
told_serial (Some serial) = serial

-- after a first panic the drop unwinds
abbrev pub finished : Bool → Out State → Out State
finished true out = unwinding_out out
finished false out = out

module _ (setting : Setting) (run : Bodies) (depth key : ℕ) where
  abbrev pub at_path : List At → Addr
  at_path path = record { depth = depth; key = (record { 0 = key }); path = path }

  abbrev pub found_as : List At → DynamicType → Datum → Located
  found_as path dynamic value = record { address = at_path path; dynamic = dynamic; value = value }

  -- an aggregate stands as it was read, but for parts before a number
  pub record StandsFrom (w : State) (path : List At) (dynamic : DynamicType) (variant next : ℕ) (parts : Data) :
      Type 0 where
    pub serial : Option ℕ
    pub now : Data
    pub there : located_at setting w (at_path path) ≡ Some (found_as path dynamic (Aggregate variant serial now))
    pub same : from_part next now ≡ from_part next parts

  -- the parts from a number on are dropped, then the whole is gone, and then comes the rest
  pub record PartsLeft (w : State) (path : List At) (dynamic : DynamicType) (variant next total ticks : ℕ)
      (rest : DropRest)
      (IsAfter : DropRest → Type 0) : Type 0 where
    pub fuel : ℕ
    pub enough : ticks ≤ fuel
    pub serial : Option ℕ
    pub parts : Data
    pub counted : count parts ≡ total
    pub stands : (w.ticks < ticks) ⊎ ((w.ticks ≡ ticks) × StandsFrom w path dynamic variant next parts)
    pub outer : DropRest
    pub after : IsAfter outer
    pub does : (mode : Mode) (v : State) → rest mode v
        ≡ in_mode mode
        (drop_parts setting run (drop_at setting run fuel) ticks (from_part next parts) next
        (found_as path dynamic (Aggregate variant serial parts)) mode v)
        (λ mode v. in_mode mode (gone_at setting run (found_as path dynamic Gone) v) outer)

  -- a box is freed, and then comes the rest
  pub record ContentLeft (path : List At) (dynamic : DynamicType) (rest : DropRest) (IsAfter : DropRest → Type 0) :
      Type 0 where
    pub outer : DropRest
    pub after : IsAfter outer
    pub does : (mode : Mode) (v : State) →
        rest mode v ≡ in_mode mode (freed_at setting run (found_as path dynamic Gone) v) outer

  -- what stands at a path is the part of a container to which its last step leads
  pub record PartOf (path : List At) (level : Level) (HasLeft : List At → Type 0) : Type 0 where
    pub above : List At
    pub step : At
    pub is : path ≡ above ++ step ∷ []
    pub behind : IsBehind level step
    pub left : HasLeft above

  -- the rest, after what stands at a path, where it is known what is left of the levels
  abbrev pub after_by : List Level → (List At → DropRest → Type 0) → List At → DropRest → Type 0
  after_by [] Left path rest = AtEnd rest
  after_by (level ∷ levels) Left path rest = PartOf path level (λ above. Left above rest)

  -- the rest, where the innermost container stands at a path
  abbrev pub HasLeft : List Level → State → List At → DropRest → Type 0
  HasLeft [] w path rest = AtEnd rest
  HasLeft (PartsOf dynamic variant next total ticks ∷ levels) w path rest =
      PartsLeft w path dynamic variant next total ticks rest (after_by levels (HasLeft levels w) path)
  HasLeft (ContentOf dynamic ∷ levels) w path rest =
      ContentLeft path dynamic rest (after_by levels (HasLeft levels w) path)

  -- the rest, after what stands at a path
  abbrev pub IsAfter : List Level → State → List At → DropRest → Type 0
  IsAfter levels w path rest = after_by levels (HasLeft levels w) path rest

  -- what stands at a path is dropped: as it was read, or it is read again and has to be of a type
  pub data Visits (w : State) (path : List At) (stage : Stage) (does : DropRest) : Option DynamicType → Type 0 where
    AsRead : (fuel : ℕ) (s : Located) (enough : w.ticks ≤ fuel) (there : located_at setting w (at_path path) ≡ Some s)
        (is : (mode : Mode) (v : State) → does mode v
        ≡ drop_value setting run (drop_at setting run fuel) w.ticks s.value stage s mode v) →
        Visits w path stage does None
    Again : (fuel : ℕ) (dynamic : DynamicType) (enough : w.ticks < fuel)
        (is : (mode : Mode) (v : State) → does mode v
        ≡ drop_at setting run fuel stage (found_as path dynamic Gone) mode v) →
        Visits w path stage does (Some dynamic)

  -- this, and then the rest
  pub record Then (panicked : Bool) (out : Out State) (this : DropRest → Out State) (IsRest : DropRest → Type 0) :
      Type 0 where
    pub rest : DropRest
    pub is_rest : IsRest rest
    pub is : out ≡ finished panicked (this rest)

  module _ (levels : List Level) (w : State) (path : List At) (mode : Mode) (panicked : Bool) (out : Out State) where
    -- what stands at the path was dropped
    abbrev pub LeavesLeft : Type 0
    LeavesLeft = Then panicked out (λ rest. rest mode w) (IsAfter levels w path)

    -- the innermost container stands at the path
    abbrev pub GoesLeft : Type 0
    GoesLeft = Then panicked out (λ rest. rest mode w) (HasLeft levels w path)

    -- what stands at the path is gone then
    abbrev pub ClearsLeft : DynamicType → Type 0
    ClearsLeft dynamic =
        Then panicked out (λ rest. in_mode mode (gone_at setting run (found_as path dynamic Gone) w) rest)
        (IsAfter levels w path)

    -- the box that stands at the path is freed
    abbrev pub FreesLeft : DynamicType → Type 0
    FreesLeft dynamic =
        Then panicked out (λ rest. in_mode mode (freed_at setting run (found_as path dynamic Gone) w) rest)
        (IsAfter levels w path)

    -- what stands at the path is dropped
    pub record VisitsLeft (stage : Stage) (expected : Option DynamicType) : Type 0 where
      pub does : DropRest
      pub visits : Visits w path stage does expected
      pub left : Then panicked out (λ rest. in_mode mode (does mode w) rest) (IsAfter levels w path)

    -- the value that was read at the path is dropped
    pub record ReadLeft (stage : Stage) (s : Located) : Type 0 where
      pub fuel : ℕ
      pub enough : w.ticks ≤ fuel
      pub left : Then panicked out
          (λ rest. in_mode mode (drop_value setting run (drop_at setting run fuel) w.ticks s.value stage s mode w) rest)
          (IsAfter levels w path)

  -- after the `Drop` body of what stands at a path has ended so, what stands there then is dropped
  pub record AwaitsLeft (levels : List Level) (w : State) (path : List At) (mode : Mode) (panicked : Bool)
      (outs : Answer → Out State) (dynamic : DynamicType) : Type 0 where
    pub fuel : ℕ
    pub enough : w.ticks ≤ fuel
    pub rest : DropRest
    pub after : IsAfter levels w path rest
    pub is : (answer : Answer) → outs answer
        ≡ finished panicked
        (in_mode mode (drop_body_out mode answer)
        (λ mode v. in_mode mode (drop_at setting run fuel HasRun (found_as path dynamic Gone) mode v) rest))

  -- the `Drop` body of what stands at a path is entered
  pub record EntersLeft (levels : List Level) (w : State) (path : List At) (mode : Mode) (panicked : Bool)
      (out : Out State) (adt serial body : ℕ) (dynamic : DynamicType) : Type 0 where
    pub outs : Answer → Out State
    pub awaits : AwaitsLeft levels w path mode panicked outs dynamic
    pub is : out ≡ outs (run (Event.Dropped adt serial) body (Address (at_path path) ∷ []) w)

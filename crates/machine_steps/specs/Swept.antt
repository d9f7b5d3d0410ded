-- A value in which no `Drop` body is to run, its own run or not: its drop frees the boxes in it, each after its
-- content; then it is gone.
use Rattle.std.specs.Prelude.{◌≡◌, ℕ, suc, Bool, true, false, List, [], ◌∷◌, ◌++◌, map, Option, Some, None}
use Rattle.machine_steps.specs.declared.sweep.Pass.{Pass}
use Rattle.machine_steps.specs.declared.sweep.Sweeps.{Sweeps}
use Rattle.machine_steps.specs.Continuation.{is_still, own_impl, type_of_number}
use Rattle.mir_base.specs.declared.trace.Event.{Event}
use Rattle.machine_store.specs.Standing.{dynamic_of}
use Rattle.mir_ty.specs.ItemTable.{ItemTable}
use Rattle.store_model.specs.declared.address.At.TheVariants.{Inside}
use Rattle.store_model.specs.Concrete.Drops.{Stage, Begins, drop_impl}
use Rattle.store_model.specs.Concrete.Location.{DynamicType}
use Rattle.store_model.specs.Concrete.Location.{concrete_ty, type_of_part}
use Rattle.store_model.specs.Concrete.State.{State}
use Rattle.store_model.specs.Values.Datum.{Datum, Data, Gone, Number, Truth, UnitValue, Aggregate, Box, Address}
use Rattle.store_model.specs.Values.Datum.{no_part, a_part, data_from, datum_of}

-- the boxes in a value are freed in this order
abbrev mutual
  pub freed : Datum → List Event
  freed Gone = []
  freed (Number number) = []
  freed (Truth truth) = []
  freed UnitValue = []
  freed (Aggregate variant serial parts) = freed_parts parts
  freed (Box serial impl_no inside) = freed inside ++ Event.Freed serial ∷ []
  freed (Address address) = []

  pub freed_parts : Data → List Event
  freed_parts no_part = []
  freed_parts (a_part first rest) = freed first ++ freed_parts rest

-- there is a type, and this holds of it
abbrev pub HasType : Option DynamicType → (DynamicType → Type 0) → Type 0
HasType None Holds = ⊥
HasType (Some dynamic) Holds = Holds dynamic

module _ (items : ItemTable) where
  abbrev pub IsFoundAgain : DynamicType → Type 0
  IsFoundAgain dynamic = is_still items dynamic dynamic ≡ true

  abbrev mutual
    -- a value that is found so: its parts have types, no `Drop` body is to run in them, and its own is not to run or
    -- has run
    pub IsSwept : Stage → Datum → DynamicType → Type 0
    IsSwept stage Gone dynamic = IsFoundAgain dynamic
    IsSwept stage (Number number) dynamic = IsFoundAgain dynamic
    IsSwept stage (Truth truth) dynamic = IsFoundAgain dynamic
    IsSwept stage UnitValue dynamic = IsFoundAgain dynamic
    IsSwept stage (Aggregate variant serial parts) dynamic =
        IsFoundAgain dynamic × (own_impl stage (drop_impl items (concrete_ty items dynamic)) ≡ None)
        × ArePartsSwept parts dynamic variant 0
    IsSwept stage (Box serial impl_no inside) dynamic =
        IsFoundAgain dynamic
        × HasType (type_of_part items Inside (Box serial impl_no inside) dynamic) (IsSwept Begins inside)
    IsSwept stage (Address address) dynamic = IsFoundAgain dynamic

    -- parts of what is found so, the first of which has this number
    pub ArePartsSwept : Data → DynamicType → (variant next : ℕ) → Type 0
    ArePartsSwept no_part dynamic variant next = Unit {0}
    ArePartsSwept (a_part first rest) dynamic variant next =
        HasType (type_of_number items dynamic variant next) (IsSwept Begins first)
        × ArePartsSwept rest dynamic variant (suc next)

-- a value of parts, or a box
abbrev pub holds_parts : Datum → Bool
holds_parts (Aggregate variant serial parts) = true
holds_parts (Box serial impl_no inside) = true
holds_parts value = false

-- parts of what is found so, the first of which has this number, are swept, and nothing in them is freed
abbrev pub GoneOver : ItemTable → Data → DynamicType → (variant next : ℕ) → Type 0
GoneOver items parts dynamic variant next =
    ArePartsSwept items parts dynamic variant next × (freed_parts parts ≡ [])

abbrev pub is_there : Datum → Bool
is_there Gone = false
is_there value = true

abbrev pub with_events : List Event → State → State
with_events events w = record w { trace = w.trace ++ events }

-- what stands at an address, found so, is swept
pub record Sweeping (items : ItemTable) (stage : Stage) (value : Datum) (dynamic : DynamicType) (old new : List Event) :
    Type 0 where
  pub swept : IsSwept items stage value dynamic
  pub stands : is_there value ≡ true
  pub told : new ≡ old ++ freed value

-- so it is where it was gone over
abbrev pub SweptSo : Pass → Type 0 → Type 0
SweptSo Pass.Over Holds = Holds
SweptSo (Pass.Ends late) Holds = Unit {0}

-- What is still to be gone over: the last comes first.

abbrev pub IsSweptBy : ItemTable → Sweeps → Type 0
IsSweptBy items (Sweeps.Whole value dynamic) = IsSwept items Begins (datum_of value.now) (dynamic_of dynamic)
IsSweptBy items (Sweeps.Rest parts next variant dynamic) =
    ArePartsSwept items (data_from (map datum_of parts.now)) (dynamic_of dynamic) variant next
IsSweptBy items (Sweeps.Boxed serial) = Unit {0}

abbrev pub AreSwept : ItemTable → List Sweeps → Type 0
AreSwept items [] = Unit {0}
AreSwept items (first ∷ others) = IsSweptBy items first × AreSwept items others

abbrev pub freed_by : Sweeps → List Event
freed_by (Sweeps.Whole value dynamic) = freed (datum_of value.now)
freed_by (Sweeps.Rest parts next variant dynamic) = freed_parts (data_from (map datum_of parts.now))
freed_by (Sweeps.Boxed serial) = Event.Freed serial ∷ []

abbrev pub freed_before : List Sweeps → List Event → List Event
freed_before [] after = after
freed_before (first ∷ others) after = freed_before others (freed_by first ++ after)

-- something of which this is to hold, and which frees these, was put before what was to be gone over
pub record PutsBefore (items : ItemTable) (old : List Sweeps) (Holds : Type 0) (events : List Event)
    (new : List Sweeps) : Type 0 where
  pub swept : AreSwept items new → Holds × AreSwept items old
  pub freed : (after : List Event) → freed_before new after ≡ events ++ freed_before old after

-- one thing was gone over
pub record GoesOver (items : ItemTable) (told : List Event) (old : List Sweeps) (one : Sweeps)
    (telling : List Event) (new : List Sweeps) : Type 0 where
  pub swept : AreSwept items new → IsSweptBy items one × AreSwept items old
  pub freed : (after : List Event) →
      telling ++ freed_before new after ≡ told ++ (freed_by one ++ freed_before old after)

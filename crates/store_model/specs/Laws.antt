-- The laws of places, of whole values, of serial numbers and of effects, which later proofs stand on.
use Rattle.std.specs.Prelude.{◌≡◌, ◌↔◌, ◌⊎◌, ℕ, List, [], ◌∷◌, ◌++◌, Option, Some, None, IsSome, IsTrue, Contains}
use Rattle.std.specs.Option.{option_and_then, option_map_or}
use Rattle.std.specs.List.{flat_map}
use Rattle.std.specs.List.Sorted.{IsPermutation}
use Rattle.store_model.specs.declared.address.At.{At}
use Rattle.mir_ty.specs.declared.ty.TyId.{TyId}
use Rattle.mir_ty.specs.ItemTable.{ItemTable}
use Rattle.store_model.specs.Concrete.Effects as values
use Rattle.store_model.specs.Values.Datum.{Datum, Gone}
use Rattle.store_model.specs.Values.Parts.{steps_to_parts}
use Rattle.store_model.specs.Effects.{StoresNoNever}
use Rattle.store_model.specs.Abstract.Effects as free
use Rattle.store_model.specs.Values.Access.{part, value_at, replaced, IsCutOff, AreApart}
use Rattle.store_model.specs.Concrete.Location.{Setting}
use Rattle.store_model.specs.Values.Wholeness.{IsWhole, is_whole, IsNumbered, serials, serial_before_parts, serial_after_parts}
use Rattle.store_model.specs.Concrete.State.{Bodies}

-- a path may be walked in two pieces
abbrev pub StandsAlong : Type 0
StandsAlong =
    (above below : List At) (root : Datum) →
    value_at (above ++ below) root ≡ option_and_then (value_at below) (value_at above root)

-- nothing stands at a path exactly where a container on it is gone or has no such part
abbrev pub StandsUnlessCutOff : Type 0
StandsUnlessCutOff = (path : List At) (root : Datum) → (value_at path root ≡ None) ↔ IsCutOff path root

-- of two paths one goes on from the end of the other, or they are apart
abbrev pub PathsCompare : Type 0
PathsCompare = (one other : List At) →
    ((below : List At) × (other ≡ one ++ below)) ⊎ (((below : List At) × (one ≡ other ++ below)) ⊎ AreApart one other)

-- what is put where there is no place changes nothing
abbrev pub KeepsWithoutPlace : Type 0
KeepsWithoutPlace = (path : List At) (new root : Datum) → value_at path root ≡ None → replaced path new root ≡ root

-- what was put stands at its place
abbrev pub StandsAtPlace : Type 0
StandsAtPlace =
    (path : List At) (new root old : Datum) → value_at path root ≡ Some old →
    value_at path (replaced path new root) ≡ Some new

-- below the place stand the parts of what was put
abbrev pub StandsBelow : Type 0
StandsBelow = (path below : List At) (new root old : Datum) → value_at path root ≡ Some old →
    value_at (path ++ below) (replaced path new root) ≡ value_at below new

-- above the place stand the containers with what was put in them
abbrev pub StandsAbove : Type 0
StandsAbove = (path below : List At) (new root old : Datum) → value_at path root ≡ Some old →
    value_at path (replaced (path ++ below) new root) ≡ Some (replaced below new old)

-- apart from the place everything stands as before
abbrev pub StandsApart : Type 0
StandsApart =
    (path other : List At) (new root : Datum) → AreApart path other →
    value_at other (replaced path new root) ≡ value_at other root

-- below a place that is gone nothing stands
abbrev pub NothingBelowGone : Type 0
NothingBelowGone =
    (path below : List At) (step : At) (root : Datum) → value_at path root ≡ Some Gone →
    value_at (path ++ step ∷ below) root ≡ None

-- of two values put in one place the later stays
abbrev pub LaterStays : Type 0
LaterStays =
    (path : List At) (new later root : Datum) →
    replaced path later (replaced path new root) ≡ replaced path later root

-- what is put in a container does away with what was put in a part of it
abbrev pub ContainerStays : Type 0
ContainerStays =
    (path below : List At) (new later root : Datum) →
    replaced path later (replaced (path ++ below) new root) ≡ replaced path later root

-- what stands in a place, put there again, changes nothing
abbrev pub KeepsWhatStood : Type 0
KeepsWhatStood = (path : List At) (root old : Datum) → value_at path root ≡ Some old → replaced path old root ≡ root

-- what was taken or replaced, put back, gives the value as it was
abbrev pub GivesBack : Type 0
GivesBack =
    (path : List At) (new root old : Datum) → value_at path root ≡ Some old →
    replaced path old (replaced path new root) ≡ root

-- to put a value below a place is to change what stands there
abbrev pub ChangesWithin : Type 0
ChangesWithin = (path below : List At) (new root old : Datum) → value_at path root ≡ Some old →
    replaced (path ++ below) new root ≡ replaced path (replaced below new old) root

-- at places that are apart the order does not matter
abbrev pub ChangesApart : Type 0
ChangesApart = (path other : List At) (new another root : Datum) → AreApart path other →
    replaced path new (replaced other another root) ≡ replaced other another (replaced path new root)

-- a value is whole exactly where no place of it is gone
abbrev pub WholeWithoutGone : Type 0
WholeWithoutGone = (root : Datum) → IsWhole root ↔ ((path : List At) → value_at path root ≡ Some Gone → ⊥)

-- the test of wholeness holds exactly of whole values
abbrev pub WholeByTest : Type 0
WholeByTest = (root : Datum) → IsTrue (is_whole root) ↔ IsWhole root

-- what stands in a whole value is whole
abbrev pub WholeBelow : Type 0
WholeBelow = (path : List At) (root inner : Datum) → IsWhole root → value_at path root ≡ Some inner → IsWhole inner

-- a whole value with a whole value put into it is whole
abbrev pub WholeWithWhole : Type 0
WholeWithWhole = (path : List At) (new root : Datum) → IsWhole root → IsWhole new → IsWhole (replaced path new root)

-- a value from which something was taken is not whole
abbrev pub NotWholeWhereTaken : Type 0
NotWholeWhereTaken =
    (path : List At) (root old : Datum) → value_at path root ≡ Some old → IsWhole (replaced path Gone root) → ⊥

-- a place keeps its part of the serial numbers in dropping order, whatever is put there
abbrev pub SerialsSplit : Type 0
SerialsSplit = (path : List At) (root old : Datum) → value_at path root ≡ Some old →
    (before : List ℕ) × (after : List ℕ) × (serials root ≡ before ++ serials old ++ after) ×
    ((new : Datum) → serials (replaced path new root) ≡ before ++ serials new ++ after)

-- a value that is put in the place of another brings its serial numbers and takes away the other's
abbrev pub SerialsExchange : Type 0
SerialsExchange = (path : List At) (new root old : Datum) → value_at path root ≡ Some old →
    IsPermutation (serials new ++ serials root) (serials old ++ serials (replaced path new root))

-- a value that is taken takes away its serial numbers
abbrev pub SerialsTaken : Type 0
SerialsTaken = (path : List At) (root old : Datum) → value_at path root ≡ Some old →
    IsPermutation (serials root) (serials old ++ serials (replaced path Gone root))

-- a value is numbered exactly where it has a serial number of its own, and it has no more than one
abbrev pub NumberedBySerial : Type 0
NumberedBySerial =
    (root : Datum) → IsNumbered root ↔
    ((serial : ℕ) × (serial_before_parts root ++ serial_after_parts root ≡ serial ∷ []))

-- the serial numbers of a value are its own with those of its parts, along the steps in dropping order
abbrev pub SerialsAlongSteps : Type 0
SerialsAlongSteps = (root : Datum) →
    serials root
    ≡ serial_before_parts root
    ++ flat_map (λ step. option_map_or serials (part step root) []) (steps_to_parts root)
    ++ serial_after_parts root

-- the steps in dropping order are those that lead to a part
abbrev pub StepsLead : Type 0
StepsLead = (root : Datum) (step : At) → Contains (steps_to_parts root) step ↔ IsSome (part step root)

-- no run goes on past a store into a place of the type `!`, nor does a free run
abbrev pub RunsStoreNoNever : Type 0
RunsStoreNoNever = (setting : Setting) (run : Bodies) (fuel : ℕ) →
    StoresNoNever (values.never_at setting) (values.concrete_effects setting run fuel)

abbrev pub FreeRunsStoreNoNever : Type 0
FreeRunsStoreNoNever = (table : ItemTable) (local_ty : ℕ → Option TyId) →
    StoresNoNever (λ w. free.never_at table local_ty) (free.abstract_effects table local_ty)

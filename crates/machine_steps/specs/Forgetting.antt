-- What forgetting a value tells, by a list of what is still to be gone over: the last comes first.
use Rattle.std.specs.Prelude.{ℕ, List, [], ◌∷◌, ◌++◌, map, Option, Some, None}
use Rattle.mir_base.specs.declared.trace.Event.{Event}
use Rattle.machine_steps.specs.declared.forget.Forgets.{Forgets}
use Rattle.machine_store.specs.Standing.{dynamic_of}
use Rattle.mir_ty.specs.ItemTable.{ItemTable}
use Rattle.store_model.specs.Concrete.Effects.{forgotten, forgotten_parts}
use Rattle.store_model.specs.Concrete.Location.{DynamicType, type_of_part}
use Rattle.store_model.specs.declared.address.At.TheVariants.{Part}
use Rattle.store_model.specs.Values.Datum.{Aggregate, no_part, data_from, datum_of}
use Rattle.store_model.specs.declared.value.Value.{Value}

-- as what the parts of a variant are found
abbrev pub parts_found : ItemTable → ℕ → DynamicType → ℕ → Option DynamicType
parts_found items variant dynamic n = type_of_part items (Part n) (Aggregate variant None no_part) dynamic

-- what is told of parts from a number on
abbrev pub parts_lines : ItemTable → List Value → ℕ → ℕ → DynamicType → List Event
parts_lines items parts next variant dynamic =
    forgotten_parts items (data_from (map datum_of parts)) (parts_found items variant dynamic) next

-- what is told of a numbered value of a struct or enum with a `Drop` impl
abbrev pub made_lines : Option ℕ → Option (ℕ × ℕ) → List Event
made_lines (Some serial) (Some of) = Event.ForgotMade of.0 serial ∷ []
made_lines serial of = []

-- what is told of one thing that is to be gone over
abbrev pub lines_of : ItemTable → Forgets → List Event
lines_of items (Forgets.Whole value dynamic) = forgotten items (datum_of value.now) (dynamic_of dynamic)
lines_of items (Forgets.Rest parts next variant dynamic) =
    parts_lines items parts.now next variant (dynamic_of dynamic)
lines_of items (Forgets.Boxed serial) = Event.ForgotBox serial ∷ []

-- what is told of all of them, before what comes after
abbrev pub lines_before : ItemTable → List Forgets → List Event → List Event
lines_before items [] after = after
lines_before items (first ∷ others) after = lines_before items others (lines_of items first ++ after)

-- Boxes, and what is found of operands, as the machine sees them.
use Rattle.std.specs.Prelude.{ℕ, Bool, true, false, List, [], ◌∷◌, ◌++◌, Option, Some, None, option_map}
use Rattle.cfg_graph.specs.declared.place.Operand.{Operand}
use Rattle.cfg_graph.specs.declared.place.Place.{Place}
use Rattle.cfg_meaning.specs.Actions.{site_of}
use Rattle.mir_base.specs.declared.trace.Event.{Event}
use Rattle.store_model.specs.Concrete.Effects.{whole_at}
use Rattle.store_model.specs.Concrete.Location.{Setting, DynamicType}
use Rattle.store_model.specs.Concrete.State.{State}
use Rattle.store_model.specs.Values.Datum.{Datum, Box}
use Rattle.store_model.specs.Values.Wholeness.{serials}

-- a box with the row of an impl
abbrev pub with_row : ℕ → Datum → Option Datum
with_row impl_no (Box serial other inside) = Some (Box serial (Some impl_no) inside)
with_row impl_no value = None

abbrev pub is_none_of : List ℕ → Bool
is_none_of [] = true
is_none_of (serial ∷ rest) = false

-- no serial number stands in a value
abbrev pub is_numberless : Datum → Bool
is_numberless value = is_none_of (serials value)

abbrev pub serial_if : Bool → ℕ → Option ℕ
serial_if true serial = Some serial
serial_if false serial = None

-- the serial number of a box that may be freed
abbrev pub freed_serial : Datum → Option ℕ
freed_serial (Box serial impl_no inside) = serial_if (is_numberless inside) serial
freed_serial value = None

-- as what the whole value of a place is found
abbrev pub place_found : Setting → State → Place → Option DynamicType
place_found setting w place = option_map (λ s. s.dynamic) (whole_at setting w (site_of 0 place))

abbrev pub operand_found : Setting → State → Operand → Option DynamicType
operand_found setting w (Operand.Copied place) = place_found setting w place
operand_found setting w (Operand.Moved place) = place_found setting w place
operand_found setting w operand = None

-- these events were told
abbrev pub with_lines : List Event → State → State
with_lines events w = record w { trace = w.trace ++ events }

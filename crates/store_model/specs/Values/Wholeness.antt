-- Which values are whole, and which have serial numbers.
use Rattle.std.specs.Prelude.{ℕ, Bool, true, false, ◌&&◌, List, [], ◌∷◌, ◌++◌, IsSome}
use Rattle.std.specs.Option.{option_to_list}
use Rattle.store_model.specs.Values.Datum.{Datum, Data, Gone, Number, Truth, UnitValue, Aggregate, Box, Address, no_part, a_part}

-- nothing at or below the value is gone
abbrev mutual
  pub IsWhole : Datum → Type 0
  IsWhole Gone = ⊥
  IsWhole (Number number) = Unit {0}
  IsWhole (Truth truth) = Unit {0}
  IsWhole UnitValue = Unit {0}
  IsWhole (Aggregate variant serial parts) = AreWhole parts
  IsWhole (Box serial impl_no inside) = IsWhole inside
  IsWhole (Address address) = Unit {0}

  pub AreWhole : Data → Type 0
  AreWhole no_part = Unit {0}
  AreWhole (a_part first rest) = IsWhole first × AreWhole rest

-- the same as a test
abbrev mutual
  pub is_whole : Datum → Bool
  is_whole Gone = false
  is_whole (Aggregate variant serial parts) = are_whole parts
  is_whole (Box serial impl_no inside) = is_whole inside
  is_whole datum = true

  pub are_whole : Data → Bool
  are_whole no_part = true
  are_whole (a_part first rest) = is_whole first && are_whole rest

-- the serial number of an aggregate of a type with a `Drop` impl, whose body runs before its parts are dropped
abbrev pub serial_before_parts : Datum → List ℕ
serial_before_parts (Aggregate variant serial parts) = option_to_list serial
serial_before_parts datum = []

-- the serial number of a box, which is freed after its content is dropped
abbrev pub serial_after_parts : Datum → List ℕ
serial_after_parts (Box serial impl_no inside) = serial ∷ []
serial_after_parts datum = []

-- a value with a serial number of its own is numbered
abbrev pub IsNumbered : Datum → Type 0
IsNumbered (Aggregate variant serial parts) = IsSome serial
IsNumbered (Box serial impl_no inside) = Unit {0}
IsNumbered datum = ⊥

-- the serial numbers at and below a value, in the order of their drops
abbrev mutual
  pub serials : Datum → List ℕ
  serials (Aggregate variant serial parts) = option_to_list serial ++ serials_of_all parts
  serials (Box serial impl_no inside) = serials inside ++ serial ∷ []
  serials datum = []

  pub serials_of_all : Data → List ℕ
  serials_of_all no_part = []
  serials_of_all (a_part first rest) = serials first ++ serials_of_all rest

-- What stands at the paths of values, and what a value is with another one at a path.
use Rattle.std.proofs.Common.{◌≡◌, ℕ, true, false, List, [], ◌∷◌, map, Option, Some, None, refl, pos, negsuc}
use Rattle.store_model.specs.declared.address.At.{At}
use Rattle.store_model.specs.declared.address.At.TheVariants.{Part, Inside}
use Rattle.store_model.specs.Values.Access.{value_at, replaced}
use Rattle.store_model.specs.Values.Datum.{Datum, Gone, Number, Truth, UnitValue, Aggregate, Box, Address, data_from}
use Rattle.store_model.specs.Values.Parts.{steps_to_parts}

-- ---- values

abbrev n : ℕ → Datum
n number = Number (pos number)

abbrev an_address : Datum
an_address = Address (record { depth = 1; key = record { 0 = 2 }; path = Part 0 ∷ Inside ∷ [] })

-- a struct whose second part was moved out and whose third is a box
abbrev partly_moved : Datum
partly_moved = Aggregate 0 (Some 1) (data_from (n 7 ∷ Gone ∷ Box 2 None (n 9) ∷ []))

abbrev emptied_box : Datum
emptied_box = Box 4 None Gone

-- a box with a value of variant 2 in it
abbrev nested : Datum
nested = Box 6 None (Aggregate 2 (Some 7) (data_from (n 1 ∷ Truth false ∷ [])))

abbrev no_parts : Datum
no_parts = Aggregate 0 None (data_from [])

-- ---- what stands at each path

abbrev at_each : List (List At) → Datum → List (Option Datum)
at_each paths root = map (λ path. value_at path root) paths

-- what has no parts is cut off at the first step
abbrev short : List (List At)
short = [] ∷ (Part 0 ∷ []) ∷ (Inside ∷ []) ∷ []

gone_at : at_each short Gone ≡ Some Gone ∷ None ∷ None ∷ []
gone_at = refl

number_at : at_each short (Number (negsuc 2)) ≡ Some (Number (negsuc 2)) ∷ None ∷ None ∷ []
number_at = refl

truth_at : at_each short (Truth true) ≡ Some (Truth true) ∷ None ∷ None ∷ []
truth_at = refl

unit_at : at_each short UnitValue ≡ Some UnitValue ∷ None ∷ None ∷ []
unit_at = refl

-- an address is no way into the value to which it leads
address_at : at_each short an_address ≡ Some an_address ∷ None ∷ None ∷ []
address_at = refl

no_parts_at : at_each short no_parts ≡ Some no_parts ∷ None ∷ None ∷ []
no_parts_at = refl

emptied_box_at : at_each ((Inside ∷ []) ∷ (Inside ∷ Inside ∷ []) ∷ (Inside ∷ Part 0 ∷ []) ∷ []) emptied_box
    ≡ Some Gone ∷ None ∷ None ∷ []
emptied_box_at = refl

partly_moved_at : at_each ((Part 0 ∷ []) ∷ (Part 1 ∷ []) ∷ (Part 1 ∷ Part 0 ∷ []) ∷ (Part 1 ∷ Inside ∷ []) ∷
    (Part 2 ∷ Inside ∷ []) ∷ (Part 2 ∷ Part 0 ∷ []) ∷ (Part 3 ∷ []) ∷ (Inside ∷ []) ∷ []) partly_moved
    ≡ Some (n 7) ∷ Some Gone ∷ None ∷ None ∷ Some (n 9) ∷ None ∷ None ∷ None ∷ []
partly_moved_at = refl

nested_at : at_each ((Inside ∷ Part 0 ∷ []) ∷ (Inside ∷ Part 1 ∷ []) ∷ (Inside ∷ Part 2 ∷ []) ∷ []) nested
    ≡ Some (n 1) ∷ Some (Truth false) ∷ None ∷ []
nested_at = refl

-- ---- with another value

abbrev with_77 : List At → Datum
with_77 path = replaced path (n 77) partly_moved

first_replaced : with_77 (Part 0 ∷ []) ≡ Aggregate 0 (Some 1) (data_from (n 77 ∷ Gone ∷ Box 2 None (n 9) ∷ []))
first_replaced = refl

gone_replaced : with_77 (Part 1 ∷ []) ≡ Aggregate 0 (Some 1) (data_from (n 7 ∷ n 77 ∷ Box 2 None (n 9) ∷ []))
gone_replaced = refl

inside_replaced :
    with_77 (Part 2 ∷ Inside ∷ []) ≡ Aggregate 0 (Some 1) (data_from (n 7 ∷ Gone ∷ Box 2 None (n 77) ∷ []))
inside_replaced = refl

-- where no place is, nothing changes
none_replaced : with_77 (Part 3 ∷ []) ≡ partly_moved
none_replaced = refl

none_replaced_in_gone : with_77 (Part 1 ∷ Inside ∷ []) ≡ partly_moved
none_replaced_in_gone = refl

whole_replaced : with_77 [] ≡ n 77
whole_replaced = refl

-- ---- parts from the first to the last

parts_of_each : map steps_to_parts (partly_moved ∷ nested ∷ emptied_box ∷ no_parts ∷ Gone ∷ n 1 ∷ an_address ∷ [])
    ≡ (Part 0 ∷ Part 1 ∷ Part 2 ∷ []) ∷ (Inside ∷ []) ∷ (Inside ∷ []) ∷ [] ∷ [] ∷ [] ∷ [] ∷ []
parts_of_each = refl

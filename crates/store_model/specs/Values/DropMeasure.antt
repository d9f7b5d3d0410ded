-- How many values are left to be dropped, by which the loop that drops them is seen to end.
use Rattle.std.specs.Prelude.{◌≡◌, ℕ, suc, ◌+◌, ◌<◌, ◌⊎◌, List, Option, Some, None, map}
use Rattle.store_model.specs.declared.value.Value.{Value}
use Rattle.store_model.specs.Values.Datum.{Datum, Data, Aggregate, Box, no_part, a_part, data_from, datum_of}

-- the number of values at and below a value, and at and below the parts of one
abbrev mutual
  pub node_count : Datum → ℕ
  node_count (Aggregate variant serial parts) = suc (node_count_of_all parts)
  node_count (Box serial impl_no inside) = suc (node_count inside)
  node_count datum = 1

  pub node_count_of_all : Data → ℕ
  node_count_of_all no_part = 0
  node_count_of_all (a_part first rest) = node_count first + node_count_of_all rest

-- the number of values at and below those of a list
abbrev pub count_in : List Value → ℕ
count_in values = node_count_of_all (data_from (map datum_of values))

-- a list that waits counts as a value with these parts
abbrev pub count_waiting : Option (List Value) → ℕ
count_waiting None = 0
count_waiting (Some values) = suc (count_in values)

-- the number of values at and below the next one and those that wait
abbrev pub count_left : Value × Option (List Value) → ℕ
count_left rest = node_count (datum_of rest.0) + count_waiting rest.1

-- fewer values are left than before, or as many, and the next one has fewer at and below it
abbrev pub IsNearerEnd : ℕ → Option (List Value) → Value × Option (List Value) → Type 0
IsNearerEnd count waiting rest =
    (count_left rest < count + count_waiting waiting) ⊎
    ((count_left rest ≡ count + count_waiting waiting) × (node_count (datum_of rest.0) < count))

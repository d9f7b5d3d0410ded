-- In which order the parts of a value are dropped.
use Rattle.std.specs.Prelude.{ℕ, suc, List, [], ◌∷◌, map}
use Rattle.std.specs.List.{range_with_len}
use Rattle.store_model.specs.declared.address.At.{At}
use Rattle.store_model.specs.declared.address.At.TheVariants.{Part, Inside}
use Rattle.store_model.specs.Values.Datum.{Datum, Data, Aggregate, Box, no_part, a_part}

-- how many parts there are
abbrev pub count : Data → ℕ
count no_part = 0
count (a_part first rest) = suc (count rest)

-- the steps to the parts of a value, in the order in which they are dropped: first to last
abbrev pub steps_to_parts : Datum → List At
steps_to_parts (Aggregate variant serial parts) = map Part (range_with_len 0 (count parts))
steps_to_parts (Box serial impl_no inside) = Inside ∷ []
steps_to_parts datum = []

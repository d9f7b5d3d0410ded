-- The numbers of locals by keys: a row of those near the first key, and a table of the others.
use Rattle.std.specs.Prelude.{ℕ, zero, suc, List, Option, Some, None, nat_eq, nat_lt, slice_get, ◌-◌, if◌then◌else◌}
use Rattle.std.specs.HashMap.{get}
use Rattle.lower_locals.specs.declared.places.NumbersByKey.{NumbersByKey}

-- what stands in the row under a key, if the key is of the row
abbrev pub near_at : (first : ℕ) → List ℕ → (key : ℕ) → Option ℕ
near_at first row key = if nat_lt key first then None else slice_get row (key - first)

-- the row has 0 for a key without a number, and one more than the number of another
abbrev pub of_row : ℕ → Option ℕ
of_row zero = None
of_row (suc number) = Some number

abbrev pub either : (near far : Option ℕ) → Option ℕ
either (Some stored) far = of_row stored
either None far = far

-- the number of a key, if it has one
abbrev pub found : NumbersByKey → (key : ℕ) → Option ℕ
found places key = either (near_at places.first places.near key) (get nat_eq places.far key)

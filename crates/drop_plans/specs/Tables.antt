-- Flags of paths, by the numbers of these.
use Rattle.std.specs.Prelude.{◌≡◌, ◌⊎◌, ℕ, ◌+◌, List, Option, Some, None, Contains, length, slice_get, slice_index_or, slice_set}
use Rattle.store_model.specs.Places.Place.{Place}

-- flags are numbers from a first one on, in the order of the paths that have one
pub record AreTable (paths flagged : List Place) (first : ℕ) (table : List (Option ℕ)) : Type 0 where
  pub long : length table ≡ length paths
  pub flag : (number k : ℕ) (path : Place) → slice_get paths number ≡ Some path → slice_get flagged k ≡ Some path →
      slice_index_or table number None ≡ Some (first + k)
  pub none : (number : ℕ) (path : Place) → slice_get paths number ≡ Some path → ¬ Contains flagged path →
      slice_index_or table number None ≡ None

-- what the code goes on with; no public contract speaks of it
-- the flag of a place, if it is a path
abbrev pub IsMarked : (paths : List Place) → Place → (flag : ℕ) → (old new : List (Option ℕ)) → Type 0
IsMarked paths place flag old new =
    ((number : ℕ) × (slice_get paths number ≡ Some place) × (new ≡ slice_set old number (Some flag)))
    ⊎ ((¬ Contains paths place) × (new ≡ old))

-- How masks are marked, one path after another; no public contract speaks of it.
use Rattle.std.specs.Prelude.{◌≡◌, ℕ, suc, ◌<◌, ◌==◌, Bool, true, false, ◌||◌, ◌&&◌, List, [], ◌∷◌, length, replicate, Option, Some, None, slice_index_or, slice_set}
use Rattle.store_model.specs.Places.Place.{Place, whole_local}
use Rattle.cfg_graph.specs.Moves.Gone.{is_at_or_above}
use Rattle.init_flow.specs.Carried.{Bits}

-- whether a path is marked in the mask of another
abbrev pub cell : List Bits → (of path : ℕ) → Bool
cell masks of path = slice_index_or (slice_index_or masks of []) path false

abbrev pub place_at : List Place → ℕ → Place
place_at paths n = slice_index_or paths n (whole_local 0)

-- as many rows as each has bits
abbrev pub IsSquare : List Bits → Type 0
IsSquare masks = (n : ℕ) → n < length masks → length (slice_index_or masks n []) ≡ length masks

abbrev pub marked : List Bits → (of path : ℕ) → List Bits
marked masks of path = slice_set masks of (slice_set (slice_index_or masks of []) path true)

-- a path is marked in the masks of all paths at or above it, and nothing else changed
pub record IsMarked (paths : List Place) (old new : List Bits) (path : ℕ) : Type 0 where
  pub long : length new ≡ length old
  pub square : IsSquare new
  pub cells :
      (n k : ℕ) → n < length paths →
      cell new n k ≡ (cell old n k || ((k == path) && is_at_or_above (place_at paths n) (place_at paths path)))

-- so many bits, of which one is on
abbrev pub single : (bits n : ℕ) → Bits
single bits n = slice_set (replicate bits false) n true

-- the mask of the path with a number: its row, and without one that path alone
abbrev pub mask_by : (bits n : ℕ) → Option Bits → Bits
mask_by bits n None = single bits n
mask_by bits n (Some row) = row

-- the masks of paths, the first of which has this number
abbrev pub masks_from : (bits n : ℕ) → List (Option Bits) → List Bits
masks_from bits n [] = []
masks_from bits n (row ∷ rows) = mask_by bits n row ∷ masks_from bits (suc n) rows

-- What a path carries: rows of bits, which each way out of a block changes.
use Rattle.std.specs.Prelude.{◌≡◌, ◌↔◌, ◌<◌, ℕ, ◌==◌, Bool, true, false, if◌then◌else◌, List, [], ◌∷◌, ◌++◌, Option, Some, None, Contains, slice_index_or}

abbrev pub Bits : Type 0
Bits = List Bool

abbrev pub leads_to : ℕ → Option ℕ → Bool
leads_to block None = false
leads_to block (Some to) = to == block

-- the last of a list that begins with this block
abbrev pub last_of : ℕ → List ℕ → ℕ
last_of block [] = block
last_of block (next ∷ path) = last_of next path

-- to which block each way of a block leads, and what the way makes of a row
module _ (target : (block way : ℕ) → Option ℕ) (pass : (block way : ℕ) → Bits → Bits) where
  -- The rows that come to the end of a path, of which this block and the row at it are the beginning; two where both
  -- ways of a block lead to the next block of the path, and none where no way does.
  abbrev pub rows_along : ℕ → Bits → List ℕ → List Bits
  rows_along from row [] = row ∷ []
  rows_along from row (to ∷ path) =
      (if leads_to to (target from 0) then rows_along to (pass from 0 row) path else [])
      ++ (if leads_to to (target from 1) then rows_along to (pass from 1 row) path else [])

  -- a path from block 0 carries this row to a block
  abbrev pub IsCarried : (start : Bits) → ℕ → Bits → Type 0
  IsCarried start block row = (path : List ℕ) × (last_of 0 path ≡ block) × Contains (rows_along 0 start path) row

  -- a bit is on in a row that a path carries to a block
  abbrev pub CarriesBit : (start : Bits) → (block bit : ℕ) → Type 0
  CarriesBit start block bit = (row : Bits) × IsCarried start block row × (slice_index_or row bit false ≡ true)

-- exactly the bits that some path carries to a block
abbrev pub AreCarried :
    (blocks : ℕ) (target : ℕ → ℕ → Option ℕ) (pass : ℕ → ℕ → Bits → Bits) (start : Bits) → List Bits → Type 0
AreCarried blocks target pass start rows =
    (block bit : ℕ) → block < blocks →
    (slice_index_or (slice_index_or rows block []) bit false ≡ true) ↔ CarriesBit target pass start block bit

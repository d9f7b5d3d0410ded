-- Which flags the plans of a body read, as bits of a row; and what such a row chooses.
use Rattle.std.specs.Prelude.{◌≡◌, ℕ, ◌<◌, Bool, true, false, ◌||◌, List, [], ◌∷◌, length, slice_index_or}
use Rattle.init_flow.specs.Carried.{Bits}
use Rattle.drop_blocks.specs.View.{plan_in}
use Rattle.drop_ends.specs.declared.decided.Decided.{Decided}
use Rattle.drop_laws.specs.Rungs.{reads}

-- what is decided of a drop reads a flag
abbrev pub asks : ℕ → Decided → Bool
asks k (Decided.Planned plan) = reads k (plan_in plan)
asks k how = false

abbrev pub any_asks : ℕ → List Decided → Bool
any_asks k [] = false
any_asks k (how ∷ rest) = asks k how || any_asks k rest

-- the bits of a row are those, and no others, of the flags that are read
pub record IsWanted (count : ℕ) (decided : List Decided) (row : Bits) : Type 0 where
  pub long : length row ≡ count
  pub bits : (k : ℕ) → k < count → slice_index_or row k false ≡ any_asks k decided

-- the places whose bits are on, in order
abbrev pub chosen : {X : Type 0} → Bits → List X → List X
chosen [] xs = []
chosen (bit ∷ row) [] = []
chosen (true ∷ row) (x ∷ xs) = x ∷ chosen row xs
chosen (false ∷ row) (x ∷ xs) = chosen row xs

-- what the code goes on with; no public contract speaks of it
-- the bits that are on are those that were, and these besides
pub record Marks (more : ℕ → Bool) (old new : Bits) : Type 0 where
  pub long : length new ≡ length old
  pub bits : (k : ℕ) → k < length old → slice_index_or new k false ≡ (slice_index_or old k false || more k)

-- no bit is on
abbrev pub AllOff : Bits → Type 0
AllOff row = (k : ℕ) → slice_index_or row k false ≡ false

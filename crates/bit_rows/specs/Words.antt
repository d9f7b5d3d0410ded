-- A row of bits as words of 64 bits, the lowest bit of the first word first.
use Rattle.std.specs.Prelude.{◌≡◌, ℕ, ◌+◌, ◌/◌, ◌%◌, ◌^◌, ◌<◌, ◌≤◌, ◌==◌, Bool, false, not, ◌&&◌, ◌||◌, List, [], ◌∷◌, length, map, slice_index_or, bit_and}
use Rattle.std.specs.Int.{bit_at, bit_not, w64}
use Rattle.std.specs.List.{range_with_len}
use Rattle.std.specs.Simd.Lanes.{zip2}
use Rattle.bit_rows.specs.declared.row.BitRow.TheInside.{Inside}

-- the bit with a number
abbrev pub bit : List ℕ → ℕ → Bool
bit words i = bit_at (slice_index_or words (i / 64) 0) (i % 64) == 1

-- the bits of a word that are not on in another one
abbrev pub without : ℕ → ℕ → ℕ
without word other = bit_and (bit_not w64 word) other

-- so many bits
abbrev pub bits : ℕ → List ℕ → List Bool
bits len words = map (bit words) (range_with_len 0 len)

-- there are just enough words, each of 64 bits, and no bit past the length is on
pub record IsRow (row : Inside) : Type 0 where
  pub enough : length row.words.items ≡ (row.len + 63) / 64
  pub width : (k : ℕ) → slice_index_or row.words.items k 0 < 2 ^ 64
  pub rest : (i : ℕ) → row.len ≤ i → bit row.words.items i ≡ false

-- the bits that are on in either row
abbrev pub union : List Bool → List Bool → List Bool
union = zip2 (λ a b. a || b)

-- the bits of the second row that are not on in the first
abbrev pub difference : List Bool → List Bool → List Bool
difference = zip2 (λ a b. not a && b)

-- a bit is on in both of two rows
abbrev pub any_both : List Bool → List Bool → Bool
any_both [] row = false
any_both (marked ∷ mask) [] = false
any_both (marked ∷ mask) (on ∷ row) = (marked && on) || any_both mask row

-- a bit is on in both of two words with one number
abbrev pub share : List ℕ → List ℕ → Bool
share [] others = false
share (word ∷ words) [] = false
share (word ∷ words) (other ∷ others) = not (bit_and word other == 0) || share words others

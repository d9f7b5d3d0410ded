-- Ranks for blocks and for others that are made for each of them: a block comes just above those that are made for it,
-- and above all blocks of lower rank.
use Rattle.std.specs.Prelude.{◌≡◌, ℕ, suc, ◌+◌, ◌-◌, ◌<◌, ◌≤◌, List, [], ◌∷◌, ◌++◌, Some, Contains, length, slice_get, slice_index, slice_index_or, nat_eq}
use Rattle.std.specs.List.Sorted.{IsNonDecreasingBy}
use Rattle.std.specs.List.{IsDistinct, range_with_len}

-- new ranks of blocks, by their old ones and by how many are made for each
pub record AreTops (ranks sizes tops : List ℕ) : Type 0 where
  pub long : length tops ≡ length ranks
  -- those that are made for a block come below it, and still above each block of lower rank
  pub above : (m n : ℕ) → m < length ranks → n < length ranks → slice_index ranks m < slice_index ranks n →
      slice_index tops m + slice_index sizes n < slice_index tops n
  pub room : (n : ℕ) → n < length ranks → slice_index sizes n ≤ slice_index tops n

-- the ranks of those that are made, block by block, in order
abbrev pub lower_ranks : (tops sizes : List ℕ) → List ℕ
lower_ranks [] sizes = []
lower_ranks (top ∷ tops) [] = []
lower_ranks (top ∷ tops) (size ∷ sizes) = range_with_len (top - size) size ++ lower_ranks tops sizes

-- what the code goes on with; no public contract speaks of it
-- each rank with its number, from a number on
abbrev pub numbered_from : ℕ → List ℕ → List (ℕ × ℕ)
numbered_from n [] = []
numbered_from n (rank ∷ ranks) = (rank, n) ∷ numbered_from (suc n) ranks

-- the blocks in the order of their ranks: each rank with the number of its block
pub record IsOrder (ranks : List ℕ) (order : List (ℕ × ℕ)) : Type 0 where
  pub rising : IsNonDecreasingBy (λ entry. entry.0) order
  pub all : (n rank : ℕ) → slice_get ranks n ≡ Some rank → Contains order (rank, n)
  pub right : (entry : ℕ × ℕ) → Contains order entry → slice_get ranks entry.1 ≡ Some entry.0
  pub once : IsDistinct (λ one other. nat_eq one.1 other.1) order

-- the number of a block by its place in that order
abbrev pub number_at : List (ℕ × ℕ) → ℕ → ℕ
number_at order k = (slice_index_or order k (0, 0)).1

-- so far
pub record AreTopsTo (ranks sizes : List ℕ) (order : List (ℕ × ℕ)) (count next : ℕ) (tops : List ℕ) : Type 0 where
  pub long : length tops ≡ length ranks
  pub under : (j : ℕ) → j < count → slice_index tops (number_at order j) < next
  pub room : (j : ℕ) → j < count → slice_index sizes (number_at order j) ≤ slice_index tops (number_at order j)
  pub rising : (j k : ℕ) → j < k → k < count →
      slice_index tops (number_at order j) + slice_index sizes (number_at order k) < slice_index tops (number_at order
      k)

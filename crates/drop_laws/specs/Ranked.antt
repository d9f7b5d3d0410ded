-- The blocks of a body and others that are made for each of them, with new ranks.
use Rattle.std.specs.Prelude.{◌≡◌, ◌⊎◌, ℕ, ◌+◌, ◌<◌, ◌≤◌, ◌++◌, List, [], ◌∷◌, Some, Contains, length, map, slice_get, slice_index, take}
use Rattle.cfg_graph.specs.declared.graph.Block.{Block}
use Rattle.cfg_graph.specs.declared.graph.Body.{Body}
use Rattle.cfg_graph.specs.Edges.{targets, is_turn, IsRanked}
use Rattle.drop_ranks.specs.Ranks.{AreTops, lower_ranks}

-- how many are made in all, and for the blocks before one
abbrev pub total_of : (sizes : List ℕ) → ℕ
total_of [] = 0
total_of (size ∷ sizes) = size + total_of sizes

abbrev pub start_of : (sizes : List ℕ) → ℕ → ℕ
start_of sizes n = total_of (take n sizes)

-- blocks with other ranks
abbrev pub ranked_with : List Block → List ℕ → List Block
ranked_with [] ranks = []
ranked_with (block ∷ blocks) [] = []
ranked_with (block ∷ blocks) (rank ∷ ranks) = record block { rank = rank } ∷ ranked_with blocks ranks

-- These blocks stand for those of a body, and the others are made for them, so many for each. What is made for a block
-- leads to where the block led, or to what was made for it earlier; and so does the block itself.
pub record AreLaid (body : Body) (blocks new : List Block) (sizes : List ℕ) : Type 0 where
  pub long : length blocks ≡ length body.blocks
  pub sized : length sizes ≡ length body.blocks
  pub total : length new ≡ total_of sizes
  pub kinds : (n : ℕ) (block there : Block) → slice_get body.blocks n ≡ Some block → slice_get blocks n ≡ Some there →
      is_turn there ≡ is_turn block
  pub own : (n : ℕ) (block there : Block) → slice_get body.blocks n ≡ Some block → slice_get blocks n ≡ Some there →
      (m : ℕ) → Contains (targets there.term) m → Contains (targets block.term) m
      ⊎ ((length body.blocks + start_of sizes n ≤ m) × (m < length body.blocks + (start_of sizes n + slice_index sizes
      n)))
  pub made : (n t : ℕ) (block there : Block) → slice_get body.blocks n ≡ Some block → t < slice_index sizes n →
      slice_get new (start_of sizes n + t) ≡ Some there → (m : ℕ) → Contains (targets there.term) m →
      Contains (targets block.term) m
      ⊎ ((length body.blocks + start_of sizes n ≤ m) × (m < length body.blocks + (start_of sizes n + t)))

-- each edge of a body leads to one of its blocks
abbrev pub EdgesStayInside : Body → Type 0
EdgesStayInside body =
    (n : ℕ) (block : Block) → slice_get body.blocks n ≡ Some block → (m : ℕ) → Contains (targets block.term) m →
    (found : Block) × (slice_get body.blocks m ≡ Some found)

-- What the law of ranks says: with new ranks each edge of the whole lowers them, but one to a turn.
abbrev pub NewRanksFit : Type 0
NewRanksFit =
    (body after : Body) (blocks new : List Block) (sizes tops : List ℕ) → IsRanked body → EdgesStayInside body →
    AreLaid body blocks new sizes → AreTops (map (λ block. block.rank) body.blocks) sizes tops →
    after.blocks ≡ ranked_with (blocks ++ new) (tops ++ lower_ranks tops sizes) → IsRanked after

-- How a forest of places is kept: its locals, and then parts, each of which is a path above it and a step. What places
-- these are; no public contract speaks of it.
use Rattle.std.specs.Prelude.{◌≡◌, ◌⊎◌, ℕ, ◌+◌, ◌<◌, ◌≤◌, ◌^◌, take, List, [], ◌∷◌, ◌++◌, map, length, Some, slice_get, slice_index_or, Contains}
use Rattle.std.specs.List.{range_with_len}
use Rattle.store_model.specs.Places.Place.{Place, whole_local}
use Rattle.cfg_graph.specs.Places.{named_step}
use Rattle.cfg_graph.specs.Moves.Gone.{below}
use Rattle.move_paths.specs.declared.parts.PathPart.{PathPart}
use Rattle.move_paths.specs.declared.trie.Near.{Near}

-- equal things have one number
abbrev pub AreOnce : {X : Type 0} → List X → Type 0
AreOnce {X} xs = (i j : ℕ) (x : X) → slice_get xs i ≡ Some x → slice_get xs j ≡ Some x → i ≡ j

-- a part is there now, and was or is the last one
abbrev pub Adds : (old new : List PathPart) → PathPart → Type 0
Adds old new part = ((new ≡ old) × Contains old part) ⊎ ((new ≡ old ++ part ∷ []) × ¬ Contains old part)

-- the place of a part, by the places before it
abbrev pub place_of : List Place → PathPart → Place
place_of before part = below (slice_index_or before part.of (whole_local 0)) (named_step part.step ∷ [])

-- places, and then those of these parts
abbrev pub grown : List Place → List PathPart → List Place
grown before [] = before
grown before (part ∷ parts) = grown (before ++ place_of before part ∷ []) parts

abbrev pub roots : ℕ → List Place
roots locals = map whole_local (range_with_len 0 locals)

abbrev pub places : ℕ → List PathPart → List Place
places locals parts = grown (roots locals) parts

-- each part is below an earlier path, by no index
pub record IsTrie (locals : ℕ) (parts : List PathPart) : Type 0 where
  pub earlier : (i : ℕ) (part : PathPart) → slice_get parts i ≡ Some part → part.of < locals + i
  pub once : AreOnce parts
  pub fits : locals + length parts < 2 ^ 32

-- a place is there now, and was or is the last one
abbrev pub Grows : (old new : List Place) → Place → Type 0
Grows old new place = ((new ≡ old) × Contains old place) ⊎ (new ≡ old ++ place ∷ [])

-- the first steps of a place, so many
abbrev pub upto : ℕ → Place → Place
upto depth place = record { local = place.local; steps = take depth place.steps }

-- the last of the paths that lead along a place
pub record Reaches (paths : List Place) (place : Place) (near : Near) : Type 0 where
  pub at : slice_get paths near.path ≡ Some (upto near.depth place)
  pub within : near.depth ≤ length place.steps
  pub last : (depth : ℕ) → near.depth < depth → depth ≤ length place.steps → ¬ Contains paths (upto depth place)

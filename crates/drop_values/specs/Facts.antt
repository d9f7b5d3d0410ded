-- What the analyses tell of the paths of a body at a point: of each whether it may be present, and whether it may be
-- gone.
use Rattle.std.specs.Prelude.{ℕ, Bool, true, false}
use Rattle.store_model.specs.Places.Place.{Step}

-- the paths at and below a place, by their numbers
mutual
  pub data Tree : Type 0 where
    at_path : (number : ℕ) (below : Branches) → Tree

  pub data Branches : Type 0 where
    no_branch : Branches
    a_branch : (step : Step) (tree : Tree) (rest : Branches) → Branches

-- of each path, whether it is present on some path of the body to this point, and whether it is gone on some
pub record Facts : Type 0 where
  pub present : ℕ → Bool
  pub gone : ℕ → Bool

abbrev pub possible : Facts → Bool → ℕ → Bool
possible facts true number = facts.present number
possible facts false number = facts.gone number

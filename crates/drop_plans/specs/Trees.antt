-- The tree of the paths at and below a place, in a list of paths.
use Rattle.std.specs.Prelude.{◌≡◌, ℕ, List, [], ◌∷◌, Some, None, Contains, slice_get}
use Rattle.store_model.specs.Places.Place.{Place, Step}
use Rattle.cfg_graph.specs.Moves.Gone.{below}
use Rattle.drop_values.specs.Facts.{Tree, at_path, Branches, no_branch, a_branch}
use Rattle.drop_values.specs.Planning.{branch_by}

-- each path with its number, and all paths a step below it
abbrev mutual
  pub IsTreeOf : List Place → Place → Tree → Type 0
  IsTreeOf paths place (at_path number under) =
      (slice_get paths number ≡ Some place) × AreBranchesOf paths place under
      × ((step : Step) → branch_by step under ≡ None → ¬ Contains paths (below place (step ∷ [])))

  pub AreBranchesOf : List Place → Place → Branches → Type 0
  AreBranchesOf paths place no_branch = Unit {0}
  AreBranchesOf paths place (a_branch step tree rest) =
      IsTreeOf paths (below place (step ∷ [])) tree × AreBranchesOf paths place rest

-- containers of paths are paths
abbrev pub AreClosed : List Place → Type 0
AreClosed paths = (place : Place) (steps : List Step) → Contains paths (below place steps) → Contains paths place

-- What actions make of a row that says of each path whether it is gone, and which of them are bad by the row.
use Rattle.std.specs.Prelude.{◌≡◌, ◌==◌, MatchOption, ℕ, Bool, true, false, ◌&&◌, ◌||◌, ◌+◌, ◌<◌, slice_index_or, length, flat_map, Contains, List, [], ◌∷◌, map, Option, Some, None, unwrap_or, if◌then◌else◌}
use Rattle.mir_ty.specs.ItemTable.{ItemTable}
use Rattle.store_model.specs.Places.Place.{Place, Step, ToPart, ToField, ToContent, ToElement, whole_local}
use Rattle.cfg_graph.specs.declared.graph.Body.{Body}
use Rattle.cfg_graph.specs.Places.{named}
use Rattle.cfg_graph.specs.Uses.{PlaceUse, Copies, Moves, Borrows, Touches, Tests, Stores, Drops, Frees}
use Rattle.cfg_graph.specs.Moves.Gone.{PathAction, left_by, is_gone_after, is_at_or_above}
use Rattle.init_flow.specs.Carried.{Bits}
use Rattle.cfg_graph.specs.declared.place.Place.{Place as GraphPlace}
use Rattle.move_paths.specs.declared.trie.Near.{Near}
use Rattle.move_paths.specs.Forest.{PathForest, IsForest, IsRoot, IsStepBelow}
use Rattle.move_paths.specs.Uses.{block_uses}
use Rattle.init_flow.specs.Moved.{masks_of}
use Rattle.init_flow.specs.Concerns.{concerns_read, concerns_test, concerns_store}

-- a use concerns a path: it is bad where one of these is gone
abbrev pub concerns : PlaceUse → (path place : Place) → Bool
concerns Copies path place = concerns_read path place
concerns Moves path place = concerns_read path place
concerns Borrows path place = concerns_read path place
concerns Touches path place = concerns_read path place
concerns Tests path place = concerns_test path place
concerns Stores path place = concerns_store path place
concerns Drops path place = concerns_store path place
concerns Frees path place = false

-- one of the paths that a test tells is gone
abbrev pub some_on : (Place → Bool) → List Place → Bits → Bool
some_on test [] row = false
some_on test (path ∷ paths) [] = false
some_on test (path ∷ paths) (gone ∷ row) = (test path && gone) || some_on test paths row

abbrev pub place_at : List Place → ℕ → Place
place_at paths n = slice_index_or paths n (whole_local 0)

-- at or above the path with a number, if there is one
abbrev pub above : List Place → Option ℕ → Place → Bool
above paths None path = false
above paths (Some n) path = is_at_or_above path (place_at paths n)

-- how many steps lead to the array of the first index, after so many earlier ones
abbrev pub depth_from : ℕ → List Step → Option ℕ
depth_from n [] = None
depth_from n (ToElement local ∷ steps) = Some n
depth_from n (ToPart part ∷ steps) = depth_from (n + 1) steps
depth_from n (ToField variant part ∷ steps) = depth_from (n + 1) steps
depth_from n (ToContent ∷ steps) = depth_from (n + 1) steps

abbrev pub is_depth : Option ℕ → ℕ → Bool
is_depth None depth = false
is_depth (Some n) depth = n == depth

-- the path above the last one along a place, where that is the place, or that path
abbrev pub by_depth : Bool → List Place → Near → Option ℕ → Type 0
by_depth true paths near up = MatchOption up (IsRoot paths near.path) (λ upper. IsStepBelow paths upper near.path)
by_depth false paths near up = up ≡ Some near.path

abbrev pub OnlyAbove : List Place → (place : Place) → Near → Option ℕ → Type 0
OnlyAbove paths place near up = by_depth (near.depth == length place.steps) paths near up

-- What is asked for a use of a place, by the last path along it: whether a path at or above one is gone, and whether
-- one within the last path is.
module _ (paths : List Place) (place : Place) (near : Near) where
  abbrev pub ends_in_array : Bool
  ends_in_array = is_depth (depth_from 0 place.steps) near.depth

  abbrev pub Asks : PlaceUse → Option ℕ → Bool → Type 0
  Asks Copies over within = (over ≡ Some near.path) × (within ≡ (near.depth == length place.steps || ends_in_array))
  Asks Moves over within = (over ≡ Some near.path) × (within ≡ (near.depth == length place.steps || ends_in_array))
  Asks Borrows over within = (over ≡ Some near.path) × (within ≡ (near.depth == length place.steps || ends_in_array))
  Asks Touches over within = (over ≡ Some near.path) × (within ≡ (near.depth == length place.steps || ends_in_array))
  Asks Tests over within = (over ≡ Some near.path) × (within ≡ ends_in_array)
  Asks Stores over within = OnlyAbove paths place near over × (within ≡ ends_in_array)
  Asks Drops over within = OnlyAbove paths place near over × (within ≡ ends_in_array)
  Asks Frees over within = (over ≡ None) × (within ≡ false)

module _ (items : ItemTable) (body : Body) where
  -- what an action leaves of a row
  abbrev pub left : PathAction → List Place → Bits → Bits
  left action [] row = []
  left action (path ∷ paths) [] = []
  left action (path ∷ paths) (gone ∷ row) = unwrap_or (left_by items body path action) gone ∷ left action paths row

  -- what a row says after actions
  abbrev pub state : List Place → List PathAction → Bits
  state paths earlier = map (λ path. is_gone_after items body earlier path) paths

  module _ (paths : List Place) where
    abbrev pub is_bad_by : PathAction → Bits → Bool
    is_bad_by action row = some_on (λ path. concerns action.how path action.place) paths row

    abbrev pub after : List PathAction → Bits → Bits
    after [] row = row
    after (action ∷ later) row = after later (left action paths row)

    -- the first bad one
    abbrev pub first_by : List PathAction → Bits → Option PathAction
    first_by [] row = None
    first_by (action ∷ later) row = if is_bad_by action row then Some action else first_by later (left action paths row)

-- a use of a place, wherever it stands
abbrev pub use_at : PlaceUse → Place → PathAction
use_at how place = record { how = how; place = place; block = 0; line = 0 }

-- it is one of the body's
abbrev pub IsUsed : Body → PlaceUse → Place → Type 0
IsUsed body how place =
    (made : PlaceUse × GraphPlace) × Contains (flat_map block_uses body.blocks) made × (how ≡ made.0)
    × (place ≡ named made.1)

-- What a body's watch keeps: the forest of its paths, the masks of those, and locals that exist.
pub record IsWatched (items : ItemTable) (body : Body) (forest : PathForest) (below : List Bits) : Type 0 where
  pub is_forest : IsForest items body forest
  pub masks : below ≡ masks_of forest.paths
  pub locals :
      (made : PlaceUse × GraphPlace) → Contains (flat_map block_uses body.blocks) made →
      made.1.local < length body.locals
  pub some_block : 0 < length body.blocks

-- Which paths a use of a place concerns: it is bad exactly where one of these is gone.
use Rattle.std.specs.Prelude.{◌≡◌, ◌<◌, Bool, not, ◌&&◌, ◌||◌, List, flat_map, length, Contains}
use Rattle.std.specs.List.{list_any}
use Rattle.mir_ty.specs.ItemTable.{ItemTable}
use Rattle.store_model.specs.Places.Place.{Place, before_element}
use Rattle.cfg_graph.specs.declared.place.Place.{Place as GraphPlace}
use Rattle.cfg_graph.specs.declared.graph.Body.{Body}
use Rattle.cfg_graph.specs.Places.{named}
use Rattle.cfg_graph.specs.Uses.{PlaceUse}
use Rattle.cfg_graph.specs.Moves.BadUses.{may_not_read, may_not_test, may_not_store}
use Rattle.cfg_graph.specs.Moves.Gone.{PathAction, has_index, is_at_or_above, is_gone_after}
use Rattle.move_paths.specs.Forest.{PathForest, IsForest}
use Rattle.move_paths.specs.Uses.{block_uses}

-- the array of which a place takes an element by an index, the first of them
abbrev pub array_of : Place → Place
array_of place = record { local = place.local; steps = before_element place.steps }

-- a path is at or below that array
abbrev pub in_array : (path place : Place) → Bool
in_array path place = has_index place.steps && is_at_or_above (array_of place) path

-- of a copy, a move, a borrow or a touch; of a test; of a store or a drop
abbrev pub concerns_read : (path place : Place) → Bool
concerns_read path place = is_at_or_above path place || (is_at_or_above place path || in_array path place)

abbrev pub concerns_test : (path place : Place) → Bool
concerns_test path place = is_at_or_above path place || in_array path place

abbrev pub concerns_store : (path place : Place) → Bool
concerns_store path place = (is_at_or_above path place && not (is_at_or_above place path)) || in_array path place

-- one of the paths that a test tells is gone
abbrev pub some_gone : ItemTable → Body → List PathAction → List Place → (Place → Bool) → Bool
some_gone items body earlier paths test = list_any (λ path. test path && is_gone_after items body earlier path) paths

-- each of these actions is a use of the body
abbrev pub AreOfBody : Body → List PathAction → Type 0
AreOfBody body actions =
    (action : PathAction) → Contains actions action →
    (made : PlaceUse × GraphPlace) × Contains (flat_map block_uses body.blocks) made
    × (action.how ≡ made.0) × (action.place ≡ named made.1)

-- what the law of bad uses says: a use is bad exactly where one of the paths that it concerns is gone
pub record BadWhereGone
    (items : ItemTable) (body : Body) (paths : List Place) (earlier : List PathAction) (place : Place) : Type 0 where
  pub read :
      may_not_read items body earlier place ≡ some_gone items body earlier paths (λ path. concerns_read path place)
  pub test :
      may_not_test items body earlier place ≡ some_gone items body earlier paths (λ path. concerns_test path place)
  pub store :
      may_not_store items body earlier place ≡ some_gone items body earlier paths (λ path. concerns_store path place)

abbrev pub UsesAreTold : Type 0
UsesAreTold =
    (items : ItemTable) (body : Body) (forest : PathForest) (earlier : List PathAction) (place : Place) →
    IsForest items body forest → AreOfBody body earlier → place.local < length body.locals →
    BadWhereGone items body forest.paths earlier place

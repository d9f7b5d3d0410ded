-- The paths of a body that are watched for moves (the rustc development guide, "Move paths"): its locals, the places
-- that it moves, drops, frees or stores into, and the containers of these.
use Rattle.std.specs.Prelude.{◌≡◌, ◌↔◌, ◌⊎◌, ℕ, zero, suc, if◌then◌else◌, map, slice_index_or, ◌<◌, Bool, true, false, ◌&&◌, ◌||◌, List, [], ◌∷◌, flat_map, length, nat_lt, slice_get, Option, Some, Contains, MatchOption, ◌==◌, ◌++◌}
use Rattle.std.specs.List.{list_any, range_with_len}
use Rattle.std.specs.Option.{is_some}
use Rattle.mir_ty.specs.declared.ty.TyId.{TyId}
use Rattle.mir_ty.specs.ItemTable.{ItemTable}
use Rattle.store_model.specs.Places.Place.{Place, Step, whole_local}
use Rattle.cfg_graph.specs.declared.place.Place.{Place as GraphPlace}
use Rattle.cfg_graph.specs.declared.graph.Body.{Body}
use Rattle.cfg_graph.specs.declared.place.Step.{Step as GraphStep}
use Rattle.cfg_graph.specs.Places.{named, named_step}
use Rattle.cfg_graph.specs.Uses.{PlaceUse}
use Rattle.cfg_graph.specs.Moves.Gone.{below, counts, is_at_or_above, leaves_gone}
use Rattle.move_paths.specs.Uses.{block_uses}
use Rattle.move_paths.specs.Trie.{AreOnce, place_of}
use Rattle.move_paths.specs.Watch.{goes_through_reference}
use Rattle.move_paths.specs.declared.forest.Found.{Found}
use Rattle.move_paths.specs.declared.parts.PathPart.{PathPart}

-- the types of the locals of a body, and its paths in the order of their numbers
pub record PathForest : Type 0 where
  pub tys : List TyId
  pub paths : List Place

-- each local is a path, under its number, and paths are of locals
pub record IsRooted (tys : List TyId) (paths : List Place) : Type 0 where
  pub roots : (n : ℕ) → n < length tys → slice_get paths n ≡ Some (whole_local n)
  pub locals : (place : Place) → Contains paths place → place.local < length tys

-- a path is the local with its number
abbrev pub IsRoot : List Place → ℕ → Type 0
IsRoot paths path = slice_get paths path ≡ Some (whole_local path)

-- a path is one step below an earlier one
pub record IsStepBelow (paths : List Place) (upper lower : ℕ) : Type 0 where
  pub earlier : upper < lower
  pub place : Place
  pub step : Step
  pub above : slice_get paths upper ≡ Some place
  pub here : slice_get paths lower ≡ Some (below place (step ∷ []))

-- the place of a path
abbrev pub path_at : List Place → ℕ → Place
path_at paths path = slice_index_or paths path (whole_local 0)

-- the place a step below a path
abbrev pub place_below : List Place → (path : ℕ) → GraphStep → Place
place_below paths path step = below (path_at paths path) (named_step step ∷ [])

-- the path there, if it is one; a path has a greater number than the one above it
abbrev pub IsPathBelow : List Place → (path : ℕ) → GraphStep → Option ℕ → Type 0
IsPathBelow paths path step found = MatchOption found (¬ Contains paths (place_below paths path step))
    (λ child. (slice_get paths child ≡ Some (place_below paths path step)) × (path < child))

-- whether a path is one step below another
abbrev pub is_child : List Place → (upper lower : ℕ) → Bool
is_child paths upper lower =
    is_at_or_above (slice_index_or paths upper (whole_local 0)) (slice_index_or paths lower (whole_local 0))
    && (suc (length (slice_index_or paths upper (whole_local 0)).steps)
    == length (slice_index_or paths lower (whole_local 0)).steps)

-- the paths below this number that are one step below a path, in order
abbrev pub children_before : List Place → (path : ℕ) → ℕ → List ℕ
children_before paths path zero = []
children_before paths path (suc n) = children_before paths path n ++ (if is_child paths path n then n ∷ [] else [])

-- all paths one step below a path, in order
abbrev pub children_of : List Place → (path : ℕ) → List ℕ
children_of paths path = children_before paths path (length paths)

abbrev pub all_children : List Place → List (List ℕ)
all_children paths = map (children_of paths) (range_with_len 0 (length paths))

-- the last path along a place, of which no path is
pub record IsNearest (paths : List Place) (place : Place) (path : ℕ) : Type 0 where
  pub upper : Place
  pub at : slice_get paths path ≡ Some upper
  pub above : is_at_or_above upper place ≡ true
  pub other : ¬ Contains paths place
  pub nearest :
      (path : Place) → Contains paths path → is_at_or_above path place ≡ true → is_at_or_above path upper ≡ true

-- what there is of a place: nothing behind a reference, and otherwise the path of the place, or the nearest above it
abbrev pub IsFound : ItemTable → PathForest → Place → Found → Type 0
IsFound items forest place (Found.Exact path) =
    (goes_through_reference items (slice_get forest.tys place.local) place.steps ≡ false)
    × (slice_get forest.paths path ≡ Some place)
IsFound items forest place (Found.Above path) =
    (goes_through_reference items (slice_get forest.tys place.local) place.steps ≡ false)
    × IsNearest forest.paths place path
IsFound items forest place Found.Outside =
    goes_through_reference items (slice_get forest.tys place.local) place.steps ≡ true

abbrev pub is_local : List Step → Bool
is_local [] = true
is_local (step ∷ steps) = false

module _ (items : ItemTable) (body : Body) where
  -- a use moves, drops, frees or stores into a place at or below this one, neither behind a reference nor by an index
  abbrev pub is_above_change : Place → PlaceUse × GraphPlace → Bool
  is_above_change place made =
      is_some (leaves_gone made.0) && counts items body (named made.1) && is_at_or_above place (named made.1)

  -- a local, or what some use of the body changes, or a container of it
  abbrev pub is_path : Place → Bool
  is_path place =
      nat_lt place.local (length body.locals)
      && (is_local place.steps || list_any (is_above_change place) (flat_map block_uses body.blocks))

-- the paths of a body are the places that are, each of them once
pub record IsForest (items : ItemTable) (body : Body) (forest : PathForest) : Type 0 where
  pub tys : forest.tys ≡ body.locals
  pub each : (place : Place) → Contains forest.paths place ↔ (is_path items body place ≡ true)
  pub once : AreOnce forest.paths

-- what the code goes on with; no public contract speaks of it
-- a path is a step below an earlier one
abbrev pub IsPartOf : List Place → ℕ → PathPart → Type 0
IsPartOf paths path part = (part.of < path) × (slice_get paths path ≡ Some (place_of paths part))

-- each local of a body is a path, under its number
abbrev pub HasLocals : Body → List Place → Type 0
HasLocals body paths = (n : ℕ) → n < length body.locals → slice_get paths n ≡ Some (whole_local n)

-- a place that one of these uses makes a path
abbrev pub is_named : ItemTable → Body → List (PlaceUse × GraphPlace) → Place → Bool
is_named items body uses place =
    nat_lt place.local (length body.locals) && list_any (is_above_change items body place) uses

-- paths, and then those that these uses make paths
pub record Names
    (items : ItemTable) (body : Body) (old new : List Place) (uses : List (PlaceUse × GraphPlace)) : Type 0 where
  pub kept : (n : ℕ) (place : Place) → slice_get old n ≡ Some place → slice_get new n ≡ Some place
  pub paths : (place : Place) → Contains new place ↔ (Contains old place ⊎ (is_named items body uses place ≡ true))

-- a use makes paths: it changes a place of a local of the body that counts
abbrev pub names_any : ItemTable → Body → PlaceUse × GraphPlace → Bool
names_any items body made =
    nat_lt made.1.local (length body.locals) && (is_some (leaves_gone made.0) && counts items body (named made.1))

-- What is gone at a point of a path, by looking back: a place is gone where the last action on it or on a container of
-- it took it. The rustc development guide speaks of moves and initialization ("Tracking moves and initialization").
use Rattle.std.specs.Prelude.{ℕ, ◌≡◌, ◌↔◌, ◌==◌, Bool, true, false, not, ◌&&◌, List, [], ◌∷◌, ◌++◌, map, if◌then◌else◌, Option, Some, None, unwrap_or, slice_get, nat_lt, nat_le}
use Rattle.std.specs.List.{list_any, list_all}
use Rattle.std.specs.Option.{option_or}
use Rattle.mir_ty.specs.ItemTable.{ItemTable}
use Rattle.store_model.specs.Places.Place.{Step, same_step, ToElement, Place, Watched, Whole, ThroughReference, ByElement, watched, before_element}
use Rattle.cfg_graph.specs.declared.graph.Body.{Body}
use Rattle.cfg_graph.specs.Uses.{PlaceUse, Copies, Moves, Borrows, Touches, Tests, Stores, Drops, Frees}

-- what a path does with a place, in a block and at a line of it; the line of a terminator is the number of statements
pub record PathAction : Type 0 where
  pub how : PlaceUse
  pub place : Place
  pub block : ℕ
  pub line : ℕ

-- what an action leaves: the place is gone, the place has a value, or nothing changes
abbrev pub leaves_gone : PlaceUse → Option Bool
leaves_gone Copies = None
leaves_gone Moves = Some true
leaves_gone Borrows = None
leaves_gone Touches = None
leaves_gone Tests = None
leaves_gone Stores = Some false
leaves_gone Drops = Some true
leaves_gone Frees = Some true

-- these steps are the first ones of those, or all of them
abbrev pub are_first : List Step → List Step → Bool
are_first [] steps = true
are_first (first ∷ rest) [] = false
are_first (first ∷ rest) (step ∷ steps) = same_step first step && are_first rest steps

-- a place is another one or a container of it
abbrev pub is_at_or_above : Place → Place → Bool
is_at_or_above upper lower = (upper.local == lower.local) && are_first upper.steps lower.steps

-- the place at the end of further steps
abbrev pub below : Place → List Step → Place
below place steps = record { local = place.local; steps = place.steps ++ steps }

-- the containers of the end of these steps, outermost first
abbrev pub containers : List Step → List (List Step)
containers [] = []
containers (step ∷ steps) = [] ∷ map (λ outer. step ∷ outer) (containers steps)

-- the steps take an element by a local
abbrev pub has_index : List Step → Bool
has_index [] = false
has_index (ToElement local ∷ steps) = true
has_index (step ∷ steps) = has_index steps

-- a place is watched to its end
abbrev pub reaches_whole : Watched → Bool
reaches_whole w = elim w.reach [ Whole ↦ true | ThroughReference ↦ false | ByElement ↦ false ]

module _ (items : ItemTable) (body : Body) where
  -- what is done behind a reference, or at a place with an index step, counts for no place
  abbrev pub counts : Place → Bool
  counts place = reaches_whole (watched items (slice_get body.locals place.local) place.steps)

  -- what an action leaves of a place, if it was on the place or on a container of it
  abbrev pub left_by : Place → PathAction → Option Bool
  left_by place action =
      if counts action.place && is_at_or_above action.place place then leaves_gone action.how else None

  -- what the last such action left
  abbrev pub last_left : Place → List PathAction → Option Bool
  last_left place [] = None
  last_left place (action ∷ later) = option_or (last_left place later) (left_by place action)

  -- the locals after the result, as many as the body has parameters
  abbrev pub is_param : ℕ → Bool
  is_param local = nat_lt 0 local && nat_le local body.params

  -- with no such action a place is gone unless it is of a parameter
  abbrev pub is_gone_after : List PathAction → Place → Bool
  is_gone_after actions place = unwrap_or (last_left place actions) (not (is_param place.local))

  -- no place at or below it is gone
  abbrev pub IsWholeAfter : List PathAction → Place → Type 0
  IsWholeAfter actions place = (steps : List Step) → is_gone_after actions (below place steps) ≡ false

  -- The same as a test. Of the places below, only those of the actions need a look: another one was last acted on
  -- together with one of those or with the place itself, and is gone where that one is.
  abbrev pub is_whole_after : List PathAction → Place → Bool
  is_whole_after actions place =
      not (is_gone_after actions place)
      && list_all (λ action. not (is_at_or_above place action.place && is_gone_after actions action.place)) actions

  -- some container of a place is gone
  abbrev pub container_gone_after : List PathAction → Place → Bool
  container_gone_after actions place =
      list_any (λ outer. is_gone_after actions (record { local = place.local; steps = outer })) (containers place.steps)

  -- the array of which a place takes an element by a local, the first of them, is not whole
  abbrev pub array_broken_after : List PathAction → Place → Bool
  array_broken_after actions place =
      has_index place.steps
      && not (is_whole_after actions (record { local = place.local; steps = before_element place.steps }))

-- what the law of whole places says: the test tells exactly the places that are whole
abbrev pub WholenessIsTested : Type 0
WholenessIsTested =
    (items : ItemTable) (body : Body) (actions : List PathAction) (place : Place)
    → is_whole_after items body actions place ≡ true ↔ IsWholeAfter items body actions place

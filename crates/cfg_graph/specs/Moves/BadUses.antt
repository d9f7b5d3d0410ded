-- The bad uses on a path: what reads or tests a place that is gone is refused by U1, what stores into one or drops one
-- whose container is gone by U2 (The Rust Reference, "Moved and copied types"; rustc's error E0382).
use Rattle.std.specs.Prelude.{ℕ, Bool, not, ◌||◌, List, [], ◌∷◌, ◌++◌, if◌then◌else◌}
use Rattle.mir_ty.specs.ItemTable.{ItemTable}
use Rattle.store_model.specs.Places.Place.{Place}
use Rattle.cfg_graph.specs.declared.graph.Body.{Body}
use Rattle.cfg_graph.specs.Moves.Actions.{actions_on}
use Rattle.cfg_graph.specs.Moves.Gone.{PathAction, is_gone_after, is_whole_after, container_gone_after, array_broken_after}
use Rattle.cfg_graph.specs.Uses.{PlaceUse, Copies, Moves, Borrows, Touches, Tests, Stores, Drops, Frees}

pub data UseRule : Type 0 where
  U1 : UseRule
  U2 : UseRule

pub record BadUse : Type 0 where
  pub rule : UseRule
  pub action : PathAction

module _ (items : ItemTable) (body : Body) where
  -- copied, moved, borrowed or touched: the place, a place below it or a container of it is gone
  abbrev pub may_not_read : List PathAction → Place → Bool
  may_not_read earlier place =
      not (is_whole_after items body earlier place)
      || container_gone_after items body earlier place
      || array_broken_after items body earlier place

  -- tested: the place or a container of it is gone
  abbrev pub may_not_test : List PathAction → Place → Bool
  may_not_test earlier place =
      is_gone_after items body earlier place
      || container_gone_after items body earlier place
      || array_broken_after items body earlier place

  -- stored into or dropped: a container of the place is gone
  abbrev pub may_not_store : List PathAction → Place → Bool
  may_not_store earlier place =
      container_gone_after items body earlier place || array_broken_after items body earlier place

  abbrev pub if_bad : Bool → UseRule → PathAction → List BadUse
  if_bad bad rule action = if bad then record { rule = rule; action = action } ∷ [] else []

  -- a use as it comes after the earlier actions of its path; to free is never bad
  abbrev pub checked : List PathAction → PathAction → PlaceUse → List BadUse
  checked earlier action Copies = if_bad (may_not_read earlier action.place) U1 action
  checked earlier action Moves = if_bad (may_not_read earlier action.place) U1 action
  checked earlier action Borrows = if_bad (may_not_read earlier action.place) U1 action
  checked earlier action Touches = if_bad (may_not_read earlier action.place) U1 action
  checked earlier action Tests = if_bad (may_not_test earlier action.place) U1 action
  checked earlier action Stores = if_bad (may_not_store earlier action.place) U2 action
  checked earlier action Drops = if_bad (may_not_store earlier action.place) U2 action
  checked earlier action Frees = []

  -- the bad ones of these actions, after earlier ones
  abbrev pub bad_after : List PathAction → List PathAction → List BadUse
  bad_after earlier [] = []
  bad_after earlier (action ∷ later) = checked earlier action action.how ++ bad_after (earlier ++ action ∷ []) later

  -- all bad uses of a path, in order
  abbrev pub bad_uses_on : List ℕ → List BadUse
  bad_uses_on path = bad_after [] (actions_on body path)

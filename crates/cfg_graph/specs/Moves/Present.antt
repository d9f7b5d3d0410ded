-- What is gone of a local after the actions of a path, told whole: each action changes what is present. It tells what
-- looking back tells.
use Rattle.std.specs.Prelude.{◌≡◌, ◌↔◌, ℕ, ◌==◌, Bool, true, ◌&&◌, List, [], ◌∷◌, Option, Some, None, if◌then◌else◌}
use Rattle.mir_ty.specs.ItemTable.{ItemTable}
use Rattle.store_model.specs.Places.Place.{Step, Place}
use Rattle.store_model.specs.Abstract.Presence.{Presence, is_present, is_gone, itself_gone, presence_along, after_action, all_present}
use Rattle.cfg_graph.specs.declared.graph.Body.{Body}
use Rattle.cfg_graph.specs.Moves.Gone.{PathAction, leaves_gone, counts, is_param, is_gone_after, IsWholeAfter}

-- a place is taken or stored into, or nothing changes
abbrev pub changed_by : Option Bool → List Step → Presence → Presence
changed_by None steps p = p
changed_by (Some takes) steps p = after_action takes steps p

module _ (items : ItemTable) (body : Body) where
  -- what an action does to what is present of a local
  abbrev pub present_by : ℕ → PathAction → Presence → Presence
  present_by local action p =
      if counts items body action.place && (action.place.local == local)
      then changed_by (leaves_gone action.how) action.place.steps p
      else p

  abbrev pub present_from : ℕ → List PathAction → Presence → Presence
  present_from local [] p = p
  present_from local (action ∷ later) p = present_from local later (present_by local action p)

  -- a parameter is present at the start, and any other local is gone
  abbrev pub present_at_start : ℕ → Presence
  present_at_start local = if is_param items body local then is_present else is_gone

  abbrev pub present_after : List PathAction → ℕ → Presence
  present_after actions local = present_from local actions (present_at_start local)

-- what the law of presence says: looking back at a place tells what is present there
abbrev pub GoneIsNotPresent : Type 0
GoneIsNotPresent =
    (items : ItemTable) (body : Body) (actions : List PathAction) (place : Place)
    → itself_gone (presence_along place.steps (present_after items body actions place.local))
    ≡ is_gone_after items body actions place

-- and a place is whole exactly where all of it is present
abbrev pub WholeIsAllPresent : Type 0
WholeIsAllPresent =
    (items : ItemTable) (body : Body) (actions : List PathAction) (place : Place)
    → all_present (presence_along place.steps (present_after items body actions place.local)) ≡ true
    ↔ IsWholeAfter items body actions place

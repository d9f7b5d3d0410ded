-- Where a place got the value that is wanted of it, and where it was taken, by what the path to a use did before
-- (rustc's error E0382 tells both: "move occurs because", "value moved here").
use Rattle.std.specs.Prelude.{ℕ, Bool, true, false, not, ◌&&◌, ◌||◌, List, [], ◌∷◌, Option, Some, None, unwrap_or, if◌then◌else◌}
use Rattle.std.specs.List.{list_any}
use Rattle.std.specs.Option.{option_or, option_map_or}
use Rattle.store_model.specs.Places.Place.{Place}
use Rattle.cfg_graph.specs.declared.graph.Body.{Body}
use Rattle.cfg_graph.specs.Moves.Gone.{PathAction, is_at_or_above, leaves_gone}
use Rattle.cfg_graph.specs.Uses.{PlaceUse}
use Rattle.look_moves.specs.Actions.{actions_before}
use Rattle.look_moves.specs.declared.origin.LineAt.{LineAt}
use Rattle.look_moves.specs.declared.origin.Origin.{Origin as TheOrigin}

-- a use leaves its place gone; it leaves a value there
abbrev pub takes : PlaceUse → Bool
takes how = unwrap_or (leaves_gone how) false

abbrev pub fills : PlaceUse → Bool
fills how = option_map_or not (leaves_gone how) false

abbrev pub overlap : Place → Place → Bool
overlap one other = is_at_or_above one other || is_at_or_above other one

-- an action stores into a place or into a container of it
abbrev pub refills : Place → PathAction → Bool
refills place action = fills action.how && is_at_or_above action.place place

-- an action takes a place, or a part or a container of it, and no later one stores there
abbrev pub takes_for_good : Place → PathAction → List PathAction → Bool
takes_for_good place action later =
    takes action.how && overlap action.place place && not (list_any (refills action.place) later)

abbrev pub line_of : PathAction → LineAt
line_of action = record { block = action.block; line = action.line }

abbrev pub line_if : Bool → PathAction → Option LineAt
line_if true action = Some (line_of action)
line_if false action = None

-- the last of these actions that stored into a place
abbrev pub last_store : Place → List PathAction → Option LineAt
last_store place [] = None
last_store place (action ∷ later) = option_or (last_store place later) (line_if (refills place action) action)

-- the last that took it for good
abbrev pub last_taking : Place → List PathAction → Option LineAt
last_taking place [] = None
last_taking place (action ∷ later) =
    option_or (last_taking place later) (line_if (takes_for_good place action later) action)

-- of a place, before a line of the last block of a path
abbrev pub origin_of : Body → List ℕ → (line : ℕ) → Place → TheOrigin
origin_of body path line place =
    record {
      made = last_store place (actions_before body line path);
      taken = last_taking place (actions_before body line path);
    }

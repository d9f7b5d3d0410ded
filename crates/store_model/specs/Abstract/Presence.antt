-- What is gone of a local, as it is seen along a path of a body or in a free run: the whole is present or gone, or it
-- is opened into parts of which each is present, gone or opened. A part that is not named is as its container.
-- (The rustc development guide, "MIR borrow check", "Tracking moves and initialization".)
use Rattle.std.specs.Prelude.{Bool, true, false, ◌&&◌, not, List, [], ◌∷◌, if◌then◌else◌}
use Rattle.store_model.specs.Places.Place.{Step, same_step}

mutual
  -- whether the place itself is gone, whatever its parts are, and the parts that are named
  pub data Presence : Type 0 where
    known : (gone : Bool) (parts : Parts) → Presence

  pub data Parts : Type 0 where
    none_named : Parts
    named : (step : Step) (part : Presence) (rest : Parts) → Parts

abbrev pub is_present : Presence
is_present = known false none_named

abbrev pub is_gone : Presence
is_gone = known true none_named

abbrev pub itself_gone : Presence → Bool
itself_gone (known gone parts) = gone

-- the part to which a step leads
abbrev pub part_among : Step → Presence → Parts → Presence
part_among step otherwise none_named = otherwise
part_among step otherwise (named other part rest) =
    if same_step step other then part else part_among step otherwise rest

abbrev pub presence_at : Step → Presence → Presence
presence_at step (known gone parts) = part_among step (known gone none_named) parts

abbrev pub presence_along : List Step → Presence → Presence
presence_along [] p = p
presence_along (step ∷ steps) p = presence_along steps (presence_at step p)

-- the whole with another presence of one part
abbrev pub changed_among : Step → (Presence → Presence) → Presence → Parts → Parts
changed_among step change otherwise none_named = named step (change otherwise) none_named
changed_among step change otherwise (named other part rest) =
    if same_step step other then named other (change part) rest else named other part
    (changed_among step change otherwise rest)

abbrev pub changed_at : Step → (Presence → Presence) → Presence → Presence
changed_at step change (known gone parts) = known gone (changed_among step change (known gone none_named) parts)

-- the whole after something was taken from a place in it, or stored there
abbrev pub after_action : Bool → List Step → Presence → Presence
after_action takes [] p = known takes none_named
after_action takes (step ∷ steps) p = changed_at step (after_action takes steps) p

-- nothing at or below the place is gone
abbrev mutual
  pub all_present : Presence → Bool
  all_present (known gone parts) = not gone && all_parts_present parts

  pub all_parts_present : Parts → Bool
  all_parts_present none_named = true
  all_parts_present (named step part rest) = all_present part && all_parts_present rest

-- no container of the place is gone
abbrev pub containers_present : List Step → Presence → Bool
containers_present [] p = true
containers_present (step ∷ steps) p = not (itself_gone p) && containers_present steps (presence_at step p)

-- neither the place nor a place below it nor a container of it is gone
abbrev pub is_whole_at : List Step → Presence → Bool
is_whole_at steps p = containers_present steps p && all_present (presence_along steps p)

-- neither the place itself nor a container of it is gone
abbrev pub is_there_at : List Step → Presence → Bool
is_there_at steps p = containers_present steps p && not (itself_gone (presence_along steps p))

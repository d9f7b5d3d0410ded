-- Which places are watched for moves: those that are not behind a reference and take no element by an index.
use Rattle.std.specs.Prelude.{Bool, true, false, not, ◌&&◌, ◌||◌, List, [], ◌∷◌, map, Option, slice_get, option_and_then}
use Rattle.mir_ty.specs.declared.ty.TyId.{TyId}
use Rattle.mir_ty.specs.ItemTable.{ItemTable, type_at}
use Rattle.store_model.specs.Places.Place.{Step, ToContent, step_ty, is_reference}
use Rattle.cfg_graph.specs.declared.place.Place.{Place}
use Rattle.cfg_graph.specs.Places.{named_step}
use Rattle.cfg_graph.specs.Moves.Gone.{has_index}

abbrev pub is_to_content : Step → Bool
is_to_content ToContent = true
is_to_content step = false

-- from a value of this type, one of the steps leads from a reference to what it names
abbrev pub goes_through_reference : ItemTable → Option TyId → List Step → Bool
goes_through_reference items id [] = false
goes_through_reference items id (step ∷ steps) =
    (is_to_content step && is_reference (option_and_then (type_at items) id))
    || goes_through_reference items (option_and_then (step_ty items step) (option_and_then (type_at items) id)) steps

abbrev pub is_watched : ItemTable → (locals : List TyId) → Place → Bool
is_watched items locals place =
    not (has_index (map named_step place.steps))
    && not (goes_through_reference items (slice_get locals place.local) (map named_step place.steps))

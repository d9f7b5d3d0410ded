-- The places that count are those that are neither behind a reference nor within an element by an index.
use Rattle.std.proofs.Common.{◌≡◌, Bool, true, false, not, ◌&&◌, ◌||◌, List, [], ◌∷◌, Option, Some, None, slice_get, refl}
use Rattle.std.specs.Prelude.{option_and_then}
use Rattle.mir_ty.specs.declared.ty.TyId.{TyId}
use Rattle.mir_ty.specs.ItemTable.{ItemTable, type_at}
use Rattle.store_model.specs.Places.Place.{Step, ToPart, ToField, ToContent, ToElement, Whole, ThroughReference, ByElement, Watched, watched, watched_content, step_ty, ty_along, content_of, is_reference}
use Rattle.cfg_graph.specs.declared.graph.Body.{Body}
use Rattle.cfg_graph.specs.declared.place.Place.{Place}
use Rattle.cfg_graph.specs.Places.{named}
use Rattle.cfg_graph.specs.Moves.Gone.{counts, has_index}
use Rattle.move_paths.specs.Watch.{goes_through_reference, is_watched}

abbrev whole : Watched → Bool
whole w = elim w.reach [ Whole ↦ true | ThroughReference ↦ false | ByElement ↦ false ]

content : (reference : Bool) (rest : Watched) (index through : Bool) → whole rest ≡ (not index && not through) → whole (watched_content reference rest) ≡ (not index && not ((true && reference) || through))
content true rest true through h = refl
content true rest false through h = refl
content false rest index through h = h

pub whole-is : (items : ItemTable) (id : Option TyId) (steps : List Step) → whole (watched items id steps) ≡ (not (has_index steps) && not (goes_through_reference items id steps))
whole-is items id [] = refl
whole-is items id (ToPart n ∷ steps) = whole-is items (option_and_then (step_ty items (ToPart n)) (option_and_then (type_at items) id)) steps
whole-is items id (ToField v n ∷ steps) = whole-is items (option_and_then (step_ty items (ToField v n)) (option_and_then (type_at items) id)) steps
whole-is items id (ToContent ∷ steps) =
    content (is_reference (option_and_then (type_at items) id)) (watched items (option_and_then content_of (option_and_then (type_at items) id)) steps) (has_index steps)
    (goes_through_reference items (option_and_then content_of (option_and_then (type_at items) id)) steps)
    (whole-is items (option_and_then content_of (option_and_then (type_at items) id)) steps)
whole-is items id (ToElement i ∷ steps) = refl

pub counts-is : (items : ItemTable) (body : Body) (place : Place) → counts items body (named place) ≡ is_watched items body.locals place
counts-is items body place = whole-is items (slice_get body.locals place.local) (named place).steps

-- a step more along a place
pub further : (items : ItemTable) (step : Step) (steps : List Step) (at : Option TyId)
    → option_and_then (ty_along items (step ∷ steps)) at ≡ option_and_then (ty_along items steps) (option_and_then (step_ty items step) (option_and_then (type_at items) at))
further items step steps None = refl
further items step steps (Some id) = refl

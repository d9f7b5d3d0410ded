-- The places of a graph as the places that all meanings speak of, and the types of places and operands in a body.
use Rattle.std.specs.Prelude.{ℕ, List, [], ◌∷◌, map, Option, Some, slice_get, option_and_then}
use Rattle.mir_ty.specs.declared.ty.Ty.{Ty}
use Rattle.mir_ty.specs.declared.ty.TyId.{TyId}
use Rattle.mir_ty.specs.ItemTable.{ItemTable, type_at}
use Rattle.store_model.specs.Places.Place as plain
use Rattle.store_model.specs.Places.Place.{ToPart, ToField, ToContent, ToElement, place_ty}
use Rattle.cfg_graph.specs.declared.place.Step.{Step}
use Rattle.cfg_graph.specs.declared.place.Place.{Place}
use Rattle.cfg_graph.specs.declared.place.Operand.{Operand}

abbrev pub named_step : Step → plain.Step
named_step (Step.Part n) = ToPart n
named_step (Step.Field variant n) = ToField variant n
named_step Step.Inside = ToContent
named_step (Step.Index local) = ToElement local

abbrev pub named : Place → plain.Place
named place = record { local = place.local; steps = map named_step place.steps }

-- the locals that the steps of a place read
abbrev pub index_locals : List Step → List ℕ
index_locals [] = []
index_locals (Step.Index local ∷ steps) = local ∷ index_locals steps
index_locals (step ∷ steps) = index_locals steps

-- the place of an operand, where it has one
abbrev pub place_of : Operand → List Place
place_of (Operand.Copied place) = place ∷ []
place_of (Operand.Moved place) = place ∷ []
place_of _ = []

module _ (items : ItemTable) (locals : List TyId) where
  -- the number of the type of a place, and the type; none where the local or a step does not exist
  abbrev pub place_id : Place → Option TyId
  place_id place = place_ty items (slice_get locals) (named place)

  abbrev pub ty_of_place : Place → Option Ty
  ty_of_place place = option_and_then (type_at items) (place_id place)

  abbrev pub ty_of_operand : Operand → Option Ty
  ty_of_operand (Operand.Copied place) = ty_of_place place
  ty_of_operand (Operand.Moved place) = ty_of_place place
  ty_of_operand (Operand.Number value kind) = Some (Ty.Int kind)
  ty_of_operand (Operand.Truth value) = Some Ty.Bool
  ty_of_operand Operand.Unit = Some Ty.Unit

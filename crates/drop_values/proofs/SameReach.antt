-- Where a place is, and what stands at an address, is a matter of the activations alone: neither of what else a state
-- has at hand, nor of whether drops are strict.
use Rattle.std.proofs.Common.{◌≡◌, ℕ, pos, negsuc, Bool, List, [], ◌∷◌, length, Option, Some, None, refl, ap, sym, ◌∙◌}
use Rattle.std.specs.Option.{option_and_then}
use Rattle.mir_ty.specs.declared.ty.TyId.{TyId}
use Rattle.mir_ty.specs.ItemTable.{ItemTable}
use Rattle.store_model.specs.declared.address.Addr.{Addr}
use Rattle.store_model.specs.Concrete.Location.{Setting, concrete_ty, Located, into_all, located_root, located_in, located_at, Reached, Reaches, CutOff, Nowhere, reach_of, on_reached, named_by, by_reference, into_element, through, into_field, follow, follow_from, along, in_youngest, reach}
use Rattle.store_model.specs.Concrete.State.{State, Activation, Cells, cell, at_depth}
use Rattle.store_model.specs.Places.Place.{Step, ToPart, ToField, ToContent, ToElement, Place}
use Rattle.store_model.specs.Values.Datum.{Datum, Gone, Number, Truth, UnitValue, Aggregate, Box, Address}

module _ (items : ItemTable) (local_ty : (body local : ℕ) → Option TyId) where
  abbrev setting : Bool → Setting
  setting strict = record { items = items; local_ty = local_ty; strict = strict }

  module _ (b c : Bool) (w w' : State) (same : w'.activations ≡ w.activations) where
    in-same : (depth key : ℕ) (o : Option Activation) →
        located_in (setting b) w depth key o ≡ located_in (setting c) w' depth key o
    in-same depth key None = refl
    in-same depth key (Some a) = refl

    pub located-same : (a : Addr) → located_at (setting b) w a ≡ located_at (setting c) w' a
    located-same a =
        ap (option_and_then (into_all items a.path))
        (in-same a.depth a.key.0 (at_depth a.depth w.activations)
        ∙ ap (λ acts. located_in (setting c) w' a.depth a.key.0 (at_depth a.depth acts)) (sym same))

    through-same : (cells : Cells) (d : Datum) (s : Located) →
        through (setting b) w cells d s ≡ through (setting c) w' cells d s
    through-same cells (Address a) s = ap (by_reference items (named_by (concrete_ty items s.dynamic))) (located-same a)
    through-same cells other s = refl

    field-same : (cells : Cells) (v n : ℕ) (d : Datum) (s : Located) →
        into_field (setting b) w cells v n d s ≡ into_field (setting c) w' cells v n d s
    field-same cells v n (Aggregate x y z) s = refl
    field-same cells v n other s = refl

    element-same : (cells : Cells) (d : Datum) (s : Located) →
        into_element (setting b) w cells d s ≡ into_element (setting c) w' cells d s
    element-same cells (Number (pos n)) s = refl
    element-same cells other s = refl

    follow-same : (cells : Cells) (step : Step) (s : Located) →
        follow (setting b) w cells step s ≡ follow (setting c) w' cells step s
    follow-same cells (ToPart n) s = refl
    follow-same cells (ToField v n) s = field-same cells v n s.value s
    follow-same cells ToContent s = through-same cells s.value s
    follow-same cells (ToElement i) s = element-same cells (cell i cells) s

    from-same : (cells : Cells) (step : Step) (d : Datum) (s : Located) →
        follow_from (setting b) w cells step d s ≡ follow_from (setting c) w' cells step d s
    from-same cells step Gone s = refl
    from-same cells step other s = follow-same cells step s

    on-same : (r : Reached) (f g : Located → Reached) → ((s : Located) → f s ≡ g s) →
        on_reached r f CutOff Nowhere ≡ on_reached r g CutOff Nowhere
    on-same (Reaches s) f g h = h s
    on-same CutOff f g h = refl
    on-same Nowhere f g h = refl

    along-same : (cells : Cells) (steps : List Step) (s : Located) →
        along (setting b) w cells steps s ≡ along (setting c) w' cells steps s
    along-same cells [] s = refl
    along-same cells (step ∷ steps) s =
        ap (λ r. on_reached r (along (setting b) w cells steps) CutOff Nowhere) (from-same cells step s.value s)
        ∙ on-same (follow_from (setting c) w' cells step s.value s) (along (setting b) w cells steps)
        (along (setting c) w' cells steps) (λ t. along-same cells steps t)

    youngest-same : (place : Place) (acts : List Activation) →
        in_youngest (setting b) w place acts ≡ in_youngest (setting c) w' place acts
    youngest-same place [] = refl
    youngest-same place (a ∷ older) =
        on-same (reach_of (located_root (length older) place.local a.cells (local_ty a.body place.local)))
        (along (setting b) w a.cells place.steps) (along (setting c) w' a.cells place.steps)
        (λ s. along-same a.cells place.steps s)

    pub reach-same : (place : Place) → reach (setting b) w place ≡ reach (setting c) w' place
    reach-same place =
        youngest-same place w.activations ∙ ap (in_youngest (setting c) w' place) (sym same)

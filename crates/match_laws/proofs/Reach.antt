-- A place is reached alike in states whose locals hold the same.
use Rattle.std.proofs.Common.{◌≡◌, ℕ, List, [], ◌∷◌, length, Option, Some, None, refl, ap, ◌∙◌}
use Rattle.mir_ty.specs.declared.ty.TyId.{TyId}
use Rattle.store_model.specs.Values.Datum.{Datum, Gone, Address}
use Rattle.store_model.specs.Places.Place.{Step, ToPart, ToField, ToContent, ToElement, Place}
use Rattle.store_model.specs.Concrete.Location.{Setting, Located, Reached, Reaches, CutOff, Nowhere, on_reached, reach_of, located_root, named_by, concrete_ty, by_reference, into_element, through, follow, follow_from, along, in_youngest, reach}
use Rattle.store_model.specs.Concrete.State.{State, Activation, Cells}
use Rattle.soundness_values.specs.Frames.{SameCells, Alike, none_runs, one_runs}
use Rattle.soundness_values.proofs.Standings.{alike_length, alike_located}

module _ (setting : Setting) (w v : State) (alike : Alike w.activations v.activations) where
  module _ (a b : Cells) (same : SameCells a b) where
    through_alike : (d : Datum) (s : Located) → through setting w a d s ≡ through setting v b d s
    through_alike (Address address) s =
        ap (by_reference setting.items (named_by (concrete_ty setting.items s.dynamic)))
        (alike_located setting w v alike address)
    through_alike other s = refl

    follow_alike : (step : Step) (s : Located) → follow setting w a step s ≡ follow setting v b step s
    follow_alike (ToPart n) s = refl
    follow_alike (ToField variant n) s = refl
    follow_alike ToContent s = through_alike s.value s
    follow_alike (ToElement index) s = ap (λ d. into_element setting w a d s) (same index)

    further_alike : (step : Step) (d : Datum) (s : Located) →
        follow_from setting w a step d s ≡ follow_from setting v b step d s
    further_alike step Gone s = refl
    further_alike step other s = follow_alike step s

    along_alike : (steps : List Step) (s : Located) → along setting w a steps s ≡ along setting v b steps s
    along_alike [] s = refl
    along_alike (step ∷ steps) s =
        ap (λ r. on_reached r (along setting w a steps) CutOff Nowhere) (further_alike step s.value s)
        ∙ next (along_alike steps) (follow_from setting v b step s.value s)
      where
        next : ((t : Located) → along setting w a steps t ≡ along setting v b steps t) → (r : Reached) → on_reached r (along setting w a steps) CutOff Nowhere
            ≡ on_reached r (along setting v b steps) CutOff Nowhere
        next later (Reaches t) = later t
        next later CutOff = refl
        next later Nowhere = refl

    from_alike : (r : Reached) (steps : List Step) → on_reached r (along setting w a steps) CutOff Nowhere
        ≡ on_reached r (along setting v b steps) CutOff Nowhere
    from_alike (Reaches t) steps = along_alike steps t
    from_alike CutOff steps = refl
    from_alike Nowhere steps = refl

    root_alike : (n m local : ℕ) → n ≡ m → (o : Option TyId) →
        reach_of (located_root n local a o) ≡ reach_of (located_root m local b o)
    root_alike n m local e None = refl
    root_alike n m local e (Some id) = let h = same local in cc

  youngest_alike : (place : Place) {x y : List Activation} → Alike x y →
      in_youngest setting w place x ≡ in_youngest setting v place y
  youngest_alike place none_runs = refl
  youngest_alike place (one_runs body a b older older' h k) =
      ap (λ r. on_reached r (along setting w a place.steps) CutOff Nowhere)
      (root_alike a b h (length older) (length older') place.local (alike_length k) (setting.local_ty body place.local))
      ∙ from_alike a b h (reach_of (located_root (length older') place.local b (setting.local_ty body place.local)))
      place.steps

  pub reach_alike : (place : Place) → reach setting w place ≡ reach setting v place
  reach_alike place = youngest_alike place alike

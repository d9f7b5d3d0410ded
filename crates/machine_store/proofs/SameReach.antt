-- Where a place is depends on the activations alone.
use Rattle.std.proofs.Common.{◌≡◌, Bool, true, List, [], ◌∷◌, length, Option, Some, None, refl, ap, sym, ◌∙◌}
use Rattle.cfg_graph.specs.declared.graph.Graph.{Graph}
use Rattle.cfg_meaning.specs.Programs.{setting_of}
use Rattle.machine_store.specs.Standing.{with_activations, reach_of_found, located_root_found, named_by_found, by_reference_found, through_found, follow_found, follow_from_found, along_found}
use Rattle.store_model.specs.declared.address.Addr.{Addr}
use Rattle.store_model.specs.Concrete.Location.{Setting, Located, CutOff, Nowhere, concrete_ty, located_at, reach, on_reached}
use Rattle.store_model.specs.Concrete.State.{State, Activation, Cells, at_depth}
use Rattle.store_model.specs.Places.Place.{Step, ToPart, ToField, ToContent, ToElement, Place}
use Rattle.store_model.specs.Values.Datum.{Datum, Gone, Number, Truth, UnitValue, Aggregate, Box, Address}

pub reach_is : (setting : Setting) (w : State) (place : Place) (a : Activation) (older : List Activation) → w.activations ≡ a ∷ older →
    reach setting w place
    ≡ on_reached (reach_of_found (located_root_found (length older) place.local a.cells (setting.local_ty a.body place.local))) (along_found setting w a.cells place.steps) CutOff Nowhere
reach_is setting w place a older e = rw e refl

module _ (strict : Bool) (graph : Graph) (w : State) where
  pub located_same : (address : Addr) → located_at (setting_of strict graph) w address ≡ located_at (setting_of true graph) (with_activations w.activations) address
  located_same address = go (at_depth address.depth w.activations) refl
    where
      go : (o : Option Activation) → at_depth address.depth w.activations ≡ o → located_at (setting_of strict graph) w address ≡ located_at (setting_of true graph) (with_activations w.activations) address
      go None e = rw e refl
      go (Some a) e = rw e refl

  module _ (cells : Cells) where
    through_same : (value : Datum) (s : Located) → through_found (setting_of strict graph) w cells value s ≡ through_found (setting_of true graph) (with_activations w.activations) cells value s
    through_same (Address address) s = ap (by_reference_found graph.items (named_by_found (concrete_ty graph.items s.dynamic))) (located_same address)
    through_same other s = refl

    follow_same : (step : Step) (s : Located) → follow_found (setting_of strict graph) w cells step s ≡ follow_found (setting_of true graph) (with_activations w.activations) cells step s
    follow_same (ToPart n) s = refl
    follow_same (ToField variant n) s = refl
    follow_same ToContent s = through_same s.value s
    follow_same (ToElement index) s = refl

    follow_from_same : (step : Step) (value : Datum) (s : Located) →
        follow_from_found (setting_of strict graph) w cells step value s ≡ follow_from_found (setting_of true graph) (with_activations w.activations) cells step value s
    follow_from_same step Gone s = refl
    follow_from_same step other s = follow_same step s

    along_same : (steps : List Step) (s : Located) → along_found (setting_of strict graph) w cells steps s ≡ along_found (setting_of true graph) (with_activations w.activations) cells steps s
    along_same [] s = refl
    along_same (step ∷ steps) s =
        ap (λ r. on_reached r (along_found (setting_of strict graph) w cells steps) CutOff Nowhere) (follow_from_same step s.value s)
        ∙ ap (λ f. on_reached (follow_from_found (setting_of true graph) (with_activations w.activations) cells step s.value s) f CutOff Nowhere) (λ i s. along_same steps s i)

  pub reach_same : (place : Place) → reach (setting_of strict graph) w place ≡ reach (setting_of true graph) (with_activations w.activations) place
  reach_same place = go w.activations refl
    where
      go : (acts : List Activation) → w.activations ≡ acts → reach (setting_of strict graph) w place ≡ reach (setting_of true graph) (with_activations w.activations) place
      go [] e = rw e refl
      go (a ∷ older) e =
          reach_is (setting_of strict graph) w place a older e
          ∙ ap (λ f. on_reached (reach_of_found (located_root_found (length older) place.local a.cells ((setting_of true graph).local_ty a.body place.local))) f CutOff Nowhere)
          (λ i s. along_same a.cells place.steps s i)
          ∙ sym (reach_is (setting_of true graph) (with_activations w.activations) place a older e)

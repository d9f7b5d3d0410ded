-- Whether what is located somewhere is whole.
use Rattle.std.proofs.Common.{◌≡◌, ℕ, false, List, [], ◌∷◌, Some, None, slice_get, ap, sym, subst, ◌∙◌}
use Rattle.std.specs.Option.{option_map, option_map_or}
use Rattle.machine_store.specs.Activations.{on_top_of, root_in}
use Rattle.machine_store.specs.Frames.{entry_of, activation_of}
use Rattle.machine_store.specs.declared.frame.StoredLocal.{StoredLocal}
use Rattle.machine_store.proofs.Activations.{Frames, depth_lookup, root_is}
use Rattle.machine_store.proofs.Frames.{cell_by_entry}
use Rattle.machine_store.proofs.Stands.{Stands, ReachesStanding, reach_stands}
use Rattle.store_model.specs.declared.address.At.{At}
use Rattle.store_model.specs.declared.address.At.TheVariants.{Part, Inside}
use Rattle.store_model.specs.declared.value.Value.{Value}
use Rattle.store_model.specs.Concrete.Location.{Setting, Located, Reaches, reach}
use Rattle.store_model.specs.Concrete.State.{State, cell}
use Rattle.store_model.specs.Places.Place.{Place}
use Rattle.store_model.specs.Values.Access.{value_at}
use Rattle.store_model.specs.Values.Datum.{Datum, Gone, datum_of}
use Rattle.store_model.specs.Values.Wholeness.{is_whole}

whole_in_gone : (place : List At) (value : Datum) → value_at place Gone ≡ Some value → false ≡ is_whole value
whole_in_gone [] value e = ap is_whole (let k : Gone ≡ value = cc in k)
whole_in_gone (Part n ∷ place) value e = absurd (cc)
whole_in_gone (Inside ∷ place) value e = absurd (cc)

module _ (frames : Frames) (depth key : ℕ) (place : List At) (value : Datum) (stands : value_at place (root_in depth key (on_top_of frames [])) ≡ Some value) where
  pub not_whole_nowhere : slice_get frames depth ≡ None → false ≡ is_whole value
  not_whole_nowhere none =
      whole_in_gone place value
      (sym (ap (λ o. value_at place (option_map_or (λ a. cell key a.cells) o Gone)) (depth_lookup frames depth ∙ ap (option_map activation_of) none)) ∙ stands)

  module _ (frame : ℕ × List StoredLocal) (is : slice_get frames depth ≡ Some frame) where
    pub not_whole_unstored : entry_of key frame.1 ≡ None → false ≡ is_whole value
    not_whole_unstored none =
        whole_in_gone place value
        (sym (ap (value_at place) (root_is frames depth key frame is ∙ cell_by_entry key frame.1 ∙ ap (λ o. option_map_or datum_of o Gone) none)) ∙ stands)

    pub stands_in_entry : (held : Value) → entry_of key frame.1 ≡ Some held → value_at place (datum_of held) ≡ Some value
    stands_in_entry held e =
        sym (ap (value_at place) (root_is frames depth key frame is ∙ cell_by_entry key frame.1 ∙ ap (λ o. option_map_or datum_of o Gone) e)) ∙ stands

-- what is reached stands there
pub reached_there : (setting : Setting) (w : State) (place : Place) (s : Located) → reach setting w place ≡ Reaches s → Stands w.activations s
reached_there setting w place s e = subst (ReachesStanding w.activations) e (reach_stands setting w place)

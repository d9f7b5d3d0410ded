-- Where an address leads, by the frame of its activation.
use Rattle.std.proofs.Common.{◌≡◌, ℕ, zero, suc, ◌≤◌, ℤ, pos, negsuc, true, List, [], ◌∷◌, length, map, Option, Some, None, slice_get, IfNone, refl, ap, sym, subst, ◌∙◌, arith}
use Rattle.std.proofs.lemmas.List.{length-map}
use Rattle.mir_ty.specs.ItemTable.{ItemTable}
use Rattle.store_model.specs.declared.value.Value.{Value}
use Rattle.store_model.specs.declared.value.Value.TheVariants.{Parts}
use Rattle.store_model.specs.declared.address.At.TheVariants.{Part}
use Rattle.store_model.specs.Values.Datum.{Datum, Data, Gone, Number, Truth, UnitValue, Aggregate, Box, Address, no_part, a_part, datum_of}
use Rattle.store_model.specs.Values.Access.{part, part_at}
use Rattle.store_model.specs.Values.Parts.{count}
use Rattle.store_model.proofs.Values.Datum.{datum_of-Parts}
use Rattle.store_model.proofs.Values.OnePart.{count-data_from}
use Rattle.std.specs.Option.{option_and_then}
use Rattle.cfg_graph.specs.declared.graph.Graph.{Graph}
use Rattle.cfg_meaning.specs.Programs.{setting_of}
use Rattle.machine_store.specs.Activations.{on_top_of}
use Rattle.machine_store.specs.Frames.{activation_of, cells_of}
use Rattle.machine_store.specs.Standing.{with_activations, count_of_parts, number_of, reach_of_found, into_element_found, located_root_found, into_all_found, along_found}
use Rattle.machine_store.specs.declared.frame.StoredLocal.{StoredLocal}
use Rattle.machine_store.proofs.Activations.{Frames, depth_lookup, youngest_frame}
use Rattle.store_model.specs.declared.address.Addr.{Addr}
use Rattle.store_model.specs.Concrete.Location.{Located, CutOff, Nowhere, into, located_at, reach, on_reached}
use Rattle.store_model.specs.Places.Place.{Place}
use Rattle.store_model.specs.Concrete.State.{State, Activation}

module _ (graph : Graph) (frames : Frames) (address : Addr) where
  pub no_frame : slice_get frames address.depth ≡ None → located_at (setting_of true graph) (with_activations (on_top_of frames [])) address ≡ None
  no_frame e = rw (depth_lookup frames address.depth, e) refl

  pub by_frame : (frame : ℕ × List StoredLocal) → slice_get frames address.depth ≡ Some frame →
      located_at (setting_of true graph) (with_activations (on_top_of frames [])) address
      ≡ option_and_then (into_all_found graph.items address.path) (located_root_found address.depth address.key.0 (cells_of frame.1) ((setting_of true graph).local_ty frame.0 address.key.0))
  by_frame frame e = rw (depth_lookup frames address.depth, e) refl

-- the parts that a value has
pub parts_counted : (value : Value) (variant : ℕ) (serial : Option ℕ) (parts : List Value) → value ≡ Parts variant serial parts → count_of_parts (datum_of value) ≡ length parts
parts_counted value variant serial parts h =
    ap (λ v. count_of_parts (datum_of v)) h ∙ ap count_of_parts (datum_of-Parts variant serial parts) ∙ count-data_from (map datum_of parts) ∙ length-map parts datum_of

part_past : (parts : Data) (n : ℕ) → count parts ≤ n → part_at n parts ≡ None
part_past no_part n h = refl
part_past (a_part first rest) zero h = absurd (let never : ⊥ = omega arith in never)
part_past (a_part first rest) (suc n) h = part_past rest n (omega arith)

no_part_past : (value : Datum) (n : ℕ) → count_of_parts value ≤ n → part (Part n) value ≡ None
no_part_past (Aggregate variant serial parts) n h = part_past parts n h
no_part_past other n h = refl

into_past : (items : ItemTable) (n : ℕ) (s : Located) → count_of_parts s.value ≤ n → into items (Part n) s ≡ None
into_past items n s h = rw (no_part_past s.value n h) refl

-- an element stands under a number
pub element_under : (items : ItemTable) (index : Datum) (number : ℤ) (s : Located) → number_of index ≡ Some number → into_element_found items (Number number) s ≡ into_element_found items index s
element_under items (Number n) number s e = let same : n ≡ number = cc in ap (λ n. into_element_found items (Number n) s) (sym same)
element_under items other number s e = absurd (cc)

pub no_number : (items : ItemTable) (index : Datum) (s : Located) → number_of index ≡ None → Nowhere ≡ into_element_found items index s
no_number items (Number n) s e = absurd (cc)
no_number items other s e = refl

-- no element stands past the end
pub no_element : (items : ItemTable) (index : Datum) (number : ℤ) (s : Located) → number_of index ≡ Some number → ((n : ℕ) → number ≡ pos n → count_of_parts s.value ≤ n) →
    Nowhere ≡ into_element_found items index s
no_element items index (pos n) s e h = sym (ap reach_of_found (into_past items n s (h n refl))) ∙ element_under items index (pos n) s e
no_element items index (negsuc n) s e h = element_under items index (negsuc n) s e

pub at_none : {A : Type 0} (o : Option A) (P : Type 0) → o ≡ None → IfNone o P → P
at_none o P e h = subst (λ o. IfNone o P) e h

-- where a place of the youngest activation is, by its frame
module _ (graph : Graph) (frames : Frames) (place : Place) where
  reach_in : (depth : ℕ) (frame : ℕ × List StoredLocal) (rest : List Activation) (w : State) → w.activations ≡ activation_of frame ∷ rest → length rest ≡ depth →
      reach (setting_of true graph) w place
      ≡ on_reached (reach_of_found (located_root_found depth place.local (cells_of frame.1) ((setting_of true graph).local_ty frame.0 place.local)))
      (along_found (setting_of true graph) w (cells_of frame.1) place.steps) CutOff Nowhere
  reach_in depth frame rest w e h = rw (e, sym h) refl

  pub reach_by_frame : (depth : ℕ) (frame : ℕ × List StoredLocal) → slice_get frames depth ≡ Some frame → suc depth ≡ length frames →
      reach (setting_of true graph) (with_activations (on_top_of frames [])) place
      ≡ on_reached (reach_of_found (located_root_found depth place.local (cells_of frame.1) ((setting_of true graph).local_ty frame.0 place.local)))
      (along_found (setting_of true graph) (with_activations (on_top_of frames [])) (cells_of frame.1) place.steps) CutOff Nowhere
  reach_by_frame depth frame is last = let y = youngest_frame frames depth frame is last in reach_in depth frame y.0 (with_activations (on_top_of frames [])) y.1 y.2

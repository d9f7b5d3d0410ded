-- What is located somewhere stands there, and where a place is depends on the activations alone.
use Rattle.std.proofs.Common.{◌≡◌, ℕ, pos, negsuc, Bool, true, false, ◌==◌, List, [], ◌∷◌, length, Option, Some, None, refl, ap, sym, subst, ◌∙◌}
use Rattle.std.proofs.lemmas.Bool.Decides.{Decides-eqb}
use Rattle.std.specs.Option.{option_map_or, option_and_then}
use Rattle.machine_store.specs.Activations.{root_in}
use Rattle.machine_store.proofs.SameReach.{reach_is}
use Rattle.machine_store.specs.Standing.{reach_of_found, reach_if_found, located_root_found, named_by_found, by_reference_found, into_all_found, through_found, into_element_found, into_field_found, follow_found, follow_from_found, along_found}
use Rattle.mir_ty.specs.declared.ty.TyId.{TyId}
use Rattle.mir_ty.specs.ItemTable.{ItemTable}
use Rattle.store_model.proofs.Values.Access.{value_at-append}
use Rattle.store_model.specs.declared.address.Addr.{Addr}
use Rattle.store_model.specs.declared.address.At.{At}
use Rattle.store_model.specs.declared.address.At.TheVariants.{Part, Inside}
use Rattle.store_model.specs.Concrete.Location.{Setting, DynamicType, Located, Reached, Reaches, CutOff, Nowhere, type_of_part, concrete_ty, is_of_type, into, located_at, reach, on_reached}
use Rattle.store_model.specs.Concrete.State.{State, Activation, Cells, cell, at_depth}
use Rattle.store_model.specs.Places.Place.{Step, ToPart, ToField, ToContent, ToElement, Place}
use Rattle.store_model.specs.Values.Access.{part, value_at}
use Rattle.store_model.specs.Values.Datum.{Datum, Gone, Number, Truth, UnitValue, Aggregate, Box, Address}

pub record Stands (activations : List Activation) (s : Located) : Type 0 where
  pub there : value_at s.address.path (root_in s.address.depth s.address.key.0 activations) ≡ Some s.value

-- wherever a place is reached, something stands
abbrev pub AllStand : List Activation → Option Located → Type 0
AllStand activations None = Unit {0}
AllStand activations (Some s) = Stands activations s

abbrev pub ReachesStanding : List Activation → Reached → Type 0
ReachesStanding activations (Reaches s) = Stands activations s
ReachesStanding activations CutOff = Unit {0}
ReachesStanding activations Nowhere = Unit {0}

module _ (activations : List Activation) (items : ItemTable) where
  part_stands : (step : At) (s : Located) → Stands activations s → (value : Option Datum) → part step s.value ≡ value → (dynamic : Option DynamicType) → type_of_part items step s.value s.dynamic ≡ dynamic →
      AllStand activations (into items step s)
  part_stands step s h None e dynamic d = rw e tt
  part_stands step s h (Some value) e None d = rw (e, d) tt
  part_stands step s h (Some value) e (Some dynamic) d =
      rw (e, d) (record {
        there = value_at-append s.address.path (step ∷ []) (root_in s.address.depth s.address.key.0 activations)
            ∙ ap (option_and_then (value_at (step ∷ []))) h.there ∙ ap (option_and_then (value_at [])) e;
      })

  pub into_stands : (step : At) (s : Located) → Stands activations s → AllStand activations (into items step s)
  into_stands step s h = part_stands step s h (part step s.value) refl (type_of_part items step s.value s.dynamic) refl

  and_then_stands : (f : Located → Option Located) → ((s : Located) → Stands activations s → AllStand activations (f s)) → (o : Option Located) → AllStand activations o →
      AllStand activations (option_and_then f o)
  and_then_stands f e None h = tt
  and_then_stands f e (Some s) h = e s h

  into_all_stand : (path : List At) (s : Located) → Stands activations s → AllStand activations (into_all_found items path s)
  into_all_stand [] s h = h
  into_all_stand (step ∷ path) s h = and_then_stands (into_all_found items path) (into_all_stand path) (into items step s) (into_stands step s h)

  reached_stands : (o : Option Located) → AllStand activations o → ReachesStanding activations (reach_of_found o)
  reached_stands None h = tt
  reached_stands (Some s) h = h

  if_stands : (b : Bool) (o : Option Located) → AllStand activations o → ReachesStanding activations (reach_if_found b o)
  if_stands true o h = reached_stands o h
  if_stands false o h = tt

  reference_stands : (named : Option TyId) (o : Option Located) → AllStand activations o → ReachesStanding activations (by_reference_found items named o)
  reference_stands None o h = tt
  reference_stands (Some id) None h = tt
  reference_stands (Some id) (Some s) h = if_stands (is_of_type items id s.dynamic) (Some s) h

  field_stands : (variant n : ℕ) (value : Datum) (s : Located) → Stands activations s → ReachesStanding activations (into_field_found items variant n value s)
  field_stands variant n (Aggregate active serial parts) s h = if_stands (variant == active) (into items (Part n) s) (into_stands (Part n) s h)
  field_stands variant n other s h = tt

  element_stands : (index : Datum) (s : Located) → Stands activations s → ReachesStanding activations (into_element_found items index s)
  element_stands (Number (pos n)) s h = reached_stands (into items (Part n) s) (into_stands (Part n) s h)
  element_stands other s h = tt

module _ (setting : Setting) (w : State) where
  root_stands : (a : Activation) (depth key : ℕ) → at_depth depth w.activations ≡ Some a → (ty : Option TyId) → AllStand w.activations (located_root_found depth key a.cells ty)
  root_stands a depth key e None = tt
  root_stands a depth key e (Some id) = record { there = ap Some (ap (λ o. option_map_or (λ a. cell key a.cells) o Gone) e) }

  pub located_stands : (address : Addr) → AllStand w.activations (located_at setting w address)
  located_stands address = go (at_depth address.depth w.activations) refl
    where
      go : (o : Option Activation) → at_depth address.depth w.activations ≡ o → AllStand w.activations (located_at setting w address)
      go None e = rw e tt
      go (Some a) e =
          rw e (and_then_stands w.activations setting.items (into_all_found setting.items address.path) (into_all_stand w.activations setting.items address.path)
          (located_root_found address.depth address.key.0 a.cells (setting.local_ty a.body address.key.0)) (root_stands a address.depth address.key.0 e (setting.local_ty a.body address.key.0)))

  through_stands : (value : Datum) (s : Located) → Stands w.activations s → (cells : Cells) → ReachesStanding w.activations (through_found setting w cells value s)
  through_stands (Address address) s h cells =
      reference_stands w.activations setting.items (named_by_found (concrete_ty setting.items s.dynamic)) (located_at setting w address) (located_stands address)
  through_stands (Box serial impl_no inside) s h cells = reached_stands w.activations setting.items (into setting.items Inside s) (into_stands w.activations setting.items Inside s h)
  through_stands Gone s h cells = tt
  through_stands (Number number) s h cells = tt
  through_stands (Truth truth) s h cells = tt
  through_stands UnitValue s h cells = tt
  through_stands (Aggregate variant serial parts) s h cells = tt

  follow_stands : (cells : Cells) (step : Step) (s : Located) → Stands w.activations s → ReachesStanding w.activations (follow_found setting w cells step s)
  follow_stands cells (ToPart n) s h = reached_stands w.activations setting.items (into setting.items (Part n) s) (into_stands w.activations setting.items (Part n) s h)
  follow_stands cells (ToField variant n) s h = field_stands w.activations setting.items variant n s.value s h
  follow_stands cells ToContent s h = through_stands s.value s h cells
  follow_stands cells (ToElement index) s h = element_stands w.activations setting.items (cell index cells) s h

  follow_from_stands : (cells : Cells) (step : Step) (value : Datum) (s : Located) → Stands w.activations s → ReachesStanding w.activations (follow_from_found setting w cells step value s)
  follow_from_stands cells step Gone s h = tt
  follow_from_stands cells step other s h = follow_stands cells step s h

  on_reached_stands : (f : Located → Reached) → ((s : Located) → Stands w.activations s → ReachesStanding w.activations (f s)) → (r : Reached) → ReachesStanding w.activations r →
      ReachesStanding w.activations (on_reached r f CutOff Nowhere)
  on_reached_stands f e (Reaches s) h = e s h
  on_reached_stands f e CutOff h = tt
  on_reached_stands f e Nowhere h = tt

  along_stands : (cells : Cells) (steps : List Step) (s : Located) → Stands w.activations s → ReachesStanding w.activations (along_found setting w cells steps s)
  along_stands cells [] s h = h
  along_stands cells (step ∷ steps) s h =
      on_reached_stands (along_found setting w cells steps) (along_stands cells steps) (follow_from_found setting w cells step s.value s) (follow_from_stands cells step s.value s h)

  at_youngest : (a : Activation) (older : List Activation) → at_depth (length older) (a ∷ older) ≡ Some a
  at_youngest a older = rw ((Decides-eqb (length older) (length older)).1 refl) refl

  pub reach_stands : (place : Place) → ReachesStanding w.activations (reach setting w place)
  reach_stands place = go w.activations refl
    where
      go : (acts : List Activation) → w.activations ≡ acts → ReachesStanding w.activations (reach setting w place)
      go [] e = rw e tt
      go (a ∷ older) e =
          let root = root_stands a (length older) place.local (ap (at_depth (length older)) e ∙ at_youngest a older) (setting.local_ty a.body place.local) in
          let h = on_reached_stands (along_found setting w a.cells place.steps) (along_stands a.cells place.steps)
          (reach_of_found (located_root_found (length older) place.local a.cells (setting.local_ty a.body place.local)))
          (reached_stands w.activations setting.items (located_root_found (length older) place.local a.cells (setting.local_ty a.body place.local)) root) in
          subst (ReachesStanding w.activations) (sym (reach_is setting w place a older e)) h

-- Where a place is, and what stands there, is the same under two settings that answer alike; and it is found as types
-- that are written alike.
use Rattle.std.proofs.Common.{◌≡◌, ℕ, pos, Bool, true, false, ◌==◌, List, [], ◌∷◌, length, Option, Some, None, refl, subst}
use Rattle.std.specs.Prelude.{option_and_then}
use Rattle.std.specs.Option.{option_map_or}
use Rattle.mir_ty.specs.declared.ty.TyId.{TyId}
use Rattle.mir_ty.specs.ItemTable.{ItemTable}
use Rattle.store_model.specs.declared.address.Addr.{Addr}
use Rattle.store_model.specs.declared.address.At.{At}
use Rattle.store_model.specs.declared.address.At.TheVariants.{Part, Inside}
use Rattle.store_model.specs.Concrete.Location.{Setting, DynamicType, concrete_ty, is_of_type, type_of_part, named_by, Located, below, located_part, into, into_all, root_address, located_root, located_in, located_at, Reached, Reaches, CutOff, Nowhere, reach_of, reach_if, on_reached, by_reference, into_element, through, into_field, follow, follow_from, along, in_youngest, reach}
use Rattle.store_model.specs.Concrete.State.{State, Activation, Cells, cell, at_depth}
use Rattle.store_model.specs.Places.Place.{Step, ToPart, ToField, ToContent, ToElement, Place}
use Rattle.store_model.specs.Values.Access.{part}
use Rattle.store_model.specs.Values.Datum.{Datum, Gone, Number, Aggregate, Box, Address}
use Rattle.listing_write.proofs.Reading.Tested.{OptId}
use Rattle.listing_runs.proofs.Asked.{AnswersAlike, DynAlike, of_type, OptDyn, no_dynamic, a_dynamic, by_ids, named_alike, concrete_alike, of_type_same, part_alike}

module _ (left right : ItemTable) where
  -- one value at one address
  pub data LocatedAlike : Located → Located → Type 0 where
    stands : (address : Addr) (value : Datum) {d e : DynamicType} → DynAlike left right d e →
        LocatedAlike (record { address = address; dynamic = d; value = value })
        (record { address = address; dynamic = e; value = value })

  pub data OptLocated : Option Located → Option Located → Type 0 where
    no_place : OptLocated None None
    a_place : {s t : Located} → LocatedAlike s t → OptLocated (Some s) (Some t)

  pub data ReachedAlike : Reached → Reached → Type 0 where
    both_reach : {s t : Located} → LocatedAlike s t → ReachedAlike (Reaches s) (Reaches t)
    both_cut_off : ReachedAlike CutOff CutOff
    both_nowhere : ReachedAlike Nowhere Nowhere

  pub found_as : (s t : Located) → LocatedAlike s t → DynAlike left right s.dynamic t.dynamic
  found_as s t (stands address value h) = h

  -- what is done with a value and its address alone
  pub stands_same : {A : Type 0} (f : Addr → Datum → A) (s t : Located) → LocatedAlike s t →
      f s.address s.value ≡ f t.address t.value
  stands_same f s t (stands address value h) = refl

  -- what comes next, where something stands
  pub then_located : (f g : Located → Option Located) (x y : Option Located) → OptLocated x y →
      ((s t : Located) → LocatedAlike s t → OptLocated (f s) (g t)) →
      OptLocated (option_and_then f x) (option_and_then g y)
  then_located f g _ _ no_place on = no_place
  then_located f g _ _ (a_place {s = s} {t = t} h) on = on s t h

  pub then_reached : (f g : Located → Reached) (x y : Reached) → ReachedAlike x y →
      ((s t : Located) → LocatedAlike s t → ReachedAlike (f s) (g t)) →
      ReachedAlike (on_reached x f CutOff Nowhere) (on_reached y g CutOff Nowhere)
  then_reached f g _ _ (both_reach {s = s} {t = t} h) on = on s t h
  then_reached f g _ _ both_cut_off on = both_cut_off
  then_reached f g _ _ both_nowhere on = both_nowhere

  -- and where what comes next gives one thing
  pub located_same : {A : Type 0} (f g : Located → A) (none : A) (x y : Option Located) → OptLocated x y →
      ((s t : Located) → LocatedAlike s t → f s ≡ g t) → option_map_or f x none ≡ option_map_or g y none
  located_same f g none _ _ no_place on = refl
  located_same f g none _ _ (a_place {s = s} {t = t} h) on = on s t h

  pub reached_same : {A : Type 0} (f g : Located → A) (cut cut' none : A) → cut ≡ cut' → (x y : Reached) →
      ReachedAlike x y → ((s t : Located) → LocatedAlike s t → f s ≡ g t) →
      on_reached x f cut none ≡ on_reached y g cut' none
  reached_same f g cut cut' none c _ _ (both_reach {s = s} {t = t} h) on = on s t h
  reached_same f g cut cut' none c _ _ both_cut_off on = c
  reached_same f g cut cut' none c _ _ both_nowhere on = refl

  reach_of_alike : (x y : Option Located) → OptLocated x y → ReachedAlike (reach_of x) (reach_of y)
  reach_of_alike _ _ no_place = both_nowhere
  reach_of_alike _ _ (a_place h) = both_reach h

  reach_if_alike : (b c : Bool) → b ≡ c → (x y : Option Located) → OptLocated x y →
      ReachedAlike (reach_if b x) (reach_if c y)
  reach_if_alike b c h x y k = subst (λ q. ReachedAlike (reach_if b x) (reach_if q y)) h (own b)
    where
      own : (b : Bool) → ReachedAlike (reach_if b x) (reach_if b y)
      own true = reach_of_alike x y k
      own false = both_nowhere

  root_alike : (depth key : ℕ) (cells : Cells) (x y : Option TyId) → OptId left right x y →
      OptLocated (located_root depth key cells x) (located_root depth key cells y)
  root_alike depth key cells =
      by_ids left right (λ x y. OptLocated (located_root depth key cells x) (located_root depth key cells y)) no_place
      (λ a b h. a_place (stands (root_address depth key) (cell key cells) (of_type h)))

  module _ (alike : AnswersAlike left right) where
    -- a part of a value
    pub into_alike : (step : At) (s t : Located) → LocatedAlike s t → OptLocated (into left step s) (into right step t)
    into_alike step s t (stands address value {d = d} {e = e} h) =
        by (part step value) (type_of_part left step value d) (type_of_part right step value e)
        (part_alike left right alike step value d e h)
      where
        by : (o : Option Datum) (x y : Option DynamicType) → OptDyn left right x y →
            OptLocated (located_part s step o x) (located_part t step o y)
        by (Some v) _ _ no_dynamic = no_place
        by (Some v) _ _ (a_dynamic k) = a_place (stands (below address step) v k)
        by None x y k = no_place

    pub into_all_alike : (path : List At) (s t : Located) → LocatedAlike s t →
        OptLocated (into_all left path s) (into_all right path t)
    into_all_alike [] s t h = a_place h
    into_all_alike (step ∷ path) s t h =
        then_located (into_all left path) (into_all right path) (into left step s) (into right step t)
        (into_alike step s t h) (into_all_alike path)

    by_reference_alike : (x y : Option TyId) → OptId left right x y → (p q : Option Located) → OptLocated p q →
        ReachedAlike (by_reference left x p) (by_reference right y q)
    by_reference_alike None None h p q k = both_nowhere
    by_reference_alike (Some a) (Some b) h _ _ no_place = both_nowhere
    by_reference_alike (Some a) (Some b) h _ _ (a_place {s = s} {t = t} k) =
        reach_if_alike (is_of_type left a s.dynamic) (is_of_type right b t.dynamic)
        (of_type_same left right alike a b h s.dynamic t.dynamic (found_as s t k)) (Some s) (Some t) (a_place k)
    by_reference_alike None (Some b) h p q k = absurd h
    by_reference_alike (Some a) None h p q k = absurd h

-- two settings that answer alike
pub record SettingsAlike (left right : Setting) : Type 0 where
  pub items : AnswersAlike left.items right.items
  pub locals : (body local : ℕ) → OptId left.items right.items (left.local_ty body local) (right.local_ty body local)
  pub strict : left.strict ≡ right.strict

module _ (left right : Setting) (alike : SettingsAlike left right) where
  abbrev L : ItemTable
  L = left.items

  abbrev R : ItemTable
  R = right.items

  local_alike : (w : State) (depth key : ℕ) (a : Option Activation) →
      OptLocated L R (located_in left w depth key a) (located_in right w depth key a)
  local_alike w depth key None = no_place
  local_alike w depth key (Some a) =
      root_alike L R depth key a.cells (left.local_ty a.body key) (right.local_ty a.body key) (alike.locals a.body key)

  pub at_alike : (w : State) (address : Addr) → OptLocated L R (located_at left w address) (located_at right w address)
  at_alike w address =
      then_located L R (into_all L address.path) (into_all R address.path)
      (located_in left w address.depth address.key.0 (at_depth address.depth w.activations))
      (located_in right w address.depth address.key.0 (at_depth address.depth w.activations))
      (local_alike w address.depth address.key.0 (at_depth address.depth w.activations))
      (into_all_alike L R alike.items address.path)

  module _ (w : State) (cells : Cells) where
    element_alike : (index : Datum) (s t : Located) → LocatedAlike L R s t →
        ReachedAlike L R (into_element left w cells index s) (into_element right w cells index t)
    element_alike (Number (pos n)) s t h =
        reach_of_alike L R (into L (Part n) s) (into R (Part n) t) (into_alike L R alike.items (Part n) s t h)
    element_alike index s t h = both_nowhere

    through_alike : (value : Datum) (s t : Located) → LocatedAlike L R s t →
        ReachedAlike L R (through left w cells value s) (through right w cells value t)
    through_alike (Address address) s t h =
        by_reference_alike L R alike.items (named_by (concrete_ty L s.dynamic)) (named_by (concrete_ty R t.dynamic))
        (named_alike L R (concrete_ty L s.dynamic) (concrete_ty R t.dynamic)
        (concrete_alike L R alike.items s.dynamic t.dynamic (found_as L R s t h)))
        (located_at left w address) (located_at right w address) (at_alike w address)
    through_alike (Box serial impl_no inside) s t h =
        reach_of_alike L R (into L Inside s) (into R Inside t) (into_alike L R alike.items Inside s t h)
    through_alike value s t h = both_nowhere

    field_alike : (variant n : ℕ) (value : Datum) (s t : Located) → LocatedAlike L R s t →
        ReachedAlike L R (into_field left w cells variant n value s) (into_field right w cells variant n value t)
    field_alike variant n (Aggregate active serial parts) s t h =
        reach_if_alike L R (variant == active) (variant == active) refl (into L (Part n) s) (into R (Part n) t)
        (into_alike L R alike.items (Part n) s t h)
    field_alike variant n value s t h = both_nowhere

    follow_alike : (step : Step) (s t : Located) → LocatedAlike L R s t →
        ReachedAlike L R (follow left w cells step s) (follow right w cells step t)
    follow_alike (ToPart n) s t h =
        reach_of_alike L R (into L (Part n) s) (into R (Part n) t) (into_alike L R alike.items (Part n) s t h)
    follow_alike (ToField variant n) s t (stands address value h) =
        field_alike variant n value s t (stands address value h)
    follow_alike ToContent s t (stands address value h) = through_alike value s t (stands address value h)
    follow_alike (ToElement index) s t h = element_alike (cell index cells) s t h

    from_alike : (step : Step) (value : Datum) (s t : Located) → LocatedAlike L R s t →
        ReachedAlike L R (follow_from left w cells step value s) (follow_from right w cells step value t)
    from_alike step Gone s t h = both_cut_off
    from_alike step value s t h = follow_alike step s t h

    step_from : (step : Step) (s t : Located) → LocatedAlike L R s t →
        ReachedAlike L R (follow_from left w cells step s.value s) (follow_from right w cells step t.value t)
    step_from step s t (stands address value h) = from_alike step value s t (stands address value h)

    along_alike : (steps : List Step) (s t : Located) → LocatedAlike L R s t →
        ReachedAlike L R (along left w cells steps s) (along right w cells steps t)
    along_alike [] s t h = both_reach h
    along_alike (step ∷ steps) s t h =
        then_reached L R (along left w cells steps) (along right w cells steps)
        (follow_from left w cells step s.value s)
        (follow_from right w cells step t.value t) (step_from step s t h) (along_alike steps)

  youngest_alike : (w : State) (place : Place) (activations : List Activation) →
      ReachedAlike L R (in_youngest left w place activations) (in_youngest right w place activations)
  youngest_alike w place [] = both_nowhere
  youngest_alike w place (a ∷ older) =
      let local : ℕ = place.local in
      then_reached L R (along left w a.cells place.steps) (along right w a.cells place.steps)
      (reach_of (located_root (length older) local a.cells (left.local_ty a.body local)))
      (reach_of (located_root (length older) local a.cells (right.local_ty a.body local)))
      (reach_of_alike L R (located_root (length older) local a.cells (left.local_ty a.body local))
      (located_root (length older) local a.cells (right.local_ty a.body local))
      (root_alike L R (length older) local a.cells (left.local_ty a.body local) (right.local_ty a.body local)
      (alike.locals a.body local)))
      (along_alike w a.cells place.steps)

  pub reach_alike : (w : State) (place : Place) → ReachedAlike L R (reach left w place) (reach right w place)
  reach_alike w place = youngest_alike w place w.activations

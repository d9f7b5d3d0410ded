-- What a place of the body that runs leads to stands at its address, whatever the place is: so what is done with a
-- place can be said by addresses alone.
use Rattle.std.proofs.Common.{◌≡◌, ℕ, ◌==◌, pos, Bool, true, false, List, [], ◌∷◌, ◌++◌, length, Option, Some, None, if◌then◌else◌, refl, ap, sym, ◌∙◌, subst, append_assoc}
use Rattle.std.specs.Prelude.{option_and_then}
use Rattle.std.proofs.lemmas.Bool.Decides.{Decides-eqb}
use Rattle.std.proofs.lemmas.List.{append-nil}
use Rattle.std.proofs.lemmas.Option.{none-some}
use Rattle.mir_ty.specs.declared.ty.TyId.{TyId}
use Rattle.mir_ty.specs.ItemTable.{ItemTable}
use Rattle.store_model.specs.declared.address.Addr.{Addr}
use Rattle.store_model.specs.declared.address.At.{At}
use Rattle.store_model.specs.declared.address.At.TheVariants.{Part, Inside}
use Rattle.store_model.specs.Values.Datum.{Datum, Gone, Number, Truth, UnitValue, Aggregate, Box, Address}
use Rattle.store_model.specs.Places.Place.{Step, ToPart, ToField, ToContent, ToElement, Place}
use Rattle.store_model.specs.Concrete.Location.{Setting, OfType, concrete_ty, is_of_type, Located, into, into_all, located_root, located_in, located_at, Reached, Reaches, CutOff, Nowhere, reach_of, reach_if, on_reached, named_by, by_reference, into_element, through, into_field, follow, follow_from, along, in_youngest, reach}
use Rattle.store_model.specs.Concrete.State.{State, Activation, Cells, cell, at_depth}
use Rattle.soundness_values.proofs.Standings.{part_of, located_below, runs_at}

some_reached : (o : Option Located) (u : Located) → reach_of o ≡ Reaches u → o ≡ Some u
some_reached None u e = absurd (let never : ⊥ = cc in never)
some_reached (Some s) u e = let same : s ≡ u = cc in ap (λ (x : Located). Some x) same

some_reached_if : (b : Bool) (o : Option Located) (u : Located) → reach_if b o ≡ Reaches u → o ≡ Some u
some_reached_if true o u e = some_reached o u e
some_reached_if false o u e = absurd (let never : ⊥ = cc in never)

module _ (setting : Setting) where
  abbrev I : ItemTable
  I = setting.items

  address_in : (path : List At) (s t : Located) → into_all I path s ≡ Some t →
      t.address ≡ record s.address { path = s.address.path ++ path }
  address_in [] s t e =
      let same : s ≡ t = cc in
      ap (λ (x : Located). x.address) (sym same) ∙ ap (λ p. record s.address { path = p })
      (sym (append-nil s.address.path))
  address_in (step ∷ path) s t e = by (λ u h. address_in path u t h) (into I step s) refl e
    where
      by : ((u : Located) → into_all I path u ≡ Some t →
          t.address ≡ record u.address { path = u.address.path ++ path }) → (o : Option Located) →
          into I step s ≡ o →
          option_and_then (into_all I path) o ≡ Some t →
          t.address ≡ record s.address { path = s.address.path ++ step ∷ path }
      by later None k e = absurd (none-some t e)
      by later (Some u) k e =
          let p = part_of I step s u k in
          later u e ∙ ap (λ (x : Located). record x.address { path = x.address.path ++ path }) p.is_it
          ∙ ap (λ q. record s.address { path = q }) (append_assoc s.address.path (step ∷ []) path)

  -- what stands at an address has it
  pub address_of : (w : State) (a : Addr) (s : Located) → located_at setting w a ≡ Some s → s.address ≡ a
  address_of w a s e = let r = runs_at setting w a s e in
      address_in a.path (record {
        address = record a { path = [] };
        dynamic = OfType r.id;
        value =
            cell a.key.0 r.act.cells;
      }) s r.leads

  module _ (w : State) where
    abbrev Stands : Located → Type 0
    Stands s = located_at setting w s.address ≡ Some s

    part_stands : (step : At) (s u : Located) → Stands s → into I step s ≡ Some u → Stands u
    part_stands step s u h e =
        let p = part_of I step s u e in
        ap (λ (x : Located). located_at setting w x.address) p.is_it ∙ located_below setting w s.address s step h ∙ e

    named_stands : (a : Addr) (u : Located) → located_at setting w a ≡ Some u → Stands u
    named_stands a u e = ap (located_at setting w) (address_of w a u e) ∙ e

    behind_stands : (id : Option TyId) (a : Addr) (u : Located) (o : Option Located) → located_at setting w a ≡ o →
        by_reference I id o ≡ Reaches u → Stands u
    behind_stands None a u o h e = absurd (let never : ⊥ = cc in never)
    behind_stands (Some id) a u None h e = absurd (let never : ⊥ = cc in never)
    behind_stands (Some id) a u (Some s) h e =
        named_stands a u (h ∙ some_reached_if (is_of_type I id s.dynamic) (Some s) u e)

    module _ (cells : Cells) where
      element_stands : (d : Datum) (s u : Located) → Stands s → into_element setting w cells d s ≡ Reaches u →
          Stands u
      element_stands (Number (pos n)) s u h e = part_stands (Part n) s u h (some_reached (into I (Part n) s) u e)
      element_stands other s u h e = absurd (let never : ⊥ = cc in never)

      through_stands : (d : Datum) (s u : Located) → Stands s → through setting w cells d s ≡ Reaches u → Stands u
      through_stands (Address address) s u h e = behind_stands (named_by (concrete_ty I s.dynamic)) address u
          (located_at setting w address) refl e
      through_stands (Box serial impl_no inside) s u h e =
          part_stands Inside s u h (some_reached (into I Inside s) u e)
      through_stands Gone s u h e = absurd (let never : ⊥ = cc in never)
      through_stands (Number number) s u h e = absurd (let never : ⊥ = cc in never)
      through_stands (Truth truth) s u h e = absurd (let never : ⊥ = cc in never)
      through_stands UnitValue s u h e = absurd (let never : ⊥ = cc in never)
      through_stands (Aggregate variant serial parts) s u h e = absurd (let never : ⊥ = cc in never)

      field_stands : (variant n : ℕ) (d : Datum) (s u : Located) → Stands s →
          into_field setting w cells variant n d s
          ≡ Reaches u → Stands u
      field_stands variant n (Aggregate active serial parts) s u h e =
          part_stands (Part n) s u h (some_reached_if (variant == active) (into I (Part n) s) u e)
      field_stands variant n other s u h e = absurd (let never : ⊥ = cc in never)

      follow_stands : (step : Step) (s u : Located) → Stands s → follow setting w cells step s ≡ Reaches u → Stands u
      follow_stands (ToPart n) s u h e = part_stands (Part n) s u h (some_reached (into I (Part n) s) u e)
      follow_stands (ToField variant n) s u h e = field_stands variant n s.value s u h e
      follow_stands ToContent s u h e = through_stands s.value s u h e
      follow_stands (ToElement index) s u h e = element_stands (cell index cells) s u h e

      from_stands : (step : Step) (d : Datum) (s u : Located) → Stands s → follow_from setting w cells step d s
          ≡ Reaches u → Stands u
      from_stands step Gone s u h e = absurd (let never : ⊥ = cc in never)
      from_stands step other s u h e = follow_stands step s u h e

      along_stands : (steps : List Step) (s t : Located) → Stands s → along setting w cells steps s ≡ Reaches t →
          Stands t
      along_stands [] s t h e = let same : s ≡ t = cc in subst Stands same h
      along_stands (step ∷ steps) s t h e = by (λ u k. along_stands steps u t k)
          (follow_from setting w cells step s.value s) refl e
        where
          by : ((u : Located) → Stands u → along setting w cells steps u ≡ Reaches t → Stands t) → (r : Reached) →
              follow_from setting w cells step s.value s ≡ r →
              on_reached r (along setting w cells steps) CutOff Nowhere ≡ Reaches t → Stands t
          by later (Reaches u) k e = later u (from_stands step s.value s u h k) e
          by later CutOff k e = absurd (let never : ⊥ = cc in never)
          by later Nowhere k e = absurd (let never : ⊥ = cc in never)

  same_depth : (n : ℕ) → (n == n) ≡ true
  same_depth n = (Decides-eqb n n).1 refl

  -- a place that is reached
  pub reached_stands : (w : State) (place : Place) (t : Located) → reach setting w place ≡ Reaches t →
      located_at setting w t.address ≡ Some t
  reached_stands w place t e = by w.activations refl e
    where
      root : (a : Activation) (older : List Activation) → w.activations ≡ a ∷ older → (o : Option TyId) →
          setting.local_ty a.body place.local ≡ o →
          on_reached (reach_of (located_root (length older) place.local a.cells o))
          (along setting w a.cells place.steps) CutOff Nowhere ≡ Reaches t → located_at setting w t.address ≡ Some t
      root a older k None d e = absurd (let never : ⊥ = cc in never)
      root a older k (Some id) d e =
          let start : Located =
          record {
            address = record { depth = length older; key = (record { 0 = place.local }); path = [] };
            dynamic = OfType id;
            value = cell place.local a.cells;
          } in
          let found : at_depth (length older) w.activations ≡ Some a = ap (at_depth (length older)) k
          ∙ ap (λ b. if b then Some a else at_depth (length older) older) (same_depth (length older)) in
          let stands : located_at setting w start.address ≡ Some start =
          ap (λ o. option_and_then (into_all I []) (located_in setting w (length older) place.local o)) found
          ∙ ap (λ o. option_and_then (into_all I []) (located_root (length older) place.local a.cells o)) d in
          along_stands w a.cells place.steps start t stands e

      by : (acts : List Activation) → w.activations ≡ acts → in_youngest setting w place acts ≡ Reaches t →
          located_at setting w t.address ≡ Some t
      by [] k e = absurd (let never : ⊥ = cc in never)
      by (a ∷ older) k e = root a older k (setting.local_ty a.body place.local) refl e

-- A body that runs, with what is known of it: its locals fit what is present, its references name whole values, and
-- the facts of a checked run hold. Where a place that is sure to lead on lies, in a local or behind a reference.
use Rattle.std.proofs.Common.{◌≡◌, ℕ, pos, ◌<◌, ◌==◌, ◌&&◌, not, Bool, true, false, List, [], ◌∷◌, ◌++◌, length, Option, Some, None, refl, ap, sym, ◌∙◌, subst}
use Rattle.std.specs.Prelude.{slice_get}
use Rattle.std.specs.Cmp.{first_so, second_so}
use Rattle.std.specs.Cmp.Lexicographic.{pointwise}
use Rattle.std.proofs.lemmas.Bool.{false≢true}
use Rattle.std.proofs.lemmas.Bool.Decides.{Decides-eqb}
use Rattle.mir_ty.specs.declared.ty.TyId.{TyId}
use Rattle.mir_ty.specs.ItemTable.{ItemTable, type_at}
use Rattle.store_model.specs.declared.address.Addr.{Addr}
use Rattle.store_model.specs.declared.address.At.{At}
use Rattle.store_model.specs.Values.Datum.{Datum, Data, Number, Aggregate, Address}
use Rattle.store_model.specs.Values.Access.{value_at}
use Rattle.store_model.specs.Abstract.Effects.{presence}
use Rattle.store_model.specs.Abstract.Presence.{Presence, is_present}
use Rattle.store_model.specs.Places.Place as places
use Rattle.store_model.specs.Places.Place.{Step, ToContent, Place, ty_along, place_ty, same_step, is_reference}
use Rattle.store_model.specs.Concrete.Location.{Setting, OfType, Located, located_at, named_by}
use Rattle.store_model.specs.Concrete.State.{State, Cells, cell}
use Rattle.soundness_values.specs.Frames.{Apart}
use Rattle.soundness_values.proofs.Sealed.{Sealed}
use Rattle.soundness_values.proofs.Along.{path_at, containers_along, present_containers, as_itself}
use Rattle.soundness_values.proofs.Leading.{are_sure, Leads, leads_found}
use Rattle.soundness_values.proofs.FoundAlike.{found_as}
use Rattle.soundness_values.proofs.Facts.{Naming, Facts, Each, found_among, OfVariant, same_place, bounded_by, variant_at}
use Rattle.soundness_values.proofs.Frames.{AllApart}
use Rattle.soundness_values.proofs.Known.{Target, Known}
use Rattle.soundness_values.proofs.Behind.{names_it}
use Rattle.soundness_values.proofs.Steps.{step_same}

-- ---- what is asked of a place

module _ (items : ItemTable) (local_ty : ℕ → Option TyId) (is_target : ℕ → Bool) (facts : Facts) where
  abbrev pub sure_behind : ℕ → TyId → List Step → Bool
  sure_behind local to (ToContent ∷ steps) = are_sure items (bounded_by facts)
      (variant_at facts local (ToContent ∷ []))
      [] steps to
  sure_behind local to steps = false

  -- behind a reference that is a parameter, or in a local that holds none
  abbrev pub sure_from : Place → TyId → Option TyId → Bool
  sure_from place id (Some to) = is_target place.local && sure_behind place.local to place.steps
  sure_from place id None = not (is_target place.local) && are_sure items (bounded_by facts)
      (variant_at facts place.local []) [] place.steps id

  abbrev pub sure_in : Place → Option TyId → Bool
  sure_in place None = false
  sure_in place (Some id) = sure_from place id (named_by (type_at items id))

  -- the place leads on, whatever stands there
  abbrev pub sure_place : Place → Bool
  sure_place place = sure_in place (local_ty place.local)

module _ (setting : Setting) (number : ℕ) (targets : List Target) (uniques : List Addr) (base : State)
    (is_target : ℕ → Bool) where
  abbrev items : ItemTable
  items = setting.items

  abbrev pub local_ty : ℕ → Option TyId
  local_ty key = setting.local_ty number key

  -- what the reference parameters name, as they were passed
  pub record Passed : Type 0 where
    pub apart : AllApart setting uniques
    pub position : (n : ℕ) (t : Target) → slice_get targets n ≡ Some t → t.unique ≡ true →
        (m : ℕ) × (slice_get uniques m ≡ Some t.address)
    pub stood : (n : ℕ) (t : Target) → slice_get targets n ≡ Some t →
        (s : Located) × (located_at setting base t.address ≡ Some s)
    pub alone : (n j : ℕ) (t u : Target) → slice_get targets n ≡ Some t → slice_get targets j ≡ Some u →
        (j == n) ≡ false → t.unique ≡ true → Apart u.address t.address
    pub one_local : (n j : ℕ) (t u : Target) → slice_get targets n ≡ Some t → slice_get targets j ≡ Some u →
        t.local ≡ u.local → n ≡ j
    pub is_param : (n : ℕ) (t : Target) → slice_get targets n ≡ Some t → is_target t.local ≡ true
    pub typed : (n : ℕ) (t : Target) → slice_get targets n ≡ Some t →
        (id : TyId) × ((local_ty t.local ≡ Some id) × (type_at items id ≡ Some (names_it t.unique t.to)))
    pub all : (local : ℕ) → is_target local ≡ true →
        (n : ℕ) × ((t : Target) × ((slice_get targets n ≡ Some t) × (t.local ≡ local)))

  -- ---- the facts hold

  abbrev pub BoundedHolds : Cells → ℕ × ℕ → Type 0
  BoundedHolds held b = (n : ℕ) × ((cell b.0 held ≡ Number (pos n)) × (n < b.1))

  -- a value of a variant stands at a place
  pub data VariantStands (w : State) (held : Cells) (place : Place) (variant : ℕ) : Type 0 where
    own_variant : is_target place.local ≡ false → OfVariant variant (path_at held place.steps)
        (cell place.local held) →
        VariantStands w held place variant
    behind_variant : (n : ℕ) (t : Target) → slice_get targets n ≡ Some t → t.local ≡ place.local →
        (steps : List Step) →
        place.steps ≡ ToContent ∷ steps →
        (s : Located) → located_at setting w t.address ≡ Some s → OfVariant variant (path_at held steps) s.value →
        VariantStands w held place variant

  abbrev pub own_place : ℕ → ℕ → List At → Addr
  own_place depth local path = record { depth = depth; key = (record { 0 = local }); path = path }

  -- a local holds a reference to a place
  pub data NamingHolds (depth : ℕ) (held : Cells) (naming : Naming) : Type 0 where
    own_named : is_target naming.place.local ≡ false → cell naming.local held ≡ Address
        (own_place depth naming.place.local (path_at held naming.place.steps)) → NamingHolds depth held naming
    behind_named : (n : ℕ) (t : Target) → slice_get targets n ≡ Some t → t.local ≡ naming.place.local →
        (steps : List Step) → naming.place.steps ≡ ToContent ∷ steps →
        cell naming.local held ≡ Address (record t.address { path = t.address.path ++ path_at held steps }) →
        NamingHolds depth held naming

  pub record Holding (w : State) (depth : ℕ) (held : Cells) (facts : Facts) : Type 0 where
    pub bounded : Each (BoundedHolds held) facts.bounded
    pub variants : Each (λ v. VariantStands w held v.0 v.1) facts.variants
    pub naming : Each (NamingHolds depth held) facts.naming

  pub record Runs (w : State) (cells : List (ℕ × Presence)) (facts : Facts) : Type 0 where
    pub known : Known setting number targets uniques base w cells
    pub holding : Holding w (length known.older) known.held facts
    pub sealed : (key : ℕ) → Sealed (cell key known.held)

  -- ---- what the facts say of a value

  bounds_said : (facts : Facts) (w : State) (depth : ℕ) (held : Cells) → Holding w depth held facts → (i count : ℕ) →
      bounded_by facts i count ≡ true → (n : ℕ) × ((cell i held ≡ Number (pos n)) × (n < count))
  bounds_said facts w depth held h i count e =
      let f = found_among (BoundedHolds held) (λ b. b.0 == i && b.1 == count) facts.bounded e h.bounded in
      let is_i : f.0.0 ≡ i = (Decides-eqb f.0.0 i).0 (first_so (f.0.0 == i) (f.0.1 == count) f.1.0) in
      let is_count : f.0.1 ≡ count = (Decides-eqb f.0.1 count).0 (second_so (f.0.0 == i) (f.0.1 == count) f.1.0) in (
        f.1.1.0,
        (
          subst (λ k. cell k held ≡ Number (pos f.1.1.0)) is_i f.1.1.1.0,
          subst (λ k. f.1.1.0 < k) is_count
              f.1.1.1.1,
        ),
      )

  all_same : (a b : List Step) → pointwise same_step a b ≡ true → a ≡ b
  all_same [] [] h = refl
  all_same [] (t ∷ b) h = absurd (false≢true h)
  all_same (s ∷ a) [] h = absurd (false≢true h)
  all_same (s ∷ a) (t ∷ b) h = ap (λ x. x ∷ a) (step_same s t (first_so (same_step s t) (pointwise same_step a b) h))
      ∙ ap (λ l. t ∷ l) (all_same a b (second_so (same_step s t) (pointwise same_step a b) h))

  pub same_place_is : (a b : Place) → same_place a b ≡ true → a ≡ b
  same_place_is a b h =
      let l : a.local ≡ b.local = (Decides-eqb a.local b.local).0
      (first_so (a.local == b.local) (pointwise same_step a.steps b.steps) h) in
      let s : a.steps ≡ b.steps =
      all_same a.steps b.steps (second_so (a.local == b.local) (pointwise same_step a.steps b.steps) h) in
      ap (λ n. record { local = n; steps = a.steps }) l ∙ ap (λ t. record { local = b.local; steps = t }) s

  same_variant : (variant v : ℕ) (path : List At) (root : Datum) (serial : Option ℕ) (parts : Data) →
      OfVariant v path root → value_at path root ≡ Some (Aggregate variant serial parts) → variant ≡ v
  same_variant variant v path root serial parts o e = head (sym e ∙ o.there)
    where
      variant_in : Datum → ℕ
      variant_in (Aggregate x s p) = x
      variant_in d = 0

      some_same : {a b : Datum} → Some a ≡ Some b → a ≡ b
      some_same x = cc

      head : Some (Aggregate variant serial parts) ≡ Some (Aggregate v o.serial o.parts) → variant ≡ v
      head x = ap variant_in (some_same x)

  variant_said : (facts : Facts) (w : State) (depth : ℕ) (held : Cells) → Holding w depth held facts →
      (local : ℕ) (first so_far : List Step) (v : ℕ) → variant_at facts local first so_far v ≡ true →
      VariantStands w held (record { local = local; steps = first ++ so_far }) v
  variant_said facts w depth held h local first so_far v e =
      let f = found_among (λ (x : Place × ℕ). VariantStands w held x.0 x.1)
      (λ x. same_place x.0 (record { local = local; steps = first ++ so_far }) && x.1 == v) facts.variants e
      h.variants in
      let place : f.0.0 ≡ record { local = local; steps = first ++ so_far } =
      same_place_is f.0.0 (record { local = local; steps = first ++ so_far })
      (first_so (same_place f.0.0 (record { local = local; steps = first ++ so_far })) (f.0.1 == v) f.1.0) in
      let is_v : f.0.1 ≡ v =
      (Decides-eqb f.0.1 v).0 (second_so (same_place f.0.0 (record { local = local; steps = first ++ so_far }))
      (f.0.1 == v) f.1.0) in
      subst (λ x. VariantStands w held x v) place (subst (λ x. VariantStands w held f.0.0 x) is_v f.1.1)

  module _ (passed : Passed) where
    own_said : (facts : Facts) (w : State) (depth : ℕ) (held : Cells) → Holding w depth held facts → (local : ℕ) →
        is_target local ≡ false →
        (so_far : List Step) (v variant : ℕ) (serial : Option ℕ) (parts : Data) →
        variant_at facts local [] so_far v ≡ true → value_at (path_at held so_far) (cell local held) ≡ Some
        (Aggregate variant serial parts) → variant ≡ v
    own_said facts w depth held h local own so_far v variant serial parts e there =
        by (variant_said facts w depth held h local [] so_far v e)
      where
        by : VariantStands w held (record { local = local; steps = so_far }) v → variant ≡ v
        by (own_variant _ o) = same_variant variant v (path_at held so_far) (cell local held) serial parts o there
        by (behind_variant n t at same steps is s stands o) =
            absurd (false≢true (sym own ∙ subst (λ l. is_target l ≡ true) same (passed.is_param n t at)))

    behind_said : (facts : Facts) (w : State) (depth : ℕ) (held : Cells) → Holding w depth held facts →
        (n : ℕ) (t : Target) → slice_get targets n ≡ Some t → (s : Located) →
        located_at setting w t.address ≡ Some s →
        (so_far : List Step) (v variant : ℕ) (serial : Option ℕ) (parts : Data) →
        variant_at facts t.local (ToContent ∷ []) so_far v ≡ true → value_at (path_at held so_far) s.value ≡ Some
        (Aggregate variant serial parts) → variant ≡ v
    behind_said facts w depth held h n t at s stands so_far v variant serial parts e there =
        by (variant_said facts w depth held h t.local (ToContent ∷ []) so_far v e)
      where
        some_same : {a b : Located} → Some a ≡ Some b → a ≡ b
        some_same x = cc

        some_target : {a b : Target} → Some a ≡ Some b → a ≡ b
        some_target x = cc

        rest_of : List Step → List Step
        rest_of [] = []
        rest_of (step ∷ steps) = steps

        by : VariantStands w held (record { local = t.local; steps = ToContent ∷ so_far }) v → variant ≡ v
        by (own_variant own _) = absurd (false≢true (sym own ∙ passed.is_param n t at))
        by (behind_variant m u there_at same steps is r there_stands o) =
            let one : m ≡ n = passed.one_local m n u t there_at at same in
            let is_t : u ≡ t = some_target (sym there_at ∙ ap (slice_get targets) one ∙ at) in
            let is_s : r ≡ s = some_same (sym there_stands ∙ ap (λ (x : Target). located_at setting w x.address) is_t
            ∙ stands) in
            let is_steps : steps ≡ so_far = sym (ap rest_of is) in
            same_variant variant v (path_at held so_far) s.value serial parts
            (subst (λ x. OfVariant v (path_at held x) s.value) is_steps
            (subst (λ (x : Located). OfVariant v (path_at held steps) x.value) is_s o)) there

    -- ---- where a place lies

    pub data Lies (w : State) (cells : List (ℕ × Presence)) (facts : Facts) (runs : Runs w cells facts)
        (place : Place) : Type 0 where
      in_local : (id : TyId) → local_ty place.local ≡ Some id → named_by (type_at items id) ≡ None →
          is_target place.local ≡ false →
          are_sure items (bounded_by facts) (variant_at facts place.local []) [] place.steps id ≡ true →
          Leads items (bounded_by facts) (variant_at facts place.local []) runs.known.held place.steps (OfType id)
          (cell place.local runs.known.held) id → Lies w cells facts runs place
      behind : (n : ℕ) (t : Target) (at : slice_get targets n ≡ Some t) → t.local ≡ place.local →
          (steps : List Step) →
          place.steps ≡ ToContent ∷ steps →
          are_sure items (bounded_by facts) (variant_at facts t.local (ToContent ∷ [])) [] steps t.to ≡ true →
          Leads items (bounded_by facts) (variant_at facts t.local (ToContent ∷ [])) runs.known.held steps
          (runs.known.stands n t at).standing.dynamic (runs.known.stands n t at).standing.value t.to →
          Lies w cells facts runs place

    then_named : (id : TyId) (t : Target) → type_at items id ≡ Some (names_it t.unique t.to) →
        named_by (type_at items id) ≡ Some t.to
    then_named id t e = by t.unique e
      where
        by : (b : Bool) → type_at items id ≡ Some (names_it b t.to) → named_by (type_at items id) ≡ Some t.to
        by true e = ap named_by e
        by false e = ap named_by e

    and_first : (a b : Bool) → (a && b) ≡ true → a ≡ true
    and_first true b h = refl
    and_first false b h = absurd (false≢true h)

    and_second : (a b : Bool) → (a && b) ≡ true → b ≡ true
    and_second true b h = h
    and_second false b h = absurd (false≢true h)

    not_so : (b : Bool) → not b ≡ true → b ≡ false
    not_so true h = absurd (false≢true h)
    not_so false h = refl

    module _ (w : State) (cells : List (ℕ × Presence)) (facts : Facts) (runs : Runs w cells facts) where
      -- of a place that is sure to lead on, in a local no container of which is gone
      pub lies : (place : Place) → sure_place items local_ty is_target facts place ≡ true →
          (is_target place.local ≡ false → containers_along place.steps (presence place.local cells) ≡ true) →
          Lies w cells facts runs place
      lies place s c = by_local (local_ty place.local) refl s
        where
          from_target : (n : ℕ) (t : Target) (at : slice_get targets n ≡ Some t) → t.local ≡ place.local →
              (steps : List Step) → place.steps ≡ steps → sure_behind items local_ty is_target facts place.local t.to
              steps ≡ true → Lies w cells facts runs place
          from_target n t at same [] is h = absurd (false≢true h)
          from_target n t at same (ToContent ∷ steps) is h =
              let sure : are_sure items (bounded_by facts) (variant_at facts t.local (ToContent ∷ [])) [] steps t.to
              ≡ true = subst (λ l. are_sure items (bounded_by facts) (variant_at facts l (ToContent ∷ [])) [] steps
              t.to ≡ true) (sym same) h in
              let st = runs.known.stands n t at in
              behind n t at same steps is sure
              (leads_found items (bounded_by facts) (variant_at facts t.local (ToContent ∷ [])) runs.known.held
              (bounds_said facts w (length runs.known.older) runs.known.held runs.holding) st.standing.value
              (behind_said facts w (length runs.known.older) runs.known.held runs.holding n t at st.standing
              st.stands)
              [] steps t.to st.standing.dynamic is_present st.standing.value
              (found_as items t.to st.standing.dynamic st.of_type st.by_impl) refl st.whole
              (present_containers items steps is_present refl) sure)
          from_target n t at same (places.ToPart k ∷ steps) is h = absurd (false≢true h)
          from_target n t at same (places.ToField v k ∷ steps) is h = absurd (false≢true h)
          from_target n t at same (places.ToElement i ∷ steps) is h = absurd (false≢true h)

          some_same : {a b : TyId} → Some a ≡ Some b → a ≡ b
          some_same x = cc

          by_named : (id : TyId) → local_ty place.local ≡ Some id → (o : Option TyId) →
              named_by (type_at items id) ≡ o → sure_from items local_ty is_target facts place id o ≡ true →
              Lies w cells facts runs place
          by_named id e None d h =
              let own : is_target place.local ≡ false = not_so (is_target place.local)
              (and_first (not (is_target place.local)) _ h) in
              let sure : are_sure items (bounded_by facts) (variant_at facts place.local []) [] place.steps id
              ≡ true =
              and_second (not (is_target place.local)) _ h in
              in_local id e d own sure
              (leads_found items (bounded_by facts) (variant_at facts place.local []) runs.known.held
              (bounds_said facts w (length runs.known.older) runs.known.held runs.holding)
              (cell place.local runs.known.held)
              (own_said facts w (length runs.known.older) runs.known.held runs.holding place.local own)
              [] place.steps id (OfType id) (presence place.local cells) (cell place.local runs.known.held)
              (as_itself items id) refl (runs.known.fits place.local id e) (c own) sure)
          by_named id e (Some to) d h =
              let p = passed.all place.local (and_first (is_target place.local) _ h) in
              let ty = passed.typed p.0 p.1.0 p.1.1.0 in
              let one : ty.0 ≡ id = some_same (sym ty.1.0 ∙ ap local_ty p.1.1.1 ∙ e) in
              let is_to : p.1.0.to ≡ to =
              some_same (sym (then_named ty.0 p.1.0 ty.1.1) ∙ ap (λ i. named_by (type_at items i)) one ∙ d) in
              from_target p.0 p.1.0 p.1.1.0 p.1.1.1 place.steps refl
              (subst (λ x. sure_behind items local_ty is_target facts place.local x place.steps ≡ true) (sym is_to)
              (and_second (is_target place.local) _ h))

          by_local : (o : Option TyId) → local_ty place.local ≡ o → sure_in items local_ty is_target facts place o
              ≡ true → Lies w cells facts runs place
          by_local None e h = absurd (false≢true h)
          by_local (Some id) e h = by_named id e (named_by (type_at items id)) refl h

-- What is known of a place is known as long as the numbers of elements on its way are, and the variants: so while
-- nothing
-- changes that overlaps the place or is an index on its way; and while no index does, where no variant is on the way.
use Rattle.std.proofs.Common.{◌≡◌, ℕ, ◌==◌, ◌||◌, Bool, true, false, List, [], ◌∷◌, ◌++◌, Option, Some, None, refl, ap, sym, ◌∙◌, subst}
use Rattle.std.proofs.lemmas.Bool.{false≢true}
use Rattle.std.proofs.lemmas.Bool.Decides.{Decides-eqb}
use Rattle.mir_ty.specs.declared.ty.TyId.{TyId}
use Rattle.mir_ty.specs.ItemTable.{ItemTable, type_at}
use Rattle.store_model.specs.Concrete.Location.{named_by}
use Rattle.store_model.specs.Places.Place.{Step, ToPart, ToField, ToContent, ToElement, Place}
use Rattle.soundness_values.proofs.Facts.{Facts, bounded_by, variant_at, takes_index}
use Rattle.soundness_frame.proofs.PassFrameFacts.{variant_known, FixedWay, Fixed}
use Rattle.soundness.proofs.PassKnownKept.{steps_kept}
use Rattle.soundness_frame.proofs.PassStays.{FactsStay}
use Rattle.soundness_frame.proofs.PassStillKnown.{Clear, stays_above}
use Rattle.soundness_cells.proofs.PassSure.{known_behind, known_from, known_in, known_place}

-- no step goes into a variant
abbrev pub no_variant : List Step → Bool
no_variant [] = true
no_variant (ToPart n ∷ steps) = no_variant steps
no_variant (ToField variant n ∷ steps) = false
no_variant (ToContent ∷ steps) = no_variant steps
no_variant (ToElement i ∷ steps) = no_variant steps

pub none_at : (above : List Step) (u m : ℕ) (below : List Step) → no_variant (above ++ ToField u m ∷ below) ≡ true → ⊥
none_at [] u m below h = false≢true h
none_at (ToPart n ∷ above) u m below h = none_at above u m below h
none_at (ToField v n ∷ above) u m below h = false≢true h
none_at (ToContent ∷ above) u m below h = none_at above u m below h
none_at (ToElement i ∷ above) u m below h = none_at above u m below h

pub no_variant_then : (steps : List Step) (step : Step) → no_variant steps ≡ true → no_variant (step ∷ []) ≡ true →
    no_variant (steps ++ step ∷ []) ≡ true
no_variant_then [] step h k = k
no_variant_then (ToPart n ∷ steps) step h k = no_variant_then steps step h k
no_variant_then (ToField v n ∷ steps) step h k = absurd (false≢true h)
no_variant_then (ToContent ∷ steps) step h k = no_variant_then steps step h k
no_variant_then (ToElement i ∷ steps) step h k = no_variant_then steps step h k

module _ (items : ItemTable) (local_ty : ℕ → Option TyId) (is_target : ℕ → Bool) (before now : Facts) (place : Place)
  where
    -- the numbers of elements on its way
    abbrev pub BoundsStill : Type 0
    BoundsStill = (i count : ℕ) → takes_index i place.steps ≡ true → bounded_by before i count ≡ true →
        bounded_by now i count ≡ true

    -- the variants on its way
    abbrev pub VariantsStill : Type 0
    VariantsStill = (above : List Step) (u m : ℕ) (below : List Step) (n : ℕ) →
        place.steps ≡ above ++ ToField u m ∷ below →
        variant_known before (record { local = place.local; steps = above }) n ≡ true →
        variant_known now (record { local = place.local; steps = above }) n ≡ true

    module _ (bounds : BoundsStill) (variants : VariantsStill) where
      behind_still : (to : TyId) (steps : List Step) → place.steps ≡ steps →
          known_behind items local_ty is_target before place.local to steps ≡ true →
          known_behind items local_ty is_target now place.local to steps ≡ true
      behind_still to (ToContent ∷ steps) e h = steps_kept items (bounded_by before) (bounded_by now)
          (variant_at before place.local (ToContent ∷ [])) (variant_at now place.local (ToContent ∷ [])) [] steps to
          (λ i count t x. bounds i count (ap (takes_index i) e ∙ t) x)
          (λ above u m below n k x. variants (ToContent ∷ above) u m below n (e ∙ ap (λ l. ToContent ∷ l) k) x) h
      behind_still to [] e h = refl
      behind_still to (ToPart n ∷ steps) e h = refl
      behind_still to (ToField v n ∷ steps) e h = refl
      behind_still to (ToElement i ∷ steps) e h = refl

      pub known_still : known_place items local_ty is_target before place ≡ true →
          known_place items local_ty is_target now place ≡ true
      known_still h = by (local_ty place.local) h
        where
          named : (id : TyId) (o : Option TyId) → known_from items local_ty is_target before place id o ≡ true →
              known_from items local_ty is_target now place id o ≡ true
          named id None h = steps_kept items (bounded_by before) (bounded_by now) (variant_at before place.local [])
              (variant_at now place.local []) [] place.steps id bounds variants h
          named id (Some to) h = behind_still to place.steps refl h

          by : (o : Option TyId) → known_in items local_ty is_target before place o ≡ true →
              known_in items local_ty is_target now place o ≡ true
          by None h = refl
          by (Some id) h = named id (named_by (type_at items id)) h

    module _ (May : Place → Type 0) (stays : FactsStay May before now) where
      other_index : (i z : ℕ) (steps : List Step) → takes_index i steps ≡ true → takes_index z steps ≡ false →
          (i == z) ≡ false
      other_index i z steps t f = by (i == z) refl
        where
          by : (b : Bool) → (i == z) ≡ b → b ≡ false
          by false e = refl
          by true e = absurd (false≢true (sym f ∙ subst (λ k. takes_index k steps ≡ true) ((Decides-eqb i z).0 e) t))

      way_still : FixedWay May place.steps → BoundsStill
      way_still way i count t h = stays.bounded i count (λ q m. other_index i q.local place.steps t (way q m)) h

      -- where no variant is on the way
      pub known_way : FixedWay May place.steps → no_variant place.steps ≡ true →
          known_place items local_ty is_target before place ≡ true → known_place items local_ty is_target now place ≡ true
      known_way way none h = known_still (way_still way)
          (λ above u m below n e x. absurd (none_at above u m below (ap no_variant (sym e) ∙ none))) h

      -- where nothing that overlaps it changes
      pub known_clear : Clear May place → known_place items local_ty is_target before place ≡ true →
          known_place items local_ty is_target now place ≡ true
      known_clear clear h = known_still (way_still clear.way)
          (λ above u m below n e x. stays.variants (record { local = place.local; steps = above }) n
          (stays_above May place clear above (ToField u m) below e) x) h

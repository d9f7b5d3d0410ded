-- A place that leads on by the types is sure to, as soon as the variants and the numbers of elements on its way are known.
-- Of steps to parts and into boxes nothing has to be known.
use Rattle.std.proofs.Common.{◌≡◌, ℕ, ◌==◌, ◌&&◌, ◌||◌, not, Bool, true, false, List, [], ◌∷◌, ◌++◌, Option, Some, None, refl, ap}
use Rattle.std.specs.Cmp.{first_so, second_so}
use Rattle.std.specs.Cmp.Derive.{both_true}
use Rattle.std.proofs.lemmas.Bool.{false≢true}
use Rattle.std.proofs.lemmas.Option.{none-some}
use Rattle.mir_ty.specs.declared.ty.Ty.{Ty}
use Rattle.mir_ty.specs.declared.ty.TyId.{TyId}
use Rattle.mir_ty.specs.ItemTable.{ItemTable, type_at}
use Rattle.store_model.specs.Concrete.Location.{named_by}
use Rattle.store_model.specs.Places.Place.{Step, ToPart, ToField, ToContent, ToElement, Place, step_ty, is_reference}
use Rattle.soundness_values.proofs.Along.{has_one_variant}
use Rattle.soundness_values.proofs.Facts.{Facts, bounded_by, variant_at}
use Rattle.soundness_values.proofs.Leading.{are_sure, is_sure, sure_step, then_sure}
use Rattle.soundness_cells.proofs.PassCellTests.{leads, leads_behind, leads_from, leads_in}
use Rattle.soundness_values.proofs.Running.{sure_place, sure_in, sure_from, sure_behind}

-- steps of which nothing has to be known
abbrev pub asks_nothing : List Step → Bool
asks_nothing [] = true
asks_nothing (ToPart n ∷ steps) = asks_nothing steps
asks_nothing (ToContent ∷ steps) = asks_nothing steps
asks_nothing (ToField variant n ∷ steps) = false
asks_nothing (ToElement i ∷ steps) = false

-- by the types alone
abbrev by_types : ItemTable → List Step → List Step → TyId → Bool
by_types items = are_sure items (λ i count. true) (λ so_far variant. true)

module _ (items : ItemTable) (is_bounded : ℕ → ℕ → Bool) (is_variant : List Step → ℕ → Bool) where
  abbrev pub is_known : List Step → Step → Ty → Bool
  is_known so_far (ToPart n) ty = true
  is_known so_far (ToField variant n) ty = (variant == 0 && has_one_variant items ty) || is_variant so_far variant
  is_known so_far ToContent ty = true
  is_known so_far (ToElement i) (Ty.Array element count) = is_bounded i count
  is_known so_far (ToElement i) ty = true

  abbrev pub then_known : Option TyId → (TyId → Bool) → Bool
  then_known None rest = true
  then_known (Some next) rest = rest next

  abbrev pub known_step : List Step → Step → Option Ty → (TyId → Bool) → Bool
  known_step so_far step None rest = true
  known_step so_far step (Some ty) rest = is_known so_far step ty && then_known (step_ty items step ty) rest

  abbrev pub are_known : List Step → List Step → TyId → Bool
  are_known so_far [] id = true
  are_known so_far (step ∷ steps) id =
      known_step so_far step (type_at items id) (are_known (so_far ++ step ∷ []) steps)

  one_sure : (so_far : List Step) (step : Step) (ty : Ty) →
      is_sure items (λ i count. true) (λ so_far variant. true) so_far step ty ≡ true → is_known so_far step ty ≡ true →
      is_sure items is_bounded is_variant so_far step ty ≡ true
  one_sure so_far (ToPart n) ty h k = refl
  one_sure so_far (ToField variant n) ty h k = k
  one_sure so_far ToContent (Ty.Boxed inside) h k = refl
  one_sure so_far ToContent ty h k = absurd (false≢true h)
  one_sure so_far (ToElement i) (Ty.Array element count) h k = k
  one_sure so_far (ToElement i) ty h k = absurd (false≢true h)

  pub known_sure : (so_far steps : List Step) (id : TyId) → by_types items so_far steps id ≡ true →
      are_known so_far steps id ≡ true → are_sure items is_bounded is_variant so_far steps id ≡ true
  known_sure so_far [] id h k = refl
  known_sure so_far (step ∷ steps) id h k =
      by (type_at items id) h k (λ next x y. known_sure (so_far ++ step ∷ []) steps next x y)
    where
      Later : Type 0
      Later = (next : TyId) → by_types items (so_far ++ step ∷ []) steps next ≡ true →
          are_known (so_far ++ step ∷ []) steps next ≡ true →
          are_sure items is_bounded is_variant (so_far ++ step ∷ []) steps next ≡ true

      inner : (o : Option TyId) →
          then_sure items (λ i count. true) (λ so_far variant. true) o (by_types items (so_far ++ step ∷ []) steps)
          ≡ true → then_known o (are_known (so_far ++ step ∷ []) steps) ≡ true →
          ((next : TyId) → by_types items (so_far ++ step ∷ []) steps next ≡ true →
          are_known (so_far ++ step ∷ []) steps next ≡ true →
          are_sure items is_bounded is_variant (so_far ++ step ∷ []) steps next ≡ true) →
          then_sure items is_bounded is_variant o (are_sure items is_bounded is_variant (so_far ++ step ∷ []) steps)
          ≡ true
      inner None h k later = absurd (false≢true h)
      inner (Some next) h k later = later next h k

      by : (o : Option Ty) →
          sure_step items (λ i count. true) (λ so_far variant. true) so_far step o
          (by_types items (so_far ++ step ∷ []) steps) ≡ true →
          known_step so_far step o (are_known (so_far ++ step ∷ []) steps) ≡ true →
          ((next : TyId) → by_types items (so_far ++ step ∷ []) steps next ≡ true →
          are_known (so_far ++ step ∷ []) steps next ≡ true →
          are_sure items is_bounded is_variant (so_far ++ step ∷ []) steps next ≡ true) →
          sure_step items is_bounded is_variant so_far step o
          (are_sure items is_bounded is_variant (so_far ++ step ∷ []) steps) ≡ true
      by None h k later = absurd (false≢true h)
      by (Some ty) h k later = both_true
          (one_sure so_far step ty
          (first_so (is_sure items (λ i count. true) (λ so_far variant. true) so_far step ty) _ h)
          (first_so (is_known so_far step ty) _ k))
          (inner (step_ty items step ty)
          (second_so (is_sure items (λ i count. true) (λ so_far variant. true) so_far step ty) _ h)
          (second_so (is_known so_far step ty) _ k) later)

  -- of parts and contents of boxes nothing is
  pub nothing_asked : (so_far steps : List Step) (id : TyId) → asks_nothing steps ≡ true →
      are_known so_far steps id ≡ true
  nothing_asked so_far [] id h = refl
  nothing_asked so_far (ToField variant n ∷ steps) id h = absurd (false≢true h)
  nothing_asked so_far (ToElement i ∷ steps) id h = absurd (false≢true h)
  nothing_asked so_far (ToPart n ∷ steps) id h = by (type_at items id)
      (λ next. nothing_asked (so_far ++ ToPart n ∷ []) steps next h)
    where
      inner : (o : Option TyId) → ((next : TyId) → are_known (so_far ++ ToPart n ∷ []) steps next ≡ true) →
          then_known o (are_known (so_far ++ ToPart n ∷ []) steps) ≡ true
      inner None later = refl
      inner (Some next) later = later next

      by : (o : Option Ty) → ((next : TyId) → are_known (so_far ++ ToPart n ∷ []) steps next ≡ true) →
          known_step so_far (ToPart n) o (are_known (so_far ++ ToPart n ∷ []) steps) ≡ true
      by None later = refl
      by (Some ty) later = inner (step_ty items (ToPart n) ty) later
  nothing_asked so_far (ToContent ∷ steps) id h = by (type_at items id)
      (λ next. nothing_asked (so_far ++ ToContent ∷ []) steps next h)
    where
      inner : (o : Option TyId) → ((next : TyId) → are_known (so_far ++ ToContent ∷ []) steps next ≡ true) →
          then_known o (are_known (so_far ++ ToContent ∷ []) steps) ≡ true
      inner None later = refl
      inner (Some next) later = later next

      by : (o : Option Ty) → ((next : TyId) → are_known (so_far ++ ToContent ∷ []) steps next ≡ true) →
          known_step so_far ToContent o (are_known (so_far ++ ToContent ∷ []) steps) ≡ true
      by None later = refl
      by (Some ty) later = inner (step_ty items ToContent ty) later

module _ (items : ItemTable) (local_ty : ℕ → Option TyId) (is_target : ℕ → Bool) (facts : Facts) where
  abbrev pub known_behind : ℕ → TyId → List Step → Bool
  known_behind local to (ToContent ∷ steps) =
      are_known items (bounded_by facts) (variant_at facts local (ToContent ∷ [])) [] steps to
  known_behind local to steps = true

  abbrev pub known_from : Place → TyId → Option TyId → Bool
  known_from place id (Some to) = known_behind place.local to place.steps
  known_from place id None =
      are_known items (bounded_by facts) (variant_at facts place.local []) [] place.steps id

  abbrev pub known_in : Place → Option TyId → Bool
  known_in place None = true
  known_in place (Some id) = known_from place id (named_by (type_at items id))

  -- what has to be known of a place that leads on by the types
  abbrev pub known_place : Place → Bool
  known_place place = known_in place (local_ty place.local)

  no_reference : (o : Option Ty) → named_by o ≡ None → is_reference o ≡ false
  no_reference None e = refl
  no_reference (Some (Ty.Shared to)) e = let never : ⊥ = cc in absurd never
  no_reference (Some (Ty.Unique to)) e = let never : ⊥ = cc in absurd never
  no_reference (Some ty) e = refl

  sure_of_behind : (local : ℕ) (to : TyId) (steps : List Step) → leads_behind items local_ty is_target to steps ≡ true →
      known_behind local to steps ≡ true → sure_behind items local_ty is_target facts local to steps ≡ true
  sure_of_behind local to (ToContent ∷ steps) h k =
      known_sure items (bounded_by facts) (variant_at facts local (ToContent ∷ [])) [] steps to h k
  sure_of_behind local to [] h k = absurd (false≢true h)
  sure_of_behind local to (ToPart n ∷ steps) h k = absurd (false≢true h)
  sure_of_behind local to (ToField v n ∷ steps) h k = absurd (false≢true h)
  sure_of_behind local to (ToElement i ∷ steps) h k = absurd (false≢true h)

  module _ (own : (l : ℕ) (id : TyId) → local_ty l ≡ Some id → is_reference (type_at items id) ≡ false →
      is_target l ≡ false) where
    pub sure_if_known : (place : Place) → leads items local_ty is_target place ≡ true → known_place place ≡ true →
        sure_place items local_ty is_target facts place ≡ true
    sure_if_known place h k = by (local_ty place.local) refl h k
      where
        named : (id : TyId) → local_ty place.local ≡ Some id → (o : Option TyId) → named_by (type_at items id) ≡ o →
            leads_from items local_ty is_target place id o ≡ true → known_from place id o ≡ true →
            sure_from items local_ty is_target facts place id o ≡ true
        named id e (Some to) n h k = both_true (first_so (is_target place.local) _ h)
            (sure_of_behind place.local to place.steps (second_so (is_target place.local) _ h) k)
        named id e None n h k = both_true (ap not (own place.local id e (no_reference (type_at items id) n)))
            (known_sure items (bounded_by facts) (variant_at facts place.local []) [] place.steps id h k)

        by : (o : Option TyId) → local_ty place.local ≡ o → leads_in items local_ty is_target place o ≡ true →
            known_in place o ≡ true → sure_in items local_ty is_target facts place o ≡ true
        by None e h k = absurd (false≢true h)
        by (Some id) e h k = named id e (named_by (type_at items id)) refl h k

    -- what is reached by steps to parts and into boxes, in a local or behind a parameter, is sure to be there
    pub sure_outright : (place : Place) → leads items local_ty is_target place ≡ true →
        asks_nothing place.steps ≡ true → sure_place items local_ty is_target facts place ≡ true
    sure_outright place h a = sure_if_known place h (by (local_ty place.local))
      where
        behind : (to : TyId) (steps : List Step) → asks_nothing steps ≡ true →
            known_behind place.local to steps ≡ true
        behind to (ToContent ∷ steps) a = nothing_asked items (bounded_by facts)
            (variant_at facts place.local (ToContent ∷ [])) [] steps to a
        behind to [] a = refl
        behind to (ToPart n ∷ steps) a = refl
        behind to (ToField v n ∷ steps) a = refl
        behind to (ToElement i ∷ steps) a = refl

        named : (id : TyId) (o : Option TyId) → known_from place id o ≡ true
        named id None = nothing_asked items (bounded_by facts) (variant_at facts place.local []) [] place.steps id a
        named id (Some to) = behind to place.steps a

        by : (o : Option TyId) → known_in place o ≡ true
        by None = refl
        by (Some id) = named id (named_by (type_at items id))

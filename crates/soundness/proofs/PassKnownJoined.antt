-- What is known of a place is known of it later, where a part of its way is known anew, and behind that no variant is
-- on the way, and the numbers of elements are known still.
use Rattle.std.proofs.Common.{◌≡◌, ℕ, ◌&&◌, Bool, true, false, List, [], ◌∷◌, ◌++◌, Option, Some, None, refl, ap, sym, ◌∙◌}
use Rattle.std.specs.Cmp.Derive.{both_true}
use Rattle.std.proofs.lemmas.Bool.{false≢true}
use Rattle.mir_ty.specs.declared.ty.Ty.{Ty}
use Rattle.mir_ty.specs.declared.ty.TyId.{TyId}
use Rattle.mir_ty.specs.ItemTable.{ItemTable, type_at}
use Rattle.store_model.specs.Places.Place.{Step, ToPart, ToField, ToContent, ToElement, Place, step_ty}
use Rattle.store_model.specs.Concrete.Location.{named_by}
use Rattle.soundness_values.proofs.Facts.{Facts, takes_index, bounded_by, variant_at}
use Rattle.soundness.proofs.PassKnownKept.{steps_kept}
use Rattle.soundness.proofs.PassKnownStill.{no_variant, none_at}
use Rattle.soundness_cells.proofs.PassSure.{is_known, then_known, known_step, are_known, known_place, known_in, known_from, known_behind}

left_of : (a b : Bool) → (a && b) ≡ true → a ≡ true
left_of true b e = refl
left_of false b e = absurd (false≢true e)

right_of : (a b : Bool) → (a && b) ≡ true → b ≡ true
right_of true b e = e
right_of false b e = absurd (false≢true e)

module _ (items : ItemTable) (local_ty : ℕ → Option TyId) (is_target : ℕ → Bool) (before now : Facts) where
  -- the numbers of elements on a way
  abbrev pub BoundsStill : List Step → Type 0
  BoundsStill steps = (i count : ℕ) → takes_index i steps ≡ true → bounded_by before i count ≡ true →
      bounded_by now i count ≡ true

  module _ (variants variants' : List Step → ℕ → Bool) where
    abbrev Before : List Step → List Step → TyId → Bool
    Before = are_known items (bounded_by before) variants

    abbrev Now : List Step → List Step → TyId → Bool
    Now = are_known items (bounded_by now) variants'

    steps_joined : (so_far way rest : List Step) (id : TyId) → no_variant rest ≡ true → BoundsStill rest →
        Now so_far way id ≡ true → Before so_far (way ++ rest) id ≡ true → Now so_far (way ++ rest) id ≡ true
    steps_joined so_far [] rest id none bounds k h = steps_kept items (bounded_by before) (bounded_by now) variants
        variants' so_far rest id bounds
        (λ above u m below n e x. absurd (none_at above u m below (ap no_variant (sym e) ∙ none))) h
    steps_joined so_far (step ∷ way) rest id none bounds k h = by (type_at items id) k h
        (λ next x y. steps_joined (so_far ++ step ∷ []) way rest next none bounds x y)
      where
        inner : (o : Option TyId) →
            then_known items (bounded_by now) variants' o (Now (so_far ++ step ∷ []) way) ≡ true →
            then_known items (bounded_by before) variants o (Before (so_far ++ step ∷ []) (way ++ rest)) ≡ true →
            ((next : TyId) → Now (so_far ++ step ∷ []) way next ≡ true →
            Before (so_far ++ step ∷ []) (way ++ rest) next ≡ true →
            Now (so_far ++ step ∷ []) (way ++ rest) next ≡ true) →
            then_known items (bounded_by now) variants' o (Now (so_far ++ step ∷ []) (way ++ rest)) ≡ true
        inner None k h later = refl
        inner (Some next) k h later = later next k h

        by : (o : Option Ty) →
            known_step items (bounded_by now) variants' so_far step o (Now (so_far ++ step ∷ []) way) ≡ true →
            known_step items (bounded_by before) variants so_far step o (Before (so_far ++ step ∷ []) (way ++ rest))
            ≡ true →
            ((next : TyId) → Now (so_far ++ step ∷ []) way next ≡ true →
            Before (so_far ++ step ∷ []) (way ++ rest) next ≡ true →
            Now (so_far ++ step ∷ []) (way ++ rest) next ≡ true) →
            known_step items (bounded_by now) variants' so_far step o (Now (so_far ++ step ∷ []) (way ++ rest)) ≡ true
        by None k h later = refl
        by (Some ty) k h later = both_true
            (left_of (is_known items (bounded_by now) variants' so_far step ty) _ k)
            (inner (step_ty items step ty)
            (right_of (is_known items (bounded_by now) variants' so_far step ty) _ k)
            (right_of (is_known items (bounded_by before) variants so_far step ty) _ h) later)

  behind_joined : (l : ℕ) (to : TyId) (way rest : List Step) → no_variant rest ≡ true → BoundsStill rest →
      known_behind items local_ty is_target now l to way ≡ true →
      known_behind items local_ty is_target before l to (way ++ rest) ≡ true →
      known_behind items local_ty is_target now l to (way ++ rest) ≡ true
  behind_joined l to (ToContent ∷ way) rest none bounds k h = steps_joined (variant_at before l (ToContent ∷ []))
      (variant_at now l (ToContent ∷ [])) [] way rest to none bounds k h
  behind_joined l to (ToPart n ∷ way) rest none bounds k h = refl
  behind_joined l to (ToField v n ∷ way) rest none bounds k h = refl
  behind_joined l to (ToElement i ∷ way) rest none bounds k h = refl
  behind_joined l to [] [] none bounds k h = refl
  behind_joined l to [] (ToContent ∷ rest) none bounds k h = steps_joined (variant_at before l (ToContent ∷ []))
      (variant_at now l (ToContent ∷ [])) [] [] rest to none bounds refl h
  behind_joined l to [] (ToPart n ∷ rest) none bounds k h = refl
  behind_joined l to [] (ToField v n ∷ rest) none bounds k h = refl
  behind_joined l to [] (ToElement i ∷ rest) none bounds k h = refl

  abbrev At : ℕ → List Step → Place
  At l steps = record { local = l; steps = steps }

  pub known_joined : (l : ℕ) (way rest : List Step) → no_variant rest ≡ true → BoundsStill rest →
      known_place items local_ty is_target now (At l way) ≡ true →
      known_place items local_ty is_target before (At l (way ++ rest)) ≡ true →
      known_place items local_ty is_target now (At l (way ++ rest)) ≡ true
  known_joined l way rest none bounds k h = by (local_ty l) k h
    where
      named : (id : TyId) (o : Option TyId) →
          known_from items local_ty is_target now (At l way) id o ≡ true →
          known_from items local_ty is_target before (At l (way ++ rest)) id o ≡ true →
          known_from items local_ty is_target now (At l (way ++ rest)) id o ≡ true
      named id None k h =
          steps_joined (variant_at before l []) (variant_at now l []) [] way rest id none bounds k h
      named id (Some to) k h = behind_joined l to way rest none bounds k h

      by : (o : Option TyId) → known_in items local_ty is_target now (At l way) o ≡ true →
          known_in items local_ty is_target before (At l (way ++ rest)) o ≡ true →
          known_in items local_ty is_target now (At l (way ++ rest)) o ≡ true
      by None k h = refl
      by (Some id) k h = named id (named_by (type_at items id)) k h

-- What is known of a place is so of a part of it, if the step there is known: a step to a part or into a box asks nothing,
-- one to an element that its number is below the length, one to a field of a variant that this variant stands there.
use Rattle.std.proofs.Common.{◌≡◌, ◌⊎◌, inl, inr, ℕ, ◌==◌, ◌&&◌, ◌||◌, Bool, true, false, List, [], ◌∷◌, ◌++◌, Option, Some, None, refl, ap, sym, ◌∙◌, subst, append_assoc}
use Rattle.std.specs.Prelude.{option_and_then}
use Rattle.std.specs.Cmp.Derive.{both_true}
use Rattle.std.proofs.lemmas.Bool.{false≢true}
use Rattle.std.proofs.lemmas.Option.{none-some}
use Rattle.mir_ty.specs.declared.ty.Ty.{Ty}
use Rattle.mir_ty.specs.declared.ty.TyId.{TyId}
use Rattle.mir_ty.specs.ItemTable.{ItemTable, type_at}
use Rattle.store_model.specs.Concrete.Location.{named_by}
use Rattle.store_model.specs.Places.Place.{Step, ToPart, ToField, ToContent, ToElement, Place, whole_local, step_ty, ty_along, place_ty}
use Rattle.src_meaning.specs.Shape.{extended}
use Rattle.soundness_values.proofs.Along.{has_one_variant}
use Rattle.soundness_values.proofs.Facts.{Facts, bounded_by, variant_at}
use Rattle.soundness_frame.proofs.PassFrameFacts.{variant_known}
use Rattle.soundness_cells.proofs.PassSure.{is_known, then_known, known_step, are_known, known_behind, known_from, known_in, known_place}

-- what references name stands behind one step, all else where it is
named_content : (items : ItemTable) (o : Option Ty) (to : TyId) → named_by o ≡ Some to →
    option_and_then (step_ty items ToContent) o ≡ Some to
named_content items None to e = absurd (none-some to e)
named_content items (Some (Ty.Shared t)) to e = e
named_content items (Some (Ty.Unique t)) to e = e
named_content items (Some other) to e = absurd (none-some to e)

module _ (items : ItemTable) (is_bounded : ℕ → ℕ → Bool) (is_variant : List Step → ℕ → Bool) where
  left_of : (a b : Bool) → (a && b) ≡ true → a ≡ true
  left_of true b e = refl
  left_of false b e = absurd (false≢true e)

  right_of : (a b : Bool) → (a && b) ≡ true → b ≡ true
  right_of true b e = e
  right_of false b e = absurd (false≢true e)

  -- where these steps lead to a type, one more is known
  abbrev LastKnown : List Step → List Step → Step → TyId → Type 0
  LastKnown so_far steps step id = (end : TyId) (ty : Ty) → ty_along items steps id ≡ Some end →
      type_at items end ≡ Some ty → is_known items is_bounded is_variant (so_far ++ steps) step ty ≡ true

  append_nil : (steps : List Step) → steps ++ [] ≡ steps
  append_nil [] = refl
  append_nil (s ∷ steps) = ap (λ l. s ∷ l) (append_nil steps)

  last_known : (so_far : List Step) (step : Step) (o : Option Ty) →
      ((ty : Ty) → o ≡ Some ty → is_known items is_bounded is_variant so_far step ty ≡ true) →
      known_step items is_bounded is_variant so_far step o (λ id. true) ≡ true
  last_known so_far step None f = refl
  last_known so_far step (Some ty) f = both_true (f ty refl) (ended (step_ty items step ty))
    where
      ended : (o : Option TyId) → then_known items is_bounded is_variant o (λ id. true) ≡ true
      ended None = refl
      ended (Some next) = refl

  pub more_known : (so_far steps : List Step) (step : Step) (id : TyId) →
      are_known items is_bounded is_variant so_far steps id ≡ true → LastKnown so_far steps step id →
      are_known items is_bounded is_variant so_far (steps ++ step ∷ []) id ≡ true
  more_known so_far [] step id h f = last_known so_far step (type_at items id)
      (λ ty e. subst (λ l. is_known items is_bounded is_variant l step ty ≡ true) (append_nil so_far) (f id ty refl e))
  more_known so_far (s ∷ steps) step id h f = by (type_at items id) h
      (λ next t k. more_known (so_far ++ s ∷ []) steps step next k
      (λ end ty u e. subst (λ l. is_known items is_bounded is_variant l step ty ≡ true)
      (sym (append_assoc so_far (s ∷ []) steps)) (f end ty (t ∙ u) e)))
    where
      inner : (o : Option TyId) → then_known items is_bounded is_variant o
          (are_known items is_bounded is_variant (so_far ++ s ∷ []) steps) ≡ true →
          ((next : TyId) → o ≡ Some next → are_known items is_bounded is_variant (so_far ++ s ∷ []) steps next ≡ true →
          are_known items is_bounded is_variant (so_far ++ s ∷ []) (steps ++ step ∷ []) next ≡ true) →
          then_known items is_bounded is_variant o
          (are_known items is_bounded is_variant (so_far ++ s ∷ []) (steps ++ step ∷ [])) ≡ true
      inner None h later = refl
      inner (Some next) h later = later next refl h

      by : (o : Option Ty) → known_step items is_bounded is_variant so_far s o
          (are_known items is_bounded is_variant (so_far ++ s ∷ []) steps) ≡ true →
          ((next : TyId) → option_and_then (ty_along items steps) (option_and_then (step_ty items s) o)
          ≡ ty_along items steps next → are_known items is_bounded is_variant (so_far ++ s ∷ []) steps next ≡ true →
          are_known items is_bounded is_variant (so_far ++ s ∷ []) (steps ++ step ∷ []) next ≡ true) →
          known_step items is_bounded is_variant so_far s o
          (are_known items is_bounded is_variant (so_far ++ s ∷ []) (steps ++ step ∷ [])) ≡ true
      by None h later = refl
      by (Some ty) h later = both_true (left_of (is_known items is_bounded is_variant so_far s ty) _ h)
          (inner (step_ty items s ty) (right_of (is_known items is_bounded is_variant so_far s ty) _ h)
          (λ next e k. later next (ap (option_and_then (ty_along items steps)) e) k))

module _ (items : ItemTable) (local_ty : ℕ → Option TyId) (is_target : ℕ → Bool) (facts : Facts) where
  abbrev pub known : Place → Bool
  known = known_place items local_ty is_target facts

  -- the step from what stands at a place
  abbrev pub StepKnown : Place → Step → Type 0
  StepKnown place (ToPart n) = Unit {0}
  StepKnown place (ToField variant n) =
      ((id : TyId) (ty : Ty) → place_ty items local_ty place ≡ Some id → type_at items id ≡ Some ty →
      (variant == 0 && has_one_variant items ty) ≡ true) ⊎ (variant_known facts place variant ≡ true)
  StepKnown place ToContent = Unit {0}
  StepKnown place (ToElement i) = (id element : TyId) (count : ℕ) → place_ty items local_ty place ≡ Some id →
      type_at items id ≡ Some (Ty.Array element count) → bounded_by facts i count ≡ true

  -- the whole of a local
  pub whole_known : (l : ℕ) → known (whole_local l) ≡ true
  whole_known l = by (local_ty l)
    where
      named : (id : TyId) (o : Option TyId) → known_from items local_ty is_target facts (whole_local l) id o ≡ true
      named id None = refl
      named id (Some to) = refl

      by : (o : Option TyId) → known_in items local_ty is_target facts (whole_local l) o ≡ true
      by None = refl
      by (Some id) = named id (named_by (type_at items id))

  either : (a b : Bool) → b ≡ true → (a || b) ≡ true
  either true b h = refl
  either false b h = h

  one : (a b : Bool) → a ≡ true → (a || b) ≡ true
  one true b h = refl
  one false b h = absurd (false≢true h)

  -- the last step, where the steps before it are these
  step_known : (place : Place) (step : Step) → StepKnown place step → (start so_far : List Step) →
      start ++ so_far ≡ place.steps → (end : TyId) (ty : Ty) → place_ty items local_ty place ≡ Some end →
      type_at items end ≡ Some ty →
      is_known items (bounded_by facts) (variant_at facts place.local start) so_far step ty ≡ true
  step_known place (ToPart n) k start so_far e end ty t is = refl
  step_known place (ToField variant n) (inl k) start so_far e end ty t is = one _ _ (k end ty t is)
  step_known place (ToField variant n) (inr k) start so_far e end ty t is =
      either (variant == 0 && has_one_variant items ty) _
      (subst (λ steps. variant_known facts (record { local = place.local; steps = steps }) variant ≡ true) (sym e) k)
  step_known place ToContent k start so_far e end ty t is = refl
  step_known place (ToElement i) k start so_far e end (Ty.Array element count) t is = k end element count t is
  step_known place (ToElement i) k start so_far e end ty t is = refl

  behind_known : (place : Place) (step : Step) → StepKnown place step → (id to : TyId) → local_ty place.local ≡ Some id →
      named_by (type_at items id) ≡ Some to → (steps : List Step) → place.steps ≡ steps →
      known_behind items local_ty is_target facts place.local to steps ≡ true →
      known_behind items local_ty is_target facts place.local to (steps ++ step ∷ []) ≡ true
  behind_known place step k id to l n [] e h = first step
    where
      first : (s : Step) → known_behind items local_ty is_target facts place.local to (s ∷ []) ≡ true
      first ToContent = refl
      first (ToPart m) = refl
      first (ToField v m) = refl
      first (ToElement i) = refl
  behind_known place step k id to l n (ToContent ∷ steps) e h =
      more_known items (bounded_by facts) (variant_at facts place.local (ToContent ∷ [])) [] steps step to h
      (λ end ty t is. step_known place step k (ToContent ∷ []) steps (sym e) end ty
      (ap (λ o. option_and_then (ty_along items place.steps) o) l ∙ ap (λ s. ty_along items s id) e
      ∙ ap (option_and_then (ty_along items steps)) (named_content items (type_at items id) to n) ∙ t) is)
  behind_known place step k id to l n (ToPart m ∷ steps) e h = refl
  behind_known place step k id to l n (ToField v m ∷ steps) e h = refl
  behind_known place step k id to l n (ToElement i ∷ steps) e h = refl

  pub known_further : (place : Place) (step : Step) → known place ≡ true → StepKnown place step →
      known (extended step place) ≡ true
  known_further place step h k = by (local_ty place.local) refl h
    where
      named : (id : TyId) → local_ty place.local ≡ Some id → (o : Option TyId) → named_by (type_at items id) ≡ o →
          known_from items local_ty is_target facts place id o ≡ true →
          known_from items local_ty is_target facts (extended step place) id o ≡ true
      named id l None n h =
          more_known items (bounded_by facts) (variant_at facts place.local []) [] place.steps step id h
          (λ end ty t is. step_known place step k [] place.steps refl end ty
          (ap (λ o. option_and_then (ty_along items place.steps) o) l ∙ t) is)
      named id l (Some to) n h = behind_known place step k id to l n place.steps refl h

      by : (o : Option TyId) → local_ty place.local ≡ o →
          known_in items local_ty is_target facts place o ≡ true →
          known_in items local_ty is_target facts (extended step place) o ≡ true
      by None l h = refl
      by (Some id) l h = named id l (named_by (type_at items id)) refl h

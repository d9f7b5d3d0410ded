-- What is known of a place is so still after a change at another, which is neither above it nor, by an index, where it may
-- lead, and whose local is no index on its way; it is known of each place above it; and more facts tell no less.
use Rattle.std.proofs.Common.{◌≡◌, ℕ, ◌==◌, ◌&&◌, ◌||◌, not, Bool, true, false, List, [], ◌∷◌, ◌++◌, Option, Some, None, refl, ap, sym, ◌∙◌, subst}
use Rattle.std.specs.Cmp.{first_so}
use Rattle.std.specs.Cmp.Derive.{both_true}
use Rattle.std.proofs.lemmas.Bool.{false≢true}
use Rattle.std.proofs.lemmas.Bool.Decides.{Decides-eqb}
use Rattle.mir_ty.specs.declared.ty.Ty.{Ty}
use Rattle.mir_ty.specs.declared.ty.TyId.{TyId}
use Rattle.mir_ty.specs.ItemTable.{ItemTable, type_at}
use Rattle.store_model.specs.Concrete.Location.{named_by}
use Rattle.store_model.specs.Places.Place.{Step, ToPart, ToField, ToContent, ToElement, Place, step_ty, before_element}
use Rattle.soundness_values.proofs.Checks.{with_bounded}
use Rattle.soundness_values.proofs.Facts.{Facts, bounded_by, variant_at, takes_index, stays, without, same_place}
use Rattle.soundness_frame.proofs.PassFrameFacts.{variant_known, place_same}
use Rattle.soundness.proofs.PassKnownKept.{Keeps, Away, steps_kept, known_kept}
use Rattle.soundness_cells.proofs.PassSure.{is_known, then_known, known_step, are_known, known_behind, known_from, known_in, known_place}
use Rattle.soundness_values.proofs.StillSure.{kept_any}

-- a change at one place leaves what is known of another
pub record Leaves (changed place : Place) : Type 0 where
  pub above : (steps : List Step) (u m : ℕ) (below : List Step) → place.steps ≡ steps ++ ToField u m ∷ below →
      stays changed (record { local = place.local; steps = steps }) ≡ true
  pub index : (i : ℕ) → takes_index i place.steps ≡ true → (i == changed.local) ≡ false

module _ (items : ItemTable) (local_ty : ℕ → Option TyId) (is_target : ℕ → Bool) (facts : Facts) (changed : Place)
    (place : Place) (leaves : Leaves changed place) where
  bounds_left : (i count : ℕ) → takes_index i place.steps ≡ true → bounded_by facts i count ≡ true →
      bounded_by (without changed facts) i count ≡ true
  bounds_left i count t h = kept_any (λ (b : ℕ × ℕ). b.0 == i && b.1 == count)
      (λ (b : ℕ × ℕ). not (b.0 == changed.local)) facts.bounded
      (λ b e. ap not (ap (λ k. k == changed.local)
      ((Decides-eqb b.0 i).0 (first_so (b.0 == i) (b.1 == count) e)) ∙ leaves.index i t)) h

  variants_left : (above : List Step) (u m : ℕ) (below : List Step) (n : ℕ) →
      place.steps ≡ above ++ ToField u m ∷ below →
      variant_known facts (record { local = place.local; steps = above }) n ≡ true →
      variant_known (without changed facts) (record { local = place.local; steps = above }) n ≡ true
  variants_left above u m below n e h = kept_any
      (λ (v : Place × ℕ). same_place v.0 (record { local = place.local; steps = above }) && v.1 == n)
      (λ (v : Place × ℕ). stays changed v.0) facts.variants
      (λ v k. ap (stays changed) (place_same v.0 (record { local = place.local; steps = above })
      (first_so (same_place v.0 (record { local = place.local; steps = above })) (v.1 == n) k))
      ∙ leaves.above above u m below e) h

  behind_left : (to : TyId) (steps : List Step) → place.steps ≡ steps →
      known_behind items local_ty is_target facts place.local to steps ≡ true →
      known_behind items local_ty is_target (without changed facts) place.local to steps ≡ true
  behind_left to (ToContent ∷ steps) e h = steps_kept items (bounded_by facts) (bounded_by (without changed facts))
      (variant_at facts place.local (ToContent ∷ [])) (variant_at (without changed facts) place.local (ToContent ∷ [])) []
      steps to (λ i count t x. bounds_left i count (ap (takes_index i) e ∙ t) x)
      (λ above u m below n k x. variants_left (ToContent ∷ above) u m below n (e ∙ ap (λ l. ToContent ∷ l) k) x) h
  behind_left to [] e h = refl
  behind_left to (ToPart n ∷ steps) e h = refl
  behind_left to (ToField v n ∷ steps) e h = refl
  behind_left to (ToElement i ∷ steps) e h = refl

  pub known_left : known_place items local_ty is_target facts place ≡ true →
      known_place items local_ty is_target (without changed facts) place ≡ true
  known_left h = by (local_ty place.local) h
    where
      named : (id : TyId) (o : Option TyId) → known_from items local_ty is_target facts place id o ≡ true →
          known_from items local_ty is_target (without changed facts) place id o ≡ true
      named id None h = steps_kept items (bounded_by facts) (bounded_by (without changed facts))
          (variant_at facts place.local []) (variant_at (without changed facts) place.local []) [] place.steps id
          bounds_left variants_left h
      named id (Some to) h = behind_left to place.steps refl h

      by : (o : Option TyId) → known_in items local_ty is_target facts place o ≡ true →
          known_in items local_ty is_target (without changed facts) place o ≡ true
      by None h = refl
      by (Some id) h = named id (named_by (type_at items id)) h

-- ---- more facts

abbrev pub no_local : ℕ → Type 0
no_local z = ⊥

-- one more number below a length
pub bounded_keeps : (facts : Facts) (local count : ℕ) → Keeps no_local facts (with_bounded local count facts)
bounded_keeps facts local count = record {
  bounded = λ i n a h. second (local == i && count == n) (bounded_by facts i n) h;
  variants = λ place n a h. h;
  waiting = refl;
}
  where
    second : (a b : Bool) → b ≡ true → (a || b) ≡ true
    second true b h = refl
    second false b h = h

pub known_bounded : (items : ItemTable) (local_ty : ℕ → Option TyId) (is_target : ℕ → Bool) (facts : Facts)
    (local count : ℕ) (place : Place) → known_place items local_ty is_target facts place ≡ true →
    known_place items local_ty is_target (with_bounded local count facts) place ≡ true
known_bounded items local_ty is_target facts local count place h =
    known_kept no_local items local_ty is_target facts (with_bounded local count facts)
    (bounded_keeps facts local count) place (record { root = λ z o. absurd o; way = λ z o. absurd o }) h

-- ---- above a place

module _ (items : ItemTable) (is_bounded : ℕ → ℕ → Bool) (is_variant : List Step → ℕ → Bool) where
  left_of : (a b : Bool) → (a && b) ≡ true → a ≡ true
  left_of true b e = refl
  left_of false b e = absurd (false≢true e)

  right_of : (a b : Bool) → (a && b) ≡ true → b ≡ true
  right_of true b e = e
  right_of false b e = absurd (false≢true e)

  -- the steps behind one are known less far
  again : (so_far : List Step) (step : Step) (steps : List Step) (o : Option Ty) →
      ((next : TyId) → are_known items is_bounded is_variant (so_far ++ step ∷ []) steps next ≡ true →
      are_known items is_bounded is_variant (so_far ++ step ∷ []) (before_element steps) next ≡ true) →
      known_step items is_bounded is_variant so_far step o
      (are_known items is_bounded is_variant (so_far ++ step ∷ []) steps) ≡ true →
      known_step items is_bounded is_variant so_far step o
      (are_known items is_bounded is_variant (so_far ++ step ∷ []) (before_element steps)) ≡ true
  again so_far step steps None later h = refl
  again so_far step steps (Some ty) later h = both_true (left_of (is_known items is_bounded is_variant so_far step ty) _ h)
      (inner (step_ty items step ty) (right_of (is_known items is_bounded is_variant so_far step ty) _ h))
    where
      inner : (o : Option TyId) → then_known items is_bounded is_variant o
          (are_known items is_bounded is_variant (so_far ++ step ∷ []) steps) ≡ true →
          then_known items is_bounded is_variant o
          (are_known items is_bounded is_variant (so_far ++ step ∷ []) (before_element steps)) ≡ true
      inner None h = refl
      inner (Some next) h = later next h

  -- up to the array of which the first element is taken
  pub before_known : (so_far steps : List Step) (id : TyId) →
      are_known items is_bounded is_variant so_far steps id ≡ true →
      are_known items is_bounded is_variant so_far (before_element steps) id ≡ true
  before_known so_far [] id h = refl
  before_known so_far (ToElement i ∷ steps) id h = refl
  before_known so_far (ToPart n ∷ steps) id h = again so_far (ToPart n) steps (type_at items id)
      (λ next k. before_known (so_far ++ ToPart n ∷ []) steps next k) h
  before_known so_far (ToField v n ∷ steps) id h = again so_far (ToField v n) steps (type_at items id)
      (λ next k. before_known (so_far ++ ToField v n ∷ []) steps next k) h
  before_known so_far (ToContent ∷ steps) id h = again so_far ToContent steps (type_at items id)
      (λ next k. before_known (so_far ++ ToContent ∷ []) steps next k) h

pub array_known : (items : ItemTable) (local_ty : ℕ → Option TyId) (is_target : ℕ → Bool) (facts : Facts)
    (place : Place) → known_place items local_ty is_target facts place ≡ true →
    known_place items local_ty is_target facts (record place { steps = before_element place.steps }) ≡ true
array_known items local_ty is_target facts place h = by (local_ty place.local) h
  where
    behind : (to : TyId) (steps : List Step) → known_behind items local_ty is_target facts place.local to steps ≡ true →
        known_behind items local_ty is_target facts place.local to (before_element steps) ≡ true
    behind to (ToContent ∷ steps) h =
        before_known items (bounded_by facts) (variant_at facts place.local (ToContent ∷ [])) [] steps to h
    behind to [] h = refl
    behind to (ToPart n ∷ steps) h = refl
    behind to (ToField v n ∷ steps) h = refl
    behind to (ToElement i ∷ steps) h = refl

    named : (id : TyId) (o : Option TyId) → known_from items local_ty is_target facts place id o ≡ true →
        known_from items local_ty is_target facts (record place { steps = before_element place.steps }) id o ≡ true
    named id None h = before_known items (bounded_by facts) (variant_at facts place.local []) [] place.steps id h
    named id (Some to) h = behind to place.steps h

    by : (o : Option TyId) → known_in items local_ty is_target facts place o ≡ true →
        known_in items local_ty is_target facts (record place { steps = before_element place.steps }) o ≡ true
    by None h = refl
    by (Some id) h = named id (named_by (type_at items id)) h

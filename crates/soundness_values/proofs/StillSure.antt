-- A place that is sure to lead on is so still after a change at another that it does not overlap.
use Rattle.std.proofs.Common.{◌≡◌, ℕ, ◌==◌, ◌&&◌, ◌||◌, not, Bool, true, false, List, [], ◌∷◌, ◌++◌, filter, Option, Some, None, if◌then◌else◌, refl, ap, sym, ◌∙◌, subst, append_assoc}
use Rattle.std.specs.List.{list_any}
use Rattle.std.proofs.lemmas.Bool.{false≢true}
use Rattle.std.proofs.lemmas.Bool.Decides.{Decides-eqb}
use Rattle.mir_ty.specs.declared.ty.Ty.{Ty}
use Rattle.mir_ty.specs.declared.ty.TyId.{TyId}
use Rattle.mir_ty.specs.ItemTable.{ItemTable, type_at}
use Rattle.store_model.specs.declared.address.Addr.{Addr}
use Rattle.store_model.specs.Places.Place.{Step, ToPart, ToField, ToContent, ToElement, Place, step_ty}
use Rattle.store_model.specs.Concrete.Location.{Setting, named_by}
use Rattle.store_model.specs.Concrete.State.{State}
use Rattle.soundness_values.proofs.Checks.{meet, overlap}
use Rattle.soundness_values.proofs.Facts.{Facts, takes_index, hits, stays, without, same_place, bounded_by, variant_at}
use Rattle.soundness_values.proofs.Known.{Target}
use Rattle.soundness_values.proofs.Along.{has_one_variant}
use Rattle.soundness_values.proofs.Leading.{is_sure, then_sure, sure_step, are_sure}
use Rattle.soundness_values.proofs.Running.{sure_place, sure_in, sure_from, sure_behind, same_place_is}
use Rattle.soundness_values.proofs.Taking.{first, second}

both_false : (a b : Bool) → (a && b) ≡ false → a ≡ true → b ≡ false
both_false true b h k = h
both_false false b h k = absurd (false≢true k)

or_false : (x y : Bool) → (x || y) ≡ false → (x ≡ false) × (y ≡ false)
or_false true y h = absurd (false≢true (sym h))
or_false false y h = (refl, h)

-- ---- steps

numbers : (n m : ℕ) (r s : Bool) → (n == m && r) ≡ false → (r ≡ false → s ≡ false) → (n == m && s) ≡ false
numbers n m r s h f = by (n == m) refl h
  where
    by : (b : Bool) → (n == m) ≡ b → (b && r) ≡ false → (n == m && s) ≡ false
    by true e k = ap (λ b. b && s) e ∙ f k
    by false e k = ap (λ b. b && s) e

-- what does not meet a place does not hit one above it
hits_above : (a b : List Step) (step : Step) (c : List Step) → meet a (b ++ step ∷ c) ≡ false → hits a b ≡ false
hits_above [] b step c h = absurd (false≢true (sym h))
hits_above (ToElement i ∷ a) [] step c h = absurd (false≢true (sym h))
hits_above (ToElement i ∷ a) (s ∷ b) step c h = absurd (false≢true (sym h))
hits_above (ToPart n ∷ a) [] step c h = refl
hits_above (ToField u n ∷ a) [] step c h = refl
hits_above (ToContent ∷ a) [] step c h = refl
hits_above (ToPart n ∷ a) (ToElement i ∷ b) step c h = absurd (false≢true (sym h))
hits_above (ToField u n ∷ a) (ToElement i ∷ b) step c h = absurd (false≢true (sym h))
hits_above (ToContent ∷ a) (ToElement i ∷ b) step c h = absurd (false≢true (sym h))
hits_above (ToPart n ∷ a) (ToPart m ∷ b) step c h = numbers n m _ (hits a b) h (hits_above a b step c)
hits_above (ToPart n ∷ a) (ToField v m ∷ b) step c h = numbers n m _ (hits a b) h (hits_above a b step c)
hits_above (ToField u n ∷ a) (ToPart m ∷ b) step c h = numbers n m _ (hits a b) h (hits_above a b step c)
hits_above (ToField u n ∷ a) (ToField v m ∷ b) step c h = numbers n m _ (hits a b) h (hits_above a b step c)
hits_above (ToPart n ∷ a) (ToContent ∷ b) step c h = refl
hits_above (ToField u n ∷ a) (ToContent ∷ b) step c h = refl
hits_above (ToContent ∷ a) (ToPart m ∷ b) step c h = refl
hits_above (ToContent ∷ a) (ToField v m ∷ b) step c h = refl
hits_above (ToContent ∷ a) (ToContent ∷ b) step c h = hits_above a b step c h

pub index_above : (key : ℕ) (a b : List Step) → takes_index key (a ++ b) ≡ false → takes_index key a ≡ false
index_above key [] b h = refl
index_above key (ToPart n ∷ a) b h = index_above key a b h
index_above key (ToField v n ∷ a) b h = index_above key a b h
index_above key (ToContent ∷ a) b h = index_above key a b h
index_above key (ToElement i ∷ a) b h =
    let e = or_false (i == key) (takes_index key (a ++ b)) h in
    ap (λ x. x || takes_index key a) e.0 ∙ index_above key a b e.1

-- ---- what is known of fewer facts

pub kept_any : {A : Type 0} (test keep : A → Bool) (list : List A) → ((a : A) → test a ≡ true → keep a ≡ true) →
    list_any test list ≡ true → list_any test (filter keep list) ≡ true
kept_any test keep [] f h = h
kept_any {A} test keep (a ∷ list) f h = by (test a) refl (keep a) refl h (kept_any test keep list f)
  where
    by : (t : Bool) → test a ≡ t → (k : Bool) → keep a ≡ k → (t || list_any test list) ≡ true →
        (list_any test list ≡ true → list_any test (filter keep list) ≡ true) →
        list_any test (if k then a ∷ filter keep list else filter keep list) ≡ true
    by true e true z x later = ap (λ b. b || list_any test (filter keep list)) e
    by true e false z x later = absurd (false≢true (sym z ∙ f a e))
    by false e true z x later = ap (λ b. b || list_any test (filter keep list)) e ∙ later x
    by false e false z x later = later x

module _ (items : ItemTable) (b b' : ℕ → ℕ → Bool) (v v' : List Step → ℕ → Bool) where
  abbrev pub Kept : List Step → List Step → Type 0
  Kept so_far [] = Unit {0}
  Kept so_far (step ∷ steps) = ((variant : ℕ) → v so_far variant ≡ true → v' so_far variant ≡ true)
      × Kept (so_far ++ step ∷ []) steps

  either : (p q q' : Bool) → (q ≡ true → q' ≡ true) → (p || q) ≡ true → (p || q') ≡ true
  either true q q' f h = refl
  either false q q' f h = f h

  step_still : (so_far : List Step) (step : Step) (ty : Ty) →
      ((i count : ℕ) → takes_index i (step ∷ []) ≡ true → b i count ≡ true → b' i count ≡ true) →
      ((variant : ℕ) → v so_far variant ≡ true → v' so_far variant ≡ true) →
      is_sure items b v so_far step ty ≡ true → is_sure items b' v' so_far step ty ≡ true
  step_still so_far (ToPart n) ty f g h = h
  step_still so_far (ToField variant n) ty f g h =
      either (variant == 0 && has_one_variant items ty) (v so_far variant) (v' so_far variant) (g variant) h
  step_still so_far ToContent (Ty.Boxed t) f g h = h
  step_still so_far (ToElement i) (Ty.Array t count) f g h =
      f i count (ap (λ x. x || false) ((Decides-eqb i i).1 refl)) h
  step_still so_far ToContent other f g h = h
  step_still so_far (ToElement i) other f g h = h

  here_index : (key : ℕ) (step : Step) (steps : List Step) → takes_index key (step ∷ []) ≡ true →
      takes_index key (step ∷ steps) ≡ true
  here_index key (ToPart n) steps h = absurd (false≢true h)
  here_index key (ToField u n) steps h = absurd (false≢true h)
  here_index key ToContent steps h = absurd (false≢true h)
  here_index key (ToElement i) steps h = by (i == key) h
    where
      by : (x : Bool) → (x || false) ≡ true → (x || takes_index key steps) ≡ true
      by true k = refl
      by false k = absurd (false≢true k)

  later_index : (key : ℕ) (step : Step) (steps : List Step) → takes_index key steps ≡ true →
      takes_index key (step ∷ steps) ≡ true
  later_index key (ToPart n) steps h = h
  later_index key (ToField u n) steps h = h
  later_index key ToContent steps h = h
  later_index key (ToElement i) steps h = by (i == key)
    where
      by : (x : Bool) → (x || takes_index key steps) ≡ true
      by true = refl
      by false = h

  both_so : (p p' q q' : Bool) → (p ≡ true → p' ≡ true) → (q ≡ true → q' ≡ true) → (p && q) ≡ true →
      (p' && q') ≡ true
  both_so p p' q q' f g h = ap (λ x. x && q') (f (first p q h)) ∙ g (second p q h)

  then_still : (o : Option TyId) (rest rest' : TyId → Bool) → ((id : TyId) → rest id ≡ true → rest' id ≡ true) →
      then_sure items b v o rest ≡ true → then_sure items b' v' o rest' ≡ true
  then_still None rest rest' f h = h
  then_still (Some id) rest rest' f h = f id h

  type_still : (so_far : List Step) (step : Step) (o : Option Ty) (rest rest' : TyId → Bool) →
      ((i count : ℕ) → takes_index i (step ∷ []) ≡ true → b i count ≡ true → b' i count ≡ true) →
      ((variant : ℕ) → v so_far variant ≡ true → v' so_far variant ≡ true) →
      ((id : TyId) → rest id ≡ true → rest' id ≡ true) → sure_step items b v so_far step o rest ≡ true →
      sure_step items b' v' so_far step o rest' ≡ true
  type_still so_far step None rest rest' f g k h = h
  type_still so_far step (Some ty) rest rest' f g k h =
      both_so (is_sure items b v so_far step ty) (is_sure items b' v' so_far step ty)
      (then_sure items b v (step_ty items step ty) rest) (then_sure items b' v' (step_ty items step ty) rest')
      (step_still so_far step ty f g) (then_still (step_ty items step ty) rest rest' k) h

  pub steps_still : (so_far steps : List Step) (id : TyId) →
      ((i count : ℕ) → takes_index i steps ≡ true → b i count ≡ true → b' i count ≡ true) → Kept so_far steps →
      are_sure items b v so_far steps id ≡ true → are_sure items b' v' so_far steps id ≡ true
  steps_still so_far [] id f g h = h
  steps_still so_far (step ∷ steps) id f g h =
      type_still so_far step (type_at items id) (are_sure items b v (so_far ++ step ∷ []) steps)
      (are_sure items b' v' (so_far ++ step ∷ []) steps)
      (λ i count k. f i count (here_index i step steps k)) g.0
      (λ next. steps_still (so_far ++ step ∷ []) steps next (λ i count k. f i count (later_index i step steps k)) g.1) h

module _ (setting : Setting) (number : ℕ) (targets : List Target) (uniques : List Addr) (base : State)
    (is_target : ℕ → Bool) where
  abbrev items : ItemTable
  items = setting.items

  abbrev local_ty : ℕ → Option TyId
  local_ty key = setting.local_ty number key

  abbrev S : Facts → Place → Bool
  S = sure_place items local_ty is_target

  module _ (facts : Facts) (changed place : Place) (apart : overlap changed place ≡ false)
      (no_index : takes_index changed.local place.steps ≡ false) where
    bounded_still : (i count : ℕ) → takes_index i place.steps ≡ true → bounded_by facts i count ≡ true →
        bounded_by (without changed facts) i count ≡ true
    bounded_still i count k = kept_any (λ b. b.0 == i && b.1 == count) (λ (b : ℕ × ℕ). not (b.0 == changed.local))
        facts.bounded (λ b e. other b (first (b.0 == i) (b.1 == count) e))
      where
        other : (b : ℕ × ℕ) → (b.0 == i) ≡ true → not (b.0 == changed.local) ≡ true
        other b e = by (b.0 == changed.local) refl
          where
            by : (x : Bool) → (b.0 == changed.local) ≡ x → not x ≡ true
            by false z = refl
            by true z = absurd (false≢true (sym no_index ∙ subst (λ n. takes_index n place.steps ≡ true)
                (sym ((Decides-eqb b.0 i).0 e) ∙ (Decides-eqb b.0 changed.local).0 z) k))

    -- a place above is not hit
    stays_above : (above : List Step) (step : Step) (below : List Step) → place.steps ≡ above ++ step ∷ below →
        stays changed (record { local = place.local; steps = above }) ≡ true
    stays_above above step below e = both (not (changed.local == place.local && hits changed.steps above))
        (not (takes_index changed.local above))
        (ap not (by (changed.local == place.local) refl apart))
        (ap not (index_above changed.local above (step ∷ below) (ap (takes_index changed.local) (sym e) ∙ no_index)))
      where
        both : (a b : Bool) → a ≡ true → b ≡ true → (a && b) ≡ true
        both true b h k = k
        both false b h k = absurd (false≢true h)

        by : (x : Bool) → (changed.local == place.local) ≡ x → (x && meet changed.steps place.steps) ≡ false →
            (changed.local == place.local && hits changed.steps above) ≡ false
        by true z h = ap (λ x. x && hits changed.steps above) z
            ∙ hits_above changed.steps above step below (ap (meet changed.steps) (sym e) ∙ h)
        by false z h = ap (λ x. x && hits changed.steps above) z

    variant_still : (start so_far : List Step) (step : Step) (below : List Step) →
        place.steps ≡ (start ++ so_far) ++ step ∷ below → (variant : ℕ) →
        variant_at facts place.local start so_far variant ≡ true →
        variant_at (without changed facts) place.local start so_far variant ≡ true
    variant_still start so_far step below e variant =
        kept_any (λ x. same_place x.0 (record { local = place.local; steps = start ++ so_far }) && x.1 == variant)
        (λ (x : Place × ℕ). stays changed x.0) facts.variants
        (λ x k. subst (λ p. stays changed p ≡ true)
        (sym (same_place_is setting number targets uniques base is_target x.0
        (record { local = place.local; steps = start ++ so_far })
        (first (same_place x.0 (record { local = place.local; steps = start ++ so_far })) (x.1 == variant) k)))
        (stays_above (start ++ so_far) step below e))

    all_kept : (start so_far steps : List Step) → place.steps ≡ (start ++ so_far) ++ steps →
        Kept items (bounded_by facts) (bounded_by (without changed facts)) (variant_at facts place.local start)
        (variant_at (without changed facts) place.local start) so_far steps
    all_kept start so_far [] e = tt
    all_kept start so_far (step ∷ steps) e = (
      variant_still start so_far step steps e,
      all_kept start (so_far ++ step ∷ []) steps (e ∙ one_more),
    )
      where
        one_more : (start ++ so_far) ++ step ∷ steps ≡ (start ++ (so_far ++ step ∷ [])) ++ steps
        one_more = sym (append_assoc (start ++ so_far) (step ∷ []) steps)
            ∙ ap (λ l. l ++ steps) (append_assoc start so_far (step ∷ []))

    behind_still : (to : TyId) (steps : List Step) → place.steps ≡ steps →
        sure_behind items local_ty is_target facts place.local to steps ≡ true →
        sure_behind items local_ty is_target (without changed facts) place.local to steps ≡ true
    behind_still to (ToContent ∷ steps) e h = steps_still items (bounded_by facts) (bounded_by (without changed facts))
        (variant_at facts place.local (ToContent ∷ []))
        (variant_at (without changed facts) place.local (ToContent ∷ []))
        [] steps to (λ i count k. bounded_still i count (ap (takes_index i) e ∙ k))
        (all_kept (ToContent ∷ []) [] steps e) h
    behind_still to [] e h = h
    behind_still to (ToPart n ∷ steps) e h = h
    behind_still to (ToField v n ∷ steps) e h = h
    behind_still to (ToElement i ∷ steps) e h = h

    from_still : (id : TyId) (o : Option TyId) → sure_from items local_ty is_target facts place id o ≡ true →
        sure_from items local_ty is_target (without changed facts) place id o ≡ true
    from_still id (Some to) h = ap (λ b. b && sure_behind items local_ty is_target (without changed facts) place.local
        to place.steps) (first (is_target place.local) _ h)
        ∙ behind_still to place.steps refl (second (is_target place.local) _ h)
    from_still id None h = ap (λ b. b && are_sure items (bounded_by (without changed facts))
        (variant_at (without changed facts) place.local []) [] place.steps id)
        (first (not (is_target place.local)) _ h)
        ∙ steps_still items (bounded_by facts) (bounded_by (without changed facts)) (variant_at facts place.local [])
        (variant_at (without changed facts) place.local []) [] place.steps id bounded_still
        (all_kept [] [] place.steps refl) (second (not (is_target place.local)) _ h)

    pub sure_still : S facts place ≡ true → S (without changed facts) place ≡ true
    sure_still h = by (local_ty place.local) h
      where
        by : (o : Option TyId) → sure_in items local_ty is_target facts place o ≡ true →
            sure_in items local_ty is_target (without changed facts) place o ≡ true
        by None k = k
        by (Some id) k = from_still id (named_by (type_at items id)) k

-- What is known of a place is so still where some locals are changed alone, in which it is not, and which are no index on
-- its way: as the literals of a pattern are tested, each in a cell of its own.
use Rattle.std.proofs.Common.{◌≡◌, ℕ, ◌==◌, ◌&&◌, ◌||◌, not, Bool, true, false, List, [], ◌∷◌, ◌++◌, Option, Some, None, refl, ap, sym, ◌∙◌, subst, append_assoc}
use Rattle.std.specs.List.{list_any}
use Rattle.std.specs.Cmp.{first_so}
use Rattle.std.specs.Cmp.Derive.{both_true}
use Rattle.std.proofs.lemmas.Bool.{false≢true}
use Rattle.std.proofs.lemmas.Bool.Decides.{Decides-eqb}
use Rattle.mir_ty.specs.declared.ty.Ty.{Ty}
use Rattle.mir_ty.specs.declared.ty.TyId.{TyId}
use Rattle.mir_ty.specs.ItemTable.{ItemTable, type_at}
use Rattle.store_model.specs.Concrete.Location.{named_by}
use Rattle.store_model.specs.Places.Place.{Step, ToPart, ToField, ToContent, ToElement, Place, whole_local, step_ty}
use Rattle.soundness_values.proofs.Along.{has_one_variant}
use Rattle.soundness_values.proofs.Checks.{with_variant}
use Rattle.soundness_values.proofs.Facts.{Facts, bounded_by, variant_at, takes_index, stays, without, same_place}
use Rattle.soundness_frame.proofs.PassFrameFacts.{variant_known, place_same}
use Rattle.soundness_cells.proofs.PassSure.{is_known, then_known, known_step, are_known, known_behind, known_from, known_in, known_place}
use Rattle.soundness_values.proofs.StillSure.{index_above, kept_any}

module _ (Own : ℕ → Type 0) where
  -- it is in none of these locals, and none is an index on its way
  pub record Away (place : Place) : Type 0 where
    pub root : (z : ℕ) → Own z → (z == place.local) ≡ false
    pub way : (z : ℕ) → Own z → takes_index z place.steps ≡ false

  abbrev pub AwayLocal : ℕ → Type 0
  AwayLocal i = (z : ℕ) → Own z → (z == i) ≡ false

  -- what is known of all else is so still
  pub record Keeps (before now : Facts) : Type 0 where
    pub bounded : (i count : ℕ) → AwayLocal i → bounded_by before i count ≡ true → bounded_by now i count ≡ true
    pub variants : (place : Place) (n : ℕ) → Away place → variant_known before place n ≡ true →
        variant_known now place n ≡ true
    pub waiting : now.refilled ≡ before.refilled

  pub keeps_same : (facts : Facts) → Keeps facts facts
  keeps_same facts = record { bounded = λ i count a h. h; variants = λ place n a h. h; waiting = refl }

  pub keeps_then : (a b c : Facts) → Keeps a b → Keeps b c → Keeps a c
  keeps_then a b c k l = record {
    bounded = λ i count x h. l.bounded i count x (k.bounded i count x h);
    variants = λ place n x h. l.variants place n x (k.variants place n x h);
    waiting = l.waiting ∙ k.waiting;
  }

  second : (a b : Bool) → b ≡ true → (a || b) ≡ true
  second true b h = refl
  second false b h = h

  -- a variant is found
  pub keeps_variant : (facts : Facts) (found : Place) (variant : ℕ) → Keeps facts (with_variant found variant facts)
  keeps_variant facts found variant = record {
    bounded = λ i count a h. h;
    variants = λ place n a h. second (same_place found place && variant == n) (variant_known facts place n) h;
    waiting = refl;
  }

  turned : (a b : ℕ) → (a == b) ≡ false → (b == a) ≡ false
  turned a b e = by (b == a) refl
    where
      by : (c : Bool) → (b == a) ≡ c → c ≡ false
      by false x = refl
      by true x = absurd (false≢true (sym e ∙ (Decides-eqb a b).1 (sym ((Decides-eqb b a).0 x))))

  -- one of the locals is changed
  pub keeps_without : (facts : Facts) (z : ℕ) → Own z → Keeps facts (without (whole_local z) facts)
  keeps_without facts z own = record {
    bounded = λ i count a h. kept_any (λ (b : ℕ × ℕ). b.0 == i && b.1 == count) (λ (b : ℕ × ℕ). not (b.0 == z))
        facts.bounded (λ b e. ap not (ap (λ k. k == z)
        ((Decides-eqb b.0 i).0 (first_so (b.0 == i) (b.1 == count) e)) ∙ turned z i (a z own))) h;
    variants = λ place n a h. kept_any (λ (v : Place × ℕ). same_place v.0 place && v.1 == n)
        (λ (v : Place × ℕ). stays (whole_local z) v.0) facts.variants
        (λ v e. ap (stays (whole_local z)) (place_same v.0 place (first_so (same_place v.0 place) (v.1 == n) e))
        ∙ both_true (ap (λ b. not (b && true)) (a.root z own)) (ap not (a.way z own))) h;
    waiting = refl;
  }

-- ---- along steps

module _ (items : ItemTable) (is_bounded is_bounded' : ℕ → ℕ → Bool) (is_variant is_variant' : List Step → ℕ → Bool) where
  left_of : (a b : Bool) → (a && b) ≡ true → a ≡ true
  left_of true b e = refl
  left_of false b e = absurd (false≢true e)

  right_of : (a b : Bool) → (a && b) ≡ true → b ≡ true
  right_of true b e = e
  right_of false b e = absurd (false≢true e)

  abbrev Bounds : List Step → Type 0
  Bounds steps =
      (i count : ℕ) → takes_index i steps ≡ true → is_bounded i count ≡ true → is_bounded' i count ≡ true

  abbrev Variants : List Step → List Step → Type 0
  Variants so_far steps = (above : List Step) (u m : ℕ) (below : List Step) (n : ℕ) →
      steps ≡ above ++ ToField u m ∷ below → is_variant (so_far ++ above) n ≡ true → is_variant' (so_far ++ above) n ≡ true

  append_nil : (steps : List Step) → steps ++ [] ≡ steps
  append_nil [] = refl
  append_nil (s ∷ steps) = ap (λ l. s ∷ l) (append_nil steps)

  more : (a b c : Bool) → (b ≡ true → c ≡ true) → (a || b) ≡ true → (a || c) ≡ true
  more true b c f h = refl
  more false b c f h = f h

  one_kept : (so_far : List Step) (step : Step) (steps : List Step) (ty : Ty) → Bounds (step ∷ steps) →
      Variants so_far (step ∷ steps) → is_known items is_bounded is_variant so_far step ty ≡ true →
      is_known items is_bounded' is_variant' so_far step ty ≡ true
  one_kept so_far (ToPart n) steps ty b v h = refl
  one_kept so_far (ToField variant n) steps ty b v h = more (variant == 0 && has_one_variant items ty)
      (is_variant so_far variant) (is_variant' so_far variant)
      (λ k. subst (λ l. is_variant' l variant ≡ true) (append_nil so_far)
      (v [] variant n steps variant refl
      (subst (λ l. is_variant l variant ≡ true) (sym (append_nil so_far)) k))) h
  one_kept so_far ToContent steps ty b v h = refl
  one_kept so_far (ToElement i) steps (Ty.Array element count) b v h = b i count (itself i) h
    where
      itself : (i : ℕ) → (i == i || takes_index i steps) ≡ true
      itself i = ap (λ c. c || takes_index i steps) ((Decides-eqb i i).1 refl)
  one_kept so_far (ToElement i) steps ty b v h = refl

  index_below : (i : ℕ) (step : Step) (steps : List Step) → takes_index i steps ≡ true →
      takes_index i (step ∷ steps) ≡ true
  index_below i (ToPart n) steps h = h
  index_below i (ToField v n) steps h = h
  index_below i ToContent steps h = h
  index_below i (ToElement k) steps h = by (k == i)
    where
      by : (b : Bool) → (b || takes_index i steps) ≡ true
      by true = refl
      by false = h

  pub steps_kept : (so_far steps : List Step) (id : TyId) → Bounds steps → Variants so_far steps →
      are_known items is_bounded is_variant so_far steps id ≡ true →
      are_known items is_bounded' is_variant' so_far steps id ≡ true
  steps_kept so_far [] id b v h = refl
  steps_kept so_far (step ∷ steps) id b v h = by (type_at items id) h
      (λ next k. steps_kept (so_far ++ step ∷ []) steps next (λ i count t x. b i count (index_below i step steps t) x)
      (λ above u m below n e x. subst (λ l. is_variant' l n ≡ true) (sym (append_assoc so_far (step ∷ []) above))
      (v (step ∷ above) u m below n (ap (λ l. step ∷ l) e)
      (subst (λ l. is_variant l n ≡ true) (append_assoc so_far (step ∷ []) above) x))) k)
    where
      Later : TyId → Type 0
      Later next = are_known items is_bounded is_variant (so_far ++ step ∷ []) steps next ≡ true →
          are_known items is_bounded' is_variant' (so_far ++ step ∷ []) steps next ≡ true

      inner : (o : Option TyId) → then_known items is_bounded is_variant o
          (are_known items is_bounded is_variant (so_far ++ step ∷ []) steps) ≡ true →
          ((next : TyId) → are_known items is_bounded is_variant (so_far ++ step ∷ []) steps next ≡ true →
          are_known items is_bounded' is_variant' (so_far ++ step ∷ []) steps next ≡ true) →
          then_known items is_bounded' is_variant' o
          (are_known items is_bounded' is_variant' (so_far ++ step ∷ []) steps) ≡ true
      inner None h later = refl
      inner (Some next) h later = later next h

      by : (o : Option Ty) → known_step items is_bounded is_variant so_far step o
          (are_known items is_bounded is_variant (so_far ++ step ∷ []) steps) ≡ true →
          ((next : TyId) → are_known items is_bounded is_variant (so_far ++ step ∷ []) steps next ≡ true →
          are_known items is_bounded' is_variant' (so_far ++ step ∷ []) steps next ≡ true) →
          known_step items is_bounded' is_variant' so_far step o
          (are_known items is_bounded' is_variant' (so_far ++ step ∷ []) steps) ≡ true
      by None h later = refl
      by (Some ty) h later = both_true
          (one_kept so_far step steps ty b v (left_of (is_known items is_bounded is_variant so_far step ty) _ h))
          (inner (step_ty items step ty) (right_of (is_known items is_bounded is_variant so_far step ty) _ h) later)

-- ---- a place

module _ (Own : ℕ → Type 0) (items : ItemTable) (local_ty : ℕ → Option TyId) (is_target : ℕ → Bool)
    (before now : Facts) (keeps : Keeps Own before now) (place : Place) (away : Away Own place) where
  other_index : (z i : ℕ) (steps : List Step) → takes_index z steps ≡ false → takes_index i steps ≡ true →
      (z == i) ≡ false
  other_index z i steps h k = by (z == i) refl
    where
      by : (b : Bool) → (z == i) ≡ b → b ≡ false
      by false e = refl
      by true e = absurd (false≢true (sym h ∙ subst (λ n. takes_index n steps ≡ true) (sym ((Decides-eqb z i).0 e)) k))

  bounds_kept : (i count : ℕ) → takes_index i place.steps ≡ true → bounded_by before i count ≡ true →
      bounded_by now i count ≡ true
  bounds_kept i count t h = keeps.bounded i count (λ z own. other_index z i place.steps (away.way z own) t) h

  -- above a step of the place
  variants_kept : (above : List Step) (u m : ℕ) (below : List Step) (n : ℕ) →
      place.steps ≡ above ++ ToField u m ∷ below →
      variant_known before (record { local = place.local; steps = above }) n ≡ true →
      variant_known now (record { local = place.local; steps = above }) n ≡ true
  variants_kept above u m below n e h = keeps.variants (record { local = place.local; steps = above }) n (record {
    root = away.root;
    way = λ z own. index_above z above (ToField u m ∷ below) (ap (takes_index z) (sym e) ∙ away.way z own);
  }) h

  behind_kept : (to : TyId) (steps : List Step) → place.steps ≡ steps →
      known_behind items local_ty is_target before place.local to steps ≡ true →
      known_behind items local_ty is_target now place.local to steps ≡ true
  behind_kept to (ToContent ∷ steps) e h = steps_kept items (bounded_by before) (bounded_by now)
      (variant_at before place.local (ToContent ∷ [])) (variant_at now place.local (ToContent ∷ [])) [] steps to
      (λ i count t x. bounds_kept i count (ap (takes_index i) e ∙ t) x)
      (λ above u m below n k x. variants_kept (ToContent ∷ above) u m below n (e ∙ ap (λ l. ToContent ∷ l) k) x) h
  behind_kept to [] e h = refl
  behind_kept to (ToPart n ∷ steps) e h = refl
  behind_kept to (ToField v n ∷ steps) e h = refl
  behind_kept to (ToElement i ∷ steps) e h = refl

  pub known_kept : known_place items local_ty is_target before place ≡ true →
      known_place items local_ty is_target now place ≡ true
  known_kept h = by (local_ty place.local) h
    where
      named : (id : TyId) (o : Option TyId) → known_from items local_ty is_target before place id o ≡ true →
          known_from items local_ty is_target now place id o ≡ true
      named id None h = steps_kept items (bounded_by before) (bounded_by now) (variant_at before place.local [])
          (variant_at now place.local []) [] place.steps id bounds_kept variants_kept h
      named id (Some to) h = behind_kept to place.steps refl h

      by : (o : Option TyId) → known_in items local_ty is_target before place o ≡ true →
          known_in items local_ty is_target now place o ≡ true
      by None h = refl
      by (Some id) h = named id (named_by (type_at items id)) h

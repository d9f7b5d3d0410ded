-- The rungs of the plans of parts and of variants, and the flags that these read.
use Rattle.std.proofs.Common.{◌≡◌, ◌⊎◌, inl, inr, ◌∙◌, ◌∷◌, [], ◌+◌, ℕ, zero, suc, Bool, true, false, ◌||◌, List, Option, Some, None, slice_get, refl, sym, subst, arith}
use Rattle.std.proofs.lemmas.Bool.{false≢true}
use Rattle.std.proofs.lemmas.Option.{none-some, same_Some}
use Rattle.mir_ty.specs.declared.adt.Variant.{Variant}
use Rattle.mir_ty.specs.declared.ty.TyId.{TyId}
use Rattle.mir_ty.specs.ItemTable.{ItemTable}
use Rattle.store_model.specs.Places.Place.{Step, ToField}
use Rattle.drop_values.specs.Plan.{Plan, Entire, Plans, no_plan, a_plan, Cases, no_case, a_case}
use Rattle.drop_values.specs.Planning.{plan_by, guarded, whole_plan, part_plan, part_plans, variant_plans}
use Rattle.drop_laws.specs.Rungs.{has_rung, is_guard, reads}

pub either : (a b : Bool) → (a || b) ≡ true → (a ≡ true) ⊎ (b ≡ true)
either true b h = inl refl
either false b h = inr h

pub or-left : (a b : Bool) → a ≡ true → (a || b) ≡ true
or-left true b h = refl
or-left false b h = absurd (false≢true h)

pub or-right : (a b : Bool) → b ≡ true → (a || b) ≡ true
or-right true b h = refl
or-right false b h = h

pub off-left : (a b : Bool) → (a || b) ≡ false → a ≡ false
off-left true b h = absurd (false≢true (sym h))
off-left false b h = refl

pub off-right : (a b : Bool) → (a || b) ≡ false → b ≡ false
off-right true b h = absurd (false≢true (sym h))
off-right false b h = h

pub guarded-rung : (guard : Option ℕ) (plan : Plan) → has_rung (guarded guard plan) ≡ has_rung plan
guarded-rung None plan = refl
guarded-rung (Some flag) plan = refl

pub whole-rung : (guard : Option ℕ) (needs : Bool) → has_rung (whole_plan guard needs) ≡ needs
whole-rung guard true = guarded-rung guard Entire
whole-rung guard false = refl

pub guarded-reads : (n : ℕ) (guard : Option ℕ) (plan : Plan) → reads n (guarded guard plan) ≡ (is_guard guard n ||
    reads n plan)
guarded-reads n None plan = refl
guarded-reads n (Some flag) plan = refl

or-false : (b : Bool) → (b || false) ≡ b
or-false true = refl
or-false false = refl

pub whole-reads : (n : ℕ) (guard : Option ℕ) → reads n (whole_plan guard true) ≡ is_guard guard n
whole-reads n guard = guarded-reads n guard Entire ∙ or-false (is_guard guard n)

module _ (items : ItemTable) (T : Plan → Bool) (Ts : Plans → Bool) (more : (plan : Plan) (plans : Plans) → Ts (a_plan
    plan plans) ≡ (T plan || Ts plans))
    (none : Ts no_plan ≡ false) where
  abbrev plan_at : Option ℕ → TyId → Step → List (Step × Plan) → Plan
  plan_at guard id step plans = part_plan items guard id (plan_by step plans)

  -- a part of which a test holds
  pub record Part (guard : Option ℕ) (ids : List TyId) (step : ℕ → Step) (plans : List (Step × Plan)) : Type 0 where
    pub part : ℕ
    pub id : TyId
    pub there : slice_get ids part ≡ Some id
    pub holds : T (plan_at guard id (step part) plans) ≡ true

  -- the parts from a number on
  some-from : (guard : Option ℕ) (ids : List TyId) (step : ℕ → Step) (plans : List (Step × Plan)) (n : ℕ) →
      Ts (part_plans items guard ids step plans n) ≡ true →
      (j : ℕ) × (m : ℕ) × (id : TyId) × (m ≡ n + j) × (slice_get ids j ≡ Some id) × (T (plan_at guard id (step m)
      plans) ≡ true)
  some-from guard [] step plans n h = absurd (false≢true (sym none ∙ h))
  some-from guard (id ∷ ids) step plans n h =
      elim (either (T (plan_at guard id (step n) plans)) (Ts (part_plans items guard ids step plans (suc n)))
      (sym (more (plan_at guard id (step n) plans) (part_plans items guard ids step plans (suc n))) ∙ h)) [
        | inl here ↦ (0, n, id, omega arith, refl, here)
        | inr later ↦ (let r = some-from guard ids step plans (suc n) later in
            (suc r.0, r.1, r.2, (let e = r.3 in let z : r.1 ≡ n + suc r.0 = omega (arith, e) in z), r.4, r.5))
      ]

  pub some-part : (guard : Option ℕ) (ids : List TyId) (step : ℕ → Step) (plans : List (Step × Plan)) →
      Ts (part_plans items guard ids step plans 0) ≡ true → Part guard ids step plans
  some-part guard ids step plans h =
      let r = some-from guard ids step plans 0 h in
      let same : r.1 ≡ r.0 = (let e = r.3 in omega (arith, e)) in record {
        part = r.0;
        id = r.2;
        there = r.4;
        holds = subst (λ (m : ℕ). T (plan_at guard r.2 (step m) plans) ≡ true) same r.5;
      }

  from-part : (guard : Option ℕ) (ids : List TyId) (step : ℕ → Step) (plans : List (Step × Plan)) (n j m : ℕ) (id :
      TyId) →
      m ≡ n + j → slice_get ids j ≡ Some id → T (plan_at guard id (step m) plans) ≡ true →
      Ts (part_plans items guard ids step plans n) ≡ true
  from-part guard [] step plans n j m id e at h = absurd (none-some id at)
  from-part guard (x ∷ ids) step plans n zero m id e at h =
      let here : m ≡ n = omega (arith, e) in
      more (plan_at guard x (step n) plans) (part_plans items guard ids step plans (suc n))
      ∙ or-left (T (plan_at guard x (step n) plans)) (Ts (part_plans items guard ids step plans (suc n)))
      (subst (λ (k : ℕ). T (plan_at guard x (step k) plans) ≡ true) here
      (subst (λ (y : TyId). T (plan_at guard y (step m) plans) ≡ true) (sym (same_Some x id at)) h))
  from-part guard (x ∷ ids) step plans n (suc j) m id e at h =
      more (plan_at guard x (step n) plans) (part_plans items guard ids step plans (suc n))
      ∙ or-right (T (plan_at guard x (step n) plans)) (Ts (part_plans items guard ids step plans (suc n)))
      (from-part guard ids step plans (suc n) j m id (omega (arith, e)) at h)

  pub part-some : (guard : Option ℕ) (ids : List TyId) (step : ℕ → Step) (plans : List (Step × Plan)) (part : ℕ) (id :
      TyId) →
      slice_get ids part ≡ Some id → T (plan_at guard id (step part) plans) ≡ true →
      Ts (part_plans items guard ids step plans 0) ≡ true
  part-some guard ids step plans part id at h = from-part guard ids step plans 0 part part id (omega arith) at h

  module _ (Tc : Cases → Bool) (also : (v : ℕ) (plans : Plans) (rest : Cases) → Tc (a_case v plans rest) ≡ (Ts plans
      || Tc rest))
      (never : Tc no_case ≡ false) where
    -- a variant with such a part
    pub record Of (variants : List Variant) (plans : List (Step × Plan)) : Type 0 where
      pub number : ℕ
      pub variant : Variant
      pub at : slice_get variants number ≡ Some variant
      pub part : Part None variant.fields (ToField number) plans

    abbrev fields_at : Variant → ℕ → List (Step × Plan) → Plans
    fields_at variant n plans = part_plans items None variant.fields (ToField n) plans 0

    some-variant-from : (variants : List Variant) (plans : List (Step × Plan)) (n : ℕ) →
        Tc (variant_plans items variants plans n) ≡ true →
        (j : ℕ) × (m : ℕ) × (variant : Variant) × (m ≡ n + j) × (slice_get variants j ≡ Some variant) × (Ts (fields_at
        variant m plans) ≡ true)
    some-variant-from [] plans n h = absurd (false≢true (sym never ∙ h))
    some-variant-from (variant ∷ variants) plans n h =
        elim (either (Ts (fields_at variant n plans)) (Tc (variant_plans items variants plans (suc n)))
        (sym (also n (fields_at variant n plans) (variant_plans items variants plans (suc n))) ∙ h)) [
          | inl here ↦ (0, n, variant, omega arith, refl, here)
          | inr later ↦ (let r = some-variant-from variants plans (suc n) later in
              (suc r.0, r.1, r.2, (let e = r.3 in let z : r.1 ≡ n + suc r.0 = omega (arith, e) in z), r.4, r.5))
        ]

    pub some-variant : (variants : List Variant) (plans : List (Step × Plan)) → Tc (variant_plans items variants plans
        0) ≡ true →
        Of variants plans
    some-variant variants plans h =
        let r = some-variant-from variants plans 0 h in
        let same : r.1 ≡ r.0 = (let e = r.3 in omega (arith, e)) in record {
          number = r.0;
          variant = r.2;
          at = r.4;
          part = some-part None r.2.fields (ToField r.0) plans
              (subst (λ (m : ℕ). Ts (fields_at r.2 m plans) ≡ true) same r.5);
        }

    from-variant : (variants : List Variant) (plans : List (Step × Plan)) (n j m : ℕ) (variant : Variant) → m ≡ n + j →
        slice_get variants j ≡ Some variant → Ts (fields_at variant m plans) ≡ true →
        Tc (variant_plans items variants plans n) ≡ true
    from-variant [] plans n j m variant e at h = absurd (none-some variant at)
    from-variant (x ∷ variants) plans n zero m variant e at h =
        let here : m ≡ n = omega (arith, e) in
        also n (fields_at x n plans) (variant_plans items variants plans (suc n))
        ∙ or-left (Ts (fields_at x n plans)) (Tc (variant_plans items variants plans (suc n)))
        (subst (λ (k : ℕ). Ts (fields_at x k plans) ≡ true) here
        (subst (λ (y : Variant). Ts (fields_at y m plans) ≡ true) (sym (same_Some x variant at)) h))
    from-variant (x ∷ variants) plans n (suc j) m variant e at h =
        also n (fields_at x n plans) (variant_plans items variants plans (suc n))
        ∙ or-right (Ts (fields_at x n plans)) (Tc (variant_plans items variants plans (suc n)))
        (from-variant variants plans (suc n) j m variant (omega (arith, e)) at h)

    pub variant-some : (variants : List Variant) (plans : List (Step × Plan)) (number : ℕ) (variant : Variant) (part :
        ℕ) (id : TyId) →
        slice_get variants number ≡ Some variant → slice_get variant.fields part ≡ Some id →
        T (plan_at None id (ToField number part) plans) ≡ true → Tc (variant_plans items variants plans 0) ≡ true
    variant-some variants plans number variant part id at there h =
        from-variant variants plans 0 number number variant (omega arith) at
        (part-some None variant.fields (ToField number) plans part id there h)

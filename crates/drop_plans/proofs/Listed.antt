-- The plans of parts and of variants, as lists.
use Rattle.std.proofs.Common.{◌≡◌, ◌∷◌, [], ℕ, suc, List, Option, None, refl, ap}
use Rattle.mir_ty.specs.declared.adt.Variant.{Variant}
use Rattle.mir_ty.specs.declared.ty.TyId.{TyId}
use Rattle.store_model.specs.Places.Place.{ToField}
use Rattle.cfg_graph.specs.Places.{named_step}
use Rattle.drop_values.specs.Facts.{Branches}
use Rattle.drop_values.specs.Plan as plain
use Rattle.drop_values.specs.Plan.{Plans, a_plan, a_case}
use Rattle.drop_values.specs.Planning as planning
use Rattle.drop_blocks.specs.Ladders.{step_of}
use Rattle.drop_blocks.specs.View.{plans_from, cases_from}
use Rattle.drop_plans.specs.Plans.{below_of}
use Rattle.drop_plans.specs.declared.planner.Planner.{Planner}

module _ (at : Planner) (under : Branches) (id : TyId) where
  module _ (variant guard : Option ℕ) where
    abbrev pub one_plan : TyId → ℕ → plain.Plan
    one_plan part n =
        planning.part_plan at.items.now guard part (planning.plan_by (named_step (step_of variant n)) (below_of at under id))

    abbrev pub plan_list : List TyId → ℕ → List plain.Plan
    plan_list [] n = []
    plan_list (part ∷ parts) n = one_plan part n ∷ plan_list parts (suc n)

    pub plans-listed : (parts : List TyId) (n : ℕ) →
        plans_from (plan_list parts n)
        ≡ planning.part_plans at.items.now guard parts (λ k. named_step (step_of variant k)) (below_of at under id) n
    plans-listed [] n = refl
    plans-listed (part ∷ parts) n = ap (a_plan (one_plan part n)) (plans-listed parts (suc n))

  abbrev pub one_variant : Variant → ℕ → Plans
  one_variant variant n = planning.part_plans at.items.now None variant.fields (ToField n) (below_of at under id) 0

  abbrev pub variant_list : List Variant → ℕ → List Plans
  variant_list [] n = []
  variant_list (variant ∷ variants) n = one_variant variant n ∷ variant_list variants (suc n)

  pub variants-listed : (variants : List Variant) (n : ℕ) →
      cases_from (variant_list variants n) n ≡ planning.variant_plans at.items.now variants (below_of at under id) n
  variants-listed [] n = refl
  variants-listed (variant ∷ variants) n = ap (a_case n (one_variant variant n)) (variants-listed variants (suc n))

-- What contracts see of a plan, without the places in memory where its parts lie.
use Rattle.std.specs.Prelude.{ℕ, suc, List, [], ◌∷◌}
use Rattle.drop_values.specs.Plan as plain
use Rattle.drop_values.specs.Plan.{Nothing, Entire, ByFlag, InParts, OfBox, ByVariant, Plans, no_plan, a_plan, Cases, no_case, a_case}
use Rattle.drop_blocks.specs.declared.plan.Plan.{Plan, Plan-F, fold-Plan}
use Rattle.drop_blocks.specs.declared.plan.VariantPlan.{VariantPlan, VariantPlan-F, fold-VariantPlan}

-- the plans of parts, in order
abbrev pub plans_from : List plain.Plan → Plans
plans_from [] = no_plan
plans_from (first ∷ rest) = a_plan first (plans_from rest)

-- the parts of variants, the first of which has this number
abbrev pub cases_from : List Plans → ℕ → Cases
cases_from [] n = no_case
cases_from (parts ∷ rest) n = a_case n parts (cases_from rest (suc n))

-- one layer of a plan, whose parts are seen already
abbrev pub plan_layer : Plan-F plain.Plan Plans → plain.Plan
plan_layer Plan-F.Nothing = Nothing
plan_layer Plan-F.Entire = Entire
plan_layer (Plan-F.ByFlag flag plan) = ByFlag flag plan.value
plan_layer (Plan-F.InParts parts) = InParts (plans_from parts)
plan_layer (Plan-F.OfBox guard inside) = OfBox guard inside.value
plan_layer (Plan-F.ByVariant variants) = ByVariant (cases_from variants 0)

abbrev pub variant_layer : VariantPlan-F plain.Plan Plans → Plans
variant_layer variant = plans_from variant.parts

abbrev pub plan_in : Plan → plain.Plan
plan_in = fold-Plan plain.Plan Plans plan_layer variant_layer

abbrev pub parts_in : VariantPlan → Plans
parts_in = fold-VariantPlan plain.Plan Plans plan_layer variant_layer

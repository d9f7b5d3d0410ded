-- Each form of a plan is seen by its parts.
use Rattle.std.proofs.Common.{◌≡◌, ℕ, List, Option, map, rules}
use Rattle.std.specs.Prelude.{Box}
use Rattle.std.specs.declared.alloc.Global.{Global}
use Rattle.drop_values.specs.Plan as plain
use Rattle.drop_values.specs.Plan.{Plans}
use Rattle.drop_blocks.specs.declared.plan.Plan as form
use Rattle.drop_blocks.specs.declared.plan.Plan.{Plan, the_lemmas}
use Rattle.drop_blocks.specs.declared.plan.VariantPlan.{VariantPlan}
use Rattle.drop_blocks.specs.View.{plan_in, parts_in, plans_from, cases_from}

pub nothing_seen : plan_in form.Nothing ≡ plain.Nothing
nothing_seen = search (rules, the_lemmas)

pub entire_seen : plan_in form.Entire ≡ plain.Entire
entire_seen = search (rules, the_lemmas)

pub by_flag_seen : (flag : ℕ) (plan : Box Plan Global) → plan_in (form.ByFlag flag plan)
    ≡ plain.ByFlag flag (plan_in plan.value)
by_flag_seen flag plan = search (rules, the_lemmas)

pub in_parts_seen : (plans : List Plan) → plan_in (form.InParts plans) ≡ plain.InParts (plans_from (map plan_in plans))
in_parts_seen plans = search (rules, the_lemmas)

pub of_box_seen : (guard : Option ℕ) (inside : Box Plan Global) → plan_in (form.OfBox guard inside)
    ≡ plain.OfBox guard (plan_in inside.value)
of_box_seen guard inside = search (rules, the_lemmas)

pub by_variant_seen : (variants : List VariantPlan) → plan_in (form.ByVariant variants)
    ≡ plain.ByVariant (cases_from (map parts_in variants) 0)
by_variant_seen variants = search (rules, the_lemmas)

pub parts_seen : (variant : VariantPlan) → parts_in variant ≡ plans_from (map plan_in variant.parts)
parts_seen variant = search (rules, the_lemmas)

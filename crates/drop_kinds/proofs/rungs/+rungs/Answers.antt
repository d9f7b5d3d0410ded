use Rattle.std.proofs.Common.{◌≡◌, ◌∙◌, ◌||◌, ◌+◌, ◌<◌, ◌≤◌, ℕ, Bool, true, false, List, drop, length, map, sym, ap, arith}
use Rattle.std.proofs.lemmas.List.{at_drop_all}
use Rattle.drop_values.specs.Plan as plain
use Rattle.drop_blocks.proofs.Seen.{nothing_seen, entire_seen, by_flag_seen, in_parts_seen, of_box_seen, by_variant_seen, parts_seen}
use Rattle.drop_blocks.specs.View.{plan_in, parts_in, plans_from, cases_from}
use Rattle.drop_blocks.specs.declared.plan.Plan.{Plan}
use Rattle.drop_blocks.specs.declared.plan.VariantPlan.{VariantPlan}
use Rattle.drop_laws.specs.Rungs as rungs
use Rattle.drop_kinds.proofs.Turns.{one-more, rung-cons, variant-rung-cons}
use Rattle.drop_kinds.proofs.rungs.+rungs.Goals as goal

pub has_rung-returns-in-Nothing : goal.has_rung-returns-in-Nothing
has_rung-returns-in-Nothing t c = sym (ap rungs.has_rung (ap plan_in c.in-Nothing.is ∙ nothing_seen))

pub has_rung-returns-in-Entire : goal.has_rung-returns-in-Entire
has_rung-returns-in-Entire t c = sym (ap rungs.has_rung (ap plan_in c.in-Entire.is ∙ entire_seen))

pub has_rung-returns-in-ByFlag : goal.has_rung-returns-in-ByFlag
has_rung-returns-in-ByFlag t c =
    c.has_rung.ensures ∙ ap (λ (p : Plan). rungs.has_rung (plan_in p)) c.deref.ensures
    ∙ sym (ap rungs.has_rung (ap plan_in c.in-ByFlag.is ∙ by_flag_seen c.in-ByFlag.flag c.in-ByFlag.plan))

pub has_rung-returns-in-InParts : goal.has_rung-returns-in-InParts
has_rung-returns-in-InParts t c =
    let plans : List Plan = c.as_slice.result.now in
    let seen : plan_in c.args.plan.now ≡ plain.InParts (plans_from (map plan_in plans)) =
    ap plan_in c.in-InParts.is ∙ in_parts_seen c.in-InParts.plans
    ∙ ap (λ (l : List Plan). plain.InParts (plans_from (map plan_in l))) (sym c.as_slice.ensures) in
    c.any_rung.ensures ∙ sym (ap rungs.has_rung seen)

pub has_rung-returns-in-OfBox : goal.has_rung-returns-in-OfBox
has_rung-returns-in-OfBox t c =
    sym (ap rungs.has_rung (ap plan_in c.in-OfBox.is ∙ of_box_seen c.in-OfBox.guard c.in-OfBox.inside))

pub has_rung-returns-in-ByVariant : goal.has_rung-returns-in-ByVariant
has_rung-returns-in-ByVariant t c =
    let variants : List VariantPlan = c.as_slice-in-ByVariant.result.now in
    let seen : plan_in c.args.plan.now ≡ plain.ByVariant (cases_from (map parts_in variants) 0) =
    ap plan_in c.in-ByVariant.is ∙ by_variant_seen c.in-ByVariant.variants
    ∙ ap (λ (l : List VariantPlan). plain.ByVariant (cases_from (map parts_in l) 0))
    (sym c.as_slice-in-ByVariant.ensures) in
    c.some_rung.ensures ∙ sym (ap rungs.has_rung seen)

pub any_rung-returns-then-has_rung : goal.any_rung-returns-then-has_rung
any_rung-returns-then-has_rung t c =
    let plans : List Plan = c.args.plans.now in
    let i = c.loop-plan.plan-index in
    let item : Plan = c.plan-item.result in
    let on : rungs.has_rung (plan_in item) ≡ true = sym c.has_rung.ensures ∙ c.if-has_rung.true in
    sym (sym c.loop-plan.invariant
    ∙ one-more (λ (l : List Plan). rungs.any_rung (plans_from (map plan_in l)))
    (λ (p : Plan). rungs.has_rung (plan_in p)) rung-cons plans i item
    c.loop-plan-test.true c.plan-item.is
    ∙ ap (λ (b : Bool). b || rungs.any_rung (plans_from (map plan_in (drop (i + 1) plans)))) on)

pub any_rung-loop-plan-preserved : goal.any_rung-loop-plan-preserved
any_rung-loop-plan-preserved t c =
    let plans : List Plan = c.args.plans.now in
    let i = c.loop-plan.plan-index in
    let item : Plan = c.plan-item.result in
    let off : rungs.has_rung (plan_in item) ≡ false = sym c.has_rung.ensures ∙ c.if-has_rung.false in
    sym (one-more (λ (l : List Plan). rungs.any_rung (plans_from (map plan_in l)))
    (λ (p : Plan). rungs.has_rung (plan_in p)) rung-cons plans i item
    c.loop-plan-test.true c.plan-item.is
    ∙ ap (λ (b : Bool). b || rungs.any_rung (plans_from (map plan_in (drop (i + 1) plans)))) off)
    ∙ c.loop-plan.invariant

pub any_rung-returns : goal.any_rung-returns
any_rung-returns t c =
    let plans : List Plan = c.args.plans.now in
    let i = c.loop-plan.plan-index in
    let far : length plans ≤ i = c.loop-plan-test.false in
    sym (at_drop_all (λ (l : List Plan). rungs.any_rung (plans_from (map plan_in l))) plans i far)
    ∙ c.loop-plan.invariant

pub variant_rung-returns : goal.variant_rung-returns
variant_rung-returns t c =
    c.any_rung.ensures
    ∙ ap (λ (l : List Plan). rungs.any_rung (plans_from (map plan_in l))) c.as_slice.ensures
    ∙ ap rungs.any_rung (sym (parts_seen c.args.variant.now))

pub some_rung-returns-then-variant_rung : goal.some_rung-returns-then-variant_rung
some_rung-returns-then-variant_rung t c =
    let variants : List VariantPlan = c.args.variants.now in
    let i = c.loop-variant.variant-index in
    let item : VariantPlan = c.variant-item.result in
    let on : rungs.any_rung (parts_in item) ≡ true = sym c.variant_rung.ensures ∙ c.if-variant_rung.true in
    sym (sym c.loop-variant.invariant
    ∙ one-more (λ (l : List VariantPlan). rungs.some_rung (cases_from (map parts_in l) 0))
    (λ (p : VariantPlan). rungs.any_rung (parts_in p)) variant-rung-cons variants i item
    c.loop-variant-test.true c.variant-item.is
    ∙ ap (λ (b : Bool). b || rungs.some_rung (cases_from (map parts_in (drop (i + 1) variants)) 0)) on)

pub some_rung-loop-variant-preserved : goal.some_rung-loop-variant-preserved
some_rung-loop-variant-preserved t c =
    let variants : List VariantPlan = c.args.variants.now in
    let i = c.loop-variant.variant-index in
    let item : VariantPlan = c.variant-item.result in
    let off : rungs.any_rung (parts_in item) ≡ false = sym c.variant_rung.ensures ∙ c.if-variant_rung.false in
    sym (one-more (λ (l : List VariantPlan). rungs.some_rung (cases_from (map parts_in l) 0))
    (λ (p : VariantPlan). rungs.any_rung (parts_in p)) variant-rung-cons variants i item
    c.loop-variant-test.true c.variant-item.is
    ∙ ap (λ (b : Bool). b || rungs.some_rung (cases_from (map parts_in (drop (i + 1) variants)) 0)) off)
    ∙ c.loop-variant.invariant

pub some_rung-returns : goal.some_rung-returns
some_rung-returns t c =
    let variants : List VariantPlan = c.args.variants.now in
    let i = c.loop-variant.variant-index in
    let far : length variants ≤ i = c.loop-variant-test.false in
    sym (at_drop_all (λ (l : List VariantPlan). rungs.some_rung (cases_from (map parts_in l) 0)) variants i far)
    ∙ c.loop-variant.invariant

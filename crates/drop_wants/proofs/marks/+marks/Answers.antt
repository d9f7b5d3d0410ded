use Rattle.std.proofs.Common.{List, map, refl}
use Rattle.drop_blocks.specs.View.{plan_in, parts_in, plans_from, cases_from}
use Rattle.drop_blocks.specs.declared.plan.Plan.{Plan}
use Rattle.drop_blocks.specs.declared.plan.VariantPlan.{VariantPlan}
use Rattle.drop_laws.specs.Rungs.{reads, any_reads, some_reads}
use Rattle.drop_kinds.proofs.Turns.{reads-cons, variant-reads-cons}
use Rattle.drop_wants.proofs.Marking.{marks-more, marks-all}
use Rattle.drop_wants.proofs.marks.+marks.Goals as goal

pub mark_parts-loop-plan-preserved : goal.mark_parts-loop-plan-preserved
mark_parts-loop-plan-preserved t c =
    marks-more (λ k (plans : List Plan). any_reads k (plans_from (map plan_in plans)))
    (λ k (plan : Plan). reads k (plan_in plan))
    reads-cons (λ k. refl) c.args.plans.now c.loop-plan.plan-index c.plan-item.result c.args.row.now c.loop-plan.row
    c.mark.new.row
    c.loop-plan-test.true c.plan-item.is c.loop-plan.invariant c.mark.ensures

pub mark_parts-returns : goal.mark_parts-returns
mark_parts-returns t c =
    marks-all (λ k (plans : List Plan). any_reads k (plans_from (map plan_in plans)))
    (λ k (plan : Plan). reads k (plan_in plan))
    reads-cons (λ k. refl) c.args.plans.now c.loop-plan.plan-index c.args.row.now c.loop-plan.row
    c.loop-plan-test.false c.loop-plan.invariant

pub mark_variants-loop-variant-preserved : goal.mark_variants-loop-variant-preserved
mark_variants-loop-variant-preserved t c =
    marks-more (λ k (variants : List VariantPlan). some_reads k (cases_from (map parts_in variants) 0))
    (λ k (variant : VariantPlan). any_reads k (parts_in variant)) variant-reads-cons (λ k. refl) c.args.variants.now
    c.loop-variant.variant-index c.variant-item.result c.args.row.now c.loop-variant.row c.mark_variant.new.row
    c.loop-variant-test.true c.variant-item.is c.loop-variant.invariant c.mark_variant.ensures

pub mark_variants-returns : goal.mark_variants-returns
mark_variants-returns t c =
    marks-all (λ k (variants : List VariantPlan). some_reads k (cases_from (map parts_in variants) 0))
    (λ k (variant : VariantPlan). any_reads k (parts_in variant)) variant-reads-cons (λ k. refl) c.args.variants.now
    c.loop-variant.variant-index c.args.row.now c.loop-variant.row c.loop-variant-test.false c.loop-variant.invariant

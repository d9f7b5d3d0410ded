use Rattle.std.proofs.Common.{◌≡◌, ◌∙◌, ◌-◌, ◌<◌, ◌≤◌, ℕ, suc, List, Some, length, map, sym, ap, arith}
use Rattle.std.proofs.lemmas.List.{at_drop_all}
use Rattle.std.proofs.lemmas.Result.{IfOk-weaker}
use Rattle.cfg_graph.specs.declared.place.Place.{Place}
use Rattle.cfg_graph.specs.declared.place.Step.{Step}
use Rattle.drop_elaborate.specs.Ladder.{place_below}
use Rattle.drop_values.specs.Plan as plain
use Rattle.drop_values.specs.Plan.{Plans}
use Rattle.drop_blocks.specs.Ladders.{Built, built_of, made_of, ladder_of, parts_of, cases_of, step_of, flag_test, test_before}
use Rattle.drop_blocks.specs.View.{plan_in, parts_in, plans_from, cases_from}
use Rattle.drop_blocks.specs.declared.plan.Plan.{Plan}
use Rattle.drop_blocks.specs.declared.plan.VariantPlan.{VariantPlan}
use Rattle.drop_blocks.proofs.Seen.{nothing_seen, entire_seen, by_flag_seen, in_parts_seen, of_box_seen, by_variant_seen, parts_seen}
use Rattle.drop_blocks.proofs.Turns.{to-part, to-field, part-more, case-more, behind, others}
use Rattle.drop_blocks.proofs.ladders.+ladder.Goals as goal

pub rungs-returns-in-Nothing : goal.rungs-returns-in-Nothing
rungs-returns-in-Nothing t c =
    let seen : plan_in c.args.plan.now ≡ plain.Nothing = ap plan_in c.in-Nothing.is ∙ nothing_seen in
    ap (λ (p : plain.Plan). ladder_of c.args.kind p c.args.place.now c.args.rest (made_of c.args.blocks.now)) (sym seen)

pub rungs-returns-in-Entire : goal.rungs-returns-in-Entire
rungs-returns-in-Entire t c =
    let seen : plan_in c.args.plan.now ≡ plain.Entire = ap plan_in c.in-Entire.is ∙ entire_seen in
    IfOk-weaker c.entire.result _ _
    (λ begun made. made
    ∙ ap (λ (p : plain.Plan). ladder_of c.args.kind p c.args.place.now c.args.rest (made_of c.args.blocks.now)) (sym seen))
    c.entire.ensures

pub rungs-returns-in_ok-there-in-ByFlag : goal.rungs-returns-in_ok-there-in-ByFlag
rungs-returns-in_ok-there-in-ByFlag t c =
    let flag = c.in-ByFlag.flag in
    let inner : Plan = c.deref.result.now in
    let seen : plan_in c.args.plan.now ≡ plain.ByFlag flag (plan_in inner) =
    ap plan_in c.in-ByFlag.is ∙ by_flag_seen flag c.in-ByFlag.plan
    ∙ ap (λ (p : Plan). plain.ByFlag flag (plan_in p)) (sym c.deref.ensures) in
    IfOk-weaker c.by_flag.result _ _
    (λ begun made. made
    ∙ ap (λ (b : Built). test_before c.args.kind (flag_test flag) b.chains c.args.rest b.made) c.in_ok-there-in-ByFlag.ensures
    ∙ ap (λ (p : plain.Plan). ladder_of c.args.kind p c.args.place.now c.args.rest (made_of c.args.blocks.now)) (sym seen))
    c.by_flag.ensures

pub rungs-returns-in-InParts : goal.rungs-returns-in-InParts
rungs-returns-in-InParts t c =
    let plans : List Plan = c.as_slice.result.now in
    let seen : plan_in c.args.plan.now ≡ plain.InParts (plans_from (map plan_in plans)) =
    ap plan_in c.in-InParts.is ∙ in_parts_seen c.in-InParts.plans
    ∙ ap (λ (l : List Plan). plain.InParts (plans_from (map plan_in l))) (sym c.as_slice.ensures) in
    IfOk-weaker c.rungs_of_parts.result _ _
    (λ begun made. made
    ∙ ap (λ (step : ℕ → Step). parts_of c.args.kind (plans_from (map plan_in plans)) step 0 c.args.place.now c.args.rest (made_of c.args.blocks.now)) to-part
    ∙ ap (λ (p : plain.Plan). ladder_of c.args.kind p c.args.place.now c.args.rest (made_of c.args.blocks.now)) (sym seen))
    c.rungs_of_parts.ensures

pub rungs-returns-in_ok-content-in-OfBox : goal.rungs-returns-in_ok-content-in-OfBox
rungs-returns-in_ok-content-in-OfBox t c =
    let guard = c.in-OfBox.guard in
    let inner : Plan = c.deref-in-OfBox.result.now in
    let seen : plan_in c.args.plan.now ≡ plain.OfBox guard (plan_in inner) =
    ap plan_in c.in-OfBox.is ∙ of_box_seen guard c.in-OfBox.inside
    ∙ ap (λ (p : Plan). plain.OfBox guard (plan_in p)) (sym c.deref-in-OfBox.ensures) in
    IfOk-weaker c.rungs-in-OfBox.result _ _
    (λ begun made. made
    ∙ (λ i. ladder_of c.args.kind (plan_in inner) (c.in_ok-content-in-OfBox.ensures i) (c.in_ok-behind-in-OfBox.ensures i).chains
    (c.in_ok-behind-in-OfBox.ensures i).made)
    ∙ ap (λ (p : plain.Plan). ladder_of c.args.kind p c.args.place.now c.args.rest (made_of c.args.blocks.now)) (sym seen))
    c.rungs-in-OfBox.ensures

pub rungs-returns-in-ByVariant : goal.rungs-returns-in-ByVariant
rungs-returns-in-ByVariant t c =
    let variants : List VariantPlan = c.as_slice-in-ByVariant.result.now in
    let seen : plan_in c.args.plan.now ≡ plain.ByVariant (cases_from (map parts_in variants) 0) =
    ap plan_in c.in-ByVariant.is ∙ by_variant_seen c.in-ByVariant.variants
    ∙ ap (λ (l : List VariantPlan). plain.ByVariant (cases_from (map parts_in l) 0)) (sym c.as_slice-in-ByVariant.ensures) in
    IfOk-weaker c.rungs_of_variants.result _ _
    (λ begun made. made
    ∙ ap (λ (p : plain.Plan). ladder_of c.args.kind p c.args.place.now c.args.rest (made_of c.args.blocks.now)) (sym seen))
    c.rungs_of_variants.ensures

pub rungs_of_parts-loop-n-init : goal.rungs_of_parts-loop-n-init
rungs_of_parts-loop-n-init t c =
    let n = c.in_ok-n.n in
    let plans : List Plan = c.args.plans.now in
    let all : n ≡ length plans = c.in_ok-n.ensures in (
      (let e : n ≤ length plans = omega (all, arith) in e),
      sym (at_drop_all (λ (l : List Plan). parts_of c.args.kind (plans_from (map plan_in l)) (step_of c.args.variant) n c.args.place.now c.args.rest (made_of c.args.blocks.now))
          plans n (let e : length plans ≤ n = omega (all, arith) in e)),
    )

pub rungs_of_parts-loop-n-preserved : goal.rungs_of_parts-loop-n-preserved
rungs_of_parts-loop-n-preserved t c =
    let n = c.loop-n.n in
    let m = c.loop-n.n - 1 in
    let plans : List Plan = c.args.plans.now in
    let left = c.loop-n-test.true in
    let within = c.loop-n.invariant.0 in
    let next : n ≡ suc m = omega (left, arith) in
    let d : Plan = c.index-plans-n.result in
    let b : Built = built_of c.loop-n.behind c.loop-n.blocks in (
      (let e : m ≤ length plans = omega (within, arith) in e),
      part-more c.args.kind c.args.place.now c.args.rest (made_of c.args.blocks.now) (step_of c.args.variant) plans n m d b _ next
          (let e : m < length plans = omega (within, left, arith) in e) c.index-plans-n.is
          (c.in_ok-behind.ensures
          ∙ ap (λ (p : Place). ladder_of c.args.kind (plan_in d) p b.chains b.made)
          (c.in_ok-part.ensures ∙ ap (place_below c.args.place.now) c.step_to.ensures))
          c.loop-n.invariant.1,
    )

pub rungs_of_parts-returns : goal.rungs_of_parts-returns
rungs_of_parts-returns t c =
    let none : c.loop-n.n ≡ 0 = (let far = c.loop-n-test.false in omega (far, arith)) in
    c.loop-n.invariant.1
    ∙ (λ i. behind c.args.kind c.args.place.now c.args.rest (made_of c.args.blocks.now) (step_of c.args.variant) c.args.plans.now (none i) (none i))

pub rungs_of_variants-loop-n-init : goal.rungs_of_variants-loop-n-init
rungs_of_variants-loop-n-init t c =
    let n = c.in_ok-n.n in
    let variants : List VariantPlan = c.args.variants.now in
    let all : n ≡ length variants = c.in_ok-n.ensures in (
      (let e : n ≤ length variants = omega (all, arith) in e),
      sym (at_drop_all (λ (l : List VariantPlan). cases_of c.args.kind (cases_from (map parts_in l) n) c.args.place.now c.args.rest (made_of c.args.blocks.now))
          variants n (let e : length variants ≤ n = omega (all, arith) in e)),
    )

pub rungs_of_variants-loop-n-preserved : goal.rungs_of_variants-loop-n-preserved
rungs_of_variants-loop-n-preserved t c =
    let n = c.loop-n.n in
    let m = c.loop-n.n - 1 in
    let variants : List VariantPlan = c.args.variants.now in
    let left = c.loop-n-test.true in
    let within = c.loop-n.invariant.0 in
    let next : n ≡ suc m = omega (left, arith) in
    let d : VariantPlan = c.index-variants-n.result in
    let b : Built = built_of c.loop-n.other c.loop-n.blocks in
    let there : Built = built_of c.in_ok-there.there c.rungs_of_variant.new.blocks in (
      (let e : m ≤ length variants = omega (within, arith) in e),
      case-more c.args.kind c.args.place.now c.args.rest (made_of c.args.blocks.now) variants n m d b there _ next
          (let e : m < length variants = omega (within, left, arith) in e) c.index-variants-n.is
          (c.in_ok-there.ensures
          ∙ ap (λ (step : ℕ → Step). parts_of c.args.kind (parts_in d) step 0 c.args.place.now c.args.rest b.made) (to-field m))
          c.in_ok-other.ensures c.loop-n.invariant.1,
    )

pub rungs_of_variants-returns : goal.rungs_of_variants-returns
rungs_of_variants-returns t c =
    let none : c.loop-n.n ≡ 0 = (let far = c.loop-n-test.false in omega (far, arith)) in
    c.loop-n.invariant.1
    ∙ (λ i. others c.args.kind c.args.place.now c.args.rest (made_of c.args.blocks.now) c.args.variants.now (none i) (none i))

pub rungs_of_variant-returns : goal.rungs_of_variant-returns
rungs_of_variant-returns t c =
    let parts : plans_from (map plan_in c.as_slice.result.now) ≡ parts_in c.args.variant.now =
    ap (λ (l : List Plan). plans_from (map plan_in l)) c.as_slice.ensures ∙ sym (parts_seen c.args.variant.now) in
    IfOk-weaker c.rungs_of_parts.result _ _
    (λ begun made. made
    ∙ ap (λ (p : Plans). parts_of c.args.kind p (step_of (Some c.args.number)) 0 c.args.place.now c.args.rest (made_of c.args.blocks.now)) parts)
    c.rungs_of_parts.ensures

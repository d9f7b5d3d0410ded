use Rattle.std.proofs.Common.{rules, ◌≡◌, ◌∙◌, ℕ, List, Option, map, option_map, sym, ap, arith}
use Rattle.std.proofs.lemmas.List.{get_or-set_other, length-map, length-set}
use Rattle.drop_values.specs.Plan as plain
use Rattle.drop_values.specs.Plan.{ByFlag, OfBox}
use Rattle.drop_blocks.specs.View.{plan_in, parts_in}
use Rattle.drop_blocks.specs.declared.plan.Plan.{Plan}
use Rattle.drop_blocks.specs.declared.plan.VariantPlan.{VariantPlan}
use Rattle.drop_blocks.proofs.Seen.{by_flag_seen, of_box_seen}
use Rattle.drop_wants.proofs.Changing.{parts-end, cases-end, seen-more}
use Rattle.drop_wants.specs.Renumbered.{number_in, renumbered, all_renumbered}
use Rattle.drop_wants.proofs.renumbered.+renumber.Goals as goal

pub renumber_plan-returns-in-ByFlag : goal.renumber_plan-returns-in-ByFlag
renumber_plan-returns-in-ByFlag t c =
    let number : ℕ → ℕ = number_in c.args.table.now in
    let inside : c.deref_mut.result.now ≡ c.in-ByFlag.plan.value = search rules in
    let plan = c.renumber_plan.ensures ∙ ap (λ (p : Plan). renumbered number (plan_in p)) inside in
    let flag = c.number.ensures ∙ ap number c.in-ByFlag.flag-is in
    let was = ap plan_in c.in-ByFlag.is ∙ by_flag_seen c.in-ByFlag.flag c.in-ByFlag.plan in
    by_flag_seen c.number.result _ ∙ (λ i. ByFlag (flag i) (plan i))
    ∙ sym (ap (λ (p : plain.Plan). renumbered number p) was)

pub renumber_plan-returns-in-OfBox : goal.renumber_plan-returns-in-OfBox
renumber_plan-returns-in-OfBox t c =
    let number : ℕ → ℕ = number_in c.args.table.now in
    let inside : c.deref_mut-in-OfBox.result.now ≡ c.in-OfBox.inside.value = search rules in
    let plan = c.renumber_plan-in-OfBox.ensures ∙ ap (λ (p : Plan). renumbered number (plan_in p)) inside in
    let guard = c.renumber_guard.ensures ∙ ap (λ (g : Option ℕ). option_map number g) c.in-OfBox.guard-is in
    let was = ap plan_in c.in-OfBox.is ∙ of_box_seen c.in-OfBox.guard c.in-OfBox.inside in
    of_box_seen c.renumber_guard.new.guard _ ∙ (λ i. OfBox (guard i) (plan i))
    ∙ sym (ap (λ (p : plain.Plan). renumbered number p) was)

pub renumber_parts-loop-n-preserved : goal.renumber_parts-loop-n-preserved
renumber_parts-loop-n-preserved t c =
    let number : ℕ → ℕ = number_in c.args.table.now in
    let plans : List Plan = c.loop-n.plans in
    let n = c.loop-n.n in
    let now : Plan = c.renumber_plan.new.plan in (
      length-set plans n now ∙ c.loop-n.invariant.0,
      λ k d far. get_or-set_other plans n k now d (λ e. omega (e, far, arith)) ∙ c.loop-n.invariant.1 k d (omega (far, arith)),
      seen-more plan_in (renumbered number) plans (map plan_in c.args.plans.now) n c.element_mut.result.now now
          c.loop-n.invariant.2 c.element_mut.ensures.value c.renumber_plan.ensures,
    )

pub renumber_parts-returns : goal.renumber_parts-returns
renumber_parts-returns t c =
    let number : ℕ → ℕ = number_in c.args.table.now in
    parts-end number (map plan_in c.loop-n.plans) (map plan_in c.args.plans.now) c.loop-n.n c.loop-n.invariant.2
    (let l = length-map c.args.plans.now plan_in in let t = c.loop-n-test.false in let e = c.len-n-end.ensures in
    omega (l, t, e, arith))

pub renumber_variants-loop-n-preserved : goal.renumber_variants-loop-n-preserved
renumber_variants-loop-n-preserved t c =
    let number : ℕ → ℕ = number_in c.args.table.now in
    let variants : List VariantPlan = c.loop-n.variants in
    let n = c.loop-n.n in
    let now : VariantPlan = c.renumber_variant.new.variant in (
      length-set variants n now ∙ c.loop-n.invariant.0,
      λ k d far. get_or-set_other variants n k now d (λ e. omega (e, far, arith)) ∙ c.loop-n.invariant.1 k d (omega (far, arith)),
      seen-more parts_in (all_renumbered number) variants (map parts_in c.args.variants.now) n c.element_mut.result.now now
          c.loop-n.invariant.2 c.element_mut.ensures.value c.renumber_variant.ensures,
    )

pub renumber_variants-returns : goal.renumber_variants-returns
renumber_variants-returns t c =
    let number : ℕ → ℕ = number_in c.args.table.now in
    cases-end number (map parts_in c.loop-n.variants) (map parts_in c.args.variants.now) c.loop-n.n c.loop-n.invariant.2
    (let l = length-map c.args.variants.now parts_in in let t = c.loop-n-test.false in let e = c.len-n-end.ensures in
    omega (l, t, e, arith))

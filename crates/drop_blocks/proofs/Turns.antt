-- One part more of a value, and one variant more of an enum, is put before those that follow it.
use Rattle.std.proofs.Common.{◌≡◌, ◌∙◌, ◌+◌, ◌<◌, ℕ, suc, List, Some, None, drop, length, map, refl, sym, arith}
use Rattle.std.proofs.Math.Path.{fun_ext}
use Rattle.std.proofs.lemmas.List.{at_drop_more}
use Rattle.std.specs.Prelude.{get_or}
use Rattle.cfg_graph.specs.declared.place.Place.{Place}
use Rattle.cfg_graph.specs.declared.place.Step.{Step}
use Rattle.cfg_graph.specs.declared.graph.Kind.{Kind}
use Rattle.drop_elaborate.specs.Build.{Made}
use Rattle.drop_elaborate.specs.Ladder.{place_below}
use Rattle.drop_values.specs.Plan as plain
use Rattle.drop_values.specs.Plan.{Plans}
use Rattle.drop_blocks.specs.Ladders.{Built, step_of, ladder_of, parts_of, cases_of, case_test, test_before}
use Rattle.drop_blocks.specs.View.{plan_in, parts_in, plans_from, cases_from}
use Rattle.drop_blocks.specs.declared.plan.Plan.{Plan}
use Rattle.drop_blocks.specs.declared.plan.VariantPlan.{VariantPlan}
use Rattle.drop_blocks.specs.declared.rungs.Chains.{Chains}

-- steps to parts
pub to-part : step_of None ≡ Step.Part
to-part = fun_ext (λ n. refl)

pub to-field : (variant : ℕ) → step_of (Some variant) ≡ (λ n. Step.Field variant n)
to-field variant = fun_ext (λ n. refl)

module _ (kind : Kind) (place : Place) (rest : Chains) (base : Made) where
  module _ (step : ℕ → Step) (plans : List Plan) where
    -- what stands behind the first parts, so many
    abbrev pub behind : (dropped number : ℕ) → Built
    behind k n = parts_of kind (plans_from (map plan_in (drop k plans))) step n place rest base

    abbrev before : ℕ → plain.Plan → Built → Built
    before n plan b = ladder_of kind plan (place_below place (step n)) b.chains b.made

    pub part-more : (n m : ℕ) (d : Plan) (b new : Built) → n ≡ suc m → m < length plans → d ≡ get_or plans m d →
        new ≡ before m (plan_in d) b → b ≡ behind n n → new ≡ behind m m
    part-more n m d b new next less is made so_far =
        let one_more : n ≡ m + 1 = omega arith in
        let first : behind m m ≡ before m (plan_in (get_or plans m d)) (behind (m + 1) (suc m)) =
        at_drop_more (λ (l : List Plan). parts_of kind (plans_from (map plan_in l)) step m place rest base) plans m d less in
        let last : b ≡ behind (m + 1) (suc m) = so_far ∙ (λ i. behind (one_more i) (next i)) in
        made ∙ (λ i. before m (plan_in (is i)) (last i)) ∙ sym first

  module _ (variants : List VariantPlan) where
    abbrev pub others : (dropped number : ℕ) → Built
    others k n = cases_of kind (cases_from (map parts_in (drop k variants)) n) place rest base

    abbrev there : ℕ → Plans → Built → Built
    there n parts b = parts_of kind parts (λ k. Step.Field n k) 0 place rest b.made

    abbrev tested : ℕ → Plans → Built → Built
    tested n parts b = test_before kind (case_test place n) (there n parts b).chains b.chains (there n parts b).made

    pub case-more : (n m : ℕ) (d : VariantPlan) (b c new : Built) → n ≡ suc m → m < length variants →
        d ≡ get_or variants m d → c ≡ there m (parts_in d) b →
        new ≡ test_before kind (case_test place m) c.chains b.chains c.made → b ≡ others n n → new ≡ others m m
    case-more n m d b c new next less is parts made so_far =
        let one_more : n ≡ m + 1 = omega arith in
        let first : others m m ≡ tested m (parts_in (get_or variants m d)) (others (m + 1) (suc m)) =
        at_drop_more (λ (l : List VariantPlan). cases_of kind (cases_from (map parts_in l) m) place rest base) variants m d
        less in
        let last : b ≡ others (m + 1) (suc m) = so_far ∙ (λ i. others (one_more i) (next i)) in
        made ∙ (λ i. test_before kind (case_test place m) (parts i).chains b.chains (parts i).made)
        ∙ (λ i. tested m (parts_in (is i)) (last i)) ∙ sym first

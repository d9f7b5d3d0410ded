use Rattle.std.proofs.Common.{◌≡◌, ◌≤◌, ℕ, length, map}
use Rattle.std.specs.Prelude.{get_or}
use Rattle.drop_blocks.specs.View.{plan_in, parts_in}
use Rattle.drop_blocks.specs.declared.plan.Plan.{Plan}
use Rattle.drop_blocks.specs.declared.plan.VariantPlan.{VariantPlan}
use Rattle.drop_wants.proofs.Changing.{changed_to}
use Rattle.drop_wants.specs.Renumbered.{number_in, renumbered, all_renumbered}
use Rattle.drop_wants.proofs.renumbered.+renumber.Given as goal

-- those that are yet to come are as they were, and those before have their other numbers
abbrev pub invariant-renumber_parts-loop-n : goal.invariant-renumber_parts-loop-n
invariant-renumber_parts-loop-n l =
    (length l.plans ≡ length l.initial.plans)
    × ((k : ℕ) (d : Plan) → l.n ≤ k → get_or l.plans k d ≡ get_or l.initial.plans k d)
    × (map plan_in l.plans ≡ changed_to (renumbered (number_in l.table)) l.n (map plan_in l.initial.plans))

abbrev pub invariant-renumber_variants-loop-n : goal.invariant-renumber_variants-loop-n
invariant-renumber_variants-loop-n l =
    (length l.variants ≡ length l.initial.variants)
    × ((k : ℕ) (d : VariantPlan) → l.n ≤ k → get_or l.variants k d ≡ get_or l.initial.variants k d)
    × (map parts_in l.variants ≡ changed_to (all_renumbered (number_in l.table)) l.n (map parts_in l.initial.variants))

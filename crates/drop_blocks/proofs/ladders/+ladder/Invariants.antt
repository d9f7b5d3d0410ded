use Rattle.std.proofs.Common.{◌≡◌, ◌≤◌, drop, length, map}
use Rattle.drop_blocks.specs.Ladders.{built_of, made_of, parts_of, cases_of, step_of}
use Rattle.drop_blocks.specs.View.{plan_in, parts_in, plans_from, cases_from}
use Rattle.drop_blocks.proofs.ladders.+ladder.Given as goal

abbrev pub invariant-rungs_of_parts-loop-n : goal.invariant-rungs_of_parts-loop-n
invariant-rungs_of_parts-loop-n l =
    (l.n ≤ length l.plans)
    × (built_of l.behind l.blocks
    ≡ parts_of l.kind (plans_from (map plan_in (drop l.n l.plans))) (step_of l.variant) l.n l.place l.fn.rest (made_of l.fn.blocks))

abbrev pub decreases-rungs_of_parts-loop-n : goal.decreases-rungs_of_parts-loop-n
decreases-rungs_of_parts-loop-n l = l.n

abbrev pub invariant-rungs_of_variants-loop-n : goal.invariant-rungs_of_variants-loop-n
invariant-rungs_of_variants-loop-n l =
    (l.n ≤ length l.variants)
    × (built_of l.other l.blocks
    ≡ cases_of l.kind (cases_from (map parts_in (drop l.n l.variants)) l.n) l.place l.rest (made_of l.fn.blocks))

abbrev pub decreases-rungs_of_variants-loop-n : goal.decreases-rungs_of_variants-loop-n
decreases-rungs_of_variants-loop-n l = l.n

use Rattle.std.proofs.Common.{map}
use Rattle.drop_blocks.specs.View.{plan_in, parts_in, plans_from, cases_from}
use Rattle.drop_laws.specs.Rungs.{any_reads, some_reads}
use Rattle.drop_wants.proofs.Marking.{MarksTo}
use Rattle.drop_wants.proofs.marks.+marks.Given as goal

abbrev pub invariant-mark_parts-loop-plan : goal.invariant-mark_parts-loop-plan
invariant-mark_parts-loop-plan l =
    MarksTo (λ k plans. any_reads k (plans_from (map plan_in plans))) l.plans l.plan-index l.initial.row l.row

abbrev pub invariant-mark_variants-loop-variant : goal.invariant-mark_variants-loop-variant
invariant-mark_variants-loop-variant l =
    MarksTo (λ k variants. some_reads k (cases_from (map parts_in variants) 0)) l.variants l.variant-index
    l.initial.row l.row

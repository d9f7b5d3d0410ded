use Rattle.std.proofs.Common.{◌≡◌, drop, map}
use Rattle.drop_blocks.specs.View.{plan_in, parts_in, plans_from, cases_from}
use Rattle.drop_laws.specs.Rungs as rungs
use Rattle.drop_kinds.proofs.rungs.+rungs.Given as goal

abbrev pub invariant-any_rung-loop-plan : goal.invariant-any_rung-loop-plan
invariant-any_rung-loop-plan l =
    rungs.any_rung (plans_from (map plan_in (drop l.plan-index l.plans)))
    ≡ rungs.any_rung (plans_from (map plan_in l.plans))

abbrev pub invariant-some_rung-loop-variant : goal.invariant-some_rung-loop-variant
invariant-some_rung-loop-variant l =
    rungs.some_rung (cases_from (map parts_in (drop l.variant-index l.variants)) 0)
    ≡ rungs.some_rung (cases_from (map parts_in l.variants) 0)

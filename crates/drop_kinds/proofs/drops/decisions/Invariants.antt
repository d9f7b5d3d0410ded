use Rattle.std.proofs.Common.{◌≡◌}
use Rattle.drop_plans.specs.Plans.{flag_of}
use Rattle.drop_kinds.specs.Decided.{AreDecided}
use Rattle.drop_kinds.proofs.drops.decisions.Given as goal

abbrev pub invariant-loop-block : goal.invariant-loop-block
invariant-loop-block l =
    (l.number ≡ l.block-index)
    × AreDecided l.items l.body l.told.forest.paths (flag_of l.flags) l.block-index l.decided

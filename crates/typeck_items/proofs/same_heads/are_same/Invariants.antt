use Rattle.std.proofs.Common.{◌≡◌, drop}
use Rattle.well_typed.specs.Types.{are_same}
use Rattle.typeck_items.proofs.same_heads.are_same.Given as goal

abbrev pub invariant-loop-k : goal.invariant-loop-k
invariant-loop-k l = are_same l.some l.others ≡ are_same (drop l.k l.some) (drop l.k l.others)

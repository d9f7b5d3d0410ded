use Rattle.std.proofs.Common.{◌≤◌, ◌-◌, length, take}
use Rattle.typeck_env.specs.Coerced.{HasImpls}
use Rattle.typeck_env.proofs.impls.impl_pairs.Given as goal

abbrev pub invariant-loop-def : goal.invariant-loop-def
invariant-loop-def l =
    record {
      within : l.n ≤ length l.items.impls;
      pairs : HasImpls l.pairs (take l.n l.items.impls);
    }

abbrev pub decreases-loop-def : goal.decreases-loop-def
decreases-loop-def l = length l.items.impls - l.n

use Rattle.std.proofs.Common.{◌≡◌, ◌≤◌, ◌-◌, length, map, take}
use Rattle.typeck_checker.specs.Tables.{method_words}
use Rattle.type_check.proofs.items.method_names.Given as goal

abbrev pub invariant-loop-def : goal.invariant-loop-def
invariant-loop-def l =
    record {
      within : l.n ≤ length l.items.traits;
      names : l.names ≡ map method_words (take l.n l.items.traits);
    }

abbrev pub decreases-loop-def : goal.decreases-loop-def
decreases-loop-def l = length l.items.traits - l.n

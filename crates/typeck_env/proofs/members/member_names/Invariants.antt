use Rattle.std.proofs.Common.{◌≡◌, ◌≤◌, ◌-◌, length, take}
use Rattle.typeck_env.specs.Members.{all_names}
use Rattle.typeck_env.proofs.members.member_names.Given as goal

abbrev pub invariant-loop-adt : goal.invariant-loop-adt
invariant-loop-adt l =
    record {
      within : l.n ≤ length l.items.adts;
      names : l.names ≡ all_names (take l.n l.items.adts);
    }

abbrev pub decreases-loop-adt : goal.decreases-loop-adt
decreases-loop-adt l = length l.items.adts - l.n

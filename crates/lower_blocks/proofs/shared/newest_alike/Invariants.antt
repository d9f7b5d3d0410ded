use Rattle.std.proofs.Common.{◌≡◌, ◌≤◌, length, take}
use Rattle.lower_rules.specs.Build.{end_among}
use Rattle.lower_blocks.specs.Building.{end_of, listed_in}
use Rattle.lower_blocks.proofs.shared.newest_alike.Given as goal

abbrev pub invariant-loop-left : goal.invariant-loop-left
invariant-loop-left l =
    (l.left ≤ length l.blocks)
    × (end_among (end_of l.end) (listed_in l.blocks) ≡ end_among (end_of l.end) (listed_in (take l.left l.blocks)))

abbrev pub decreases-loop-left : goal.decreases-loop-left
decreases-loop-left l = l.left

use Rattle.std.proofs.Common.{◌+◌, ◌*◌}
use Rattle.lower_blocks.proofs.builder.+building.Given as goal

abbrev pub decreases-build : goal.decreases-build
decreases-build l = 8 * l.end + 3

abbrev pub decreases-build_one : goal.decreases-build_one
decreases-build_one l = 8 * l.end

abbrev pub decreases-build_from : goal.decreases-build_from
decreases-build_from l = 8 * l.end + 1

abbrev pub decreases-build_behind : goal.decreases-build_behind
decreases-build_behind l = 8 * l.another + 4

abbrev pub decreases-build_both : goal.decreases-build_both
decreases-build_both l = 8 * l.end + 1

abbrev pub decreases-build_scope : goal.decreases-build_scope
decreases-build_scope l = 8 * l.end + 1

abbrev pub decreases-build_toward : goal.decreases-build_toward
decreases-build_toward l = 8 * l.end + 4

abbrev pub decreases-build_branches : goal.decreases-build_branches
decreases-build_branches l = 8 * l.end + 1

abbrev pub decreases-build_loop : goal.decreases-build_loop
decreases-build_loop l = 8 * l.end + 2

abbrev pub decreases-build_turn : goal.decreases-build_turn
decreases-build_turn l = 8 * l.end + 1

abbrev pub decreases-build_match : goal.decreases-build_match
decreases-build_match l = 8 * l.end + 1

abbrev pub decreases-build_arms : goal.decreases-build_arms
decreases-build_arms l = 8 * l.end

abbrev pub decreases-build_arm : goal.decreases-build_arm
decreases-build_arm l = 8 * l.end + 3

abbrev pub decreases-build_taken : goal.decreases-build_taken
decreases-build_taken l = 8 * l.end + 2

abbrev pub decreases-build_guarded : goal.decreases-build_guarded
decreases-build_guarded l = 8 * l.end + 1

abbrev pub decreases-build_behind_guard : goal.decreases-build_behind_guard
decreases-build_behind_guard l = 8 * l.another + 4

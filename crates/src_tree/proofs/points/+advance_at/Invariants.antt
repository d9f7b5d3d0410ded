use Rattle.src_tree.specs.Table.{rest_at, eithers}
use Rattle.src_tree.proofs.points.+advance_at.Given as goal

abbrev pub decreases-advance_at : goal.decreases-advance_at
decreases-advance_at l = eithers (rest_at l.at)

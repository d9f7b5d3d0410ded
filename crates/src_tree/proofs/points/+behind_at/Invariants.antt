use Rattle.src_tree.specs.Table.{rest_at, eithers}
use Rattle.src_tree.proofs.points.+behind_at.Given as goal

abbrev pub decreases-behind_at : goal.decreases-behind_at
decreases-behind_at l = eithers (rest_at l.at)

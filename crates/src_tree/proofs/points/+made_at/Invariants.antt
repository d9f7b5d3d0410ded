use Rattle.src_tree.specs.Table.{rest_at, eithers}
use Rattle.src_tree.proofs.points.+made_at.Given as goal

abbrev pub decreases-made_at : goal.decreases-made_at
decreases-made_at l = eithers (rest_at l.at)

use Rattle.src_tree.specs.Table.{rest_at, eithers}
use Rattle.src_tree.proofs.points.+due_at.Given as goal

abbrev pub decreases-due_at : goal.decreases-due_at
decreases-due_at l = eithers (rest_at l.at)

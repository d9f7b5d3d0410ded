use Rattle.src_tree.specs.Table.{rest_at}
use Rattle.src_parse.specs.Bounds.{size}
use Rattle.src_parse.proofs.depth_bound.+step_bound.Given as goal

abbrev pub decreases-step_bound : goal.decreases-step_bound
decreases-step_bound l = size (rest_at l.at)

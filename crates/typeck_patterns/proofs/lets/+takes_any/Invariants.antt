use Rattle.std.proofs.Common.{◌*◌}
use Rattle.src_ast.specs.Seen.{syn_of}
use Rattle.typeck_patterns.specs.Sizes.{size}
use Rattle.typeck_patterns.proofs.lets.+takes_any.Given as goal

abbrev pub decreases-takes_any : goal.decreases-takes_any
decreases-takes_any l = 8 * size (syn_of l.node.now)

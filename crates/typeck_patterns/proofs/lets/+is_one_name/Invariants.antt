use Rattle.std.proofs.Common.{◌*◌}
use Rattle.src_ast.specs.Seen.{syn_of}
use Rattle.typeck_patterns.specs.Sizes.{size}
use Rattle.typeck_patterns.proofs.lets.+is_one_name.Given as goal

abbrev pub decreases-is_one_name : goal.decreases-is_one_name
decreases-is_one_name l = 8 * size (syn_of l.node.now)

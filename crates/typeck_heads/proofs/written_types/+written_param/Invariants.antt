use Rattle.std.proofs.Common.{◌*◌}
use Rattle.src_ast.specs.Seen.{syn_of}
use Rattle.typeck_heads.specs.Sizes.{size}
use Rattle.typeck_heads.proofs.written_types.+written_param.Given as goal

abbrev pub decreases-written_param : goal.decreases-written_param
decreases-written_param l = 4 * size (syn_of l.node.now)

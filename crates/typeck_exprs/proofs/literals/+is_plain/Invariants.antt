use Rattle.src_ast.specs.Seen.{syn_of}
use Rattle.typeck_exprs.specs.Sizes.{size}
use Rattle.typeck_exprs.proofs.literals.+is_plain.Given as goal

abbrev pub decreases-is_plain : goal.decreases-is_plain
decreases-is_plain l = size (syn_of l.node.now)

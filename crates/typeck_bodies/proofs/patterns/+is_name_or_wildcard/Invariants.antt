use Rattle.src_ast.specs.Seen.{syn_of}
use Rattle.typeck_patterns.specs.Sizes.{size}
use Rattle.typeck_bodies.proofs.patterns.+is_name_or_wildcard.Given as goal

abbrev pub decreases-is_name_or_wildcard : goal.decreases-is_name_or_wildcard
decreases-is_name_or_wildcard l = size (syn_of l.node.now)

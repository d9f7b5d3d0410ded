use Rattle.src_ast.specs.Seen.{syn_of}
use Rattle.typeck_calls.specs.Callees.{parens}
use Rattle.typeck_calls.proofs.callees.+place_inside.Given as goal

abbrev pub decreases-place_inside : goal.decreases-place_inside
decreases-place_inside l = parens (syn_of l.node.now)

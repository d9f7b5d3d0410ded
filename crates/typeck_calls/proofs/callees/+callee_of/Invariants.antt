use Rattle.src_ast.specs.Seen.{syn_of}
use Rattle.typeck_calls.specs.Callees.{parens}
use Rattle.typeck_calls.proofs.callees.+callee_of.Given as goal

abbrev pub decreases-callee_of : goal.decreases-callee_of
decreases-callee_of l = parens (syn_of l.node.now)

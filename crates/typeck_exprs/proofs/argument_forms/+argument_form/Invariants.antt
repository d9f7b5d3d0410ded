use Rattle.src_ast.specs.Seen.{syn_of}
use Rattle.typeck_exprs.specs.Sizes.{size}
use Rattle.typeck_exprs.proofs.argument_forms.+argument_form.Given as goal

abbrev pub decreases-argument_form : goal.decreases-argument_form
decreases-argument_form l = size (syn_of l.node.now)

use Rattle.std.proofs.Common.{◌+◌, ◌*◌}
use Rattle.src_ast.specs.Expressions.{expression_of}
use Rattle.src_ast.specs.Seen.{syn_of}
use Rattle.typeck_exprs.specs.Sizes.{seen_size, size}
use Rattle.typeck_exprs.proofs.place_forms.+places.Given as goal

abbrev pub decreases-place_form : goal.decreases-place_form
decreases-place_form l = 2 * size (syn_of l.node.now)

abbrev pub decreases-place_of : goal.decreases-place_of
decreases-place_of l = 2 * seen_size (expression_of l.form) + 1

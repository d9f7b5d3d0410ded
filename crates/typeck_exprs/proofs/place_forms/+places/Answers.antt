use Rattle.std.proofs.Common.{arith, ap}
use Rattle.src_ast.specs.Expressions.{expression_of}
use Rattle.typeck_exprs.specs.Sizes.{seen_size}
use Rattle.typeck_exprs.proofs.PlaceForms.{by_index, of_node}
use Rattle.typeck_exprs.proofs.Shapes.{node_size}
use Rattle.typeck_checker.specs.Stand.{env}
use Rattle.typeck_exprs.proofs.place_forms.+places.Goals as goal

pub place_form-place_of-requires : goal.place_form-place_of-requires
place_form-place_of-requires t c = omega (arith, node_size c.args.node.now, ap seen_size c.expression_form.ensures)

pub place_form-returns : goal.place_form-returns
place_form-returns t c =
    of_node (env c.args.checker.now) c.args.node.now (expression_of c.expression_form.result) c.place_of.result c.expression_form.ensures c.place_of.ensures

pub place_of-returns-in-Index : goal.place_of-returns-in-Index
place_of-returns-in-Index t c = by_index (env c.args.checker.now) c.args.at c.args.form c.in-Index.base c.in-Index.index c.in-Index.is

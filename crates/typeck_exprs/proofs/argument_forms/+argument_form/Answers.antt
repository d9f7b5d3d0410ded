use Rattle.std.proofs.Common.{arith, refl, sym}
use Rattle.src_ast.specs.Seen.{syn_of}
use Rattle.src_ast.specs.Syntax.{Parens}
use Rattle.typeck_exprs.proofs.Referring.{as_borrow, as_inside, as_other, refers_to_none}
use Rattle.typeck_exprs.proofs.Shapes.{part_size}
use Rattle.typeck_checker.specs.Stand.{env, state}
use Rattle.typeck_exprs.proofs.argument_forms.+argument_form.Goals as goal

pub argument_form-requires : goal.argument_form-requires
argument_form-requires t c = omega (arith, part_size c.args.node.now (Parens (syn_of c.in-Parens.inside.now)) (sym c.in-Parens.ensures))

pub returns-in-Borrow : goal.returns-in-Borrow
returns-in-Borrow t c = as_borrow (env c.args.checker.now) c.args.node.now (state c.args.checker.now) c.in-Borrow.unique c.in-Borrow.operand c.in-Borrow.ensures

pub returns-in-Parens : goal.returns-in-Parens
returns-in-Parens t c =
    as_inside (env c.args.checker.now) c.args.node.now (state c.args.checker.now) c.in-Parens.inside c.argument_form.result c.in-Parens.ensures c.argument_form.ensures

pub returns-in_default : goal.returns-in_default
returns-in_default t c =
    as_other (env c.args.checker.now) c.args.node.now (state c.args.checker.now) c.args.node c.expression_form.result refl c.expression_form.ensures
    (refers_to_none c.expression_form.result c.in_default.not-Borrow c.in_default.not-Path c.in_default.not-SelfValue c.in_default.not-Parens)

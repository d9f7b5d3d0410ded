use Rattle.std.proofs.Common.{arith, ap, sym, ◌∙◌}
use Rattle.src_ast.specs.Seen.{syn_of}
use Rattle.src_ast.specs.Syntax.{Parens}
use Rattle.typeck_exprs.specs.Forms.{is_plain_as}
use Rattle.typeck_exprs.proofs.Numbers.{minus_plain, not_plain}
use Rattle.typeck_exprs.proofs.Shapes.{part_size, plain_seen}
use Rattle.typeck_exprs.proofs.literals.+is_plain.Goals as goal

pub is_plain-requires : goal.is_plain-requires
is_plain-requires t c = omega (arith, part_size c.args.node.now (Parens (syn_of c.in-Parens.inside.now)) (sym c.in-Parens.ensures))

pub returns-in-Negate : goal.returns-in-Negate
returns-in-Negate t c =
    c.is_plain_number.ensures ∙ minus_plain (syn_of c.in-Negate.operand.now) ∙ ap is_plain_as c.in-Negate.ensures
    ∙ sym (plain_seen c.args.node.now)

pub returns-in_default : goal.returns-in_default
returns-in_default t c =
    sym (not_plain c.expression_form.result c.in_default.not-Parens c.in_default.not-Negate c.in_default.not-Number)
    ∙ ap is_plain_as c.expression_form.ensures ∙ sym (plain_seen c.args.node.now)

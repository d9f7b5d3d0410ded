use Rattle.std.proofs.Common.{ap, ap₂, false, sym, true, ◌∙◌}
use Rattle.src_ast.specs.Seen.{nodes_of}
use Rattle.src_ast.specs.Sorts.{expression_part}
use Rattle.src_ast.specs.View.{a_label, tokens_in, while_row}
use Rattle.src_tree.specs.View.{parts_in}
use Rattle.src_ast.proofs.control.while_of.Goals as goal

pub returns-then-has : goal.returns-then-has
returns-then-has c =
    c.while_let.ensures ∙ ap (λ l. expression_part (while_row true l (nodes_of c.among-nodes.result))) c.a_label-label.ensures
    ∙ ap₂ (λ b ss. expression_part (while_row b (a_label (tokens_in (parts_in c.args.pieces.now))) ss)) (sym c.if-has.true ∙ c.has.ensures) c.among-nodes.ensures

pub returns-else-has : goal.returns-else-has
returns-else-has c =
    c.while_plain.ensures ∙ ap (λ l. expression_part (while_row false l (nodes_of c.among-nodes.result))) c.a_label-label.ensures
    ∙ ap₂ (λ b ss. expression_part (while_row b (a_label (tokens_in (parts_in c.args.pieces.now))) ss)) (sym c.if-has.false ∙ c.has.ensures) c.among-nodes.ensures

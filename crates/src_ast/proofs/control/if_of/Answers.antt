use Rattle.std.proofs.Common.{ap₂, sym, ◌∙◌}
use Rattle.src_ast.specs.Sorts.{expression_part}
use Rattle.src_ast.specs.View.{if_row}
use Rattle.src_ast.proofs.control.if_of.Goals as goal

pub returns-then-has : goal.returns-then-has
returns-then-has c =
    c.if_let.ensures ∙ ap₂ (λ b ss. expression_part (if_row b ss)) (sym c.if-has.true ∙ c.has.ensures) c.among-nodes.ensures

pub returns-else-has : goal.returns-else-has
returns-else-has c =
    c.if_plain.ensures ∙ ap₂ (λ b ss. expression_part (if_row b ss)) (sym c.if-has.false ∙ c.has.ensures) c.among-nodes.ensures

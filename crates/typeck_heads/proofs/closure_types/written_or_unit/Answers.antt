use Rattle.std.proofs.Common.{subst, sym, ◌∙◌}
use Rattle.src_ast.specs.Seen.{syn_of}
use Rattle.typing_rules.specs.Collected.{starting_with}
use Rattle.typeck_heads.specs.Answers.{Answers}
use Rattle.typeck_heads.specs.Forms.{around_of}
use Rattle.typeck_heads.proofs.Told.{stood, fallen}
use Rattle.typeck_heads.proofs.closure_types.written_or_unit.Goals as goal

pub returns-then-stands-clause-answers : goal.returns-then-stands-clause-answers
returns-then-stands-clause-answers c =
    subst (λ o. Answers o c.resolve_type.result c.resolve_type.new.items)
    (sym (stood (around_of c.args.scope.now) (syn_of c.args.node.now) (starting_with c.args.items.now) c.requires.free (sym c.stands.ensures ∙ c.if-stands.true)))
    c.resolve_type.ensures.answers

pub returns-else-stands-clause-answers : goal.returns-else-stands-clause-answers
returns-else-stands-clause-answers c =
    fallen (around_of c.args.scope.now) (syn_of c.args.node.now) (starting_with c.args.items.now) c.requires.free (sym c.stands.ensures ∙ c.if-stands.false)

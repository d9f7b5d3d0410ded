use Rattle.std.proofs.Common.{◌∙◌, subst}
use Rattle.typeck_calls.specs.Fields.{numbered}
use Rattle.src_ast.specs.Syntax.{Word}
use Rattle.typeck_checker.specs.Stand.{Gives, stack, state, top}
use Rattle.typeck_calls.proofs.fields.part_end.Goals as goal
use Rattle.typing_rules.specs.Rows.{field_end}

pub returns-in-Ok-clause-gives : goal.returns-in-Ok-clause-gives
returns-in-Ok-clause-gives c =
    let before = c.args.checker.now in
    subst (λ (word : Word). Gives (field_end (numbered c.args.number word) c.args.id.0 c.args.at (top (stack before)) (state before)) c.wanted_end.result c.wanted_end.new.checker)
    (c.as_str-word.ensures ∙ c.in-Ok.ensures) c.wanted_end.ensures.gives

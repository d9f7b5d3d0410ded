use Rattle.std.proofs.Common.{Bool, subst}
use Rattle.std.specs.Prelude.{IfOk}
use Rattle.typing_rules.specs.Patterns.{types_if}
use Rattle.typeck_patterns.specs.Parts.{AreFirstIf}
use Rattle.typeck_patterns.proofs.parts.tuple_parts.Goals as goal

pub returns-clause-made : goal.returns-clause-made
returns-clause-made c =
    subst (λ (b : Bool). IfOk c.listed_if.result (λ parts. AreFirstIf c.args.given (types_if b c.args.types.now) parts)) c.has_parts-is.ensures
    c.listed_if.ensures.made

use Rattle.std.proofs.Common.{◌==◌, ◌∙◌}
use Rattle.typeck_patterns.specs.Given.{has}
use Rattle.typeck_patterns.proofs.Numbers.{cond_or}
use Rattle.typeck_patterns.proofs.given_fields.note.Goals as goal

pub returns-in-Ok-clause-noted : goal.returns-in-Ok-clause-noted
returns-in-Ok-clause-noted c =
    λ n. c.in-Ok.ensures.updates.0 n ∙ cond_or (c.args.number == n) (has n c.args.seen.now.keys)

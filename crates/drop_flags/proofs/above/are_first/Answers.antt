use Rattle.std.proofs.Common.{◌∙◌}
use Rattle.drop_flags.proofs.Upper.{first-is}
use Rattle.drop_flags.proofs.above.are_first.Goals as goal

pub returns : goal.returns
returns c = c.starts_with.ensures.value ∙ first-is c.args.upper.now c.args.lower.now

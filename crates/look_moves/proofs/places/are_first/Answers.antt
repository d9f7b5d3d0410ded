use Rattle.std.proofs.Common.{◌∙◌}
use Rattle.look_moves.proofs.Upper.{first-is}
use Rattle.look_moves.proofs.places.are_first.Goals as goal

pub returns : goal.returns
returns c = c.starts_with.ensures.value ∙ first-is c.args.upper.now c.args.lower.now

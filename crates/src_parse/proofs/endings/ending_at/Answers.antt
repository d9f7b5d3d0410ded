use Rattle.std.proofs.Common.{◌∙◌}
use Rattle.src_parse.proofs.Finished.{ending_small}
use Rattle.src_parse.proofs.endings.ending_at.Goals as goal

pub returns-in-Some-clause-small : goal.returns-in-Some-clause-small
returns-in-Some-clause-small c = ending_small c.args.at c.in-Some.found (c.look_up.ensures ∙ c.in-Some.is)

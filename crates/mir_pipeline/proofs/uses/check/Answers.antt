use Rattle.mir_pipeline.proofs.Accepted.{has_accepted_program}
use Rattle.mir_pipeline.proofs.uses.check.Goals as goal

pub returns-in-Ok-clause-accepted : goal.returns-in-Ok-clause-accepted
returns-in-Ok-clause-accepted c =
    has_accepted_program c.args.text.now c.in_ok-lowered.lowered c.in_ok-lowered.ensures.graph c.in-Ok.ensures.accepted

use Rattle.std.proofs.lemmas.Result.{IfOk-weaker}
use Rattle.mir_pipeline.proofs.Accepted.{is_accepted}
use Rattle.mir_pipeline.proofs.uses.checked_moves_of.Goals as goal

pub returns-clause-accepted : goal.returns-clause-accepted
returns-clause-accepted c =
    IfOk-weaker c.accept_moves.result _ _
    (λ watched is. is_accepted c.args.text.now c.in_ok-lowered.lowered watched.lowered c.in_ok-lowered.ensures.graph is)
    c.accept_moves.ensures.accepted

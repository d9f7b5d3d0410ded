use Rattle.mir_pipeline.proofs.Accepted.{has_bad_use}
use Rattle.mirdrop_program.proofs.Owing.{all_ok}
use Rattle.look_program.proofs.Owing.{lowered_counted, lowered_sited, lowered_well_formed}
use Rattle.look_program.proofs.Tracing.{accepted_graph, trace_refused}
use Rattle.look_program.proofs.traces.trace_lowered.Goals as goal

pub checked_uses-requires-clause-well_formed : goal.checked_uses-requires-clause-well_formed
checked_uses-requires-clause-well_formed c = lowered_well_formed c.args.text.now c.args.lowered c.requires.lowered

pub checked_uses-requires-clause-counted : goal.checked_uses-requires-clause-counted
checked_uses-requires-clause-counted c = lowered_counted c.args.text.now c.args.lowered c.requires.lowered

pub checked_uses-requires-clause-sited : goal.checked_uses-requires-clause-sited
checked_uses-requires-clause-sited c = lowered_sited c.args.text.now c.args.lowered c.requires.lowered

pub trace_accepted-requires-clause-accepted : goal.trace_accepted-requires-clause-accepted
trace_accepted-requires-clause-accepted c =
    accepted_graph c.args.text.now c.args.lowered c.requires.lowered c.in-Ok.ensures.accepted

pub returns-in-Err : goal.returns-in-Err
returns-in-Err c =
    all_ok c.use_answer-answer.result _ _ _ _
    (λ answer told status written. trace_refused c.args.text.now c.args.asks.now c.args.ticks answer.status answer.text.items c.args.lowered c.requires.lowered c.in-Err.refusal
    (has_bad_use c.args.text.now c.args.lowered c.in-Err.refusal c.requires.lowered c.in-Err.ensures.refused) told status written)
    c.use_answer-answer.ensures.told c.use_answer-answer.ensures.status c.use_answer-answer.ensures.text

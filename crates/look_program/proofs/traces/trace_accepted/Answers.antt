use Rattle.mirdrop_program.proofs.Owing.{all_ok, both_ok}
use Rattle.typed_tree.specs.View.{program_of}
use Rattle.look_program.proofs.Tracing.{accepted_well_formed, trace_told, trace_unread}
use Rattle.look_program.proofs.traces.trace_accepted.Goals as goal

pub trace-answer-requires-clause-well_formed : goal.trace-answer-requires-clause-well_formed
trace-answer-requires-clause-well_formed c = accepted_well_formed c.args.text.now c.args.graph c.requires.accepted

pub returns-in-Ok : goal.returns-in-Ok
returns-in-Ok c =
    both_ok c.trace-answer.result _ _ _
    (λ answer status written. trace_told c.args.text.now c.args.asks.now c.args.ticks answer.status answer.text.items c.args.graph c.requires.accepted (program_of c.in-Ok.typed) c.in-Ok.ensures.typed status written)
    c.trace-answer.ensures.status c.trace-answer.ensures.text

pub returns-in-Err : goal.returns-in-Err
returns-in-Err c =
    all_ok c.refused_answer.result _ _ _ _
    (λ answer told status written. trace_unread c.args.text.now c.args.asks.now c.args.ticks answer.status answer.text.items c.in-Err.refusal c.in-Err.ensures.refused told status written)
    c.refused_answer.ensures.told c.refused_answer.ensures.status c.refused_answer.ensures.text

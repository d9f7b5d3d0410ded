use Rattle.mirdrop_program.proofs.Built.{built_signed, built_well}
use Rattle.mirdrop_program.proofs.Owing.{all_ok, build_listed, build_refused, built_counted}
use Rattle.mirdrop_program.proofs.build.build_answer.Goals as goal

pub built_answer-answer-requires-clause-well_formed : goal.built_answer-answer-requires-clause-well_formed
built_answer-answer-requires-clause-well_formed c = built_well c.args.text.now c.in-Ok.done c.in-Ok.ensures.built

pub built_answer-answer-requires-clause-counted : goal.built_answer-answer-requires-clause-counted
built_answer-answer-requires-clause-counted c = built_counted c.args.text.now c.in-Ok.done c.in-Ok.ensures.built

pub built_answer-answer-requires-clause-signed : goal.built_answer-answer-requires-clause-signed
built_answer-answer-requires-clause-signed c = built_signed c.args.text.now c.in-Ok.done c.in-Ok.ensures.built

pub returns-in-Ok : goal.returns-in-Ok
returns-in-Ok c =
    all_ok c.built_answer-answer.result _ _ _ _
    (λ answer status written back. build_listed c.args.text.now c.in-Ok.done answer.status answer.text.items c.in-Ok.ensures.built status written back)
    c.built_answer-answer.ensures.status c.built_answer-answer.ensures.text c.built_answer-answer.ensures.reads_back

pub returns-in-Err : goal.returns-in-Err
returns-in-Err c =
    all_ok c.refused_answer.result _ _ _ _
    (λ answer told status written. build_refused c.args.text.now c.in-Err.refusal answer.status answer.text.items c.in-Err.ensures.refused told status written)
    c.refused_answer.ensures.told c.refused_answer.ensures.status c.refused_answer.ensures.text

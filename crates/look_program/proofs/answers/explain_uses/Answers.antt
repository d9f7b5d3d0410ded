use Rattle.mir_pipeline.proofs.Accepted.{has_accepted_program, has_bad_use}
use Rattle.mirdrop_program.proofs.Owing.{all_ok, both_ok}
use Rattle.look_program.proofs.Owing.{explain_accepted, explain_refused, lowered_counted, lowered_sited, lowered_well_formed}
use Rattle.look_program.proofs.answers.explain_uses.Goals as goal

pub checked_uses-requires-clause-well_formed : goal.checked_uses-requires-clause-well_formed
checked_uses-requires-clause-well_formed c = lowered_well_formed c.args.text.now c.args.lowered.now c.requires

pub checked_uses-requires-clause-counted : goal.checked_uses-requires-clause-counted
checked_uses-requires-clause-counted c = lowered_counted c.args.text.now c.args.lowered.now c.requires

pub checked_uses-requires-clause-sited : goal.checked_uses-requires-clause-sited
checked_uses-requires-clause-sited c = lowered_sited c.args.text.now c.args.lowered.now c.requires

pub returns-in-Ok : goal.returns-in-Ok
returns-in-Ok c =
    both_ok c.accepted_answer.result _ _ _
    (λ answer status written. explain_accepted c.args.text.now answer.status answer.text.items
    (has_accepted_program c.args.text.now c.args.lowered.now c.requires c.in-Ok.ensures.accepted) status written)
    c.accepted_answer.ensures.status c.accepted_answer.ensures.text

pub returns-in-Err : goal.returns-in-Err
returns-in-Err c =
    all_ok c.use_answer.result _ _ _ _
    (λ answer told status written. explain_refused c.args.text.now answer.status answer.text.items c.args.lowered.now c.requires c.in-Err.refusal
    (has_bad_use c.args.text.now c.args.lowered.now c.in-Err.refusal c.requires c.in-Err.ensures.refused) told status written)
    c.use_answer.ensures.told c.use_answer.ensures.status c.use_answer.ensures.text

use Rattle.mirdrop_program.proofs.Owing.{all_ok, both_ok, check_accepted, check_refused}
use Rattle.mirdrop_program.proofs.check.check_answer.Goals as goal

pub returns-in-Ok : goal.returns-in-Ok
returns-in-Ok c =
    both_ok c.accepted_answer.result _ _ _
    (λ answer status written. check_accepted c.args.text.now answer.status answer.text.items c.in-Ok.ensures.accepted status written)
    c.accepted_answer.ensures.status c.accepted_answer.ensures.text

pub returns-in-Err : goal.returns-in-Err
returns-in-Err c =
    all_ok c.refused_answer.result _ _ _ _
    (λ answer told status written. check_refused c.args.text.now c.in-Err.refusal answer.status answer.text.items c.in-Err.ensures.refused told status written)
    c.refused_answer.ensures.told c.refused_answer.ensures.status c.refused_answer.ensures.text

use Rattle.mir_pipeline.proofs.Accepted.{has_no_program}
use Rattle.mirdrop_program.proofs.Owing.{all_ok}
use Rattle.look_program.proofs.Owing.{built_refused}
use Rattle.look_program.proofs.answers.draw_built.Goals as goal

pub returns-in-Err : goal.returns-in-Err
returns-in-Err c =
    all_ok c.refused_answer.result _ _ _ _
    (λ answer told status written. built_refused c.args.text.now answer.status answer.text.items c.in-Err.refusal (has_no_program c.args.text.now c.in-Err.refusal c.in-Err.ensures.refused) told status written)
    c.refused_answer.ensures.told c.refused_answer.ensures.status c.refused_answer.ensures.text

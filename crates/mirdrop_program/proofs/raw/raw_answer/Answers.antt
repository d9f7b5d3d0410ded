use Rattle.std.proofs.lemmas.Result.{IfOk-weaker}
use Rattle.mirdrop_program.proofs.Owing.{all_ok, raw_refused}
use Rattle.mirdrop_program.proofs.raw.raw_answer.Goals as goal

pub returns-in-Ok : goal.returns-in-Ok
returns-in-Ok c =
    IfOk-weaker c.graph_answer-answer.result _ _ (λ answer owed. owed c.args.text.now c.in-Ok.ensures.graph) c.graph_answer-answer.ensures

pub returns-in-Err : goal.returns-in-Err
returns-in-Err c =
    all_ok c.refused_answer.result _ _ _ _
    (λ answer told status written. raw_refused c.args.text.now c.in-Err.refusal answer.status answer.text.items c.in-Err.ensures.refused told status written)
    c.refused_answer.ensures.told c.refused_answer.ensures.status c.refused_answer.ensures.text

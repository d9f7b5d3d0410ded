use Rattle.mirdrop_program.proofs.Owing.{both_ok}
use Rattle.mirdrop_program.proofs.Soaked.{soaked}
use Rattle.mirdrop_program.proofs.soak.soak_answer.Goals as goal

pub returns-in-Ok : goal.returns-in-Ok
returns-in-Ok c =
    both_ok c.summary_answer.result _ _ _
    (λ answer status written.
    soaked c.args.functions c.args.ticks c.in_ok-graph.graph c.in-Ok.end c.in-Ok.counts answer.status answer.text.items
    c.in_ok-graph.ensures.runs c.in-Ok.ensures.end c.in-Ok.ensures.counts status written)
    c.summary_answer.ensures.status c.summary_answer.ensures.text

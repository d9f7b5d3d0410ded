use Rattle.mirdrop_program.proofs.Owing.{all_ok, both_ok}
use Rattle.look_program.proofs.Owing.{listing_read, listing_refused}
use Rattle.look_program.proofs.answers.listing_answer.Goals as goal

pub returns-in-Ok : goal.returns-in-Ok
returns-in-Ok c =
    both_ok c.graph_answer-answer.result _ _ _
    (λ answer status written. listing_read c.args.text.now answer.status answer.text.items c.args.look c.in-Ok.graph c.in-Ok.ensures status written)
    c.graph_answer-answer.ensures.status c.graph_answer-answer.ensures.text

pub returns-in-Err : goal.returns-in-Err
returns-in-Err c =
    all_ok c.refused_listing.result _ _ _ _
    (λ answer told status written. listing_refused c.args.text.now answer.status answer.text.items c.args.look c.in-Err.error c.in-Err.ensures told status written)
    c.refused_listing.ensures.told c.refused_listing.ensures.status c.refused_listing.ensures.text

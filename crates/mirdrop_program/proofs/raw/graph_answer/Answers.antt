use Rattle.mirdrop_program.proofs.Owing.{both_ok, raw_listed}
use Rattle.mirdrop_program.proofs.raw.graph_answer.Goals as goal

pub returns-in-Ok : goal.returns-in-Ok
returns-in-Ok c =
    both_ok c.listing_of.result _ _ _
    (λ answer status written text is. raw_listed text c.args.lowered.now answer.status answer.text.items is c.in-Ok.ensures.accepted status written)
    c.listing_of.ensures.status c.listing_of.ensures.text

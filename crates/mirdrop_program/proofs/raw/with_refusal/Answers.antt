use Rattle.mirdrop_program.proofs.Owing.{both_ok, raw_with_use}
use Rattle.mirdrop_program.proofs.raw.with_refusal.Goals as goal

pub returns-then-is_of_use : goal.returns-then-is_of_use
returns-then-is_of_use c =
    both_ok c.listing_with.result _ _ _
    (λ answer status written text is. raw_with_use text c.args.lowered.now c.args.refusal.now answer.status answer.text.items is c.requires.refused (c.is_of_use.ensures.0 c.if-is_of_use.true) status written)
    c.listing_with.ensures.status c.listing_with.ensures.text

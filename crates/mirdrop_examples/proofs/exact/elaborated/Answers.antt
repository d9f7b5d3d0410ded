use Rattle.mirdrop_examples.proofs.Elaborated.{can_be_elaborated}
use Rattle.mirdrop_examples.proofs.exact.elaborated.Goals as goal

pub elaborate-requires-clause-ready : goal.elaborate-requires-clause-ready
elaborate-requires-clause-ready c =
    can_be_elaborated c.args.text.now c.in_ok-lowered.lowered c.in_ok-lowered.ensures.graph c.in_ok-checked_uses.ensures.accepted

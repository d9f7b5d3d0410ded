use Rattle.mirdrop_program.specs.Owed.{OwedByRaw}
use Rattle.mirdrop_program.specs.declared.request.Command.{Command}
use Rattle.mirdrop_program.proofs.Answering.{handed_on, owes_by}
use Rattle.mirdrop_program.proofs.commands.respond_to_raw.Goals as goal

pub returns-clause-done : goal.returns-clause-done
returns-clause-done g c =
    λ request is.
    handed_on request c.args.text.now _ _ _ (OwedByRaw c.args.text.now)
    (owes_by request Command.Raw c.args.text.now is) c.raw_answer.result c.hand_on.result
    c.raw_answer.ensures c.hand_on.ensures.done

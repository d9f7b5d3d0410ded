use Rattle.mirdrop_program.specs.Owed.{OwedByCheck}
use Rattle.mirdrop_program.specs.declared.request.Command.{Command}
use Rattle.mirdrop_program.proofs.Answering.{handed_on, owes_by}
use Rattle.mirdrop_program.proofs.commands.respond_to_check.Goals as goal

pub returns-clause-done : goal.returns-clause-done
returns-clause-done g c =
    λ request is.
    handed_on request c.args.text.now _ _ _ (OwedByCheck c.args.text.now)
    (owes_by request Command.Check c.args.text.now is) c.check_answer.result c.hand_on.result
    c.check_answer.ensures c.hand_on.ensures.done

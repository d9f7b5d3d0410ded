use Rattle.mirdrop_program.specs.Owed.{OwedByBuild}
use Rattle.mirdrop_program.specs.declared.request.Command.{Command}
use Rattle.mirdrop_program.proofs.Answering.{handed_on, owes_by}
use Rattle.mirdrop_program.proofs.commands.respond_to_build.Goals as goal

pub returns-clause-done : goal.returns-clause-done
returns-clause-done g c =
    λ request is.
    handed_on request c.args.text.now _ _ _ (OwedByBuild c.args.text.now)
    (owes_by request Command.Build c.args.text.now is) c.build_answer.result c.hand_on.result
    c.build_answer.ensures c.hand_on.ensures.done

use Rattle.mirdrop_program.specs.Owed.{OwedByRun}
use Rattle.mirdrop_program.specs.declared.request.Command.{Command}
use Rattle.mirdrop_program.proofs.Answering.{handed_on, owes_by, program_ran, run_refused}
use Rattle.mirdrop_program.proofs.Built.{built_well}
use Rattle.mirdrop_program.proofs.Owing.{all_ok}
use Rattle.mirdrop_program.proofs.run.run_program.Goals as goal

pub run_graph-status-requires-clause-well_formed : goal.run_graph-status-requires-clause-well_formed
run_graph-status-requires-clause-well_formed g c = built_well c.args.text.now c.in-Ok.done c.in-Ok.ensures.built

pub returns-in-Ok-clause-done : goal.returns-in-Ok-clause-done
returns-in-Ok-clause-done g c =
    program_ran c.args.request.now c.args.text.now _ _ _ c.in-Ok.done c.run_graph-status.result c.requires.command c.in-Ok.ensures.built c.run_graph-status.ensures.done

pub returns-in-Err-clause-done : goal.returns-in-Err-clause-done
returns-in-Err-clause-done g c =
    handed_on c.args.request.now c.args.text.now _ _ _ (OwedByRun c.args.text.now c.args.request.now.asks c.args.request.now.ticks)
    (owes_by c.args.request.now Command.Run c.args.text.now c.requires.command) c.refused_answer.result c.hand_on.result
    (all_ok c.refused_answer.result _ _ _ _
    (λ answer told status written. run_refused c.args.text.now _ _ c.in-Err.refusal answer.status answer.text.items c.in-Err.ensures.refused told status written)
    c.refused_answer.ensures.told c.refused_answer.ensures.status c.refused_answer.ensures.text) c.hand_on.ensures.done

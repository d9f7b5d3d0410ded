use Rattle.mirdrop_program.specs.Owed.{OwedByExec}
use Rattle.mirdrop_program.specs.declared.request.Command.{Command}
use Rattle.mirdrop_program.proofs.Answering.{exec_refused, handed_on, listing_ran, owes_by}
use Rattle.mirdrop_program.proofs.Owing.{all_ok}
use Rattle.mirdrop_program.proofs.exec.run_listing.Goals as goal

pub returns-in-Ok-clause-done : goal.returns-in-Ok-clause-done
returns-in-Ok-clause-done g c =
    listing_ran c.args.request.now c.args.text.now _ _ _ c.in-Ok.graph c.run_graph-status.result c.requires.command c.in-Ok.ensures c.run_graph-status.ensures.done

pub returns-in-Err-clause-done : goal.returns-in-Err-clause-done
returns-in-Err-clause-done g c =
    handed_on c.args.request.now c.args.text.now _ _ _ (OwedByExec c.args.text.now c.args.request.now.asks c.args.request.now.ticks)
    (owes_by c.args.request.now Command.Exec c.args.text.now c.requires.command) c.refused_listing.result c.hand_on.result
    (all_ok c.refused_listing.result _ _ _ _
    (λ answer told status written. exec_refused c.args.text.now _ _ c.in-Err.error answer.status answer.text.items c.in-Err.ensures told status written)
    c.refused_listing.ensures.told c.refused_listing.ensures.status c.refused_listing.ensures.text) c.hand_on.ensures.done

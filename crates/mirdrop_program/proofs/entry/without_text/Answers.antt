use Rattle.mir_edge.specs.Faults.{HasRisen}
use Rattle.mirdrop_program.proofs.TopCall.{answers_unread, response, soak_response}
use Rattle.mirdrop_program.proofs.entry.without_text.Goals as goal

pub returns-clause-write_fault : goal.returns-clause-write_fault
returns-clause-write_fault g c e = (response _ _ _ _ _ c.respond.result c.respond.ensures.done).write_fault e

pub returns-clause-statuses : goal.returns-clause-statuses
returns-clause-statuses g c = soak_response c.args.request.now _ _ _ c.respond.result c.requires.reads c.respond.ensures.done

pub returns-clause-answer : goal.returns-clause-answer
returns-clause-answer g c words left old new asked =
    answers_unread words left _ _ (HasRisen old new) _ c.args.request.now c.respond.result asked c.requires.reads c.respond.ensures.done

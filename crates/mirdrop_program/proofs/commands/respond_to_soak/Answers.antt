use Rattle.std.proofs.Common.{ℕ, List, sym, subst}
use Rattle.mirdrop_program.specs.Owed.{OwedBySoak}
use Rattle.mirdrop_program.specs.declared.request.Command.{Command}
use Rattle.mirdrop_program.proofs.Answering.{handed_on, owes_by}
use Rattle.mirdrop_program.proofs.commands.respond_to_soak.Goals as goal

pub returns-clause-done : goal.returns-clause-done
returns-clause-done g c =
    λ request text is ticks.
    handed_on request text _ _ _ (OwedBySoak c.args.functions c.args.ticks)
    (λ status written owed. owes_by request (Command.Soak c.args.functions) text is status written
    (subst (λ (n : ℕ). OwedBySoak c.args.functions n status written) (sym ticks) owed)) c.soak_answer.result c.hand_on.result
    c.soak_answer.ensures c.hand_on.ensures.done

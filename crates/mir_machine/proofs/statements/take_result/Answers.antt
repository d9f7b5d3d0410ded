use Rattle.std.proofs.Common.{subst}
use Rattle.std.proofs.lemmas.Result.{IfOk-weaker}
use Rattle.cfg_graph.specs.declared.place.Operand.{Operand}
use Rattle.machine_steps.specs.Worlds.{Evaluates, state_of, run_setting}
use Rattle.mir_machine.proofs.statements.take_result.Goals as goal

pub returns-clause-taken : goal.returns-clause-taken
returns-clause-taken c =
    IfOk-weaker c.evaluate.result _ _
    (λ taken h before. subst (λ steps. Evaluates (run_setting c.args.world.now) (Operand.Moved (record { local = 0; steps = steps })) (state_of before c.args.world.now) taken (state_of before c.evaluate.new.self)) c.new.ensures (h before))
    c.evaluate.ensures.taken

use Rattle.std.proofs.Common.{sym, subst}
use Rattle.std.proofs.lemmas.Result.{IfOk-weaker}
use Rattle.mir_machine.specs.Tasks.{AtOutcome, Keeps, Next}
use Rattle.machine_steps.specs.Worlds.{state_of}
use Rattle.mir_machine.proofs.control.go_on.Goals as goal

pub returns-in-Panics : goal.returns-in-Panics
returns-in-Panics c =
    IfOk-weaker c.unwind_on.result _ _
    (λ doing h graph tasks. subst (λ outcome. Keeps graph c.args.world.now c.unwind_on.new.world (AtOutcome graph tasks c.args.post outcome) (Next graph tasks doing)) (sym c.in-Panics.is) (h graph tasks))
    c.unwind_on.ensures

pub returns-in-Stuck : goal.returns-in-Stuck
returns-in-Stuck c = λ graph tasks strict ticks run before ranked runs h. (
  runs,
  subst (λ doing. Next graph tasks doing strict ticks run (state_of before c.args.world.now)) (sym c.stuck.ensures)
      (subst (λ outcome. AtOutcome graph tasks c.args.post outcome strict ticks run (state_of before c.args.world.now)) c.in-Stuck.is h),
)

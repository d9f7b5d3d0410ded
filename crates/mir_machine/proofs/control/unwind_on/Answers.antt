use Rattle.mir_machine.proofs.TasksLeft.{panic_aborts}
use Rattle.machine_steps.specs.Worlds.{state_of}
use Rattle.mir_machine.proofs.control.unwind_on.Goals as goal

pub returns-in-Abort : goal.returns-in-Abort
returns-in-Abort c = λ graph tasks strict ticks run before ranked runs h.
    (runs, panic_aborts strict graph ticks run tasks c.args.post (state_of before c.args.world.now) c.in-Abort.is h)

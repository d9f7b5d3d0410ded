use Rattle.std.proofs.Common.{◌≡◌, drop}
use Rattle.mir_machine.specs.Tasks.{last_end, lost_end}
use Rattle.mir_machine.proofs.calls.end_of_lost.Given as goal

abbrev pub invariant-loop-task : goal.invariant-loop-task
invariant-loop-task l = last_end l.end (drop l.task-index l.tasks) ≡ lost_end l.tasks

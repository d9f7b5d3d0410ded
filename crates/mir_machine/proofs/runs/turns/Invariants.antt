use Rattle.std.proofs.Common.{◌≤◌}
use Rattle.mir_machine.proofs.RunsTold.{IsTold}
use Rattle.mir_machine.proofs.runs.turns.Given as goal

abbrev pub invariant-loop-turn : goal.invariant-loop-turn
invariant-loop-turn g l =
    (g.K.Sink.faults l.initial.out ≤ g.K.Sink.faults l.out)
    × IsTold (g.K.Sink.taken l.initial.out) (g.K.Sink.taken l.out) l.graph l.fn.world l.world l.tasks l.doing l.flow

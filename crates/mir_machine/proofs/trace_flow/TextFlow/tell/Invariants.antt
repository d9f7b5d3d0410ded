use Rattle.std.proofs.Common.{◌≤◌}
use Rattle.mir_machine.proofs.FlowsOnward.{FlowsTo}
use Rattle.mir_machine.proofs.trace_flow.TextFlow.tell.Given as goal

abbrev pub invariant-loop-one : goal.invariant-loop-one
invariant-loop-one g l =
    (g.K.Sink.faults l.initial.out ≤ g.K.Sink.faults l.out)
    × FlowsTo l.items l.told l.one-index (g.K.Sink.taken l.initial.out) (g.K.Sink.taken l.out) l.initial.self l.self

use Rattle.std.proofs.Common.{[]}
use Rattle.mir_machine.proofs.FlowsOnward.{flows_then, kept_on, memory_stops, stops_before, stops_then}
use Rattle.mir_machine.specs.declared.error.RunError.{RunError}
use Rattle.mir_machine.proofs.trace_flow.TextFlow.add.Goals as goal

pub returns-in-Err-clause-stops : goal.returns-in-Err-clause-stops
returns-in-Err-clause-stops g c =
    stops_before (g.K.Sink.taken c.args.out.now) (g.K.Sink.taken c.make_room.new.out) c.args.self.now [] c.args.line.now c.in-Err.error c.in-Err.ensures.stops

pub returns-in-Ok-clause-flows : goal.returns-in-Ok-clause-flows
returns-in-Ok-clause-flows g c =
    let new = g.K.Sink.taken c.make_room.new.out in
    flows_then (g.K.Sink.taken c.args.out.now) new new c.args.self.now c.make_room.new.self [] c.args.line.now c.in_default.ensures.sent c.keep.new.self
    (kept_on new c.make_room.new.self c.keep.new.self c.args.line.now c.in-Ok.ensures.kept.0 c.in-Ok.ensures.kept.1)

pub returns-in-Err-keep-clause-stops : goal.returns-in-Err-keep-clause-stops
returns-in-Err-keep-clause-stops g c =
    let new = g.K.Sink.taken c.make_room.new.out in
    stops_then (g.K.Sink.taken c.args.out.now) new new c.args.self.now c.make_room.new.self [] c.args.line.now c.in_default.ensures.sent RunError.Memory
    (memory_stops new c.make_room.new.self c.args.line.now)

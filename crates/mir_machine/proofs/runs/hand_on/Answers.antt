use Rattle.std.proofs.Common.{List, ap}
use Rattle.mir_machine.proofs.FlowsOnward.{flows_as, stops_as}
use Rattle.mir_machine.specs.Runs.{events_of, lines_in}
use Rattle.machine_steps.specs.declared.told.ToldEvents.{ToldEvents}
use Rattle.mir_machine.proofs.runs.hand_on.Goals as goal

pub returns-in-Err-clause-stops : goal.returns-in-Err-clause-stops
returns-in-Err-clause-stops g c =
    stops_as (g.K.Sink.taken c.args.out.now) (g.K.Sink.taken c.tell.new.out) c.args.flow.now _ (lines_in c.args.graph.now (events_of c.args.world.now.told)) c.in-Err.error
    (ap (λ (t : List ToldEvents). lines_in c.args.graph.now (events_of t)) c.as_slice.ensures) c.in-Err.ensures.stops

pub returns-clause-flows : goal.returns-clause-flows
returns-clause-flows g c =
    flows_as (g.K.Sink.taken c.args.out.now) (g.K.Sink.taken c.tell.new.out) c.args.flow.now c.tell.new.self _ (lines_in c.args.graph.now (events_of c.args.world.now.told))
    (ap (λ (t : List ToldEvents). lines_in c.args.graph.now (events_of t)) c.as_slice.ensures) c.in_default.ensures.flows

use Rattle.std.proofs.Common.{[], ◌++◌, append-nil}
use Rattle.std.proofs.lemmas.Result.{on_ok_weaker, IfErr-weaker}
use Rattle.mir_machine.proofs.FlowsOnward.{flows_as, flows_then, stops_as, stops_then}
use Rattle.mir_machine.proofs.trace_flow.TextFlow.add_last.Goals as goal

pub returns-in-Ok-clause-flows : goal.returns-in-Ok-clause-flows
returns-in-Ok-clause-flows g c =
    let old = g.K.Sink.taken c.args.out.now in
    let middle = g.K.Sink.taken c.add.new.out in
    let new = g.K.Sink.taken c.send.new.out in
    on_ok_weaker c.send.result
    (λ k. flows_as old new c.args.self.now c.send.new.self (c.args.line.now ++ []) c.args.line.now (append-nil c.args.line.now)
    (flows_then old middle new c.args.self.now c.add.new.self c.args.line.now [] c.in-Ok.ensures.flows c.send.new.self k)) c.send.ensures.sent

pub returns-in-Ok-clause-stops : goal.returns-in-Ok-clause-stops
returns-in-Ok-clause-stops g c =
    let old = g.K.Sink.taken c.args.out.now in
    let middle = g.K.Sink.taken c.add.new.out in
    let new = g.K.Sink.taken c.send.new.out in
    IfErr-weaker c.send.result _ _
    (λ error k. stops_as old new c.args.self.now (c.args.line.now ++ []) c.args.line.now error (append-nil c.args.line.now)
    (stops_then old middle new c.args.self.now c.add.new.self c.args.line.now [] c.in-Ok.ensures.flows error k)) c.send.ensures.stops

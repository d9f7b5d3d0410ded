use Rattle.std.proofs.Common.{subst, ◌∙◌}
use Rattle.std.specs.Result.{OnOk}
use Rattle.mir_base.specs.Lines.{end_line}
use Rattle.mir_machine.proofs.FlowsOnward.{memory_stops}
use Rattle.mir_machine.specs.Flows.{FlowsOn}
use Rattle.mir_machine.proofs.trace_flow.TextFlow.end.Goals as goal

pub returns-in-Ok-clause-flows : goal.returns-in-Ok-clause-flows
returns-in-Ok-clause-flows g c =
    subst (λ line. OnOk c.add_last.result (FlowsOn (g.K.Sink.taken c.args.out.now) (g.K.Sink.taken c.add_last.new.out) c.args.self.now c.add_last.new.self line))
    (c.as_str.ensures.value ∙ c.in-Ok.ensures) c.add_last.ensures.flows

pub returns-in-Err-clause-stops : goal.returns-in-Err-clause-stops
returns-in-Err-clause-stops g c = memory_stops (g.K.Sink.taken c.args.out.now) c.args.self.now (end_line c.args.end.now)

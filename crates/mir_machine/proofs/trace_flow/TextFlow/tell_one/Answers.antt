use Rattle.std.proofs.Common.{subst, ◌∙◌}
use Rattle.std.specs.Result.{OnOk}
use Rattle.mir_base.specs.Lines.{event_line}
use Rattle.mir_machine.proofs.FlowsOnward.{memory_stops}
use Rattle.mir_machine.specs.Flows.{FlowsOn}
use Rattle.machine_steps.specs.Worlds.{event_of}
use Rattle.mir_ty.specs.Named.{adt_name, body_name}
use Rattle.mir_machine.proofs.trace_flow.TextFlow.tell_one.Goals as goal

pub returns-in-Ok-clause-flows : goal.returns-in-Ok-clause-flows
returns-in-Ok-clause-flows g c =
    subst (λ line. OnOk c.add.result (FlowsOn (g.K.Sink.taken c.args.out.now) (g.K.Sink.taken c.add.new.out) c.args.self.now c.add.new.self line))
    (c.as_str.ensures.value ∙ c.in-Ok.ensures) c.add.ensures.flows

pub returns-in-Err-clause-stops : goal.returns-in-Err-clause-stops
returns-in-Err-clause-stops g c =
    memory_stops (g.K.Sink.taken c.args.out.now) c.args.self.now (event_line (body_name c.args.items.now) (adt_name c.args.items.now) (event_of c.args.told.now))

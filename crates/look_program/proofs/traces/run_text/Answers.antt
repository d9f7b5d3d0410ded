use Rattle.look_program.specs.Traces.{run_text}
use Rattle.look_program.proofs.Tracing.{gathered}
use Rattle.look_program.proofs.traces.run_text.Goals as goal

pub returns-in-Ok : goal.returns-in-Ok
returns-in-Ok c =
    gathered c.new-sink.result.bytes.items c.run_raw.new.out.bytes.items (run_text c.args.graph.now c.args.asks.now c.args.ticks) _
    c.new-sink.ensures.bytes c.in-Ok.ensures.text c.into_bytes.ensures

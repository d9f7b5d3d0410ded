use Rattle.std.proofs.Common.{◌≡◌, ◌≤◌, ◌+◌, [], ◌++◌, take, Some, length, string_bytes, ap, sym, subst, ◌∙◌, arith}
use Rattle.mir_edge.specs.Told.{WhereTold}
use Rattle.mir_machine.proofs.FlowsOnward.{memory_stops, sent_all, sent_part}
use Rattle.mir_machine.proofs.trace_flow.TextFlow.send.Goals as goal

pub returns-in_default-clause-stops : goal.returns-in_default-clause-stops
returns-in_default-clause-stops g c = memory_stops (g.K.Sink.taken c.args.out.now) c.args.self.now []

pub returns-in-Ok-clause-sent : goal.returns-in-Ok-clause-sent
returns-in-Ok-clause-sent g c =
    let n : length (string_bytes c.args.self.now.piece) ≡ c.len.result = ap length (sym c.as_bytes.ensures.value) ∙ c.as_bytes.ensures.len ∙ sym c.len.ensures in
    let s : c.in-Some.sent ≡ c.args.self.now.sent + length (string_bytes c.args.self.now.piece) = grind arith in
    sent_all (g.K.Sink.taken c.args.out.now) (g.K.Sink.taken c.write_whole.new.sink) c.args.self.now (record { sent = c.in-Some.sent; piece = c.clear.new.self })
    s c.clear.ensures.bytes
    (subst (λ b. WhereTold (g.K.Sink.taken c.args.out.now) (λ t. g.K.Sink.taken c.write_whole.new.sink ≡ Some (t ++ b))) c.as_bytes.ensures.value c.in-Ok.ensures.whole)

pub returns-in-Err-clause-stops : goal.returns-in-Err-clause-stops
returns-in-Err-clause-stops g c =
    sent_part (g.K.Sink.taken c.args.out.now) (g.K.Sink.taken c.write_whole.new.sink) c.args.self.now c.in-Err.field-0.written
    (subst (λ b. c.in-Err.field-0.written ≤ length b) c.as_bytes.ensures.value c.in-Err.ensures.within)
    (subst (λ b. WhereTold (g.K.Sink.taken c.args.out.now) (λ t. g.K.Sink.taken c.write_whole.new.sink ≡ Some (t ++ take c.in-Err.field-0.written b))) c.as_bytes.ensures.value c.in-Err.ensures.part)

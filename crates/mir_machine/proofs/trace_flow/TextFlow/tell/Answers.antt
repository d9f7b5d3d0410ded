use Rattle.std.proofs.Common.{◌≡◌, ◌≤◌, [], drop, refl, arith}
use Rattle.std.proofs.lemmas.Grind.{common_steps}
use Rattle.mir_machine.proofs.FlowsOnward.{all_flow, flows_same, next_flows, next_stops}
use Rattle.mir_machine.proofs.trace_flow.TextFlow.tell.Goals as goal

pub loop-one-init : goal.loop-one-init
loop-one-init g c =
    ((let n : g.K.Sink.faults c.args.out.now ≤ g.K.Sink.faults c.args.out.now = omega arith in n), ([], refl, flows_same (g.K.Sink.taken c.args.out.now) c.args.self.now))

pub returns-in-Err-clause-stops : goal.returns-in-Err-clause-stops
returns-in-Err-clause-stops g c =
    next_stops c.args.items.now c.args.told.now c.loop-one.one-index _ c.loop-one-test.true (g.K.Sink.taken c.args.out.now) (g.K.Sink.taken c.loop-one.out) (g.K.Sink.taken c.tell_one.new.out)
    c.args.self.now c.loop-one.self c.in-Err.error c.loop-one.invariant.1 c.in-Err.ensures.stops

pub loop-one-preserved : goal.loop-one-preserved
loop-one-preserved g c = (
  (let k : g.K.Sink.faults c.args.out.now ≤ g.K.Sink.faults c.loop-one.out = c.loop-one.invariant.0 in
      let n : g.K.Sink.faults c.loop-one.out ≤ g.K.Sink.faults c.tell_one.new.out = c.tell_one.ensures.counts in
      let m : g.K.Sink.faults c.args.out.now ≤ g.K.Sink.faults c.tell_one.new.out = omega (arith, k, n) in m),
  next_flows c.args.items.now c.args.told.now c.loop-one.one-index _ c.loop-one-test.true (g.K.Sink.taken c.args.out.now) (g.K.Sink.taken c.loop-one.out) (g.K.Sink.taken c.tell_one.new.out)
      c.args.self.now c.loop-one.self c.tell_one.new.self c.loop-one.invariant.1 c.in_default.ensures.flows,
)

pub returns-clause-flows : goal.returns-clause-flows
returns-clause-flows g c =
    let none : drop c.loop-one.one-index c.args.told.now ≡ [] = grind (arith, common_steps) in
    all_flow c.args.items.now c.args.told.now c.loop-one.one-index (g.K.Sink.taken c.args.out.now) (g.K.Sink.taken c.loop-one.out) c.args.self.now c.loop-one.self none c.loop-one.invariant.1

use Rattle.std.proofs.Common.{◌≤◌, List, map, sym, subst, ◌∙◌, arith}
use Rattle.std.proofs.lemmas.Result.{IfOk-weaker, IfErr-weaker, on_ok_weaker}
use Rattle.mir_base.specs.declared.trace.Event.{Event}
use Rattle.mir_machine.proofs.RunsTold.{end_is, part_is, text_is, told_cut, told_first_of_all, told_goes_on, told_handed, told_in_want}
use Rattle.mir_machine.specs.Tasks.{AtEntry, Keeps, Next}
use Rattle.store_model.specs.Values.Datum.{datum_of}
use Rattle.mir_machine.proofs.runs.turns.Goals as goal

pub loop-turn-init : goal.loop-turn-init
loop-turn-init g c =
    let graph = c.args.graph.now in (
      (let n : g.K.Sink.faults c.args.out.now ≤ g.K.Sink.faults c.args.out.now = omega arith in n),
      told_first_of_all (g.K.Sink.taken c.args.out.now) graph c.args.world.now c.enter-entered.new.world c.new-tasks.result c.args.main c.in-Ok.doing c.new-flow.result c.requires c.new-tasks.ensures
          (subst (λ l. Keeps graph c.args.world.now c.enter-entered.new.world (AtEntry graph c.new-tasks.result (Event.Call c.args.main) c.args.main (map datum_of l)) (Next graph c.new-tasks.result c.in-Ok.doing)) c.new.ensures c.in-Ok.ensures)
          c.new-flow.ensures.sent c.new-flow.ensures.waits,
    )

pub returns-in-Err-hand_on-clause-part : goal.returns-in-Err-hand_on-clause-part
returns-in-Err-hand_on-clause-part g c =
    told_cut (g.K.Sink.taken c.args.out.now) (g.K.Sink.taken c.loop-turn.out) (g.K.Sink.taken c.hand_on.new.out) c.args.graph.now c.args.world.now c.loop-turn.world c.loop-turn.tasks c.loop-turn.doing c.loop-turn.flow
    c.in-Err-hand_on.error c.loop-turn.invariant.1 c.in-Err-hand_on.ensures.stops

pub returns-in-Some-clause-end : goal.returns-in-Some-clause-end
returns-in-Some-clause-end g c =
    let start = g.K.Sink.taken c.args.out.now in
    let sent = g.K.Sink.taken c.hand_on.new.out in
    let told = told_handed start (g.K.Sink.taken c.loop-turn.out) sent c.args.graph.now c.args.world.now c.loop-turn.world c.loop-turn.tasks c.loop-turn.doing c.loop-turn.flow c.hand_on.new.world c.hand_on.new.flow
    c.loop-turn.invariant.1 c.in_default.ensures.same c.in_default.ensures.flows in
    IfOk-weaker c.finish.result _ _
    (λ answer e strict ticks run ranked runs enters.
    end_is start sent sent c.args.graph.now c.args.world.now c.hand_on.new.world c.loop-turn.tasks c.loop-turn.doing c.hand_on.new.flow c.in-Some.end (sym c.end_of.ensures ∙ c.in-Some.is) c.in_default.ensures.same.0 told strict ticks run ranked runs enters ∙ sym e)
    c.finish.ensures.end

pub returns-in-Some-clause-text : goal.returns-in-Some-clause-text
returns-in-Some-clause-text g c =
    let start = g.K.Sink.taken c.args.out.now in
    let sent = g.K.Sink.taken c.hand_on.new.out in
    let told = told_handed start (g.K.Sink.taken c.loop-turn.out) sent c.args.graph.now c.args.world.now c.loop-turn.world c.loop-turn.tasks c.loop-turn.doing c.loop-turn.flow c.hand_on.new.world c.hand_on.new.flow
    c.loop-turn.invariant.1 c.in_default.ensures.same c.in_default.ensures.flows in
    on_ok_weaker c.finish.result
    (λ k. text_is start sent (g.K.Sink.taken c.finish.new.out) c.args.graph.now c.args.world.now c.hand_on.new.world c.loop-turn.tasks c.loop-turn.doing c.hand_on.new.flow c.in-Some.end (sym c.end_of.ensures ∙ c.in-Some.is) c.in_default.ensures.same.0
    c.finish.new.flow told k.0 k.1)
    c.finish.ensures.flows

pub returns-in-Some-clause-part : goal.returns-in-Some-clause-part
returns-in-Some-clause-part g c =
    let start = g.K.Sink.taken c.args.out.now in
    let sent = g.K.Sink.taken c.hand_on.new.out in
    let told = told_handed start (g.K.Sink.taken c.loop-turn.out) sent c.args.graph.now c.args.world.now c.loop-turn.world c.loop-turn.tasks c.loop-turn.doing c.loop-turn.flow c.hand_on.new.world c.hand_on.new.flow
    c.loop-turn.invariant.1 c.in_default.ensures.same c.in_default.ensures.flows in
    IfErr-weaker c.finish.result _ _
    (λ error k. part_is start sent (g.K.Sink.taken c.finish.new.out) c.args.graph.now c.args.world.now c.hand_on.new.world c.loop-turn.tasks c.loop-turn.doing c.hand_on.new.flow c.in-Some.end (sym c.end_of.ensures ∙ c.in-Some.is) c.in_default.ensures.same.0
    error told k)
    c.finish.ensures.stops

pub returns-in-Err-turn-clause-part : goal.returns-in-Err-turn-clause-part
returns-in-Err-turn-clause-part g c =
    let start = g.K.Sink.taken c.args.out.now in
    let sent = g.K.Sink.taken c.hand_on.new.out in
    told_in_want start sent sent c.args.graph.now c.args.world.now c.hand_on.new.world c.loop-turn.tasks c.loop-turn.doing c.hand_on.new.flow
    (told_handed start (g.K.Sink.taken c.loop-turn.out) sent c.args.graph.now c.args.world.now c.loop-turn.world c.loop-turn.tasks c.loop-turn.doing c.loop-turn.flow c.hand_on.new.world c.hand_on.new.flow
    c.loop-turn.invariant.1 c.in_default.ensures.same c.in_default.ensures.flows)

pub loop-turn-preserved : goal.loop-turn-preserved
loop-turn-preserved g c =
    let start = g.K.Sink.taken c.args.out.now in
    let sent = g.K.Sink.taken c.hand_on.new.out in (
      (let k : g.K.Sink.faults c.args.out.now ≤ g.K.Sink.faults c.loop-turn.out = c.loop-turn.invariant.0 in
          let n : g.K.Sink.faults c.loop-turn.out ≤ g.K.Sink.faults c.hand_on.new.out = c.hand_on.ensures.counts in
          let m : g.K.Sink.faults c.args.out.now ≤ g.K.Sink.faults c.hand_on.new.out = omega (arith, k, n) in m),
      told_goes_on start sent sent c.args.graph.now c.args.world.now c.hand_on.new.world c.turn.new.world c.loop-turn.tasks c.turn.new.tasks c.loop-turn.doing c.in-Ok-turn.next c.hand_on.new.flow
          (told_handed start (g.K.Sink.taken c.loop-turn.out) sent c.args.graph.now c.args.world.now c.loop-turn.world c.loop-turn.tasks c.loop-turn.doing c.loop-turn.flow c.hand_on.new.world c.hand_on.new.flow
          c.loop-turn.invariant.1 c.in_default.ensures.same c.in_default.ensures.flows) c.in-Ok-turn.ensures,
    )

pub returns-clause-part : goal.returns-clause-part
returns-clause-part g c =
    told_in_want (g.K.Sink.taken c.args.out.now) (g.K.Sink.taken c.loop-turn.out) (g.K.Sink.taken c.loop-turn.out) c.args.graph.now c.args.world.now c.loop-turn.world c.loop-turn.tasks c.loop-turn.doing c.loop-turn.flow c.loop-turn.invariant.1

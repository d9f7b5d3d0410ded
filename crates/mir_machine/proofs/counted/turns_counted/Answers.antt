use Rattle.std.proofs.Common.{map, sym, subst, ◌∙◌}
use Rattle.mir_base.specs.declared.trace.Event.{Event}
use Rattle.mir_machine.proofs.RunsCounted.{counted_first, counted_on, counted_told, counts_are}
use Rattle.mir_machine.specs.Tasks.{AtEntry, Keeps, Next}
use Rattle.store_model.specs.Values.Datum.{datum_of}
use Rattle.mir_machine.proofs.counted.turns_counted.Goals as goal

pub loop-turn-init : goal.loop-turn-init
loop-turn-init c =
    let graph = c.args.graph.now in
    counted_first graph c.args.world.now c.enter-entered.new.world c.new-tasks.result c.in-Ok.doing c.none-counts.result
    c.args.main c.requires c.new-tasks.ensures
    (subst (λ l. Keeps graph c.args.world.now c.enter-entered.new.world (AtEntry graph c.new-tasks.result (Event.Call c.args.main) c.args.main (map datum_of l)) (Next graph c.new-tasks.result c.in-Ok.doing)) c.new.ensures c.in-Ok.ensures)
    c.none-counts.ensures

pub returns-in-Some : goal.returns-in-Some
returns-in-Some c =
    counts_are c.args.graph.now c.args.world.now c.count_told.new.world c.loop-turn.tasks c.loop-turn.doing
    c.count_told.new.counts c.in-Some.end (sym c.end_of.ensures ∙ c.in-Some.is) c.in_default.ensures.same.0
    (counted_told c.args.graph.now c.args.world.now c.loop-turn.world c.loop-turn.tasks c.loop-turn.doing
    c.loop-turn.counts c.count_told.new.world c.count_told.new.counts c.loop-turn.invariant c.in_default.ensures.same
    c.in_default.ensures.counts)

pub loop-turn-preserved : goal.loop-turn-preserved
loop-turn-preserved c =
    counted_on c.args.graph.now c.args.world.now c.count_told.new.world c.loop-turn.tasks c.loop-turn.doing
    c.count_told.new.counts c.turn.new.world c.turn.new.tasks c.in-Ok-turn.next
    (counted_told c.args.graph.now c.args.world.now c.loop-turn.world c.loop-turn.tasks c.loop-turn.doing
    c.loop-turn.counts c.count_told.new.world c.count_told.new.counts c.loop-turn.invariant c.in_default.ensures.same
    c.in_default.ensures.counts) c.in-Ok-turn.ensures

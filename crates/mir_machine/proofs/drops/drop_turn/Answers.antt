use Rattle.std.proofs.Common.{refl, sym, subst}
use Rattle.std.proofs.lemmas.Result.{IfOk-weaker}
use Rattle.mir_machine.proofs.DropsBegin.{ended_goes_on, stuck_turn, turn_kept}
use Rattle.machine_steps.specs.declared.drops.Turn.{Turn}
use Rattle.mir_machine.specs.Tasks.{AtOutcome, AtTurn, Keeps, Next}
use Rattle.mir_machine.proofs.drops.drop_turn.Goals as goal

pub returns-in-Enters : goal.returns-in-Enters
returns-in-Enters c =
    IfOk-weaker c.enter_drop.result _ _
    (λ doing k. subst (λ turn. Keeps c.args.graph.now c.args.world.now c.enter_drop.new.world (AtTurn c.args.graph.now c.args.tasks.now c.args.post c.args.drops turn) (Next c.args.graph.now c.enter_drop.new.tasks doing)) (sym c.in-Enters.is)
    (k c.in-Enters.adt c.in-Enters.serial refl))
    c.enter_drop.ensures

pub returns-in-Ends : goal.returns-in-Ends
returns-in-Ends c =
    let graph = c.args.graph.now in
    let tasks = c.args.tasks.now in
    IfOk-weaker c.go_on.result _ _
    (λ doing k. subst (λ turn. Keeps graph c.args.world.now c.go_on.new.world (AtTurn graph tasks c.args.post c.args.drops turn) (Next graph tasks doing)) (sym c.in-Ends.is)
    (ended_goes_on graph tasks c.args.world.now c.go_on.new.world c.args.post c.args.drops doing
    (subst (λ outcome. Keeps graph c.args.world.now c.go_on.new.world (AtOutcome graph tasks c.args.post outcome) (Next graph tasks doing)) c.outcome_of_drops-outcome.ensures (k graph tasks))))
    c.go_on.ensures

pub returns-in-Stuck : goal.returns-in-Stuck
returns-in-Stuck c =
    let graph = c.args.graph.now in
    let tasks = c.args.tasks.now in
    let world = c.args.world.now in
    subst (λ turn. Keeps graph world world (AtTurn graph tasks c.args.post c.args.drops turn) (Next graph tasks c.stuck.result)) (sym c.in-Stuck.is)
    (subst (λ doing. Keeps graph world world (AtTurn graph tasks c.args.post c.args.drops Turn.Stuck) (Next graph tasks doing)) (sym c.stuck.ensures) (stuck_turn graph tasks world c.args.post c.args.drops))

pub returns-in_ok-next-in_default : goal.returns-in_ok-next-in_default
returns-in_ok-next-in_default c =
    turn_kept c.args.graph.now c.args.tasks.now c.args.world.now c.steps.new.world c.args.post c.args.drops c.steps.new.drops c.args.turn c.in_ok-next-in_default.next
    c.in_ok-next-in_default.ensures.run c.in_ok-next-in_default.ensures.ticks c.in_ok-next-in_default.ensures.left

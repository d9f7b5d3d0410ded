use Rattle.std.proofs.Common.{[], ◌∷◌, sym, subst}
use Rattle.std.proofs.lemmas.Result.{IfOk-weaker}
use Rattle.machine_steps.specs.declared.drops.Turn.{Turn}
use Rattle.mir_base.specs.declared.trace.Event.{Event}
use Rattle.mir_machine.proofs.DropsBegin.{drop_waits}
use Rattle.mir_machine.specs.Tasks.{AtEntry, AtTurn, Keeps, Next}
use Rattle.store_model.specs.Values.Datum.{Address}
use Rattle.mir_machine.proofs.drops.enter_drop.Goals as goal

pub returns-in_ok-push-in-Ok : goal.returns-in_ok-push-in-Ok
returns-in_ok-push-in-Ok c =
    let graph = c.args.graph.now in
    let old = c.args.world.now in
    let new = c.enter.new.world in
    let pushed = c.in_ok-push-in-Ok.ensures.pushed in
    IfOk-weaker c.enter.result _ _
    (λ doing k adt serial is.
    subst (λ tasks. Keeps graph old new (AtTurn graph c.args.tasks.now c.args.post c.args.drops (Turn.Enters adt serial c.args.body c.args.dynamic)) (Next graph tasks doing)) (sym pushed)
    (drop_waits graph c.args.tasks.now old new c.args.post c.args.drops c.args.dynamic adt serial c.args.body doing
    (subst (λ tasks. Keeps graph old new (AtEntry graph tasks (Event.Dropped adt serial) c.args.body (Address c.args.drops.address ∷ [])) (Next graph tasks doing)) pushed
    (subst (λ event. Keeps graph old new (AtEntry graph c.push.new.self event c.args.body (Address c.args.drops.address ∷ [])) (Next graph c.push.new.self doing)) is
    (subst (λ args. Keeps graph old new (AtEntry graph c.push.new.self c.args.event c.args.body args) (Next graph c.push.new.self doing)) c.in-Ok.ensures.data k)))))
    c.enter.ensures

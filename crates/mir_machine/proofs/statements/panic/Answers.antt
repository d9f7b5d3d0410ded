use Rattle.std.proofs.lemmas.Result.{IfOk-weaker}
use Rattle.mir_machine.proofs.BodiesLeft.{keeps_panicking}
use Rattle.mir_machine.proofs.statements.panic.Goals as goal

pub returns : goal.returns
returns c =
    IfOk-weaker c.unwind_on.result _ _
    (λ doing k graph tasks. keeps_panicking graph tasks c.args.world.now c.panic.new.self c.unwind_on.new.world c.args.number c.args.block c.args.why c.args.unwind doing c.in_ok-panic.ensures.run c.in_ok-panic.ensures.told (k graph tasks))
    c.unwind_on.ensures

use Rattle.std.proofs.Common.{◌≡◌, Some, subst, arith}
use Rattle.std.proofs.lemmas.Grind.{common_steps}
use Rattle.std.proofs.lemmas.Result.{IfOk-weaker}
use Rattle.mir_machine.proofs.ResumesLeft.{result_stored}
use Rattle.mir_machine.specs.Tasks.{AtOutcome, Keeps, Next, destination_in}
use Rattle.store_model.specs.Values.Datum.{datum_of}
use Rattle.mir_machine.proofs.turns.store_result.Goals as goal

pub returns : goal.returns
returns c =
    let graph = c.args.graph.now in
    let leads : destination_in c.args.graph.now c.args.post.number c.args.post.block ≡ Some c.in-Some.to.now = grind (arith, common_steps) in
    IfOk-weaker c.go_on.result _ _
    (λ doing k tasks. result_stored graph tasks c.args.world.now c.put.new.self c.go_on.new.world c.args.post c.args.lost (datum_of c.args.value) c.in-Some.to.now c.in_ok-outcome.outcome doing leads c.in_ok-outcome.ensures.run c.in_ok-outcome.ensures.does
    (subst (λ outcome. Keeps graph c.put.new.self c.go_on.new.world (AtOutcome graph tasks c.args.post outcome) (Next graph tasks doing)) c.stop_if.ensures (k graph tasks)))
    c.go_on.ensures

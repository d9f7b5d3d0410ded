use Rattle.std.proofs.Common.{sym}
use Rattle.machine_steps.proofs.ChoicesDone.{truth_chosen, no_truth}
use Rattle.machine_steps.proofs.world.World.choose_truth.Goals as goal

pub returns-in-Some-clause-chosen : goal.returns-in-Some-clause-chosen
returns-in-Some-clause-chosen c =
    truth_chosen c.args.self.now c.evaluate.new.self c.args.operand.now c.in_ok-value.field-0 c.in_ok-value.ensures.taken c.in-Some.value c.truth_in.result c.in-Some.is (sym c.truth_in.ensures)

pub returns-in-None-clause-chosen : goal.returns-in-None-clause-chosen
returns-in-None-clause-chosen c = no_truth c.args.self.now c.evaluate.new.self c.args.operand.now c.in_ok-value.field-0 c.in_ok-value.ensures.taken c.in-None.is

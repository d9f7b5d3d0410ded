use Rattle.std.proofs.Common.{◌≡◌, Some, None, arith, rules}
use Rattle.std.proofs.lemmas.Grind.{common_steps}
use Rattle.machine_steps.specs.declared.actions.Outcome.{Outcome}
use Rattle.machine_store.specs.Standing.{number_of}
use Rattle.machine_steps.specs.Worlds.{run_setting}
use Rattle.machine_steps.proofs.StepsDone.{then_does, stuck_does, number_printed, nothing_printed}
use Rattle.store_model.specs.Concrete.Effects.{printed}
use Rattle.store_model.specs.Values.Datum.{datum_of}
use Rattle.machine_steps.proofs.world.World.print.Goals as goal

pub returns-in_default-clause-does : goal.returns-in_default-clause-does
returns-in_default-clause-does c = λ run.
    stuck_does c.args.self.now c.evaluate.new.self c.args.operand.now c.in_ok-value.field-0 c.in_ok-value.ensures.taken c.in_default.is (printed (run_setting c.args.self.now))

pub returns-in_default-number_in-clause-does : goal.returns-in_default-number_in-clause-does
returns-in_default-number_in-clause-does c = λ run.
    let setting = run_setting c.args.self.now in
    let none : number_of (datum_of c.in-Some.value) ≡ None = grind (arith, common_steps) in
    then_does c.args.self.now c.evaluate.new.self c.args.operand.now c.in_ok-value.field-0 c.in_ok-value.ensures.taken c.in-Some.value c.in-Some.is
    (printed setting) Outcome.Stuck c.evaluate.new.self (nothing_printed setting c.evaluate.new.self (datum_of c.in-Some.value) none)

pub returns-clause-does : goal.returns-clause-does
returns-clause-does c = λ run.
    let setting = run_setting c.args.self.now in
    let number : number_of (datum_of c.in-Some.value) ≡ Some c.in-Some-number_in.number = grind (arith, common_steps) in
    then_does c.args.self.now c.evaluate.new.self c.args.operand.now c.in_ok-value.field-0 c.in_ok-value.ensures.taken c.in-Some.value c.in-Some.is
    (printed setting) Outcome.Goes c.tell.new.self (number_printed setting c.evaluate.new.self c.tell.new.self (datum_of c.in-Some.value) c.in-Some-number_in.number _ number c.in_ok-tell.ensures.told (search rules))

use Rattle.std.proofs.Common.{◌≡◌, pos, true, false, Some, None, arith}
use Rattle.std.specs.Prelude.{int_lt}
use Rattle.std.proofs.lemmas.Grind.{common_steps}
use Rattle.machine_steps.specs.declared.actions.Outcome.{Outcome}
use Rattle.machine_steps.specs.Worlds.{run_setting}
use Rattle.machine_steps.proofs.ChoicesDone.{index_within, index_past, no_index}
use Rattle.machine_steps.proofs.StepsDone.{then_does, stuck_does}
use Rattle.machine_store.specs.Standing.{number_of}
use Rattle.store_model.specs.Concrete.Effects.{bounded}
use Rattle.store_model.specs.Values.Datum.{datum_of}
use Rattle.machine_steps.proofs.world.World.bounds.Goals as goal

pub returns-in_default-clause-does : goal.returns-in_default-clause-does
returns-in_default-clause-does c = λ run.
    stuck_does c.args.self.now c.evaluate.new.self c.args.index.now c.in_ok-value.field-0 c.in_ok-value.ensures.taken c.in_default.is (bounded (run_setting c.args.self.now) c.args.length)

pub returns-in_default-number_in-clause-does : goal.returns-in_default-number_in-clause-does
returns-in_default-number_in-clause-does c = λ run.
    let setting = run_setting c.args.self.now in
    let none : number_of (datum_of c.in-Some.value) ≡ None = grind (arith, common_steps) in
    then_does c.args.self.now c.evaluate.new.self c.args.index.now c.in_ok-value.field-0 c.in_ok-value.ensures.taken c.in-Some.value c.in-Some.is
    (bounded setting c.args.length) Outcome.Stuck c.evaluate.new.self (no_index setting c.args.length c.evaluate.new.self (datum_of c.in-Some.value) none)

pub returns-then-number-from-clause-does : goal.returns-then-number-from-clause-does
returns-then-number-from-clause-does c = λ run.
    let setting = run_setting c.args.self.now in
    let number : number_of (datum_of c.in-Some.value) ≡ Some c.in-Some-number_in.number = grind (arith, common_steps) in
    let within : int_lt c.in-Some-number_in.number (pos c.args.length) ≡ true = grind (arith, common_steps) in
    then_does c.args.self.now c.evaluate.new.self c.args.index.now c.in_ok-value.field-0 c.in_ok-value.ensures.taken c.in-Some.value c.in-Some.is
    (bounded setting c.args.length) Outcome.Goes c.evaluate.new.self
    (index_within setting c.args.length c.evaluate.new.self (datum_of c.in-Some.value) c.in-Some-number_in.number number within)

pub returns-clause-does : goal.returns-clause-does
returns-clause-does c = λ run.
    let setting = run_setting c.args.self.now in
    let number : number_of (datum_of c.in-Some.value) ≡ Some c.in-Some-number_in.number = grind (arith, common_steps) in
    let past : int_lt c.in-Some-number_in.number (pos c.args.length) ≡ false = grind (arith, common_steps) in
    then_does c.args.self.now c.evaluate.new.self c.args.index.now c.in_ok-value.field-0 c.in_ok-value.ensures.taken c.in-Some.value c.in-Some.is
    (bounded setting c.args.length) Outcome.Panics c.panic.new.self
    (index_past setting c.args.length c.evaluate.new.self (datum_of c.in-Some.value) c.in-Some-number_in.number number past c.panic.new.self c.in_ok-panic.ensures.told)

use Rattle.std.proofs.Common.{◌≡◌, [], true, ap, sym, ◌∙◌}
use Rattle.std.specs.Prelude.{option_map}
use Rattle.std.specs.Option.{option_map_or}
use Rattle.cfg_meaning.specs.Actions.{operand_of}
use Rattle.machine_store.specs.Standing.{dynamic_of}
use Rattle.machine_steps.specs.Boxes.{operand_found, with_lines}
use Rattle.machine_steps.specs.Steps.{Goes}
use Rattle.machine_steps.specs.Worlds.{state_of, run_setting}
use Rattle.machine_steps.proofs.BoxesDone.{acts_forgetting, forgets, same_found}
use Rattle.machine_steps.proofs.NumbersDone.{same_does}
use Rattle.machine_steps.proofs.StepsDone.{stuck_does, then_does}
use Rattle.machine_steps.specs.declared.actions.Outcome.{Outcome}
use Rattle.store_model.specs.Concrete.Effects.{acted, forgotten, with_operand}
use Rattle.store_model.specs.Concrete.Location.{Setting}
use Rattle.store_model.specs.Effects as actions
use Rattle.store_model.specs.Values.Datum.{datum_of}
use Rattle.machine_steps.proofs.world.World.forget.Goals as goal

pub returns-in_default-clause-does : goal.returns-in_default-clause-does
returns-in_default-clause-does c = λ run before.
    let setting = run_setting c.args.self.now in
    let operand = c.args.operand.now in
    same_does (acted setting run (actions.Forget (operand_of 0 operand))) (λ w. with_operand setting (operand_of 0 operand) w (forgets setting run (operand_found setting w operand)))
    c.args.self.now c.evaluate.new.self Outcome.Stuck (λ before. acts_forgetting setting run operand (state_of before c.args.self.now))
    (λ before. stuck_does c.args.self.now c.evaluate.new.self operand c.in_ok-value.field-0 c.in_ok-value.ensures.taken c.in_default.is
    (forgets setting run (operand_found setting (state_of before c.args.self.now) operand)) before) before

pub returns-clause-does : goal.returns-clause-does
returns-clause-does c = λ run before.
    let setting = run_setting c.args.self.now in
    let operand = c.args.operand.now in
    let mid = c.evaluate.new.self in
    let new = c.tell_found.new.self in
    same_does (acted setting run (actions.Forget (operand_of 0 operand))) (λ w. with_operand setting (operand_of 0 operand) w (forgets setting run (operand_found setting w operand)))
    c.args.self.now new Outcome.Goes (λ before. acts_forgetting setting run operand (state_of before c.args.self.now))
    (λ before. then_does c.args.self.now mid operand c.in_ok-value.field-0 c.in_ok-value.ensures.taken c.in-Some.value c.in-Some.is
    (forgets setting run (operand_found setting (state_of before c.args.self.now) operand)) Outcome.Goes new
    (λ later. ap Goes (ap (λ o. with_lines (option_map_or (forgotten setting.items (datum_of c.in-Some.value)) o []) (state_of later mid))
    (same_found c.args.self.now.strict c.args.self.now.graph.now (state_of before c.args.self.now) operand ∙ sym c.in_ok-found.ensures)
    ∙ ap (λ (s : Setting). with_lines (option_map_or (forgotten s.items (datum_of c.in-Some.value)) (option_map dynamic_of c.in_ok-found.found) []) (state_of later mid)) (sym c.in_ok-value.ensures.run)
    ∙ sym (c.in_ok-tell_found.ensures.told later))) before) before

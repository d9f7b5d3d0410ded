use Rattle.std.proofs.Common.{◌≡◌, Some, None, subst, ◌∙◌, arith}
use Rattle.std.proofs.lemmas.Grind.{common_steps}
use Rattle.std.proofs.lemmas.Result.{IfOk-weaker}
use Rattle.std.specs.Option.{option_map_or}
use Rattle.cfg_meaning.specs.Actions.{site_of, operand_of}
use Rattle.machine_steps.specs.declared.actions.Outcome.{Outcome}
use Rattle.machine_steps.specs.Steps.{Does}
use Rattle.machine_steps.specs.Worlds.{run_setting}
use Rattle.machine_steps.proofs.StepsDone.{stuck_does, second_stuck, two_do, truth_stored, no_truth_stored, in_setting, datum_of_truth}
use Rattle.store_model.specs.declared.value.Value.TheVariants.{Bool}
use Rattle.store_model.specs.Concrete.Effects.{with_operand, put, put_if, compared}
use Rattle.store_model.specs.Values.Datum.{Truth, datum_of}
use Rattle.machine_steps.proofs.world.World.compare.Goals as goal

pub returns-in_default-clause-does : goal.returns-in_default-clause-does
returns-in_default-clause-does c = λ run.
    let setting = run_setting c.args.self.now in
    stuck_does c.args.self.now c.evaluate.new.self c.args.left.now c.in_ok-left.field-0 c.in_ok-left.ensures.taken c.in_default.is
    (λ a w. with_operand setting (operand_of 0 c.args.right.now) w (λ b. put_if setting (site_of 0 c.args.to.now) (option_map_or (λ t. Some (Truth t)) (compared c.args.operator a b) None)))

pub returns-in_default-2-clause-does : goal.returns-in_default-2-clause-does
returns-in_default-2-clause-does c = λ run.
    let setting = run_setting c.args.self.now in
    second_stuck c.args.self.now c.evaluate.new.self c.evaluate-2.new.self c.args.left.now c.args.right.now c.in_ok-left.field-0 c.in_ok-right.field-0 c.in_ok-left.ensures.taken c.in_ok-right.ensures.taken
    c.in_ok-left.ensures.run (λ a b. put_if setting (site_of 0 c.args.to.now) (option_map_or (λ t. Some (Truth t)) (compared c.args.operator a b) None)) c.in-Some.left c.in-Some.is c.in_default-2.is

pub returns-in-Some-comparison-clause-does : goal.returns-in-Some-comparison-clause-does
returns-in-Some-comparison-clause-does c =
    let setting = run_setting c.args.self.now in
    let last = c.evaluate-2.new.self in
    let truth = c.in-Some-comparison.truth in
    let is : compared c.args.operator (datum_of c.in-Some.left) (datum_of c.in-Some-2.right) ≡ Some c.in-Some-comparison.truth = grind (arith, common_steps) in
    IfOk-weaker c.put.result _ _
    (λ outcome h run. two_do c.args.self.now c.evaluate.new.self last c.args.left.now c.args.right.now c.in_ok-left.field-0 c.in_ok-right.field-0 c.in_ok-left.ensures.taken c.in_ok-right.ensures.taken
    c.in_ok-left.ensures.run (λ a b. put_if setting (site_of 0 c.args.to.now) (option_map_or (λ t. Some (Truth t)) (compared c.args.operator a b) None)) c.in-Some.left c.in-Some-2.right c.in-Some.is c.in-Some-2.is
    outcome c.put.new.self
    (truth_stored setting (site_of 0 c.args.to.now) last (compared c.args.operator (datum_of c.in-Some.left) (datum_of c.in-Some-2.right)) truth is outcome c.put.new.self
    (subst (λ d. Does (put setting (site_of 0 c.args.to.now) d) last outcome c.put.new.self) (datum_of_truth truth)
    (in_setting (run_setting last) setting (c.in_ok-right.ensures.run ∙ c.in_ok-left.ensures.run) (λ s. put s (site_of 0 c.args.to.now) (datum_of (Bool truth))) last outcome c.put.new.self h))))
    c.put.ensures.does

pub returns-clause-does : goal.returns-clause-does
returns-clause-does c = λ run.
    let setting = run_setting c.args.self.now in
    let last = c.evaluate-2.new.self in
    let none : compared c.args.operator (datum_of c.in-Some.left) (datum_of c.in-Some-2.right) ≡ None = grind (arith, common_steps) in
    two_do c.args.self.now c.evaluate.new.self last c.args.left.now c.args.right.now c.in_ok-left.field-0 c.in_ok-right.field-0 c.in_ok-left.ensures.taken c.in_ok-right.ensures.taken c.in_ok-left.ensures.run
    (λ a b. put_if setting (site_of 0 c.args.to.now) (option_map_or (λ t. Some (Truth t)) (compared c.args.operator a b) None)) c.in-Some.left c.in-Some-2.right c.in-Some.is c.in-Some-2.is Outcome.Stuck last
    (no_truth_stored setting (site_of 0 c.args.to.now) last (compared c.args.operator (datum_of c.in-Some.left) (datum_of c.in-Some-2.right)) none)

use Rattle.std.proofs.Common.{◌≡◌, Some, None, subst, not, arith}
use Rattle.std.proofs.lemmas.Grind.{common_steps}
use Rattle.std.proofs.lemmas.Result.{IfOk-weaker}
use Rattle.cfg_meaning.specs.Actions.{site_of}
use Rattle.machine_steps.specs.Steps.{Does, truth_of}
use Rattle.machine_steps.specs.Worlds.{run_setting}
use Rattle.machine_steps.proofs.StepsDone.{then_does, stuck_does, in_setting, other_truth, other_stored, no_other, datum_of_truth}
use Rattle.machine_steps.specs.declared.actions.Outcome.{Outcome}
use Rattle.store_model.specs.declared.value.Value.TheVariants.{Bool}
use Rattle.store_model.specs.Concrete.Effects.{put}
use Rattle.store_model.specs.Values.Datum.{datum_of}
use Rattle.machine_steps.proofs.world.World.negate_truth.Goals as goal

pub returns-in_default-clause-does : goal.returns-in_default-clause-does
returns-in_default-clause-does c = λ run.
    stuck_does c.args.self.now c.evaluate.new.self c.args.operand.now c.in_ok-value.field-0 c.in_ok-value.ensures.taken c.in_default.is (other_truth (run_setting c.args.self.now) (site_of 0 c.args.to.now))

pub returns-in-Some-truth_in-clause-does : goal.returns-in-Some-truth_in-clause-does
returns-in-Some-truth_in-clause-does c =
    let setting = run_setting c.args.self.now in
    let mid = c.evaluate.new.self in
    let truth : truth_of (datum_of c.in-Some.value) ≡ Some c.in-Some-truth_in.truth = grind (arith, common_steps) in
    IfOk-weaker c.put.result _ _
    (λ outcome h run. then_does c.args.self.now mid c.args.operand.now c.in_ok-value.field-0 c.in_ok-value.ensures.taken c.in-Some.value c.in-Some.is
    (other_truth setting (site_of 0 c.args.to.now)) outcome c.put.new.self
    (other_stored setting (site_of 0 c.args.to.now) mid c.put.new.self outcome (datum_of c.in-Some.value) c.in-Some-truth_in.truth truth
    (subst (λ d. Does (put setting (site_of 0 c.args.to.now) d) mid outcome c.put.new.self) (datum_of_truth (not c.in-Some-truth_in.truth))
    (in_setting (run_setting mid) setting c.in_ok-value.ensures.run (λ s. put s (site_of 0 c.args.to.now) (datum_of (Bool (not c.in-Some-truth_in.truth)))) mid outcome c.put.new.self h))))
    c.put.ensures.does

pub returns-clause-does : goal.returns-clause-does
returns-clause-does c = λ run.
    let setting = run_setting c.args.self.now in
    let mid = c.evaluate.new.self in
    let none : truth_of (datum_of c.in-Some.value) ≡ None = grind (arith, common_steps) in
    then_does c.args.self.now mid c.args.operand.now c.in_ok-value.field-0 c.in_ok-value.ensures.taken c.in-Some.value c.in-Some.is
    (other_truth setting (site_of 0 c.args.to.now)) Outcome.Stuck mid (no_other setting (site_of 0 c.args.to.now) mid (datum_of c.in-Some.value) none)

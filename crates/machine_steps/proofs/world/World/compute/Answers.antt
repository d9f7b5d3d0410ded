use Rattle.std.proofs.Common.{[], sym, ◌∙◌}
use Rattle.std.proofs.lemmas.Result.{IfOk-weaker}
use Rattle.std.specs.Prelude.{option_map}
use Rattle.cfg_meaning.specs.Actions.{site_of, operand_of}
use Rattle.machine_steps.specs.Numbers.{computed_as, puts_if}
use Rattle.machine_steps.specs.Typed.{kind_of}
use Rattle.machine_steps.specs.Worlds.{state_of, run_setting}
use Rattle.machine_steps.proofs.NumbersDone.{same_does, acts_computing, same_kind, puts_computed}
use Rattle.machine_steps.proofs.StepsDone.{stuck_does, second_stuck, two_do, in_setting}
use Rattle.machine_steps.specs.declared.actions.Outcome.{Outcome}
use Rattle.store_model.specs.Concrete.Effects.{acted, with_operand, with_two_operands, compute}
use Rattle.store_model.specs.Effects as actions
use Rattle.store_model.specs.Values.Datum.{datum_of}
use Rattle.machine_steps.proofs.world.World.compute.Goals as goal

pub returns-in_default-clause-does : goal.returns-in_default-clause-does
returns-in_default-clause-does c = λ run.
    let setting = run_setting c.args.self.now in
    let to = site_of 0 c.args.to.now in
    same_does (acted setting run (actions.Compute to c.args.operator (operand_of 0 c.args.left.now) (operand_of 0 c.args.right.now)))
    (λ w. with_two_operands setting (operand_of 0 c.args.left.now) (operand_of 0 c.args.right.now) w (compute setting to c.args.operator (kind_of setting w c.args.left.now))) c.args.self.now c.evaluate.new.self Outcome.Stuck
    (λ before. acts_computing setting run to c.args.operator c.args.left.now c.args.right.now (state_of before c.args.self.now))
    (λ before. stuck_does c.args.self.now c.evaluate.new.self c.args.left.now c.in_ok-a.field-0 c.in_ok-a.ensures.taken c.in_default.is
    (λ a w. with_operand setting (operand_of 0 c.args.right.now) w (compute setting to c.args.operator (kind_of setting (state_of before c.args.self.now) c.args.left.now) a)) before)

pub returns-in_default-2-clause-does : goal.returns-in_default-2-clause-does
returns-in_default-2-clause-does c = λ run.
    let setting = run_setting c.args.self.now in
    let to = site_of 0 c.args.to.now in
    same_does (acted setting run (actions.Compute to c.args.operator (operand_of 0 c.args.left.now) (operand_of 0 c.args.right.now)))
    (λ w. with_two_operands setting (operand_of 0 c.args.left.now) (operand_of 0 c.args.right.now) w (compute setting to c.args.operator (kind_of setting w c.args.left.now))) c.args.self.now c.evaluate-2.new.self Outcome.Stuck
    (λ before. acts_computing setting run to c.args.operator c.args.left.now c.args.right.now (state_of before c.args.self.now))
    (λ before. second_stuck c.args.self.now c.evaluate.new.self c.evaluate-2.new.self c.args.left.now c.args.right.now c.in_ok-a.field-0 c.in_ok-b.field-0 c.in_ok-a.ensures.taken c.in_ok-b.ensures.taken
    c.in_ok-a.ensures.run (compute setting to c.args.operator (kind_of setting (state_of before c.args.self.now) c.args.left.now)) c.in-Some.a c.in-Some.is c.in_default-2.is before)

pub returns-clause-does : goal.returns-clause-does
returns-clause-does c =
    let setting = run_setting c.args.self.now in
    let to = site_of 0 c.args.to.now in
    let last = c.evaluate-2.new.self in
    let new = c.put_computed.new.self in
    IfOk-weaker c.put_computed.result _ _
    (λ outcome h run before. same_does (acted setting run (actions.Compute to c.args.operator (operand_of 0 c.args.left.now) (operand_of 0 c.args.right.now)))
    (λ w. with_two_operands setting (operand_of 0 c.args.left.now) (operand_of 0 c.args.right.now) w (compute setting to c.args.operator (kind_of setting w c.args.left.now))) c.args.self.now new outcome
    (λ before. acts_computing setting run to c.args.operator c.args.left.now c.args.right.now (state_of before c.args.self.now))
    (λ before. two_do c.args.self.now c.evaluate.new.self last c.args.left.now c.args.right.now c.in_ok-a.field-0 c.in_ok-b.field-0 c.in_ok-a.ensures.taken c.in_ok-b.ensures.taken
    c.in_ok-a.ensures.run (compute setting to c.args.operator (kind_of setting (state_of before c.args.self.now) c.args.left.now)) c.in-Some.a c.in-Some-2.b c.in-Some.is c.in-Some-2.is outcome new
    (puts_computed setting to last new outcome (option_map computed_as c.computation_of.result)
    (in_setting (run_setting last) setting (c.in_ok-b.ensures.run ∙ c.in_ok-a.ensures.run) (λ s. puts_if s to (option_map computed_as c.computation_of.result)) last outcome new h)
    c.args.operator (kind_of setting (state_of before c.args.self.now) c.args.left.now) c.kind_of-kind.result (datum_of c.in-Some.a) (datum_of c.in-Some-2.b)
    (same_kind c.args.self.now before c.args.left.now ∙ sym c.kind_of-kind.ensures) c.computation_of.ensures) before) before)
    c.put_computed.ensures.does

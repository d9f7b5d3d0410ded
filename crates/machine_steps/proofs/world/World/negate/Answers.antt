use Rattle.std.proofs.Common.{[], sym, ◌∙◌}
use Rattle.std.proofs.lemmas.Result.{IfOk-weaker}
use Rattle.std.specs.Prelude.{option_map}
use Rattle.cfg_meaning.specs.Actions.{site_of, operand_of}
use Rattle.machine_steps.specs.Numbers.{computed_as, puts_if}
use Rattle.machine_steps.specs.Typed.{kind_of}
use Rattle.machine_steps.specs.Worlds.{state_of, run_setting}
use Rattle.machine_steps.proofs.NumbersDone.{same_does, acts_negating, same_kind, puts_negated}
use Rattle.machine_steps.proofs.StepsDone.{stuck_does, then_does, in_setting}
use Rattle.machine_steps.specs.declared.actions.Outcome.{Outcome}
use Rattle.store_model.specs.Concrete.Effects.{acted, with_operand, negate}
use Rattle.store_model.specs.Effects as actions
use Rattle.store_model.specs.Values.Datum.{datum_of}
use Rattle.machine_steps.proofs.world.World.negate.Goals as goal

pub returns-in_default-clause-does : goal.returns-in_default-clause-does
returns-in_default-clause-does c = λ run before.
    let setting = run_setting c.args.self.now in
    let to = site_of 0 c.args.to.now in
    same_does (acted setting run (actions.Negate to (operand_of 0 c.args.operand.now))) (λ w. with_operand setting (operand_of 0 c.args.operand.now) w (negate setting to (kind_of setting w c.args.operand.now)))
    c.args.self.now c.evaluate.new.self Outcome.Stuck
    (λ before. acts_negating setting run to c.args.operand.now (state_of before c.args.self.now))
    (λ before. stuck_does c.args.self.now c.evaluate.new.self c.args.operand.now c.in_ok-value.field-0 c.in_ok-value.ensures.taken c.in_default.is
    (negate setting to (kind_of setting (state_of before c.args.self.now) c.args.operand.now)) before) before

pub returns-clause-does : goal.returns-clause-does
returns-clause-does c =
    let setting = run_setting c.args.self.now in
    let to = site_of 0 c.args.to.now in
    let last = c.evaluate.new.self in
    let new = c.put_computed.new.self in
    IfOk-weaker c.put_computed.result _ _
    (λ outcome h run before. same_does (acted setting run (actions.Negate to (operand_of 0 c.args.operand.now)))
    (λ w. with_operand setting (operand_of 0 c.args.operand.now) w (negate setting to (kind_of setting w c.args.operand.now))) c.args.self.now new outcome
    (λ before. acts_negating setting run to c.args.operand.now (state_of before c.args.self.now))
    (λ before. then_does c.args.self.now last c.args.operand.now c.in_ok-value.field-0 c.in_ok-value.ensures.taken c.in-Some.value c.in-Some.is
    (negate setting to (kind_of setting (state_of before c.args.self.now) c.args.operand.now)) outcome new
    (puts_negated setting to last new outcome (option_map computed_as c.negation_of.result)
    (in_setting (run_setting last) setting c.in_ok-value.ensures.run (λ s. puts_if s to (option_map computed_as c.negation_of.result)) last outcome new h)
    (kind_of setting (state_of before c.args.self.now) c.args.operand.now) c.kind_of-kind.result (datum_of c.in-Some.value)
    (same_kind c.args.self.now before c.args.operand.now ∙ sym c.kind_of-kind.ensures) c.negation_of.ensures) before) before)
    c.put_computed.ensures.does

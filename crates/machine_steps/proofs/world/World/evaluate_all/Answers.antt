use Rattle.std.proofs.Common.{◌≡◌, ◌+◌, [], drop, sym, subst, ◌∙◌, arith}
use Rattle.std.proofs.lemmas.Grind.{common_steps}
use Rattle.machine_steps.specs.Worlds.{state_of, run_setting, Evaluates}
use Rattle.machine_steps.proofs.Operands.{EvaluatedSoFar, none_left, one_more, all_done, next_left}
use Rattle.machine_steps.proofs.world.World.evaluate_all.Goals as goal

pub returns-in-None-clause-taken : goal.returns-in-None-clause-taken
returns-in-None-clause-taken c = λ before.
    let setting = run_setting c.args.self.now in
    let next = next_left c.args.operands.now c.loop-operand.operand-index c.operand-item.result c.loop-operand-test.true c.operand-item.is in
    let so_far = subst (λ left. EvaluatedSoFar setting c.args.operands.now (state_of before c.args.self.now) c.loop-operand.values left (state_of before c.loop-operand.self)) next
    (c.loop-operand.invariant.so_far before)
    in
    let gave = subst (λ s. Evaluates s c.operand-item.result (state_of before c.loop-operand.self) c.in_ok-value.field-0 (state_of before c.evaluate.new.self)) c.loop-operand.invariant.same
    (c.in_ok-value.ensures.taken before)
    in
    none_left setting c.args.operands.now (state_of before c.args.self.now) c.loop-operand.values c.operand-item.result (drop (c.loop-operand.operand-index + 1) c.args.operands.now)
    (state_of before c.loop-operand.self) (state_of before c.evaluate.new.self) so_far
    (subst (λ taken. Evaluates setting c.operand-item.result (state_of before c.loop-operand.self) taken (state_of before c.evaluate.new.self)) c.in-None.is gave)

pub loop-operand-preserved : goal.loop-operand-preserved
loop-operand-preserved c = record {
  same = c.in_ok-value.ensures.run ∙ c.loop-operand.invariant.same;
  so_far = λ before.
      let setting = run_setting c.args.self.now in
      let next = next_left c.args.operands.now c.loop-operand.operand-index c.operand-item.result c.loop-operand-test.true c.operand-item.is in
      let so_far = subst (λ left. EvaluatedSoFar setting c.args.operands.now (state_of before c.args.self.now) c.loop-operand.values left (state_of before c.loop-operand.self)) next
      (c.loop-operand.invariant.so_far before)
      in
      let gave = subst (λ s. Evaluates s c.operand-item.result (state_of before c.loop-operand.self) c.in_ok-value.field-0 (state_of before c.evaluate.new.self)) c.loop-operand.invariant.same
      (c.in_ok-value.ensures.taken before)
      in
      let more = one_more setting c.args.operands.now (state_of before c.args.self.now) c.loop-operand.values c.operand-item.result (drop (c.loop-operand.operand-index + 1) c.args.operands.now)
      (state_of before c.loop-operand.self) (state_of before c.evaluate.new.self) c.in-Some.value so_far
      (subst (λ taken. Evaluates setting c.operand-item.result (state_of before c.loop-operand.self) taken (state_of before c.evaluate.new.self)) c.in-Some.is gave)
      in
      subst (λ values. EvaluatedSoFar setting c.args.operands.now (state_of before c.args.self.now) values (drop (c.loop-operand.operand-index + 1) c.args.operands.now) (state_of before c.evaluate.new.self))
      (sym c.in_ok-push-in-Some.ensures.pushed) more;
}

pub returns-clause-taken : goal.returns-clause-taken
returns-clause-taken c = λ before.
    let setting = run_setting c.args.self.now in
    let none : drop c.loop-operand.operand-index c.args.operands.now ≡ [] = grind (arith, common_steps) in
    all_done setting c.args.operands.now (state_of before c.args.self.now) c.loop-operand.values (state_of before c.loop-operand.self)
    (subst (λ left. EvaluatedSoFar setting c.args.operands.now (state_of before c.args.self.now) c.loop-operand.values left (state_of before c.loop-operand.self)) none
    (c.loop-operand.invariant.so_far before))

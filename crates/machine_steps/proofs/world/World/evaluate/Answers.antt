use Rattle.std.proofs.Common.{refl, sym, subst}
use Rattle.std.proofs.lemmas.Result.{IfOk-weaker}
use Rattle.machine_steps.specs.Worlds.{state_of, run_setting, Evaluates}
use Rattle.machine_steps.proofs.Operands.{evaluates_copied}
use Rattle.machine_steps.proofs.world.World.evaluate.Goals as goal

pub returns-in-Copied : goal.returns-in-Copied
returns-in-Copied c = record {
  run = refl;
  taken =
      IfOk-weaker c.copy_from.result _ _
      (λ taken h before. subst (λ operand. Evaluates (run_setting c.args.self.now) operand (state_of before c.args.self.now) taken (state_of before c.args.self.now)) (sym c.in-Copied.is)
      (evaluates_copied (run_setting c.args.self.now) c.in-Copied.place (state_of before c.args.self.now) taken (h before)))
      c.copy_from.ensures;
}

pub returns-in-Moved-clause-taken : goal.returns-in-Moved-clause-taken
returns-in-Moved-clause-taken c =
    IfOk-weaker c.move_from.result _ _
    (λ taken h before. subst (λ operand. Evaluates (run_setting c.args.self.now) operand (state_of before c.args.self.now) taken (state_of before c.move_from.new.self)) (sym c.in-Moved.is) (h before))
    c.move_from.ensures.taken

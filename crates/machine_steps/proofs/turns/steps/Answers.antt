use Rattle.std.proofs.Common.{◌≡◌, sym, subst, ◌∙◌}
use Rattle.machine_steps.specs.Turns.{TurnLeft}
use Rattle.machine_steps.specs.Worlds.{state_of, run_setting}
use Rattle.store_model.specs.Concrete.Location.{Setting}
use Rattle.machine_steps.proofs.turns.steps.Goals as goal

pub loop-made-preserved : goal.loop-made-preserved
loop-made-preserved c =
    let same : run_setting c.loop-made.world ≡ run_setting c.args.world.now = c.loop-made.invariant.same in
    record {
      same = c.step.ensures.run ∙ same;
      ticks = c.in_ok-now.ensures.ticks ∙ c.loop-made.invariant.ticks;
      left = λ before run out h.
          subst (λ (r : Setting). TurnLeft r run (state_of before c.step.new.world) out c.step.new.drops c.in_ok-now.now) same
          (c.in_ok-now.ensures.left before run out
          (subst (λ (r : Setting). TurnLeft r run (state_of before c.loop-made.world) out c.loop-made.drops c.loop-made.now) (sym same) (c.loop-made.invariant.left before run out h)));
    }

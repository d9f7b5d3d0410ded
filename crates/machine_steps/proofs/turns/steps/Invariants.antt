use Rattle.std.proofs.Common.{◌≡◌}
use Rattle.machine_steps.specs.Turns.{TurnLeft}
use Rattle.mir_base.specs.Trace.{Trace}
use Rattle.machine_steps.specs.Worlds.{state_of, run_setting}
use Rattle.store_model.specs.Concrete.State.{Bodies, State}
use Rattle.store_model.specs.Effects.{Out}
use Rattle.machine_steps.proofs.turns.steps.Given as goal

abbrev pub invariant-loop-made : goal.invariant-loop-made
invariant-loop-made l =
    record {
      same : run_setting l.world ≡ run_setting l.fn.world;
      ticks : l.world.ticks ≡ l.fn.world.ticks;
      left : (before : Trace) (run : Bodies) (out : Out State) →
          TurnLeft (run_setting l.fn.world) run (state_of before l.fn.world) out l.fn.drops l.fn.turn →
          TurnLeft (run_setting l.fn.world) run (state_of before l.world) out l.drops l.now;
    }

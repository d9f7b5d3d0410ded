use Rattle.std.proofs.Common.{◌≡◌, ℕ, ◌≤◌, drop}
use Rattle.cfg_meaning.specs.Walk.{naming, stmts_do}
use Rattle.mir_base.specs.Trace.{Trace}
use Rattle.machine_steps.specs.Worlds.{state_of, run_setting}
use Rattle.store_model.specs.Concrete.Effects.{concrete_effects}
use Rattle.store_model.specs.Concrete.State.{Bodies, State}
use Rattle.store_model.specs.Effects.{Halt, Out}
use Rattle.mir_machine.proofs.statements.statements.Given as goal

abbrev pub invariant-loop-stmt : goal.invariant-loop-stmt
invariant-loop-stmt l =
    record {
      same : run_setting l.world ≡ run_setting l.fn.world;
      ticks : l.world.ticks ≤ l.fn.world.ticks;
      so_far : (run : Bodies) (fuel : ℕ) (name : Halt → Halt) (rest : State → Out State) (before : Trace) →
          stmts_do (naming name (concrete_effects (run_setting l.fn.world) run fuel)) (λ line. 0) 0 l.stmts rest (state_of before l.fn.world)
          ≡ stmts_do (naming name (concrete_effects (run_setting l.fn.world) run fuel)) (λ line. 0) l.stmt-index (drop l.stmt-index l.stmts) rest (state_of before l.world);
    }

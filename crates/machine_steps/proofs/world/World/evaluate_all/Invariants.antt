use Rattle.std.proofs.Common.{◌≡◌, drop}
use Rattle.machine_steps.specs.Worlds.{state_of, run_setting}
use Rattle.machine_steps.proofs.Operands.{EvaluatedSoFar}
use Rattle.mir_base.specs.Trace.{Trace}
use Rattle.machine_steps.proofs.world.World.evaluate_all.Given as goal

abbrev pub invariant-loop-operand : goal.invariant-loop-operand
invariant-loop-operand l =
    record {
      same : run_setting l.self ≡ run_setting l.fn.self;
      so_far : (before : Trace) → EvaluatedSoFar (run_setting l.fn.self) l.operands (state_of before l.fn.self) l.values (drop l.operand-index l.operands) (state_of before l.self);
    }

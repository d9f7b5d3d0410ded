use Rattle.std.proofs.Common.{◌≡◌, map, drop}
use Rattle.machine_steps.specs.Swept.{with_events}
use Rattle.mir_base.specs.Trace.{Trace}
use Rattle.machine_steps.specs.Worlds.{event_of, run_setting, state_of}
use Rattle.machine_steps.proofs.visit.tell_all.Given as goal

abbrev pub invariant-loop-one : goal.invariant-loop-one
invariant-loop-one l =
    record {
      same : run_setting l.world ≡ run_setting l.fn.world;
      told : (before : Trace) →
          with_events (map event_of (drop l.one-index l.told)) (state_of before l.world) ≡ with_events (map event_of l.told) (state_of before l.fn.world);
    }

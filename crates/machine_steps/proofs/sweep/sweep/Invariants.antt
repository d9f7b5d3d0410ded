use Rattle.std.proofs.Common.{◌≡◌, ◌++◌, [], map}
use Rattle.machine_steps.specs.Swept.{AreSwept, IsSwept, freed, freed_before}
use Rattle.machine_steps.specs.Turns.{stage_by}
use Rattle.machine_steps.specs.Worlds.{event_of}
use Rattle.machine_store.specs.Standing.{dynamic_of}
use Rattle.store_model.specs.Values.Datum.{datum_of}
use Rattle.machine_steps.proofs.sweep.sweep.Given as goal

abbrev pub invariant-loop-turn : goal.invariant-loop-turn
invariant-loop-turn l =
    record {
      swept : AreSwept l.items l.work → IsSwept l.items (stage_by l.fn.has_run) (datum_of l.value) (dynamic_of l.fn.dynamic);
      freed : map event_of l.told ++ freed_before l.work [] ≡ map event_of l.fn.told ++ freed (datum_of l.value);
    }

use Rattle.std.proofs.Common.{◌≡◌, ◌++◌, [], map}
use Rattle.machine_steps.specs.Forgetting.{lines_before}
use Rattle.machine_steps.specs.Worlds.{event_of}
use Rattle.machine_store.specs.Standing.{dynamic_of}
use Rattle.store_model.specs.Concrete.Effects.{forgotten}
use Rattle.store_model.specs.Values.Datum.{datum_of}
use Rattle.machine_steps.proofs.forget.tell_forgotten.Given as goal

abbrev pub invariant-loop-turn : goal.invariant-loop-turn
invariant-loop-turn l = map event_of l.told ++ lines_before l.items l.work [] ≡ map event_of l.fn.told ++ forgotten l.items (datum_of l.value) (dynamic_of l.fn.dynamic)

use Rattle.std.proofs.Common.{◌≡◌, true, drop}
use Rattle.cfg_meaning.specs.Programs.{setting_of}
use Rattle.machine_store.specs.Activations.{activations_of}
use Rattle.machine_store.specs.Standing.{with_activations, located_of, into_all_found}
use Rattle.store_model.specs.Concrete.Location as location
use Rattle.machine_store.proofs.location.located_at.Given as goal

abbrev pub invariant-loop-step : goal.invariant-loop-step
invariant-loop-step l =
    location.located_at (setting_of true l.graph) (with_activations (activations_of l.store)) l.address
    ≡ into_all_found l.graph.items (drop l.step-index l.address.path) (located_of l.s)

use Rattle.std.proofs.Common.{◌≡◌, true, drop, map}
use Rattle.cfg_graph.specs.Places.{named, named_step}
use Rattle.cfg_meaning.specs.Programs.{setting_of}
use Rattle.machine_store.specs.Activations.{activations_of}
use Rattle.machine_store.specs.Frames.{cells_of}
use Rattle.machine_store.specs.Standing.{with_activations, located_of, along_found}
use Rattle.store_model.specs.Concrete.Location as location
use Rattle.machine_store.proofs.location.reach.Given as goal

abbrev pub invariant-loop-step : goal.invariant-loop-step
invariant-loop-step l =
    location.reach (setting_of true l.graph) (with_activations (activations_of l.store)) (named l.place)
    ≡ along_found (setting_of true l.graph) (with_activations (activations_of l.store)) (cells_of l.frame.1) (map named_step (drop l.step-index l.place.steps)) (located_of l.s)

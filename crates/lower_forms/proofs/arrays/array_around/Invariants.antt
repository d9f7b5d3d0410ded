use Rattle.std.proofs.Common.{◌≡◌, ◌++◌, map, drop}
use Rattle.cfg_graph.specs.Places.{named_step}
use Rattle.store_model.specs.Places.Place.{before_element}
use Rattle.lower_forms.proofs.arrays.array_around.Given as goal

abbrev pub invariant-loop-step : goal.invariant-loop-step
invariant-loop-step l =
    map named_step l.steps ++ before_element (map named_step (drop l.step-index l.step-items))
    ≡ before_element (map named_step l.step-items)

use Rattle.std.proofs.Common.{◌≡◌, drop, map, option_and_then}
use Rattle.store_model.specs.Places.Place.{ty_along}
use Rattle.cfg_graph.specs.Places.{named_step}
use Rattle.cfg_graph.proofs.place_types.ty_along.Given as goal

abbrev pub invariant-loop-step : goal.invariant-loop-step
invariant-loop-step l = ty_along l.items (map named_step l.steps) l.fn.id ≡ option_and_then (ty_along l.items (map named_step (drop l.step-index l.steps))) l.at

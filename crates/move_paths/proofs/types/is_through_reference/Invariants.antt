use Rattle.std.proofs.Common.{◌≡◌, drop, map}
use Rattle.cfg_graph.specs.Places.{named_step}
use Rattle.move_paths.specs.Watch.{goes_through_reference}
use Rattle.move_paths.proofs.types.is_through_reference.Given as goal

abbrev pub invariant-loop-step : goal.invariant-loop-step
invariant-loop-step l = goes_through_reference l.items l.fn.id (map named_step l.steps) ≡ goes_through_reference l.items l.at (map named_step (drop l.step-index l.steps))

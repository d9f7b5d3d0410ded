use Rattle.std.proofs.Common.{◌≡◌, drop, map}
use Rattle.cfg_graph.specs.Places.{named_step}
use Rattle.cfg_graph.specs.Moves.Gone.{has_index}
use Rattle.move_paths.proofs.types.has_index.Given as goal

abbrev pub invariant-loop-step : goal.invariant-loop-step
invariant-loop-step l = has_index (map named_step l.steps) ≡ has_index (map named_step (drop l.step-index l.steps))

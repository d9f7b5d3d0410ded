use Rattle.std.proofs.Common.{◌≡◌, drop, map}
use Rattle.cfg_graph.specs.Places.{named_step}
use Rattle.move_errors.specs.Rows.{depth_from}
use Rattle.move_errors.proofs.bad.array_depth.Given as goal

abbrev pub invariant-loop-step : goal.invariant-loop-step
invariant-loop-step l = (l.depth ≡ l.step-index) × (depth_from 0 (map named_step l.place.steps) ≡ depth_from l.depth (map named_step (drop l.step-index l.place.steps)))

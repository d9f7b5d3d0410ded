use Rattle.std.proofs.Common.{◌≡◌, ◌++◌, map, drop}
use Rattle.lower_rules.specs.Build as build
use Rattle.cfg_graph.specs.Places.{named_step}
use Rattle.lower_passes.specs.Framed.{frame_of}
use Rattle.lower_passes.proofs.places.place.Given as goal

abbrev pub invariant-loop-each : goal.invariant-loop-each
invariant-loop-each l =
    l.steps ++ map (build.step_of (frame_of l.frame)) (map named_step (drop l.each-index l.each-items))
    ≡ map (build.step_of (frame_of l.frame)) (map named_step l.each-items)

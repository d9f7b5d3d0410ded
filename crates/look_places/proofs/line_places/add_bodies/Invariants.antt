use Rattle.std.proofs.Common.{◌≡◌, ◌++◌, map, take}
use Rattle.std.specs.Prelude.{flat_map}
use Rattle.typed_tree.specs.View.{body_of}
use Rattle.look_places.specs.LinePlaces.{body_places}
use Rattle.look_places.proofs.line_places.add_bodies.Given as goal

abbrev pub invariant-loop-body : goal.invariant-loop-body
invariant-loop-body l = l.places ≡ l.fn.places ++ flat_map (body_places l.items) (map body_of (take l.body-index l.bodies))

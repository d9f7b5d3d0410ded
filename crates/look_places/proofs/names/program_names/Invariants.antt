use Rattle.std.proofs.Common.{◌≡◌, map, take}
use Rattle.typed_tree.specs.View.{body_of}
use Rattle.look_places.specs.Names.{body_names}
use Rattle.look_places.proofs.names.program_names.Given as goal

abbrev pub invariant-loop-body : goal.invariant-loop-body
invariant-loop-body l = l.names ≡ map (body_names l.typed.items) (map body_of (take l.body-index l.typed.bodies))

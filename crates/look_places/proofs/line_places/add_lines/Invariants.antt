use Rattle.std.proofs.Common.{◌≡◌, ◌++◌, map, take}
use Rattle.lower_rules.specs.Listed.{ids_of}
use Rattle.typed_tree.specs.Listed.{trees}
use Rattle.look_places.specs.LinePlaces.{place_in}
use Rattle.look_places.proofs.line_places.add_lines.Given as goal

abbrev pub invariant-loop-id : goal.invariant-loop-id
invariant-loop-id l = l.places ≡ l.fn.places ++ map (place_in (trees l.names.nodes.now)) (ids_of (take l.id-index l.ids))

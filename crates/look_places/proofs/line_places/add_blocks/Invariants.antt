use Rattle.std.proofs.Common.{◌≡◌, ◌++◌, map, take}
use Rattle.lower_rules.specs.Listed.{ids_of}
use Rattle.typed_tree.specs.Listed.{trees}
use Rattle.look_places.specs.LinePlaces.{places_in}
use Rattle.look_places.proofs.line_places.add_blocks.Given as goal

abbrev pub invariant-loop-ids : goal.invariant-loop-ids
invariant-loop-ids l = l.places ≡ l.fn.places ++ places_in (trees l.names.nodes.now) (map ids_of (take l.ids-index l.blocks))

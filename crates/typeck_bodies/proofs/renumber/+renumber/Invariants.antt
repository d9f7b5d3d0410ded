use Rattle.std.proofs.Common.{◌≡◌, map, take}
use Rattle.typeck_bodies.specs.Places.{placed}
use Rattle.typed_tree.specs.View.{field_of, tree_of}
use Rattle.typing_rules.specs.Numbered.{renumbered}
use Rattle.typeck_bodies.proofs.Lists.{field_renumbered}
use Rattle.typeck_bodies.proofs.renumber.+renumber.Given as goal

abbrev pub invariant-children-loop-node : goal.invariant-children-loop-node
invariant-children-loop-node l =
    goal.unvisited-children-loop-node l
    × (map tree_of (take l.node-index l.node-items)
    ≡ map (renumbered (placed l.places)) (map tree_of (take l.node-index l.initial.node-items)))

abbrev pub invariant-fields_with-loop-field : goal.invariant-fields_with-loop-field
invariant-fields_with-loop-field l =
    goal.unvisited-fields_with-loop-field l
    × (map field_of (take l.field-index l.field-items)
    ≡ map (field_renumbered (placed l.places)) (map field_of (take l.field-index l.initial.field-items)))

-- The place in the text of each line of a program's raw graph: that of the node for which the line stands. A line that
-- drops stands for what is dropped, a variable or an expression.
use Rattle.std.specs.Prelude.{ℕ, List, ◌∷◌, map, flat_map, Option, None, option_map}
use Rattle.mir_base.specs.declared.place_in_text.Pos.{Pos}
use Rattle.mir_ty.specs.ItemTable.{ItemTable}
use Rattle.lower_rules.specs.Listed.{nodes_of_body}
use Rattle.lower_rules.specs.Sites.{position_of}
use Rattle.typed_tree.specs.Nodes.{body_nodes, first_with}
use Rattle.typed_tree.specs.Tree.{Node, BodyTree, ProgramTree}

-- the place of the node with a number
abbrev pub place_in : List Node → ℕ → Option Pos
place_in nodes number = option_map position_of (first_with number nodes)

abbrev pub places_in : List Node → List (List ℕ) → List (Option Pos)
places_in nodes blocks = flat_map (map (place_in nodes)) blocks

abbrev pub body_places : ItemTable → BodyTree → List (Option Pos)
body_places items tree = places_in (body_nodes tree) (nodes_of_body items tree)

-- those of all lines, in the order of bodies and blocks: the line with the number 1 has the second, and the first is
-- none
abbrev pub program_places : ProgramTree → List (Option Pos)
program_places program = None ∷ flat_map (body_places program.items) program.bodies

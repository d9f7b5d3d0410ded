-- The places of a body are those of its nodes, by the lines of its blocks.
use Rattle.std.proofs.Common.{◌≡◌, ◌∙◌, ◌++◌, ℕ, List, Option}
use Rattle.mir_base.specs.declared.place_in_text.Pos.{Pos}
use Rattle.mir_ty.specs.ItemTable.{ItemTable}
use Rattle.lower_rules.specs.Listed.{nodes_of_body}
use Rattle.typed_tree.specs.Nodes.{body_nodes}
use Rattle.typed_tree.specs.Tree.{Node, BodyTree}
use Rattle.look_places.specs.LinePlaces.{places_in, body_places}

pub places_put : (before now : List (Option Pos)) (nodes : List Node) (blocks : List (List ℕ)) (items : ItemTable) (tree : BodyTree) →
    now ≡ before ++ places_in nodes blocks → nodes ≡ body_nodes tree → blocks ≡ nodes_of_body items tree →
    now ≡ before ++ body_places items tree
places_put before now nodes blocks items tree put own lines = put ∙ (λ i. before ++ places_in (own i) (lines i))

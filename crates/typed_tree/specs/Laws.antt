-- What holds of the numbers of every body's nodes.
use Rattle.typed_tree.specs.Tree.{BodyTree}
use Rattle.typed_tree.specs.Nodes.{HasDistinctNumbers, IsNumberedInOrder}

-- numbers that rise in text order are distinct
abbrev pub DistinctInOrder : Type 0
DistinctInOrder = (body : BodyTree) → IsNumberedInOrder body → HasDistinctNumbers body

-- What contracts see of nodes that are listed.
use Rattle.std.specs.Prelude.{List, map}
use Rattle.std.specs.Borrow.{Bor}
use Rattle.typed_tree.specs.Tree as plain
use Rattle.typed_tree.specs.View.{tree_of}
use Rattle.typed_tree.specs.declared.node.Node.{Node}

abbrev pub trees : List (Bor Node) → List plain.Node
trees = map (λ n. tree_of n.now)

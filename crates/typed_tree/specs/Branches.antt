-- The nodes of the children of an `if`, of an arm of a match and of a loop on a pattern, and none of other forms.
use Rattle.std.specs.Prelude.{List, []}
use Rattle.typed_tree.specs.Nodes.{nodes_in}
use Rattle.typed_tree.specs.Tree.{Node, Form, If, IfLet, Arm, WhileLet}

abbrev pub nodes_in_branches : Form → List Node
nodes_in_branches (If condition body otherwise) = nodes_in (If condition body otherwise)
nodes_in_branches (IfLet pattern scrutinee body otherwise) = nodes_in (IfLet pattern scrutinee body otherwise)
nodes_in_branches (Arm pattern guard body) = nodes_in (Arm pattern guard body)
nodes_in_branches (WhileLet pattern scrutinee body) = nodes_in (WhileLet pattern scrutinee body)
nodes_in_branches _ = []

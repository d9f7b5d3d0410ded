-- The plain trees of nodes as they are made.
use Rattle.std.proofs.Common.{◌≡◌, ◌∷◌, ◌++◌, List, [], Option, Some, map, rules, append-nil, refl}
use Rattle.std.specs.Prelude.{Box}
use Rattle.std.specs.declared.alloc.Global.{Global}
use Rattle.mir_base.specs.declared.place_in_text.NodeId.{NodeId}
use Rattle.mir_base.specs.declared.place_in_text.Pos.{Pos}
use Rattle.mir_ty.specs.declared.ty.TyId.{TyId}
use Rattle.typed_tree.specs.declared.node.Use.{Use}
use Rattle.typed_tree.specs.declared.node.Node.{Node, roll-Node}
use Rattle.typed_tree.specs.declared.node.Form.{Form, Let, Block, the_lemmas}
use Rattle.typed_tree.specs.Tree as plain
use Rattle.typed_tree.specs.Nodes.{number_of, nodes_of}
use Rattle.typed_tree.specs.View.{tree_of, form_of, nodes_from}

pub tree_of-made : (id : NodeId) (at : Pos) (ty : TyId) (by : Option Use) (form : Form) → tree_of (roll-Node record { id = id; at = at; ty = ty; by = by; form = form }) ≡ plain.node id.0 at ty by (form_of form)
tree_of-made id at ty by form = search (rules, the_lemmas)

pub form_of-Let : (pattern initialiser : Box Node Global) → form_of (Let pattern (Some initialiser)) ≡ plain.Let (tree_of pattern.value) (plain.present (tree_of initialiser.value))
form_of-Let pattern initialiser = search (rules, the_lemmas)

pub form_of-Block : (statements : List Node) (tail : Box Node Global) → form_of (Block statements (Some tail)) ≡ plain.Block (nodes_from (map tree_of statements)) (plain.present (tree_of tail.value))
form_of-Block statements tail = search (rules, the_lemmas)

-- the numbers of a statement with an initialiser, and of a block of one statement with a tail
pub let_numbers : (id : NodeId) (at : Pos) (ty : TyId) (by : Option Use) (pattern initialiser : Box Node Global) (p i : Node) → pattern.value ≡ p → initialiser.value ≡ i → map number_of (nodes_of (tree_of (roll-Node record { id = id; at = at; ty = ty; by = by; form = Let pattern (Some initialiser) }))) ≡ id.0 ∷ map number_of (nodes_of (tree_of p) ++ nodes_of (tree_of i))
let_numbers id at ty by pattern initialiser p i is_p is_i = rw (tree_of-made id at ty by (Let pattern (Some initialiser)), form_of-Let pattern initialiser, is_p, is_i) refl

pub block_numbers : (id : NodeId) (at : Pos) (ty : TyId) (by : Option Use) (statements : List Node) (tail : Box Node Global) (s t : Node) → statements ≡ s ∷ [] → tail.value ≡ t → map number_of (nodes_of (tree_of (roll-Node record { id = id; at = at; ty = ty; by = by; form = Block statements (Some tail) }))) ≡ id.0 ∷ map number_of (nodes_of (tree_of s) ++ nodes_of (tree_of t))
block_numbers id at ty by statements tail s t is_s is_t = rw (tree_of-made id at ty by (Block statements (Some tail)), form_of-Block statements tail, is_s, is_t, append-nil (nodes_of (tree_of s))) refl

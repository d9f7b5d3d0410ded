-- The nodes that were made last, as the parts of a node around them.
use Rattle.std.specs.Prelude.{ℕ, zero, suc, List, [], ◌∷◌}
use Rattle.mir_ty.specs.declared.ty.TyId.{TyId}
use Rattle.typed_tree.specs.Tree as tree
use Rattle.typed_tree.specs.Tree.{Node, Nodes, no_node, a_node, Form}
use Rattle.well_typed.specs.Places.{ty_of}
use Rattle.typeck_checker.specs.Stand.{top, below}
use Rattle.typeck_checker.specs.declared.lists.Behind as behind
use Rattle.typeck_checker.specs.declared.lists.Many as many

-- the last nodes, the first of them first, before some others
abbrev pub nodes_on : ℕ → List Node → Nodes → Nodes
nodes_on zero ns others = others
nodes_on (suc k) ns others = nodes_on k (below ns) (a_node (top ns) others)

abbrev pub last_nodes : ℕ → List Node → Nodes
last_nodes k ns = nodes_on k ns no_node

-- their types
abbrev pub types_on : ℕ → List Node → List TyId → List TyId
types_on zero ns others = others
types_on (suc k) ns others = types_on k (below ns) (ty_of (top ns) ∷ others)

abbrev pub last_types : ℕ → List Node → List TyId
last_types k ns = types_on k ns []

-- what stands below so many
abbrev pub below_all : ℕ → List Node → List Node
below_all zero ns = ns
below_all (suc k) ns = below_all k (below ns)

abbrev pub many_form : many.Many → Nodes → Form
many_form (many.Many.Call body) given = tree.Call body given
many_form many.Many.Tuple given = tree.Tuple given
many_form many.Many.Array given = tree.Array given
many_form (many.Many.Closure k) given = tree.Closure k given
many_form many.Many.TuplePattern given = tree.TuplePattern given
many_form many.Many.ArrayPattern given = tree.ArrayPattern given
many_form many.Many.OrPattern given = tree.OrPattern given

abbrev pub behind_form : behind.Behind → Node → Nodes → Form
behind_form (behind.Behind.MethodCall body) first given = tree.MethodCall body first given
behind_form (behind.Behind.VirtualCall trait_no method) first given = tree.VirtualCall trait_no method first given
behind_form (behind.Behind.ClosureCall body) first given = tree.ClosureCall body first given
behind_form behind.Behind.Match first given = tree.Match first given

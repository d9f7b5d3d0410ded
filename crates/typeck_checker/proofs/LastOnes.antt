-- The nodes that were made last.
use Rattle.std.proofs.Common.{◌≡◌, ℕ, zero, suc, ◌+◌, ◌-◌, ◌<◌, List, [], ◌∷◌, Option, Some, None, slice_get, refl, ap, sym, ◌∙◌, arith, rules}
use Rattle.std.specs.Borrow.{Bor}
use Rattle.std.specs.Option.{option_map, option_copied}
use Rattle.mir_ty.specs.declared.ty.TyId.{TyId}
use Rattle.mir_ty.specs.ItemTable.{ItemTable}
use Rattle.std.specs.Prelude.{option_and_then}
use Rattle.typed_tree.specs.Tree.{Node, Nodes, a_node}
use Rattle.typed_tree.specs.View.{tree_of}
use Rattle.typed_tree.specs.declared.node.Node as rust
use Rattle.typing_rules.specs.Rows.{one_of_two, one_type}
use Rattle.well_typed.specs.Places.{ty_of}
use Rattle.typeck_checker.specs.Stand.{below, node_if_any, top}
use Rattle.typeck_checker.specs.Lists.{below_all, last_types, nodes_on, types_on}

below_none : (k : ℕ) → below_all k [] ≡ []
below_none zero = refl
below_none (suc k) = below_none k

pub node_at : (r : Option (Bor rust.Node)) (s : List Node) (k : ℕ) → option_map tree_of (option_copied r) ≡ slice_get s k → node_if_any r ≡ top (below_all k s)
node_at None [] k e = sym (ap top (below_none k))
node_at (Some n) [] k e = absurd (cc)
node_at None (x ∷ xs) zero e = absurd (cc)
node_at (Some n) (x ∷ xs) zero e = cc
node_at r (x ∷ xs) (suc k) e = node_at r xs k (e ∙ later)
  where
    later : slice_get (x ∷ xs) (suc k) ≡ slice_get xs k
    later = search rules

-- the types of one node more
one_more : (k : ℕ) (ns : List Node) (others : List TyId) → types_on (suc k) ns others ≡ ty_of (top (below_all k ns)) ∷ types_on k ns others
one_more zero ns others = refl
one_more (suc k) ns others = one_more k (below ns) (ty_of (top ns) ∷ others)

pub with_first : (items : ItemTable) (k : ℕ) (ns : List Node) →
    one_type items (last_types (k + 1) ns) ≡ option_and_then (one_of_two items (ty_of (top (below_all k ns)))) (one_type items (last_types k ns))
with_first items k ns =
    (let same : k + 1 ≡ suc k = omega arith in ap (λ (n : ℕ). one_type items (last_types n ns)) same)
    ∙ ap (one_type items) (one_more k ns [])

-- one node more is taken
pub one_taken : (k n : ℕ) (ns : List Node) (others : Nodes) → n < k → nodes_on (k - n) ns others ≡ nodes_on (k - (n + 1)) (below ns) (a_node (top ns) others)
one_taken k n ns others h =
    let next : k - n ≡ suc (k - (n + 1)) = omega (arith, h) in ap (λ (m : ℕ). nodes_on m ns others) next

pub one_left : (k n : ℕ) (ns : List Node) → n < k → below_all (k - n) ns ≡ below_all (k - (n + 1)) (below ns)
one_left k n ns h =
    let next : k - n ≡ suc (k - (n + 1)) = omega (arith, h) in ap (λ (m : ℕ). below_all m ns) next

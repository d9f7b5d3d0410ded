-- Numbers of fields in their order, and the first of the nodes that were made last.
use Rattle.std.proofs.Common.{◌≡◌, ℕ, zero, suc, ◌+◌, ◌-◌, ◌<◌, List, [], ◌∷◌, ◌++◌, length, Some, refl, ap, sym, ◌∙◌, arith}
use Rattle.mir_base.specs.declared.place_in_text.Pos.{Pos}
use Rattle.mir_ty.specs.declared.ty.TyId.{TyId}
use Rattle.typed_tree.specs.Tree as tree
use Rattle.typed_tree.specs.Tree.{Node, Nodes, no_node, a_node, Fields, a_field, Form}
use Rattle.typeck_checker.specs.Lists.{below_all, last_nodes, nodes_on}
use Rattle.typeck_calls.specs.StructFields.{numbered_by}
use Rattle.typeck_checker.specs.Stand.{below, top}
use Rattle.typing_rules.specs.Places.{a_node_of}
use Rattle.typing_rules.specs.Rows.{Given, first_node, make, numbered_fields, with_one}
use Rattle.typeck_calls.specs.Numbers.{numbers_from}

-- ---- numbers

behind : (k count : ℕ) → numbers_from k (suc count) ≡ numbers_from k count ++ Some (k + count) ∷ []
behind k zero = let same : k ≡ k + 0 = omega arith in ap (λ n. Some n ∷ []) same
behind k (suc count) =
    ap (λ (g : Given). Some k ∷ g) (behind (suc k) count
    ∙ (let same : suc k + count ≡ k + suc count = omega arith in ap (λ n. numbers_from (suc k) count ++ Some n ∷ []) same))

pub one_more : (count : ℕ) → numbers_from 0 (count + 1) ≡ numbers_from 0 count ++ Some count ∷ []
one_more count =
    (let same : count + 1 ≡ suc count = omega arith in ap (numbers_from 0) same)
    ∙ behind 0 count ∙ (let same : 0 + count ≡ count = omega arith in ap (λ n. numbers_from 0 count ++ Some n ∷ []) same)

pub how_many : (k count : ℕ) → length (numbers_from k count) ≡ count
how_many k zero = refl
how_many k (suc count) = ap suc (how_many (suc k) count)

size : Nodes → ℕ
size no_node = 0
size (a_node first rest) = suc (size rest)

as_numbered : (k : ℕ) (nodes : Nodes) → numbered_by (numbers_from k (size nodes)) nodes ≡ numbered_fields k nodes
unfolding size
as_numbered k no_node = refl
as_numbered k (a_node first rest) = ap (a_field k first) (as_numbered (suc k) rest)

size_on : (k : ℕ) (ns : List Node) (others : Nodes) → size (nodes_on k ns others) ≡ k + size others
unfolding size
size_on zero ns others = let same : size others ≡ 0 + size others = omega arith in same
size_on (suc k) ns others = size_on k (below ns) (a_node (top ns) others) ∙ (let same : k + suc (size others) ≡ suc k + size others = omega arith in same)

pub in_order : (count : ℕ) (ns : List Node) → numbered_by (numbers_from 0 count) (last_nodes count ns) ≡ numbered_fields 0 (last_nodes count ns)
unfolding size
in_order count ns =
    ap (λ n. numbered_by (numbers_from 0 n) (last_nodes count ns)) (sym (size_on count ns no_node ∙ (let same : count + 0 ≡ count = omega arith in same)))
    ∙ as_numbered 0 (last_nodes count ns)

pub made_in_order : (id : ℕ) (at : Pos) (ty : TyId) (adt variant count : ℕ) (given : Given) (ns : List Node) → given ≡ numbers_from 0 count →
    a_node_of id at ty (tree.Make adt variant (numbered_by given (last_nodes (length given) ns))) ∷ below_all (length given) ns
    ≡ a_node_of id at ty (make adt variant (last_nodes count ns)) ∷ below_all count ns
made_in_order id at ty adt variant count given ns is =
    let many : length given ≡ count = ap length is ∙ how_many 0 count in
    ap (λ n. a_node_of id at ty (tree.Make adt variant (numbered_by given (last_nodes n ns))) ∷ below_all n ns) many
    ∙ ap (λ (g : Given). a_node_of id at ty (tree.Make adt variant (numbered_by g (last_nodes count ns))) ∷ below_all count ns) is
    ∙ ap (λ fields. a_node_of id at ty (tree.Make adt variant fields) ∷ below_all count ns) (in_order count ns)

-- ---- the first of the last nodes

first_on : (k : ℕ) (ns : List Node) (others : Nodes) → first_node (nodes_on (suc k) ns others) ≡ Some (top (below_all k ns))
first_on zero ns others = refl
first_on (suc k) ns others = first_on k (below ns) (a_node (top ns) others)

with_on : (k : ℕ) (ns : List Node) (others : Nodes) (form : Node → Form) → with_one (nodes_on (suc k) ns others) form ≡ form (top (below_all k ns))
with_on zero ns others form = refl
with_on (suc k) ns others form = with_on k (below ns) (a_node (top ns) others) form

below_on : (k : ℕ) (ns : List Node) → below_all (suc k) ns ≡ below (below_all k ns)
below_on zero ns = refl
below_on (suc k) ns = below_on k (below ns)

pub first_is : (count : ℕ) (ns : List Node) → 0 < count → first_node (last_nodes count ns) ≡ Some (top (below_all (count - 1) ns))
first_is count ns h = (let same : count ≡ suc (count - 1) = omega arith in ap (λ n. first_node (last_nodes n ns)) same) ∙ first_on (count - 1) ns no_node

pub with_first : (count : ℕ) (ns : List Node) (form : Node → Form) → 0 < count → with_one (last_nodes count ns) form ≡ form (top (below_all (count - 1) ns))
with_first count ns form h =
    (let same : count ≡ suc (count - 1) = omega arith in ap (λ n. with_one (last_nodes n ns) form) same) ∙ with_on (count - 1) ns no_node form

pub below_first : (count : ℕ) (ns : List Node) → 0 < count → below_all count ns ≡ below (below_all (count - 1) ns)
below_first count ns h = (let same : count ≡ suc (count - 1) = omega arith in ap (λ n. below_all n ns) same) ∙ below_on (count - 1) ns

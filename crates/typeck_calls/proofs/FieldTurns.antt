-- Nodes with the numbers of their fields, from the last one on.
use Rattle.std.proofs.Common.{◌≡◌, ℕ, zero, suc, ◌+◌, ◌-◌, ◌<◌, List, length, drop, get_or, Option, None, refl, ap, sym, ◌∙◌, arith, drop-cons}
use Rattle.std.specs.Option.{option_and_then}
use Rattle.std.proofs.lemmas.Option.{slice_get-get_or}
use Rattle.typed_tree.specs.Tree.{Node, Nodes, a_node, a_field, no_node}
use Rattle.typeck_checker.specs.Stand.{below, top}
use Rattle.typeck_checker.specs.Lists.{below_all, last_nodes, nodes_on}
use Rattle.typing_rules.specs.Rows.{Given}
use Rattle.typing_rules.specs.Typed.{or_zero}
use Rattle.typeck_calls.specs.StructFields.{number_in, numbered_by}

-- one node more
pub one_more : (k : ℕ) (ns : List Node) (others : Nodes) → nodes_on (suc k) ns others ≡ a_node (top (below_all k ns)) (nodes_on k ns others)
one_more zero ns others = refl
one_more (suc k) ns others = one_more k (below ns) (a_node (top ns) others)

pub below_more : (k : ℕ) (ns : List Node) → below_all (k + 1) ns ≡ below (below_all k ns)
below_more k ns = (let same : k + 1 ≡ suc k = omega arith in ap (λ n. below_all n ns) same) ∙ later k ns
  where
    later : (k : ℕ) (ns : List Node) → below_all (suc k) ns ≡ below (below_all k ns)
    later zero ns = refl
    later (suc k) ns = later k (below ns)

-- the number at a place, which is there
number_is : (given : Given) (place : ℕ) → place < length given → or_zero (get_or given place None) ≡ number_in given place
number_is given place within = ap (λ (n : Option (Option ℕ)). or_zero (option_and_then (λ number. number) n)) (sym (slice_get-get_or given place None within))

one_given : (given : Given) (place : ℕ) (first : Node) (rest : Nodes) → place < length given →
    numbered_by (drop place given) (a_node first rest) ≡ a_field (number_in given place) first (numbered_by (drop (suc place) given) rest)
one_given given place first rest within =
    ap (λ (g : Given). numbered_by g (a_node first rest)) (drop-cons given place None within)
    ∙ ap (λ n. a_field n first (numbered_by (drop (suc place) given) rest)) (number_is given place within)

-- one field more
pub field_more : (given : Given) (count back : ℕ) (ns : List Node) → count ≡ length given → back < count →
    numbered_by (drop (count - (back + 1)) given) (last_nodes (back + 1) ns)
    ≡ a_field (number_in given (count - 1 - back)) (top (below_all back ns)) (numbered_by (drop (count - back) given) (last_nodes back ns))
field_more given count back ns all less =
    let more : back + 1 ≡ suc back = omega arith in
    let place : count - (back + 1) ≡ count - 1 - back = omega arith in
    let next : suc (count - 1 - back) ≡ count - back = omega arith in
    let within : count - 1 - back < length given = omega arith in
    ap (λ n. numbered_by (drop (count - (back + 1)) given) (last_nodes n ns)) more
    ∙ ap (numbered_by (drop (count - (back + 1)) given)) (one_more back ns no_node)
    ∙ ap (λ n. numbered_by (drop n given) (a_node (top (below_all back ns)) (last_nodes back ns))) place
    ∙ one_given given (count - 1 - back) (top (below_all back ns)) (last_nodes back ns) within
    ∙ ap (λ n. a_field (number_in given (count - 1 - back)) (top (below_all back ns)) (numbered_by (drop n given) (last_nodes back ns))) next

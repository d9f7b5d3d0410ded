-- What the first node with a number says of all of them, and numbers that rise.
use Rattle.std.proofs.Common.{◌≡◌, ◌≢◌, ℕ, ◌==◌, ◌<◌, true, false, List, [], ◌∷◌, ◌↔◌, Option, Some, None, Contains, All, get_or, refl, sym, ap, subst, ◌∙◌, ◌⊎◌, inl, inr, arith, IfSome}
use Rattle.std.proofs.lemmas.Bool.{cases_Bool, cases_order, eqb-true, eqb-false}
use Rattle.std.proofs.lemmas.List.{length-map, get_or-map, get_or_default}
use Rattle.std.proofs.lemmas.List.Elements.{All-nil, All-cons, All-contains, Contains-append_left, Contains-append_right, Contains-push}
use Rattle.std.proofs.lemmas.List.Kept.{AllPairs-from_increasing}
use Rattle.std.proofs.lemmas.Option.{none-some, same_Some}
use Rattle.std.specs.Borrow.{Bor}
use Rattle.std.specs.List.{AllPairs}
use Rattle.std.specs.List.Sorted.{IsStrictlyIncreasing}
use Rattle.typed_tree.specs.declared.node.Node.{Node}
use Rattle.typed_tree.specs.Tree as plain
use Rattle.typed_tree.specs.Tree.{BodyTree}
use Rattle.typed_tree.specs.Nodes.{number_of, body_nodes, numbers_of, first_with, HasDistinctNumbers, IsNumberedInOrder, IsNodeWith}
use Rattle.typed_tree.specs.View.{tree_of, tree_found}

-- the first node with a number is one of the nodes, and has the number
first_with-finds : (id : ℕ) (nodes : List plain.Node) (found : plain.Node) → first_with id nodes ≡ Some found → Contains nodes found × (number_of found ≡ id)
first_with-finds id [] found is = absurd (none-some found is)
first_with-finds id (first ∷ rest) found is = by (first_with-finds id rest found) (cases_Bool (number_of first == id))
  where
    by : (first_with id rest ≡ Some found → Contains rest found × (number_of found ≡ id)) → ((number_of first == id) ≡ true) ⊎ ((number_of first == id) ≡ false) → Contains (first ∷ rest) found × (number_of found ≡ id)
    by later (inl same) =
        let here : first ≡ found = same_Some first found (rw same at is) in
        let P = λ (n : plain.Node). Contains (first ∷ rest) n × (number_of n ≡ id) in
        subst P here (Contains-append_left (first ∷ []) rest first (Contains-push [] first), eqb-true (number_of first) id same)
    by later (inr other) =
        let below : Contains rest found × (number_of found ≡ id) = later (rw other at is) in
        (Contains-append_right (first ∷ []) rest found below.0, below.1)

-- where none is found, no node has the number
first_with-none : (id : ℕ) (nodes : List plain.Node) → first_with id nodes ≡ None → All (λ n. ¬ (number_of n ≡ id)) nodes
first_with-none id [] is = All-nil (λ n. ¬ (number_of n ≡ id))
first_with-none id (first ∷ rest) is = by (first_with-none id rest) (cases_Bool (number_of first == id))
  where
    by : (first_with id rest ≡ None → All (λ n. ¬ (number_of n ≡ id)) rest) → ((number_of first == id) ≡ true) ⊎ ((number_of first == id) ≡ false) → All (λ n. ¬ (number_of n ≡ id)) (first ∷ rest)
    by later (inl same) = let here : Some first ≡ None = rw same at is in absurd (none-some first (sym here))
    by later (inr other) =
        All-cons (λ n. ¬ (number_of n ≡ id)) first rest (eqb-false (number_of first) id other) (later (rw other at is))

-- where the numbers are distinct, two nodes of a body with one number are one node
one_node : (body : BodyTree) (id : ℕ) (a b : plain.Node) → HasDistinctNumbers body → IsNodeWith body id a → IsNodeWith body id b → a ≡ b
one_node body id a b distinct is_a is_b = by (cases_order is_a.0.0 is_b.0.0)
  where
    number_at : (n : plain.Node) (is : IsNodeWith body id n) → get_or (numbers_of body) is.0.0 0 ≡ id
    number_at n is = get_or-map number_of (body_nodes body) is.0.0 n 0 is.0.1 ∙ ap number_of is.0.2 ∙ is.1

    by : (is_a.0.0 ≡ is_b.0.0) ⊎ ((is_a.0.0 < is_b.0.0) ⊎ (is_b.0.0 < is_a.0.0)) → a ≡ b
    by (inl same) =
        sym is_a.0.2 ∙ get_or_default (body_nodes body) is_a.0.0 a b is_a.0.1 ∙ ap (λ k. get_or (body_nodes body) k b) same ∙ is_b.0.2
    by (inr (inl below)) =
        absurd (distinct is_a.0.0 is_b.0.0 0 below (omega (arith, length-map (body_nodes body) number_of, is_b.0.1)) (number_at a is_a ∙ sym (number_at b is_b)))
    by (inr (inr above)) =
        absurd (distinct is_b.0.0 is_a.0.0 0 above (omega (arith, length-map (body_nodes body) number_of, is_a.0.1)) (number_at b is_b ∙ sym (number_at a is_a)))

-- the answer of a search for the first node of a body with a number
pub found_is : (body : BodyTree) (id : ℕ) (answer : Option (Bor Node)) → tree_found answer ≡ first_with id (body_nodes body) → IfSome answer (λ found. IsNodeWith body id (tree_of found.now))
found_is body id None is = tt
found_is body id (Some found) is = first_with-finds id (body_nodes body) (tree_of found.now) (sym is)

pub found_only : (body : BodyTree) (id : ℕ) (answer : Option (Bor Node)) → HasDistinctNumbers body → tree_found answer ≡ first_with id (body_nodes body) → IfSome answer (λ found. (other : plain.Node) → IsNodeWith body id other → other ≡ tree_of found.now)
found_only body id None distinct is = tt
found_only body id (Some found) distinct is = λ other has. one_node body id other (tree_of found.now) distinct has (found_is body id (Some found) is)

pub absent_is : (body : BodyTree) (id : ℕ) (answer : Option (Bor Node)) → tree_found answer ≡ first_with id (body_nodes body) → (answer ≡ None) ↔ ((n : plain.Node) → ¬ IsNodeWith body id n)
absent_is body id None is = (λ _ n has. All-contains (λ n. ¬ (number_of n ≡ id)) (body_nodes body) n (first_with-none id (body_nodes body) (sym is)) has.0 has.1, λ _. refl)
absent_is body id (Some found) is = (λ none. absurd (none-some found (sym none)), λ nowhere. absurd (nowhere (tree_of found.now) (found_is body id (Some found) is)))

-- numbers that rise are distinct
pub distinct_where_rising : (numbers : List ℕ) → IsStrictlyIncreasing numbers → AllPairs (λ a b. a ≢ b) numbers
distinct_where_rising numbers rises i j d below within =
    let less : get_or numbers i d < get_or numbers j d = AllPairs-from_increasing numbers rises i j d below within in
    λ same. absurd (omega arith)

pub distinct_in_order : (body : BodyTree) → IsNumberedInOrder body → HasDistinctNumbers body
distinct_in_order body = distinct_where_rising (numbers_of body)

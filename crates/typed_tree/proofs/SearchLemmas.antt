-- The first node with a number, in nodes that are joined.
use Rattle.std.proofs.Common.{◌≡◌, ℕ, ◌==◌, List, ◌++◌, Option, Some, None, refl}
use Rattle.std.proofs.lemmas.List.Folds.{find-append}
use Rattle.std.specs.Option.{option_or}
use Rattle.std.specs.Borrow.{Bor}
use Rattle.typed_tree.specs.declared.node.Node.{Node}
use Rattle.typed_tree.specs.Tree as plain
use Rattle.typed_tree.specs.Nodes.{number_of, first_with}
use Rattle.typed_tree.specs.View.{tree_found}

pub first_with-append : (id : ℕ) (xs ys : List plain.Node) → first_with id (xs ++ ys) ≡ option_or (first_with id xs) (first_with id ys)
first_with-append id = find-append (λ candidate. number_of candidate == id)

pub tree_found-or : (first second : Option (Bor Node)) → tree_found (option_or first second) ≡ option_or (tree_found first) (tree_found second)
tree_found-or None second = refl
tree_found-or (Some found) second = refl

pub first_with-front : (id : ℕ) (xs ys : List plain.Node) (found : plain.Node) → first_with id xs ≡ Some found → first_with id (xs ++ ys) ≡ Some found
first_with-front id xs ys found at_front = rw (first_with-append id xs ys, at_front) refl

pub first_with-back : (id : ℕ) (xs ys : List plain.Node) → first_with id xs ≡ None → first_with id (xs ++ ys) ≡ first_with id ys
first_with-back id xs ys nowhere = rw (first_with-append id xs ys, nowhere) refl

-- what is found first in the one nodes or else in the others is the first in both together
pub found_either : (id : ℕ) (xs ys : List plain.Node) (first second either : Option (Bor Node)) → either ≡ option_or first second → tree_found first ≡ first_with id xs → tree_found second ≡ first_with id ys → tree_found either ≡ first_with id (xs ++ ys)
found_either id xs ys first second either is in_first in_second = rw (is, tree_found-or first second, in_first, in_second, first_with-append id xs ys) refl

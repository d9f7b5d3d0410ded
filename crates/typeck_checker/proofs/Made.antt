-- Nodes that were made, the last one first.
use Rattle.std.proofs.Common.{◌≡◌, ℕ, ◌-◌, ◌<◌, ◌≤◌, List, [], ◌∷◌, ◌++◌, length, map, reverse, get_or, Option, Some, None, slice_get, refl, ap, ◌∙◌, arith}
use Rattle.std.specs.Borrow.{Bor}
use Rattle.std.specs.Option.{option_map, option_copied}
use Rattle.std.proofs.lemmas.List.{map_push, reverse-append, get_or-reverse, length-map, length-reverse}
use Rattle.std.proofs.Math.ListN.{get_or-map}
use Rattle.std.proofs.lemmas.Option.{slice_get-get_or, slice_get_past}
use Rattle.typed_tree.specs.Tree as tree
use Rattle.typed_tree.specs.View.{tree_of}
use Rattle.typed_tree.specs.declared.node.Node.{Node}
use Rattle.typeck_checker.specs.Stand.{stack_of, top, below, node_if_any}

pub pushed : (made : List Node) (n : Node) → stack_of (made ++ n ∷ []) ≡ tree_of n ∷ stack_of made
unfolding stack_of
pushed made n = ap reverse (map_push tree_of made n) ∙ reverse-append (map tree_of made) (tree_of n ∷ [])

pub none : stack_of [] ≡ []
unfolding stack_of
none = refl

count : (made : List Node) → length (stack_of made) ≡ length made
unfolding stack_of
count made = length-reverse (map tree_of made) ∙ length-map made tree_of

pub read_at : (made : List Node) (k : ℕ) (x : Node) → k < length made → get_or made (length made - 1 - k) x ≡ x → slice_get (stack_of made) k ≡ Some (tree_of x)
unfolding stack_of
read_at made k x h is =
    slice_get-get_or (reverse (map tree_of made)) k (tree_of x) (omega (arith, h, length-reverse (map tree_of made), length-map made tree_of))
    ∙ ap Some (get_or-reverse (map tree_of made) k (tree_of x) (omega (arith, h, length-map made tree_of))
    ∙ ap (λ (n : ℕ). get_or (map tree_of made) (n - 1 - k) (tree_of x)) (length-map made tree_of)
    ∙ get_or-map tree_of made (length made - 1 - k) x ∙ ap tree_of is)

pub read_past : (made : List Node) (k : ℕ) → length made ≤ k → slice_get (stack_of made) k ≡ None
read_past made k h = slice_get_past (stack_of made) k (omega (arith, h, count made))

pub last_seen : (r : Option (Bor Node)) (s : List tree.Node) → option_map tree_of (option_copied r) ≡ slice_get s 0 → node_if_any r ≡ top s
last_seen None [] e = refl
last_seen (Some n) [] e = absurd (cc)
last_seen None (x ∷ xs) e = absurd (cc)
last_seen (Some n) (x ∷ xs) e = cc

pub second_seen : (r : Option (Bor Node)) (s : List tree.Node) → option_map tree_of (option_copied r) ≡ slice_get s 1 → node_if_any r ≡ top (below s)
second_seen None [] e = refl
second_seen (Some n) [] e = absurd (cc)
second_seen None (x ∷ []) e = refl
second_seen (Some n) (x ∷ []) e = absurd (cc)
second_seen None (x ∷ y ∷ xs) e = absurd (cc)
second_seen (Some n) (x ∷ y ∷ xs) e = cc

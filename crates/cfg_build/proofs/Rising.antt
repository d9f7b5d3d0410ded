-- Nodes whose numbers rise, and nodes of which none is a captured variable.
use Rattle.std.proofs.Common.{◌≡◌, ◌∙◌, ◌≤◌, ◌+◌, ℕ, zero, suc, Bool, true, false, List, [], ◌∷◌, Option, Some, None, refl, sym, ap, subst, arith, if◌then◌else◌}
use Rattle.std.specs.Prelude.{slice_get, nat_le, ◌==◌, ◌&&◌}
use Rattle.std.proofs.lemmas.Option.{none-some, same_Some}
use Rattle.std.proofs.lemmas.Bool.{false≢true, and_parts, leb-true, ne_eqb, eq-eqb, le-leb}
use Rattle.std.proofs.lemmas.Option.{slice_get-map, slice_get-get_or}
use Rattle.std.specs.Borrow.{Bor}
use Rattle.std.specs.Prelude.{◌<◌, length, get_or, option_map}
use Rattle.typed_tree.specs.Listed.{trees}
use Rattle.typed_tree.specs.View.{tree_of}
use Rattle.typed_tree.specs.declared.node.Node as declared
use Rattle.typed_tree.specs.Nodes.{number_of, first_with}
use Rattle.typed_tree.specs.Tree.{Node}
use Rattle.cfg_build.specs.Told.{rise_from}

-- a node of nodes whose numbers rise has a number that is large enough
at_least : (l : ℕ) (ns : List Node) (i : ℕ) (n : Node) → rise_from l ns ≡ true → slice_get ns i ≡ Some n → l ≤ number_of n
at_least l [] i n rise is = absurd (none-some n is)
at_least l (m ∷ ms) zero n rise is =
    subst (λ (k : Node). l ≤ number_of k) (same_Some m n is)
    (leb-true l (number_of m) (and_parts (nat_le l (number_of m)) (rise_from (suc (number_of m)) ms) rise).0)
at_least l (m ∷ ms) (suc i) n rise is =
    let parts = and_parts (nat_le l (number_of m)) (rise_from (suc (number_of m)) ms) rise in
    let first : l ≤ number_of m = leb-true l (number_of m) parts.0 in
    let more : suc (number_of m) ≤ number_of n = at_least (suc (number_of m)) ms i n parts.1 is in
    omega arith

found_if : (b : Bool) (m : Node) (other : Option Node) → b ≡ false → (if b then Some m else other) ≡ other
found_if false m other is = refl
found_if true m other is = absurd (false≢true (sym is))

-- and is the first with its number
pub rising : (l : ℕ) (ns : List Node) (i : ℕ) (n : Node) → rise_from l ns ≡ true → slice_get ns i ≡ Some n → first_with (number_of n) ns ≡ Some n
rising l [] i n rise is = absurd (none-some n is)
rising l (m ∷ ms) zero n rise is =
    subst (λ (k : Node). first_with (number_of k) (m ∷ ms) ≡ Some k) (same_Some m n is)
    (ap (λ (b : Bool). if b then Some m else first_with (number_of m) ms) (eq-eqb (number_of m) (number_of m) refl))
rising l (m ∷ ms) (suc i) n rise is =
    let parts = and_parts (nat_le l (number_of m)) (rise_from (suc (number_of m)) ms) rise in
    let more : suc (number_of m) ≤ number_of n = at_least (suc (number_of m)) ms i n parts.1 is in
    let other : (number_of m == number_of n) ≡ false = ne_eqb (number_of m) (number_of n) (λ same. omega arith) in
    found_if (number_of m == number_of n) m (first_with (number_of n) ms) other ∙ rising (suc (number_of m)) ms i n parts.1 is

-- what is left to be looked at
next_is : (n : Node) → suc (number_of n) ≡ number_of n + 1
next_is n = omega arith

pub rise_more : (l : ℕ) (n : Node) (ns : List Node) → l ≤ number_of n → rise_from (number_of n + 1) ns ≡ rise_from l (n ∷ ns)
rise_more l n ns least =
    ap (λ (k : ℕ). rise_from k ns) (sym (next_is n))
    ∙ sym (ap (λ (b : Bool). b && rise_from (suc (number_of n)) ns) (le-leb l (number_of n) least))

-- the same of nodes as they are listed
pub rising_at : (ns : List (Bor declared.Node)) (i : ℕ) (x : Bor declared.Node) (number : ℕ) → i < length ns → x ≡ get_or ns i x → number_of (tree_of x.now) ≡ number → rise_from 0 (trees ns) ≡ true → first_with number (trees ns) ≡ Some (tree_of x.now)
rising_at ns i x number less is same rises =
    let at : slice_get (trees ns) i ≡ Some (tree_of x.now) =
    slice_get-map (λ (n : Bor declared.Node). tree_of n.now) ns i
    ∙ ap (option_map (λ (n : Bor declared.Node). tree_of n.now)) (slice_get-get_or ns i x less ∙ ap (λ (n : Bor declared.Node). Some n) (sym is)) in
    subst (λ (k : ℕ). first_with k (trees ns) ≡ Some (tree_of x.now)) same (rising 0 (trees ns) i (tree_of x.now) rises at)

-- Numbers of nodes: which numbers some nodes have; where numbers rise, two parts of a list have no number in common.
use Rattle.std.proofs.Common.{◌≡◌, ◌⊎◌, inl, inr, ℕ, ◌<◌, true, List, [], ◌∷◌, ◌++◌, map, refl, subst, arith}
use Rattle.std.specs.Cmp.Derive.{both_true}
use Rattle.std.proofs.lemmas.Bool.{lt-ltb}
use Rattle.typed_tree.specs.Nodes.{number_of, nodes_of, nodes_in}
use Rattle.typed_tree.specs.Tree.{Node, node}
use Rattle.well_typed.specs.Names.{do_rise}
use Rattle.well_typed.specs.Places.{form_of}
use Rattle.soundness_cells.proofs.PassCells.{Above, rising}

-- one of some nodes has a number
abbrev pub Numbered : List Node → ℕ → Type 0
Numbered [] key = ⊥
Numbered (n ∷ ns) key = (number_of n ≡ key) ⊎ Numbered ns key

pub numbered_left : (a b : List Node) (key : ℕ) → Numbered a key → Numbered (a ++ b) key
numbered_left [] b key h = absurd h
numbered_left (n ∷ a) b key (inl e) = inl e
numbered_left (n ∷ a) b key (inr h) = inr (numbered_left a b key h)

pub numbered_right : (a b : List Node) (key : ℕ) → Numbered b key → Numbered (a ++ b) key
numbered_right [] b key h = h
numbered_right (n ∷ a) b key h = inr (numbered_right a b key h)

pub numbered_split : (a b : List Node) (key : ℕ) → Numbered (a ++ b) key → Numbered a key ⊎ Numbered b key
numbered_split [] b key h = inr h
numbered_split (n ∷ a) b key (inl e) = inl (inl e)
numbered_split (n ∷ a) b key (inr h) = by (numbered_split a b key h)
  where
    by : Numbered a key ⊎ Numbered b key → Numbered (n ∷ a) key ⊎ Numbered b key
    by (inl x) = inl (inr x)
    by (inr x) = inr x

-- numbers that rise
abbrev pub Rises : List Node → Type 0
Rises ns = do_rise (map number_of ns) ≡ true

pub above_numbered : (k : ℕ) (ns : List Node) (key : ℕ) → Above k ns → Numbered ns key → k < key
above_numbered k [] key a h = absurd h
above_numbered k (n ∷ ns) key a (inl e) = subst (λ x. k < x) e a.0
above_numbered k (n ∷ ns) key a (inr h) = above_numbered k ns key a.1 h

-- the first has another number than those behind it
pub first_apart : (n : Node) (ns : List Node) → Rises (n ∷ ns) → Numbered ns (number_of n) → ⊥
first_apart n ns r h =
    let less : number_of n < number_of n = above_numbered (number_of n) ns (number_of n) (rising n ns r).0 h in
    omega (less, arith)

pub rises_right : (a b : List Node) → Rises (a ++ b) → Rises b
rises_right [] b r = r
rises_right (n ∷ a) b r = rises_right a b (rising n (a ++ b) r).1

pub rises_apart : (a b : List Node) → Rises (a ++ b) → (key : ℕ) → Numbered a key → Numbered b key → ⊥
rises_apart [] b r key h k = absurd h
rises_apart (n ∷ a) b r key (inl e) k =
    let less : number_of n < key = above_numbered (number_of n) (a ++ b) key (rising n (a ++ b) r).0
    (numbered_right a b key k) in
    let same : number_of n ≡ key = e in omega (less, same, arith)
rises_apart (n ∷ a) b r key (inr h) k = rises_apart a b (rising n (a ++ b) r).1 key h k

above_left : (k : ℕ) (a b : List Node) → Above k (a ++ b) → Above k a
above_left k [] b h = tt
above_left k (n ∷ a) b h = (h.0, above_left k a b h.1)

pub rises_left : (a b : List Node) → Rises (a ++ b) → Rises a
rises_left [] b r = refl
rises_left (n ∷ a) b r = joined n a (above_left (number_of n) a b (rising n (a ++ b) r).0)
    (rises_left a b (rising n (a ++ b) r).1)
  where
    joined : (n : Node) (a : List Node) → Above (number_of n) a → Rises a → Rises (n ∷ a)
    joined n [] h r = refl
    joined n (m ∷ a) h r = both_true (lt-ltb (number_of n) (number_of m) h.0) r

pub opened : (n : Node) → nodes_of n ≡ n ∷ nodes_in (form_of n)
opened (node id at ty by form) = refl

-- of a node, and of what is in it
pub own_number : (n : Node) → Numbered (nodes_of n) (number_of n)
own_number (node id at ty by form) = inl refl

pub inside_numbered : (n : Node) (key : ℕ) → Numbered (nodes_in (form_of n)) key → Numbered (nodes_of n) key
inside_numbered (node id at ty by form) key h = inr h

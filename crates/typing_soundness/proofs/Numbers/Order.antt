-- Numbers in the order of the text: where a number stands among numbers that differ.
use Rattle.std.proofs.Common.{◌≡◌, ℕ, suc, ◌+◌, ◌≤◌, Bool, true, false, ◌==◌, nat_lt, if◌then◌else◌, List, [], ◌∷◌, ◌++◌, map, slice_get, Some, IsTrue, Contains, ◌⊎◌, inl, inr, refl, ap, sym, subst, ◌∙◌, arith}
use Rattle.std.proofs.lemmas.Bool.{eqb-true, false≢true, lt-ltb}
use Rattle.std.proofs.lemmas.List.{map-append}
use Rattle.std.proofs.lemmas.Option.{same_Some}
use Rattle.typed_tree.specs.Nodes.{number_of, nodes_of, param_nodes, body_nodes, numbers_of}
use Rattle.typed_tree.specs.Tree.{Node, node, ParamTree, BodyTree}
use Rattle.well_typed.specs.Names.{do_rise}
use Rattle.well_typed.proofs.ClaimLemmas.{and_true}
use Rattle.typing_rules.specs.Numbered.{renumbered, place_among, param_renumbered, in_text_order}
use Rattle.typing_rules.proofs.Sound.Fitted.{same_self}
use Rattle.typing_rules.proofs.Sound.Places.{contains_cases}
use Rattle.typing_soundness.specs.Walks.{occurs}
use Rattle.typing_soundness.proofs.Numbers.Nodes.{of_node}

-- ---- where a number stands

pub stands_there : (ns : List ℕ) (k : ℕ) → Contains ns k → slice_get ns (place_among ns k) ≡ Some k
stands_there [] k has = absurd (omega (arith, has.1))
stands_there (n ∷ ns) k has = by (n == k) refl (contains_cases n ns k has) (λ more. stands_there ns k more)
  where
    by : (b : Bool) → (n == k) ≡ b → (n ≡ k) ⊎ Contains ns k → (Contains ns k → slice_get ns (place_among ns k) ≡ Some
        k) → slice_get (n ∷ ns) (if b then 0 else suc (place_among ns k)) ≡ Some k
    by true e h on = ap Some (eqb-true n k e)
    by false e (inl same) on = absurd (false≢true (sym e ∙ subst (λ m. IsTrue (n == m)) same (same_self n)))
    by false e (inr more) on = on more

pub place_one_to_one : (ns : List ℕ) (a b : ℕ) → Contains ns a → Contains ns b → place_among ns a ≡ place_among ns b →
    a ≡ b
place_one_to_one ns a b ha hb e =
    same_Some a b (sym (stands_there ns a ha) ∙ (ap (slice_get ns) e ∙ stands_there ns b hb))

-- ---- numbers that differ

abbrev times : ℕ → List ℕ → ℕ
times k [] = 0
times k (n ∷ ns) = if n == k then suc (times k ns) else times k ns

times_occurs : (k : ℕ) (xs : List Node) → times k (map number_of xs) ≡ occurs k xs
times_occurs k [] = refl
times_occurs k (x ∷ xs) = ap (λ n. if number_of x == k then suc n else n) (times_occurs k xs)

has_times : (k : ℕ) (ns : List ℕ) → Contains ns k → 1 ≤ times k ns
has_times k [] has = absurd (omega (arith, has.1))
has_times k (n ∷ ns) has = by (n == k) refl (contains_cases n ns k has) (λ more. has_times k ns more)
  where
    by : (b : Bool) → (n == k) ≡ b → (n ≡ k) ⊎ Contains ns k → (Contains ns k → 1 ≤ times k ns) → 1 ≤ (if b then suc
        (times k ns) else times k ns)
    by true e h on = omega arith
    by false e (inl same) on = absurd (false≢true (sym e ∙ subst (λ m. IsTrue (n == m)) same (same_self n)))
    by false e (inr more) on = on more

abbrev Differ : List ℕ → Type 0
Differ ns = (k : ℕ) → times k ns ≤ 1

rest_differ : (n : ℕ) (ns : List ℕ) → Differ (n ∷ ns) → Differ ns
rest_differ n ns d k = by (n == k) (d k)
  where
    by : (b : Bool) → (if b then suc (times k ns) else times k ns) ≤ 1 → times k ns ≤ 1
    by true h = omega (arith, h)
    by false h = h

first_differs : (n : ℕ) (ns : List ℕ) → Differ (n ∷ ns) → (k : ℕ) → Contains ns k → (n == k) ≡ false
first_differs n ns d k has = by (n == k) refl
  where
    first : (b : Bool) → b ≡ true → (if b then suc (times n ns) else times n ns) ≤ 1 → times n ns ≡ 0
    first true e h = omega (arith, h)
    first false e h = absurd (false≢true e)

    by : (b : Bool) → (n == k) ≡ b → b ≡ false
    by true e =
        let none = first (n == n) (same_self n) (d n) in
        let more = subst (λ m. 1 ≤ times m ns) (sym (eqb-true n k e)) (has_times k ns has) in
        absurd (omega (arith, none, more))
    by false e = refl

-- ---- numbers from one on

abbrev count_up : ℕ → List ℕ → List ℕ
count_up m [] = []
count_up m (n ∷ ns) = m ∷ count_up (suc m) ns

map_same : (g h : ℕ → ℕ) (ks : List ℕ) → ((k : ℕ) → Contains ks k → g k ≡ h k) → map g ks ≡ map h ks
map_same g h [] e = refl
map_same g h (k ∷ ks) e =
    λ i. e k (0, omega arith, refl) i ∷ map_same g h ks (λ j has. e j (suc has.0, omega (arith, has.1), has.2)) i

places_from : (m : ℕ) (ns : List ℕ) → Differ ns → map (λ k. m + place_among ns k) ns ≡ count_up m ns
places_from m [] d = refl
places_from m (n ∷ ns) d =
    λ i. first i ∷ (map_same (λ k. m + place_among (n ∷ ns) k) (λ k. suc m + place_among ns k) ns (λ k has. later k
    (first_differs n ns d k has)) ∙ places_from (suc m) ns (rest_differ n ns d)) i
  where
    first : m + place_among (n ∷ ns) n ≡ m
    first = ap (λ b. m + (if b then 0 else suc (place_among ns n))) (same_self n) ∙ omega arith

    later : (k : ℕ) → (n == k) ≡ false → m + place_among (n ∷ ns) k ≡ suc m + place_among ns k
    later k e = ap (λ b. m + (if b then 0 else suc (place_among ns k))) e ∙ omega arith

up_rise : (m : ℕ) (ns : List ℕ) → IsTrue (do_rise (count_up m ns))
up_rise m [] = refl
up_rise m (n ∷ []) = refl
up_rise m (n ∷ k ∷ ns) =
    and_true (nat_lt m (suc m)) (do_rise (count_up (suc m) (k ∷ ns))) (lt-ltb m (suc m) (omega arith)) (up_rise (suc m)
    (k ∷ ns))

pub places_rise : (ns : List ℕ) → Differ ns → IsTrue (do_rise (map (place_among ns) ns))
places_rise ns d =
    subst (λ xs. IsTrue (do_rise xs)) (sym (map_same (place_among ns) (λ k. 0 + place_among ns k) ns (λ k has. omega
    arith) ∙ places_from 0 ns d)) (up_rise 0 ns)

-- ---- a body

module _ (f : ℕ → ℕ) where
  number_on : (n : Node) → number_of (renumbered f n) ≡ f (number_of n)
  number_on (node id at ty by form) = refl

  map_numbers : (xs : List Node) → map number_of (map (renumbered f) xs) ≡ map f (map number_of xs)
  map_numbers [] = refl
  map_numbers (x ∷ xs) = λ i. number_on x i ∷ map_numbers xs i

  pub param_nodes_on : (ps : List ParamTree) → param_nodes (map (param_renumbered f) ps) ≡ map (renumbered f)
      (param_nodes ps)
  param_nodes_on [] = refl
  param_nodes_on (p ∷ ps) =
      (λ i. of_node f p.pattern i ++ param_nodes_on ps i) ∙ sym (map-append (renumbered f) (nodes_of p.pattern)
      (param_nodes ps))

  numbers_on : (ps : List ParamTree) (block : Node) → map number_of (param_nodes (map (param_renumbered f) ps) ++
      nodes_of (renumbered f block)) ≡ map f (map number_of (param_nodes ps ++ nodes_of block))
  numbers_on ps block =
      ap (map number_of) ((λ i. param_nodes_on ps i ++ of_node f block i) ∙ sym (map-append (renumbered f) (param_nodes
      ps) (nodes_of block))) ∙ map_numbers (param_nodes ps ++ nodes_of block)

-- the numbers of a body in the order of the text rise
pub body_rises : (body : BodyTree) → ((k : ℕ) → occurs k (body_nodes body) ≤ 1) → IsTrue (do_rise (numbers_of
    (in_text_order body)))
body_rises body once =
    subst (λ xs. IsTrue (do_rise xs)) (sym (numbers_on (place_among (numbers_of body)) body.params body.block))
    (places_rise (numbers_of body) (λ k. subst (λ n. n ≤ 1) (sym (times_occurs k (body_nodes body))) (once k)))

-- A path that has no children has no branches, and one that has children has some.
use Rattle.std.proofs.Common.{◌≡◌, ◌⊎◌, inl, inr, ◌∙◌, ◌∷◌, [], ◌++◌, ◌<◌, ℕ, zero, suc, Bool, true, false, ◌&&◌, List, Some, length, slice_get, refl, sym, ap, arith, if◌then◌else◌}
use Rattle.std.specs.Prelude.{slice_index_or, ◌==◌}
use Rattle.std.specs.Cmp.{first_so, second_so}
use Rattle.std.specs.Cmp.Derive.{both_true}
use Rattle.std.proofs.lemmas.Bool.{false≢true, cases_eq, eqb-true, eq-eqb}
use Rattle.std.proofs.lemmas.List.{length-append}
use Rattle.std.proofs.lemmas.Option.{get_or_from_slice_get, slice_get_within, slice_get-get_or}
use Rattle.mir_ty.proofs.ListLemmas.{Contains-slice_get}
use Rattle.store_model.specs.Places.Place.{Place, Step, whole_local}
use Rattle.cfg_graph.specs.Moves.Gone.{is_at_or_above, below}
use Rattle.move_paths.proofs.Above.{above-refl, above-stays}
use Rattle.move_paths.specs.Forest.{is_child, children_before, children_of}
use Rattle.drop_values.specs.Facts.{at_path, Branches, no_branch, a_branch}
use Rattle.drop_plans.specs.Trees.{IsTreeOf}
use Rattle.drop_plans.proofs.Under.{above-rest}

empty-left : {X : Type 0} (xs ys : List X) → xs ++ ys ≡ [] → xs ≡ []
empty-left [] ys e = refl
empty-left (x ∷ xs) ys e = absurd (cc)

empty-right : {X : Type 0} (xs ys : List X) → xs ++ ys ≡ [] → ys ≡ []
empty-right [] ys e = e
empty-right (x ∷ xs) ys e = absurd (cc)

module _ (paths : List Place) (path : ℕ) where
  abbrev at : ℕ → Place
  at n = slice_index_or paths n (whole_local 0)

  abbrev listed : Bool → ℕ → List ℕ
  listed b n = if b then n ∷ [] else []

  -- a child is among the children
  no-child : (n k : ℕ) → children_before paths path n ≡ [] → k < n → is_child paths path k ≡ true → ⊥
  no-child zero k none less child = omega (less, arith)
  no-child (suc n) k none less child = by (cases_eq k n) (no-child n k (empty-left (children_before paths path n) (listed (is_child paths path n) n) none))
    where
      last : (b : Bool) → b ≡ true → listed b n ≡ [] → ⊥
      last true on e = cc
      last false on e = false≢true on

      by : (k ≡ n) ⊎ (k ≡ n → ⊥) → (k < n → is_child paths path k ≡ true → ⊥) → ⊥
      by (inl same) rest =
          last (is_child paths path n) (ap (is_child paths path) (sym same) ∙ child)
          (empty-right (children_before paths path n) (listed (is_child paths path n) n) none)
      by (inr other) rest = rest (omega (less, other, arith)) child

  -- where there are children there is one
  some-child : (n : ℕ) → (children_before paths path n ≡ [] → ⊥) → (k : ℕ) × (k < n) × (is_child paths path k ≡ true)
  some-child zero some = absurd (some refl)
  some-child (suc n) some = by (is_child paths path n) refl (some-child n)
    where
      by : (b : Bool) → is_child paths path n ≡ b →
          ((children_before paths path n ≡ [] → ⊥) → (k : ℕ) × (k < n) × (is_child paths path k ≡ true)) →
          (k : ℕ) × (k < suc n) × (is_child paths path k ≡ true)
      by true e rest = (n, omega arith, e)
      by false e rest =
          let found = rest (λ none. some ((λ i. none i ++ listed (e i) n))) in
          (found.0, (let k = found.1 in omega (k, arith)), found.2)

module _ (paths : List Place) (path : ℕ) (place : Place) (here : slice_get paths path ≡ Some place) where
  own : slice_index_or paths path (whole_local 0) ≡ place
  own = get_or_from_slice_get paths path place (whole_local 0) here

  one-step : (rest : List Step) → length rest ≡ 1 → (step : Step) × (rest ≡ step ∷ [])
  one-step [] e = absurd (omega (e, arith))
  one-step (step ∷ []) e = (step, refl)
  one-step (step ∷ other ∷ rest) e = absurd (omega (e, arith))

  is-child : (k : ℕ) (step : Step) → slice_get paths k ≡ Some (below place (step ∷ [])) → is_child paths path k ≡ true
  is-child k step at_k =
      let lower : slice_index_or paths k (whole_local 0) ≡ below place (step ∷ []) =
      get_or_from_slice_get paths k (below place (step ∷ [])) (whole_local 0) at_k in
      let long = length-append place.steps (step ∷ []) in
      both_true
      ((λ i. is_at_or_above (own i) (lower i)) ∙ above-stays place place (step ∷ []) (above-refl place))
      ((λ i. suc (length (own i).steps) == length (lower i).steps)
      ∙ eq-eqb (suc (length place.steps)) (length (place.steps ++ step ∷ [])) (omega (long, arith)))

  child-step : (k : ℕ) → is_child paths path k ≡ true →
      (step : Step) × (slice_index_or paths k (whole_local 0) ≡ below place (step ∷ []))
  child-step k child =
      let lower : Place = slice_index_or paths k (whole_local 0) in
      let both : (is_at_or_above place lower && (suc (length place.steps) == length lower.steps)) ≡ true =
      (λ i. is_at_or_above (sym own i) lower && (suc (length (sym own i).steps) == length lower.steps)) ∙ child in
      let rest = above-rest place lower (first_so (is_at_or_above place lower) (suc (length place.steps) == length lower.steps) both) in
      let long = eqb-true (suc (length place.steps)) (length lower.steps)
      (second_so (is_at_or_above place lower) (suc (length place.steps) == length lower.steps) both) in
      let all = ap (λ (q : Place). length q.steps) rest.1 in
      let parts = length-append place.steps rest.0 in
      let one = one-step rest.0 (omega (long, all, parts, arith)) in
      (one.0, rest.1 ∙ ap (below place) one.1)

  pub lowest : (number : ℕ) (under : Branches) → IsTreeOf paths place (at_path number under) →
      children_of paths path ≡ [] → under ≡ no_branch
  lowest number no_branch is none = refl
  lowest number (a_branch step (at_path k lower) rest) is none =
      absurd (no-child paths path (length paths) k none (slice_get_within paths k (below place (step ∷ [])) is.1.0.0)
      (is-child k step is.1.0.0))

  pub not-lowest : (number : ℕ) (under : Branches) → IsTreeOf paths place (at_path number under) →
      (children_of paths path ≡ [] → ⊥) → under ≡ no_branch → ⊥
  not-lowest number no_branch is some e =
      let found = some-child paths path (length paths) some in
      let step = child-step found.0 found.2 in
      let there : slice_get paths found.0 ≡ Some (below place (step.0 ∷ [])) =
      slice_get-get_or paths found.0 (whole_local 0) found.1 ∙ ap Some step.1 in
      is.2 step.0 refl (Contains-slice_get paths found.0 (below place (step.0 ∷ [])) there)
  not-lowest number (a_branch step tree rest) is some e = absurd (cc)

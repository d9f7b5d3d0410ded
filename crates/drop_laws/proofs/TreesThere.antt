-- Each path of a body has a tree of the paths at and below it.
use Rattle.std.proofs.Common.{◌≡◌, ◌⊎◌, inl, inr, ◌∙◌, ◌∷◌, [], ℕ, zero, suc, ◌+◌, ◌<◌, ◌≤◌, Bool, true, false, List, Option, Some, None, length, slice_get, refl, sym, ap, subst, append-nil, arith, if◌then◌else◌}
use Rattle.std.proofs.lemmas.Bool.{false≢true, cases_eq}
use Rattle.std.proofs.lemmas.List.{length-append, same_from_push}
use Rattle.std.proofs.lemmas.Option.{none-some, same_Some, slice_get_within}
use Rattle.mir_ty.specs.ItemTable.{ItemTable}
use Rattle.mir_ty.proofs.ListLemmas.{slice_get-Contains}
use Rattle.cfg_graph.specs.declared.graph.Body.{Body}
use Rattle.cfg_graph.specs.Moves.Gone.{is_at_or_above, below}
use Rattle.move_paths.proofs.Above.{above-refl, above-stays}
use Rattle.move_paths.specs.Forest.{PathForest, IsForest, is_path}
use Rattle.store_model.specs.Places.Place.{Step, same_step, Place}
use Rattle.drop_values.specs.Facts.{Tree, at_path, Branches, no_branch, a_branch}
use Rattle.drop_values.specs.Planning.{branch_by}
use Rattle.drop_values.proofs.Steps.{same_step-refl}
use Rattle.drop_elaborate.specs.Kinds.{IsTree, AreBranches}
use Rattle.drop_laws.proofs.BelowPaths.{above-rest}

longest : List Place → ℕ
longest [] = 0
longest (p ∷ paths) = length p.steps + longest paths

within-longest : (paths : List Place) (i : ℕ) (p : Place) → slice_get paths i ≡ Some p → length p.steps ≤ longest paths
unfolding longest
within-longest [] i p e = absurd (none-some p e)
within-longest (x ∷ paths) zero p e =
    let same : length x.steps ≡ length p.steps = ap (λ (q : Place). length q.steps) (same_Some x p e) in omega (
      same,
      arith,
    )
within-longest (x ∷ paths) (suc i) p e = let r = within-longest paths i p e in omega (r, arith)

below-long : (q : Place) (step : Step) → length (below q (step ∷ [])).steps ≡ suc (length q.steps)
below-long q step = let l = length-append q.steps (step ∷ []) in omega (l, arith)

-- the step from a place to another, if it is one step below
abbrev StepTo : Place → Place → Type 0
StepTo q r = (step : Step) × (r ≡ below q (step ∷ []))

step-to : (q r : Place) → StepTo q r ⊎ (StepTo q r → ⊥)
step-to q r = by (is_at_or_above q r) refl
  where
    by-rest : (rest : List Step) → r ≡ below q rest → StepTo q r ⊎ (StepTo q r → ⊥)
    by-rest [] e =
        inr (λ s. let long = below-long q s.0 in let one = ap (λ (p : Place). length p.steps) (sym s.1 ∙ e) in
        let none = ap length (append-nil q.steps) in omega (long, one, none, arith))
    by-rest (step ∷ []) e = inl (step, e)
    by-rest (step ∷ next ∷ rest) e =
        inr (λ s. let long = below-long q s.0 in let one = ap (λ (p : Place). length p.steps) (sym s.1 ∙ e) in
        let more_steps = length-append q.steps (step ∷ next ∷ rest) in omega (long, one, more_steps, arith))

    by : (b : Bool) → is_at_or_above q r ≡ b → StepTo q r ⊎ (StepTo q r → ⊥)
    by true e = let rest = above-rest q r e in by-rest rest.0 rest.1
    by false e =
        inr (λ s. false≢true (sym e ∙ ap (is_at_or_above q) s.1 ∙ above-stays q q (s.0 ∷ []) (above-refl q)))

module _ (items : ItemTable) (body : Body) (forest : PathForest) (is : IsForest items body forest) where
  abbrev paths : List Place
  paths = forest.paths

  abbrev Grown : Place → Type 0
  Grown q = (tree : Tree) × IsTree items body paths q tree

  -- branches for all paths one step below a place with numbers less than this
  record BranchesTo (q : Place) (count : ℕ) : Type 0 where
    under : Branches
    are : AreBranches items body paths q under
    all : (step : Step) (i : ℕ) → i < count → slice_get paths i ≡ Some (below q (step ∷ [])) → branch_by step under ≡
        None → ⊥

  module _ (q : Place) (make : (r : Place) (i : ℕ) → slice_get paths i ≡ Some r → StepTo q r → Grown r) where
    with-one : (count : ℕ) (b : BranchesTo q count) (r : Place) → slice_get paths count ≡ Some r → StepTo q r →
        BranchesTo q (suc count)
    with-one count b r at s =
        let grown = make r count at s in record {
          under = a_branch s.0 grown.0 b.under;
          are = (subst (λ (p : Place). IsTree items body paths p grown.0) s.1 grown.1, b.are);
          all = λ step i less here none. by step i grown.0 (cases_eq i count) less here none;
        }
      where
        off : (step : Step) (c : Bool) (tree : Tree) → (if c then Some tree else branch_by step b.under) ≡ None →
            (c ≡ true → ⊥) × (branch_by step b.under ≡ None)
        off step true tree e = absurd (let z : Some tree ≡ None = e in none-some tree (sym z))
        off step false tree e = (false≢true, e)

        by : (step : Step) (i : ℕ) (tree : Tree) → (i ≡ count) ⊎ (i ≡ count → ⊥) → i < suc count →
            slice_get paths i ≡ Some (below q (step ∷ [])) →
            (if same_step step s.0 then Some tree else branch_by step b.under) ≡ None → ⊥
        by step i tree (inl same) less here none =
            let one : below q (step ∷ []) ≡ below q (s.0 ∷ []) =
            same_Some (below q (step ∷ [])) (below q (s.0 ∷ [])) (sym here ∙ ap (slice_get paths) same ∙ at ∙ ap Some
            s.1) in
            let same_last : step ≡ s.0 = (same_from_push q.steps q.steps step s.0 (ap (λ (p : Place). p.steps) one)).1
            in
            (off step (same_step step s.0) tree none).0 (ap (same_step step) (sym same_last) ∙ same_step-refl step)
        by step i tree (inr other) less here none =
            b.all step i (omega (less, other, arith)) here (off step (same_step step s.0) tree none).1

    one-more : (count : ℕ) → BranchesTo q count → (o : Option Place) → slice_get paths count ≡ o → BranchesTo q (suc
        count)
    one-more count b None at = record {
      under = b.under;
      are = b.are;
      all = λ step i less here. by step i (cases_eq i count) less here;
    }
      where
        by : (step : Step) (i : ℕ) → (i ≡ count) ⊎ (i ≡ count → ⊥) → i < suc count →
            slice_get paths i ≡ Some (below q (step ∷ [])) → branch_by step b.under ≡ None → ⊥
        by step i (inl same) less here =
            absurd (none-some (below q (step ∷ [])) (sym at ∙ ap (slice_get paths) (sym same) ∙ here))
        by step i (inr other) less here = b.all step i (omega (less, other, arith)) here
    one-more count b (Some r) at = decide (step-to q r)
      where
        decide : StepTo q r ⊎ (StepTo q r → ⊥) → BranchesTo q (suc count)
        decide (inl s) = with-one count b r at s
        decide (inr none) = record {
          under = b.under;
          are = b.are;
          all = λ step i less here. by step i (cases_eq i count) less here;
        }
          where
            by : (step : Step) (i : ℕ) → (i ≡ count) ⊎ (i ≡ count → ⊥) → i < suc count →
                slice_get paths i ≡ Some (below q (step ∷ [])) → branch_by step b.under ≡ None → ⊥
            by step i (inl same) less here =
                absurd (none (
                  step,
                  same_Some r (below q (step ∷ [])) (sym at ∙ ap (slice_get paths) (sym same) ∙
                      here),
                ))
            by step i (inr other) less here = b.all step i (omega (less, other, arith)) here

    branches-to : (count : ℕ) → BranchesTo q count
    branches-to zero = record { under = no_branch; are = tt; all = λ step i less here none. omega (less, arith) }
    branches-to (suc count) = one-more count (branches-to count) (slice_get paths count) refl

    tree-from : (number : ℕ) → slice_get paths number ≡ Some q → Grown q
    tree-from number at =
        let b = branches-to (length paths) in
        (at_path number b.under, (at, b.are, λ step none. no-path step (b.all step) none))
      where
        no-path : (step : Step) → ((i : ℕ) → i < length paths → slice_get paths i ≡ Some (below q (step ∷ [])) →
            branch_by step (branches-to (length paths)).under ≡ None → ⊥) →
            branch_by step (branches-to (length paths)).under ≡ None → is_path items body (below q (step ∷ [])) ≡ false
        no-path step all none = by (is_path items body (below q (step ∷ []))) refl
          where
            by : (b : Bool) → is_path items body (below q (step ∷ [])) ≡ b → is_path items body (below q (step ∷ []))
                ≡ false
            by false e = e
            by true e =
                let has = (is.each (below q (step ∷ []))).1 e in
                let here = slice_get-Contains paths (below q (step ∷ [])) has in
                absurd (all has.0 (slice_get_within paths has.0 (below q (step ∷ [])) here) here none)

  grow : (fuel : ℕ) (q : Place) (number : ℕ) → slice_get paths number ≡ Some q →
      ((i : ℕ) (p : Place) → slice_get paths i ≡ Some p → length p.steps ≤ length q.steps + fuel) → Grown q
  grow zero q number at bound =
      tree-from q (λ r i here s. absurd (let l = bound i r here in let k = below-long q s.0 in
      let e = ap (λ (p : Place). length p.steps) s.1 in let never : ⊥ = omega (l, k, e, arith) in never)) number at
  grow (suc fuel) q number at bound =
      tree-from q (λ r i here s. grow fuel r i here (λ j p there. let l = bound j p there in let k = below-long q s.0 in
      let e = ap (λ (p : Place). length p.steps) s.1 in omega (l, k, e, arith))) number at

  pub tree-there : (q : Place) (number : ℕ) → slice_get paths number ≡ Some q → Grown q
  tree-there q number at =
      grow (longest paths) q number at (λ i p here. let l = within-longest paths i p here in omega (l, arith))

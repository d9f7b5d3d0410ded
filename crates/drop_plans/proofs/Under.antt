-- Places below others, and the branches of a tree by their steps.
use Rattle.std.proofs.Common.{◌≡◌, ◌∷◌, [], ◌++◌, ℕ, Bool, true, false, List, Option, Some, None, Contains, refl, sym, ap, subst, append-nil, append_assoc, if◌then◌else◌}
use Rattle.std.specs.Prelude.{◌==◌, option_map}
use Rattle.std.specs.Cmp.{first_so, second_so}
use Rattle.std.proofs.lemmas.Bool.{false≢true, eqb-true}
use Rattle.std.proofs.lemmas.Option.{none-some, same_Some}
use Rattle.mir_ty.specs.declared.ty.TyId.{TyId}
use Rattle.mir_ty.specs.ItemTable.{ItemTable}
use Rattle.mir_ty.proofs.ListLemmas.{Contains-slice_get}
use Rattle.store_model.specs.Places.Place.{Place, Step, same_step}
use Rattle.cfg_graph.proofs.WholePlaces.{same_step-sound}
use Rattle.cfg_graph.specs.Moves.Gone.{are_first, is_at_or_above, below}
use Rattle.drop_values.specs.Facts.{Tree, at_path, Branches, no_branch, a_branch, Facts}
use Rattle.drop_values.specs.Plan.{Plan}
use Rattle.drop_values.specs.Planning.{branch_by, plan_by, plans_below, plan_of, stepped}
use Rattle.drop_plans.specs.Trees.{IsTreeOf, AreBranchesOf}

pub below-nil : (place : Place) → below place [] ≡ place
below-nil place = ap (λ (l : List Step). record { local = place.local; steps = l }) (append-nil place.steps)

pub below-step : (place : Place) (step : Step) (rest : List Step) →
    below (below place (step ∷ [])) rest ≡ below place (step ∷ rest)
below-step place step rest =
    ap (λ (l : List Step). record { local = place.local; steps = l }) (append_assoc place.steps (step ∷ []) rest)

-- what stands behind the first steps
first-rest : (upper lower : List Step) → are_first upper lower ≡ true → (rest : List Step) × (lower ≡ upper ++ rest)
first-rest [] lower h = (lower, refl)
first-rest (step ∷ upper) [] h = absurd (false≢true h)
first-rest (step ∷ upper) (other ∷ lower) h =
    let rest = first-rest upper lower (second_so (same_step step other) (are_first upper lower) h) in
    let same : step ≡ other = same_step-sound step other (first_so (same_step step other) (are_first upper lower) h) in
    (rest.0, (λ i. sym same i ∷ rest.1 i))

pub above-rest : (upper lower : Place) → is_at_or_above upper lower ≡ true → (rest : List Step) × (lower ≡ below upper rest)
above-rest upper lower h =
    let rest = first-rest upper.steps lower.steps (second_so (upper.local == lower.local) (are_first upper.steps lower.steps) h) in
    let same : upper.local ≡ lower.local =
    eqb-true upper.local lower.local (first_so (upper.local == lower.local) (are_first upper.steps lower.steps) h) in
    (rest.0, (λ i. record { local = sym same i; steps = rest.1 i }))

-- a branch is the tree of the paths below it
by-step : (paths : List Place) (place : Place) (step other : Step) (first tree : Tree) (rest : Option Tree) (b : Bool) →
    same_step step other ≡ b → IsTreeOf paths (below place (other ∷ [])) first →
    (rest ≡ Some tree → IsTreeOf paths (below place (step ∷ [])) tree) →
    (if b then Some first else rest) ≡ Some tree → IsTreeOf paths (below place (step ∷ [])) tree
by-step paths place step other first tree rest true same here there is =
    subst (IsTreeOf paths (below place (step ∷ []))) (same_Some first tree is)
    (subst (λ (s : Step). IsTreeOf paths (below place (s ∷ [])) first) (sym (same_step-sound step other same)) here)
by-step paths place step other first tree rest false same here there is = there is

pub branch-tree : (paths : List Place) (place : Place) (step : Step) (tree : Tree) (under : Branches) →
    AreBranchesOf paths place under → branch_by step under ≡ Some tree → IsTreeOf paths (below place (step ∷ [])) tree
branch-tree paths place step tree no_branch are is = absurd (none-some tree is)
branch-tree paths place step tree (a_branch other first rest) are is =
    by-step paths place step other first tree (branch_by step rest) (same_step step other) refl are.0
    (branch-tree paths place step tree rest are.1) is

-- the root of a tree is a path
pub tree-path : (paths : List Place) (place : Place) (tree : Tree) → IsTreeOf paths place tree → Contains paths place
tree-path paths place (at_path number under) is = Contains-slice_get paths number place is.0

-- there is a branch for each path a step below
pub some-branch : (paths : List Place) (place : Place) (number : ℕ) (under : Branches) (step : Step) →
    IsTreeOf paths place (at_path number under) → Contains paths (below place (step ∷ [])) →
    (tree : Tree) × (branch_by step under ≡ Some tree)
some-branch paths place number under step is has = by (branch_by step under) refl
  where
    by : (o : Option Tree) → branch_by step under ≡ o → (tree : Tree) × (branch_by step under ≡ Some tree)
    by None e = absurd (is.2 step e has)
    by (Some tree) e = (tree, e)

pub no-branch : (paths : List Place) (place : Place) (number : ℕ) (under : Branches) (step : Step) →
    IsTreeOf paths place (at_path number under) → ¬ Contains paths (below place (step ∷ [])) →
    branch_by step under ≡ None
no-branch paths place number under step is has_none = by (branch_by step under) refl
  where
    by : (o : Option Tree) → branch_by step under ≡ o → branch_by step under ≡ None
    by None e = e
    by (Some tree) e =
        absurd (has_none (tree-path paths (below place (step ∷ [])) tree (branch-tree paths place step tree under is.1 e)))

module _ (items : ItemTable) (facts : Facts) (flag_of : ℕ → Option ℕ) where
  same-or : (step other : Step) (id : TyId) (first : Tree) (rest : Option Tree) (plans : Option Plan) (b : Bool) →
      same_step step other ≡ b →
      plans ≡ option_map (λ tree. plan_of items facts flag_of tree (stepped items step id)) rest →
      (if b then Some (plan_of items facts flag_of first (stepped items other id)) else plans)
      ≡ option_map (λ tree. plan_of items facts flag_of tree (stepped items step id)) (if b then Some first else rest)
  same-or step other id first rest plans true same there =
      ap (λ (s : Step). Some (plan_of items facts flag_of first (stepped items s id))) (sym (same_step-sound step other same))
  same-or step other id first rest plans false same there = there

  -- the plan of a step is that of the branch there
  pub plan-by : (step : Step) (under : Branches) (id : TyId) →
      plan_by step (plans_below items facts flag_of under id)
      ≡ option_map (λ tree. plan_of items facts flag_of tree (stepped items step id)) (branch_by step under)
  plan-by step no_branch id = refl
  plan-by step (a_branch other first rest) id =
      same-or step other id first (branch_by step rest) (plan_by step (plans_below items facts flag_of rest id))
      (same_step step other) refl (plan-by step rest id)

-- Places below others, and the branches of a tree by their steps; what is above a path of a body is one of its paths.
use Rattle.std.proofs.Common.{◌≡◌, inl, inr, ◌∙◌, ◌∷◌, [], ◌++◌, ℕ, Bool, true, false, not, ◌&&◌, ◌||◌, List, Option, Some, Contains, flat_map, length, refl, sym, ap, append-nil, append_assoc, if◌then◌else◌}
use Rattle.std.specs.Prelude.{◌==◌, nat_lt, is_some, option_map}
use Rattle.std.specs.List.{list_any}
use Rattle.std.specs.Cmp.{first_so, second_so}
use Rattle.std.specs.Cmp.Derive.{both_true}
use Rattle.std.proofs.lemmas.Bool.{false≢true, eqb-true}
use Rattle.std.proofs.lemmas.Option.{none-some, same_Some}
use Rattle.mir_ty.specs.declared.ty.TyId.{TyId}
use Rattle.mir_ty.specs.ItemTable.{ItemTable}
use Rattle.store_model.specs.Places.Place.{Place, Step, same_step}
use Rattle.cfg_graph.proofs.WholePlaces.{same_step-sound}
use Rattle.cfg_graph.specs.declared.graph.Body.{Body}
use Rattle.cfg_graph.specs.declared.place.Place as graph
use Rattle.cfg_graph.specs.Moves.Gone.{are_first, below, counts, is_at_or_above, leaves_gone}
use Rattle.cfg_graph.specs.Places.{named}
use Rattle.cfg_graph.specs.Uses.{PlaceUse}
use Rattle.move_paths.specs.Forest.{PathForest, IsForest, is_local, is_above_change}
use Rattle.move_paths.specs.Uses.{block_uses}
use Rattle.move_paths.proofs.Naming.{either, left-or, right-or}
use Rattle.drop_values.specs.Facts.{Tree, Branches, no_branch, a_branch, Facts}
use Rattle.drop_values.specs.Plan.{Plan}
use Rattle.drop_values.specs.Planning.{branch_by, plan_by, plans_below, plan_of, stepped, sure, sure_below}

pub below-nil : (place : Place) → below place [] ≡ place
below-nil place = ap (λ (l : List Step). record { local = place.local; steps = l }) (append-nil place.steps)

pub below-step : (place : Place) (step : Step) (rest : List Step) →
    below (below place (step ∷ [])) rest ≡ below place (step ∷ rest)
below-step place step rest =
    ap (λ (l : List Step). record { local = place.local; steps = l }) (append_assoc place.steps (step ∷ []) rest)

-- what stands behind the first steps
first-rest : (upper lower : List Step) → are_first upper lower ≡ true → (rest : List Step) × (lower ≡ upper ++ rest)
first-rest [] lower h = (lower, refl)
first-rest (step ∷ upper) [] h = absurd (false≢true h)
first-rest (step ∷ upper) (other ∷ lower) h =
    let rest = first-rest upper lower (second_so (same_step step other) (are_first upper lower) h) in
    let same : step ≡ other = same_step-sound step other (first_so (same_step step other) (are_first upper lower) h) in
    (rest.0, (λ i. sym same i ∷ rest.1 i))

pub above-rest : (upper lower : Place) → is_at_or_above upper lower ≡ true → (rest : List Step) × (lower ≡ below upper
    rest)
above-rest upper lower h =
    let rest = first-rest upper.steps lower.steps (second_so (upper.local == lower.local) (are_first upper.steps
    lower.steps) h) in
    let same : upper.local ≡ lower.local =
    eqb-true upper.local lower.local (first_so (upper.local == lower.local) (are_first upper.steps lower.steps) h) in
    (rest.0, (λ i. record { local = sym same i; steps = rest.1 i }))

module _ (items : ItemTable) (facts : Facts) (flag_of : ℕ → Option ℕ) where
  same-or : (step other : Step) (id : TyId) (first : Tree) (rest : Option Tree) (plans : Option Plan) (b : Bool) →
      same_step step other ≡ b →
      plans ≡ option_map (λ tree. plan_of items facts flag_of tree (stepped items step id)) rest →
      (if b then Some (plan_of items facts flag_of first (stepped items other id)) else plans)
      ≡ option_map (λ tree. plan_of items facts flag_of tree (stepped items step id)) (if b then Some first else rest)
  same-or step other id first rest plans true same there =
      ap (λ (s : Step). Some (plan_of items facts flag_of first (stepped items s id))) (sym (same_step-sound step
      other same))
  same-or step other id first rest plans false same there = there

  -- the plan of a step is that of the branch there
  pub plan-by : (step : Step) (under : Branches) (id : TyId) →
      plan_by step (plans_below items facts flag_of under id)
      ≡ option_map (λ tree. plan_of items facts flag_of tree (stepped items step id)) (branch_by step under)
  plan-by step no_branch id = refl
  plan-by step (a_branch other first rest) id =
      same-or step other id first (branch_by step rest) (plan_by step (plans_below items facts flag_of rest id))
      (same_step step other) refl (plan-by step rest id)

pub is-not : (b : Bool) → not b ≡ true → b ≡ false
is-not true h = absurd (false≢true h)
is-not false h = refl

module _ (items : ItemTable) (facts : Facts) (flag_of : ℕ → Option ℕ) where
  abbrev surely : Tree → Bool
  surely tree = sure items facts flag_of tree

  pub branch-sure : (step : Step) (tree : Tree) (under : Branches) → branch_by step under ≡ Some tree →
      sure_below items facts flag_of under ≡ true → surely tree ≡ true
  branch-sure step tree no_branch is all = absurd (none-some tree is)
  branch-sure step tree (a_branch other first rest) is all =
      either (same_step step other) (branch-sure step tree rest) is
    where
      either : (b : Bool) → (branch_by step rest ≡ Some tree → sure_below items facts flag_of rest ≡ true → surely
          tree ≡ true) →
          (if b then Some first else branch_by step rest) ≡ Some tree → surely tree ≡ true
      either true there e =
          ap surely (sym (same_Some first tree e)) ∙ first_so (surely first) (sure_below items facts flag_of rest) all
      either false there e = there e (second_so (surely first) (sure_below items facts flag_of rest) all)

first-less : (xs ys zs : List Step) → are_first (xs ++ ys) zs ≡ true → are_first xs zs ≡ true
first-less [] ys zs h = refl
first-less (x ∷ xs) ys [] h = absurd (false≢true h)
first-less (x ∷ xs) ys (z ∷ zs) h =
    both_true (first_so (same_step x z) (are_first (xs ++ ys) zs) h)
    (first-less xs ys zs (second_so (same_step x z) (are_first (xs ++ ys) zs) h))

local-less : (xs ys : List Step) → is_local (xs ++ ys) ≡ true → is_local xs ≡ true
local-less [] ys h = refl
local-less (x ∷ xs) ys h = absurd (false≢true h)

any-more : {X : Type 0} (f g : X → Bool) (xs : List X) → ((x : X) → f x ≡ true → g x ≡ true) → list_any f xs ≡ true →
    list_any g xs ≡ true
any-more f g [] more h = h
any-more f g (x ∷ xs) more h = elim (either (f x) (list_any f xs) h) [
  | inl here ↦ left-or (g x) (list_any g xs) (more x here)
  | inr later ↦ right-or (g x) (list_any g xs) (any-more f g xs more later)
]

module _ (items : ItemTable) (body : Body) (forest : PathForest) (is : IsForest items body forest) where
  abbrev uses : List (PlaceUse × graph.Place)
  uses = flat_map block_uses body.blocks

  abbrev change : Place → PlaceUse × graph.Place → Bool
  change q made = is_above_change items body q made

  change-less : (place : Place) (steps : List Step) (made : PlaceUse × graph.Place) → change (below place steps) made
      ≡ true →
      change place made ≡ true
  change-less place steps made h =
      let counted : (is_some (leaves_gone made.0) && counts items body (named made.1)) ≡ true =
      first_so (is_some (leaves_gone made.0) && counts items body (named made.1)) (is_at_or_above (below place steps)
      (named made.1)) h in
      let up : is_at_or_above (below place steps) (named made.1) ≡ true =
      second_so (is_some (leaves_gone made.0) && counts items body (named made.1)) (is_at_or_above (below place steps)
      (named made.1)) h in
      both_true counted
      (both_true (first_so (place.local == (named made.1).local) (are_first (place.steps ++ steps) (named
      made.1).steps) up)
      (first-less place.steps steps (named made.1).steps
      (second_so (place.local == (named made.1).local) (are_first (place.steps ++ steps) (named made.1).steps) up)))

  pub closed : (place : Place) (steps : List Step) → Contains forest.paths (below place steps) → Contains forest.paths
      place
  closed place steps has =
      let path = (is.each (below place steps)).0 has in
      let there : nat_lt place.local (length body.locals) ≡ true =
      first_so (nat_lt place.local (length body.locals)) (is_local (place.steps ++ steps) || list_any (change (below
      place steps)) uses) path in
      let some : (is_local (place.steps ++ steps) || list_any (change (below place steps)) uses) ≡ true =
      second_so (nat_lt place.local (length body.locals)) (is_local (place.steps ++ steps) || list_any (change (below
      place steps)) uses) path in
      (is.each place).1 (both_true there
      (elim (either (is_local (place.steps ++ steps)) (list_any (change (below place steps)) uses) some) [
        | inl local ↦ left-or (is_local place.steps) (list_any (change place) uses) (local-less place.steps steps local)
        | inr used ↦ right-or (is_local place.steps) (list_any (change place) uses)
            (any-more (change (below place steps)) (change place) uses (change-less place steps) used)
      ]))

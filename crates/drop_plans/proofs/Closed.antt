-- What is above a path of a body is one of its paths.
use Rattle.std.proofs.Common.{◌≡◌, inl, inr, ◌∙◌, ◌∷◌, [], ◌++◌, ◌&&◌, ◌||◌, Bool, true, List, flat_map, length, refl, sym}
use Rattle.std.specs.Prelude.{nat_lt, is_some, ◌==◌}
use Rattle.std.specs.List.{list_any}
use Rattle.std.specs.Cmp.{first_so, second_so}
use Rattle.std.specs.Cmp.Derive.{both_true}
use Rattle.std.proofs.lemmas.Bool.{false≢true}
use Rattle.mir_ty.specs.ItemTable.{ItemTable}
use Rattle.store_model.specs.Places.Place.{Place, Step, same_step}
use Rattle.cfg_graph.specs.declared.graph.Body.{Body}
use Rattle.cfg_graph.specs.declared.place.Place as graph
use Rattle.cfg_graph.specs.Moves.Gone.{are_first, below, counts, is_at_or_above, leaves_gone}
use Rattle.cfg_graph.specs.Places.{named}
use Rattle.cfg_graph.specs.Uses.{PlaceUse}
use Rattle.move_paths.specs.Forest.{PathForest, IsForest, is_local, is_above_change}
use Rattle.move_paths.specs.Uses.{block_uses}
use Rattle.move_paths.proofs.Naming.{either, left-or, right-or}
use Rattle.drop_elaborate.specs.Kinds.{IsTree, AreBranches}
use Rattle.drop_values.specs.Facts.{Tree, at_path, Branches, no_branch, a_branch}
use Rattle.drop_plans.specs.Trees.{AreClosed, AreBranchesOf, IsTreeOf}

first-less : (xs ys zs : List Step) → are_first (xs ++ ys) zs ≡ true → are_first xs zs ≡ true
first-less [] ys zs h = refl
first-less (x ∷ xs) ys [] h = absurd (false≢true h)
first-less (x ∷ xs) ys (z ∷ zs) h =
    both_true (first_so (same_step x z) (are_first (xs ++ ys) zs) h)
    (first-less xs ys zs (second_so (same_step x z) (are_first (xs ++ ys) zs) h))

local-less : (xs ys : List Step) → is_local (xs ++ ys) ≡ true → is_local xs ≡ true
local-less [] ys h = refl
local-less (x ∷ xs) ys h = absurd (false≢true h)

any-more : {X : Type 0} (f g : X → Bool) (xs : List X) → ((x : X) → f x ≡ true → g x ≡ true) → list_any f xs ≡ true →
    list_any g xs ≡ true
any-more f g [] more h = h
any-more f g (x ∷ xs) more h = elim (either (f x) (list_any f xs) h) [
  | inl here ↦ left-or (g x) (list_any g xs) (more x here)
  | inr later ↦ right-or (g x) (list_any g xs) (any-more f g xs more later)
]

module _ (items : ItemTable) (body : Body) (forest : PathForest) (is : IsForest items body forest) where
  abbrev uses : List (PlaceUse × graph.Place)
  uses = flat_map block_uses body.blocks

  abbrev change : Place → PlaceUse × graph.Place → Bool
  change q made = is_above_change items body q made

  change-less : (place : Place) (steps : List Step) (made : PlaceUse × graph.Place) → change (below place steps) made ≡ true →
      change place made ≡ true
  change-less place steps made h =
      let counted : (is_some (leaves_gone made.0) && counts items body (named made.1)) ≡ true =
      first_so (is_some (leaves_gone made.0) && counts items body (named made.1)) (is_at_or_above (below place steps) (named made.1)) h in
      let up : is_at_or_above (below place steps) (named made.1) ≡ true =
      second_so (is_some (leaves_gone made.0) && counts items body (named made.1)) (is_at_or_above (below place steps) (named made.1)) h in
      both_true counted
      (both_true (first_so (place.local == (named made.1).local) (are_first (place.steps ++ steps) (named made.1).steps) up)
      (first-less place.steps steps (named made.1).steps
      (second_so (place.local == (named made.1).local) (are_first (place.steps ++ steps) (named made.1).steps) up)))

  pub closed : AreClosed forest.paths
  closed place steps has =
      let path = (is.each (below place steps)).0 has in
      let there : nat_lt place.local (length body.locals) ≡ true =
      first_so (nat_lt place.local (length body.locals)) (is_local (place.steps ++ steps) || list_any (change (below place steps)) uses) path in
      let some : (is_local (place.steps ++ steps) || list_any (change (below place steps)) uses) ≡ true =
      second_so (nat_lt place.local (length body.locals)) (is_local (place.steps ++ steps) || list_any (change (below place steps)) uses) path in
      (is.each place).1 (both_true there
      (elim (either (is_local (place.steps ++ steps)) (list_any (change (below place steps)) uses) some) [
        | inl local ↦ left-or (is_local place.steps) (list_any (change place) uses) (local-less place.steps steps local)
        | inr used ↦ right-or (is_local place.steps) (list_any (change place) uses)
            (any-more (change (below place steps)) (change place) uses (change-less place steps) used)
      ]))

  -- a tree of paths as the definition of plans has it
  mutual
    pub tree-of : (place : Place) (tree : Tree) → IsTree items body forest.paths place tree → IsTreeOf forest.paths place tree
    tree-of place (at_path number under) it = (
      it.0,
      branches-of place under it.1,
      λ step none has. false≢true (sym (it.2 step none) ∙ (is.each (below place (step ∷ []))).0 has),
    )

    pub branches-of : (place : Place) (under : Branches) → AreBranches items body forest.paths place under →
        AreBranchesOf forest.paths place under
    branches-of place no_branch it = tt
    branches-of place (a_branch step tree rest) it =
        (tree-of (below place (step ∷ [])) tree it.0, branches-of place rest it.1)

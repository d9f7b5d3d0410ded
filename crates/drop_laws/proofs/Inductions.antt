-- Induction along a tree of paths: from the paths one step below to the path itself.
use Rattle.std.proofs.Common.{◌≡◌, ◌∷◌, [], ℕ, Bool, true, false, List, Option, Some, refl, sym, subst, if◌then◌else◌}
use Rattle.std.proofs.lemmas.Option.{none-some, same_Some}
use Rattle.store_model.specs.Places.Place.{Step, same_step, Place}
use Rattle.mir_ty.specs.ItemTable.{ItemTable}
use Rattle.cfg_graph.proofs.WholePlaces.{same_step-sound}
use Rattle.cfg_graph.specs.declared.graph.Body.{Body}
use Rattle.cfg_graph.specs.Moves.Gone.{below}
use Rattle.drop_values.specs.Facts.{Tree, at_path, Branches, no_branch, a_branch}
use Rattle.drop_values.specs.Planning.{branch_by}
use Rattle.drop_elaborate.specs.Kinds.{IsTree, AreBranches}

module _ (items : ItemTable) (body : Body) (paths : List Place) (P : Place → Tree → Type 0) where
  abbrev pub IsKept : Type 0
  IsKept = (q : Place) (number : ℕ) (under : Branches) → IsTree items body paths q (at_path number under) →
      ((step : Step) (tree : Tree) → branch_by step under ≡ Some tree → IsTree items body paths (below q (step ∷ []))
      tree
      × P (below q (step ∷ [])) tree) → P q (at_path number under)

  module _ (kept : IsKept) where
    abbrev Found : Place → Step → Option Tree → Type 0
    Found q step o = (tree : Tree) → o ≡ Some tree →
        IsTree items body paths (below q (step ∷ [])) tree × P (below q (step ∷ [])) tree

    pick : (q : Place) (step other : Step) (first : Tree) (rest : Option Tree) (b : Bool) → same_step step other ≡ b →
        IsTree items body paths (below q (other ∷ [])) first × P (below q (other ∷ [])) first → Found q step rest →
        Found q step (if b then Some first else rest)
    pick q step other first rest true same here there tree e =
        subst (λ (t : Tree). IsTree items body paths (below q (step ∷ [])) t × P (below q (step ∷ [])) t)
        (same_Some first tree e)
        (subst (λ (s : Step). IsTree items body paths (below q (s ∷ [])) first × P (below q (s ∷ [])) first)
        (sym (same_step-sound step other same)) here)
    pick q step other first rest false same here there tree e = there tree e

    mutual
      pub along-tree : (tree : Tree) (q : Place) → IsTree items body paths q tree → P q tree
      along-tree (at_path number under) q is = kept q number under is (λ step. along-branches under q is.1 step)

      pub along-branches : (under : Branches) (q : Place) → AreBranches items body paths q under → (step : Step) →
          Found q step (branch_by step under)
      along-branches no_branch q are step tree e = absurd (none-some tree e)
      along-branches (a_branch other first rest) q are step tree e =
          pick q step other first (branch_by step rest) (same_step step other) refl
          (are.0, along-tree first (below q (other ∷ [])) are.0) (along-branches rest q are.1 step) tree e

-- the tree of a branch
pub branch-at : (items : ItemTable) (body : Body) (paths : List Place) (q : Place) (under : Branches) →
    AreBranches items body paths q under → (step : Step) (tree : Tree) → branch_by step under ≡ Some tree →
    IsTree items body paths (below q (step ∷ [])) tree
branch-at items body paths q under are step tree e =
    (along-branches items body paths (λ p t. Unit {0}) (λ p number u is lower. tt) under q are step tree e).0

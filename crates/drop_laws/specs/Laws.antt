-- What the laws of kinds say: of the drops of a body of a ready graph, by plans.
use Rattle.std.specs.Prelude.{◌≡◌, ◌↔◌, ℕ, true, false, List, Option, Some, slice_get}
use Rattle.mir_ty.specs.declared.ty.TyId.{TyId}
use Rattle.mir_ty.specs.Facts.{needs_drop}
use Rattle.mir_ty.specs.ItemTable.{ItemTable}
use Rattle.cfg_graph.specs.declared.graph.Body.{Body}
use Rattle.cfg_graph.specs.Moves.Gone.{PathAction, counts}
use Rattle.move_paths.specs.Forest.{PathForest, IsForest}
use Rattle.store_model.specs.Places.Place.{Place}
use Rattle.drop_values.specs.Facts.{Tree, Facts}
use Rattle.drop_values.specs.Planning.{sure, plan_of}
use Rattle.drop_elaborate.specs.Kinds.{place_id, Comes, IsDrop, IsDead, IsSure, AreFacts, IsTree, NeedsFlag}
use Rattle.drop_laws.specs.Ready.{IsReadyBody}
use Rattle.drop_laws.specs.Rungs.{has_rung, reads}

-- each path of a body has a tree of the paths at and below it
abbrev pub EachPathHasATree : Type 0
EachPathHasATree =
    (items : ItemTable) (body : Body) (forest : PathForest) → IsForest items body forest →
    (number : ℕ) (place : Place) → slice_get forest.paths number ≡ Some place →
    (tree : Tree) × IsTree items body forest.paths place tree

-- A path where a drop of it comes, with its tree, its type and what the paths of the body tell there.
pub record DropOfPath (items : ItemTable) (body : Body) (n : ℕ) (place : Place) : Type 0 where
  pub ready : IsReadyBody items body
  pub forest : PathForest
  pub is_forest : IsForest items body forest
  pub tree : Tree
  pub is_tree : IsTree items body forest.paths place tree
  pub id : TyId
  pub typed : place_id items body place ≡ Some id
  pub facts : Facts
  pub are_facts : AreFacts items body forest.paths n facts

-- its drop is dead exactly where its plan has no rung, and all of it is there for sure exactly where the facts say so
abbrev pub KindsByPlans : Type 0
KindsByPlans =
    (items : ItemTable) (body : Body) (n : ℕ) (place : Place) (d : DropOfPath items body n place) (flag_of : ℕ →
    Option ℕ) →
    ((has_rung (plan_of items d.facts flag_of d.tree d.id) ≡ false) ↔ IsDead items body n place)
    × ((sure items d.facts flag_of d.tree ≡ true) ↔ IsSure items body n place)

-- a drop that is neither dead nor sure needs exactly the flags that its plan reads, where each path has its own number
-- as its flag
abbrev pub FlagsByPlans : Type 0
FlagsByPlans =
    (items : ItemTable) (body : Body) (n : ℕ) (place : Place) (d : DropOfPath items body n place) →
    (IsDead items body n place → ⊥) → (IsSure items body n place → ⊥) → (flag_of : ℕ → Option ℕ) →
    ((number k : ℕ) → flag_of number ≡ Some k → k ≡ number) →
    ((number : ℕ) (path : Place) → slice_get d.forest.paths number ≡ Some path → flag_of number ≡ Some number) →
    (k : ℕ) (path : Place) → slice_get d.forest.paths k ≡ Some path →
    (reads k (plan_of items d.facts flag_of d.tree d.id) ≡ true) ↔ NeedsFlag items body d.forest.paths n place path

-- what is not watched is all there where a drop of it comes; so its drop is dead only where its type needs no dropping,
-- or where no path comes to it
abbrev pub OtherPlacesAreWhole : Type 0
OtherPlacesAreWhole =
    (items : ItemTable) (body : Body) (n : ℕ) (place : Place) → IsReadyBody items body → IsDrop items body n place →
    counts items body place ≡ false → IsSure items body n place
    × ((id : TyId) (before : List PathAction) → place_id items body place ≡ Some id → needs_drop items id ≡ true →
    Comes items body n before → IsDead items body n place → ⊥)

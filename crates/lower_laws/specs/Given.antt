-- Which lists of choices the paths of a body give before a bad use, and which lists the free runs of its source take.
use Rattle.std.specs.Prelude.{◌≡◌, ℕ, Bool, List, [], ◌∷◌, ◌++◌, Option, Some, None, slice_get, Contains}
use Rattle.mir_ty.specs.ItemTable.{ItemTable}
use Rattle.store_model.specs.Abstract.Effects.{AbstractState}
use Rattle.store_model.specs.Effects.{Infeasible, Out, Go, Unwind, Halts}
use Rattle.cfg_graph.specs.declared.graph.Block.{Block}
use Rattle.cfg_graph.specs.declared.graph.Body.{Body}
use Rattle.cfg_graph.specs.Moves.Actions.{actions_on}
use Rattle.cfg_graph.specs.Moves.Gone.{PathAction}
use Rattle.cfg_graph.specs.Moves.Paths.{PathWay, ways, IsPath}
use Rattle.move_errors.specs.Reaches.{first_bad}
use Rattle.src_meaning.specs.Programs.{free_run}
use Rattle.typed_tree.specs.Tree.{BodyTree}

-- what a run has left of its choices; nothing is said where the last one that it took may not stand there
abbrev pub choices_left : Out AbstractState → Option (List Bool)
choices_left (Go w) = Some w.choices
choices_left (Unwind w) = Some w.choices
choices_left (Halts Infeasible w) = None
choices_left (Halts halt w) = Some w.choices

-- a free run of a body takes exactly this list of choices
abbrev pub IsTaken : ItemTable → BodyTree → List Bool → Type 0
IsTaken items tree list = choices_left (free_run items tree list) ≡ Some []

module _ (items : ItemTable) (body : Body) where
  -- A path gives a list of choices before its first bad use: up to its last block, or with a way out of that block.
  pub data GivesBeforeBad (list : List Bool) : Type 0 where
    up_to_block :
        (front : List ℕ) (last : ℕ) (earlier : List PathAction) → IsPath items body (front ++ last ∷ []) list →
        actions_on body (front ++ last ∷ []) ≡ earlier ++ actions_on body (last ∷ []) →
        first_bad items body [] earlier ≡ None → GivesBeforeBad list
    by_way_out :
        (front : List ℕ) (last : ℕ) (before : List Bool) (block : Block) (way : PathWay) →
        IsPath items body (front ++ last ∷ []) before →
        first_bad items body [] (actions_on body (front ++ last ∷ [])) ≡ None →
        slice_get body.blocks last ≡ Some block → Contains (ways items body block.term) way →
        list ≡ before ++ way.choices → GivesBeforeBad list

-- What rows show of a block, and what the solver gives of a body; no public contract speaks of it.
use Rattle.std.specs.Prelude.{◌≡◌, ℕ, ◌<◌, Bool, true, false, List, [], length, slice_index_or}
use Rattle.mir_ty.specs.ItemTable.{ItemTable}
use Rattle.store_model.specs.Places.Place.{Place}
use Rattle.cfg_graph.specs.declared.graph.Body.{Body}
use Rattle.init_flow.specs.Carried.{Bits, AreCarried}
use Rattle.init_flow.specs.Ways.{target}
use Rattle.init_flow.specs.Moved.{Says}
use Rattle.move_errors.specs.Runs.{Problem, point}
use Rattle.move_errors.specs.declared.point.Stage.{Stage}

-- no use within a block is bad by a row at its start, and no store of its result
pub record ShowsNone (f : Problem) (block : ℕ) (row : Bits) : Type 0 where
  pub inside : f.bad (point block Stage.Inside) row ≡ false
  pub leaving :
      (way : Bool) → f.bad (point block (Stage.Leaving way)) (f.pass (point block Stage.Inside) row) ≡ false

-- rows that say what is gone at the start of each block
pub record AreSolved (items : ItemTable) (body : Body) (paths : List Place) (rows : List Bits) : Type 0 where
  pub pass : ℕ → ℕ → Bits → Bits
  pub first : Bits
  pub says : Says items body paths true (target items body) pass first
  pub carried : AreCarried (length body.blocks) (target items body) pass first rows
  pub long : length rows ≡ length body.blocks
  pub widths :
      (block : ℕ) → block < length body.blocks → length (slice_index_or rows block []) ≡ length paths

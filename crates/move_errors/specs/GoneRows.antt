-- What the check of a body tells of what may be gone.
use Rattle.mir_ty.specs.ItemTable.{ItemTable}
use Rattle.cfg_graph.specs.declared.graph.Body.{Body}
use Rattle.init_flow.specs.Fits.{AreSwitches}
use Rattle.move_paths.specs.Forest.{IsForest}
use Rattle.move_errors.specs.Shown.{AreSolved}
use Rattle.move_errors.specs.declared.errors.GoneMoves.{GoneMoves}

-- the paths of a body, what its blocks switch, and rows that say which path is gone as each block begins
pub record AreGone (items : ItemTable) (body : Body) (gone : GoneMoves) : Type 0 where
  pub forest : IsForest items body gone.forest
  pub switches : AreSwitches gone.forest.paths gone.switches body
  pub rows : AreSolved items body gone.forest.paths gone.rows

-- What the analyses of a body are.
use Rattle.std.specs.Prelude.{◌≡◌, true, false}
use Rattle.mir_ty.specs.ItemTable.{ItemTable}
use Rattle.cfg_graph.specs.declared.graph.Body.{Body}
use Rattle.init_flow.specs.Fits.{AreSwitches}
use Rattle.init_flow.specs.Moved.{masks_of}
use Rattle.move_paths.specs.Forest.{IsForest}
use Rattle.drop_plans.specs.Known.{RowsSay}
use Rattle.drop_plans.specs.declared.analyses.Analyses.{Analyses}
use Rattle.drop_plans.specs.declared.analyses.Gone.{Gone}

pub record AreAnalyses (items : ItemTable) (body : Body) (told : Analyses) : Type 0 where
  pub forest : IsForest items body told.forest
  pub below : told.below ≡ masks_of told.forest.paths
  pub present : RowsSay items body told.forest.paths false told.present
  pub gone : RowsSay items body told.forest.paths true told.gone

-- what may be gone in a body, and what its blocks switch
pub record IsGone (items : ItemTable) (body : Body) (gone : Gone) : Type 0 where
  pub forest : IsForest items body gone.forest
  pub switches : AreSwitches gone.forest.paths gone.switches body
  pub rows : RowsSay items body gone.forest.paths true gone.rows

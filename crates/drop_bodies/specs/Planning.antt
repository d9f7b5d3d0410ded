-- What is planned of a body, and what its blocks become by that.
use Rattle.std.specs.Prelude.{ℕ, List, length}
use Rattle.mir_ty.specs.declared.ty.TyId.{TyId}
use Rattle.mir_ty.specs.ItemTable.{ItemTable}
use Rattle.cfg_graph.specs.declared.graph.Block.{Block}
use Rattle.cfg_graph.specs.declared.graph.Body.{Body}
use Rattle.move_paths.specs.Forest.{PathForest, IsForest}
use Rattle.drop_elaborate.specs.Build.{Made}
use Rattle.drop_elaborate.specs.Elaborated as rules
use Rattle.drop_elaborate.specs.Kinds.{AreFlagged}
use Rattle.drop_flags.specs.Flags.{AreFlags, HasRoom, paths_of}
use Rattle.drop_kinds.specs.Decided.{AreDecided}
use Rattle.drop_laws.specs.Ranked.{AreLaid}
use Rattle.drop_bodies.specs.Counts.{AreCounts, kind_at, totals_of}
use Rattle.drop_bodies.specs.Done.{AreDone}
use Rattle.drop_bodies.specs.Ended.{AreEnded}
use Rattle.drop_bodies.specs.Laid.{IsFinished}
use Rattle.drop_bodies.specs.declared.body.PlannedBody.{PlannedBody}
use Rattle.drop_bodies.specs.declared.planned.Planned.{Planned}

-- the flags that a body needs, what becomes of its drops by them, and how many of these are of each kind
pub record IsPlanned (items : ItemTable) (body : Body) (planned : PlannedBody) : Type 0 where
  pub forest : PathForest
  pub is_forest : IsForest items body forest
  pub flagged : AreFlagged items body forest.paths (paths_of planned.plan.flags)
  pub flags : AreFlags items body planned.plan.flags
  pub room : HasRoom planned.plan.flags
  pub decided : AreDecided items body forest.paths
      (rules.flag_of items body (paths_of planned.plan.flags) forest.paths) (length body.blocks) planned.plan.decided
  pub counts : AreCounts (kind_at forest.paths planned.plan.decided body.blocks) (length body.blocks)
      (length planned.plan.flags.paths) (totals_of planned.counts)

-- what the code goes on with; no public contract speaks of it
-- a body is made of blocks that are done by a plan, with new ranks
pub record IsMadeBy (plan : Planned) (body : Body) (flag_ty : TyId) (after : Body) : Type 0 where
  pub blocks : List Block
  pub new : Made
  pub sizes : List ℕ
  pub done : (items : ItemTable) → AreFlags items body plan.flags →
      AreDone items body (paths_of plan.flags) plan.decided (length body.blocks) blocks new
  pub ended : (items : ItemTable) → AreFlags items body plan.flags →
      AreEnded items body (paths_of plan.flags) plan.decided (length body.blocks) blocks new
  pub laid : AreLaid body blocks new.blocks sizes
  pub finished : IsFinished body blocks new.blocks sizes flag_ty (length plan.flags.paths) after

-- The laws of code: a graph that holds the code of a typed program runs as the program does, and its free walks are the
-- program's free runs, but for the block in which a run without a next step is stuck.
use Rattle.std.specs.Prelude.{◌≡◌, ℕ, ℤ, Bool, List, length, map, Some, slice_get}
use Rattle.cfg_graph.specs.declared.graph.Body.{Body}
use Rattle.cfg_graph.specs.declared.graph.Graph.{Graph}
use Rattle.cfg_graph.specs.Edges.{IsRanked}
use Rattle.cfg_meaning.specs.Programs.{raw_graph_run, free_walk}
use Rattle.cfg_meaning.specs.Walk.{renamed}
use Rattle.mir_base.specs.declared.trace.End.{End}
use Rattle.mir_base.specs.Trace.{Trace}
use Rattle.mir_ty.specs.ItemTable.{ItemTable}
use Rattle.store_model.specs.Effects.{Halt, Stuck, StuckAt}
use Rattle.typed_tree.specs.Tree.{BodyTree, ProgramTree}
use Rattle.src_meaning.specs.Locals.OfBody.{local_of, local_tys}
use Rattle.src_meaning.specs.Programs.{source, free_run, reached_by, refused_of}
use Rattle.lower_rules.specs.Code.{BodyAt}
use Rattle.lower_rules.specs.Spots.{CodeTarget}

-- a missing step, wherever it is: a source has no block to be stuck in
abbrev pub without_place : Halt → Halt
without_place (StuckAt body block) = Stuck
without_place halt = halt

abbrev pub end_without_place : End → End
end_without_place (End.Stuck body block) = End.Stuck 0 0
end_without_place end = end

abbrev pub outcome_without_place : Trace × End → Trace × End
outcome_without_place outcome = (outcome.0, end_without_place outcome.1)

abbrev pub target_of : ItemTable → BodyTree → Body → (ℕ → ℕ → ℕ) → CodeTarget
target_of items tree body node = record { items = items; local_of = local_of items tree; body = body; node = node }

-- a body of a graph holds the code of a body, where each line stands for a node
pub record HoldsBody (items : ItemTable) (tree : BodyTree) (body : Body) (node : ℕ → ℕ → ℕ) : Type 0 where
  pub ranked : IsRanked body
  pub params : body.params ≡ length tree.params
  pub locals : body.locals ≡ local_tys items tree
  pub holds_code : BodyAt (target_of items tree body node) tree

-- a graph holds the code of a program
pub record HoldsProgram (program : ProgramTree) (graph : Graph) : Type 0 where
  pub items : graph.items ≡ program.items
  pub locals : map (λ body. body.locals) graph.bodies ≡ map (local_tys program.items) program.bodies
  pub node : (body block line : ℕ) → ℕ
  pub bodies : (n : ℕ) (tree : BodyTree) (body : Body) →
      slice_get program.bodies n ≡ Some tree → slice_get graph.bodies n ≡ Some body →
      HoldsBody program.items tree body (node n)

-- with the same numbers to be asked and the same ticks, the trace and the end are the same
abbrev pub RunsAsItsSource : Type 0
RunsAsItsSource =
    (program : ProgramTree) (graph : Graph) → HoldsProgram program graph → (asked : List ℤ) (ticks : ℕ) →
    outcome_without_place (raw_graph_run graph asked ticks) ≡ outcome_without_place (source program asked ticks)

-- with the same choices a free walk ends as the free run does, and meets the same refused use, at the same node
abbrev pub WalksAsItRunsFreely : Type 0
WalksAsItRunsFreely =
    (items : ItemTable) (tree : BodyTree) (body : Body) (node : ℕ → ℕ → ℕ) → HoldsBody items tree body node →
    (list : List Bool) →
    (renamed without_place (free_walk items node body list) ≡ renamed without_place (free_run items tree list))
    × (refused_of (free_walk items node body list) ≡ reached_by items tree list)

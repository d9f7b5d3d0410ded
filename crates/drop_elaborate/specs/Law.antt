-- What the law of drop elaboration says.
use Rattle.std.specs.Prelude.{◌≡◌, ℕ, ℤ, List}
use Rattle.mir_base.specs.declared.trace.End.{End}
use Rattle.mir_ty.specs.AreItems.{AreItems}
use Rattle.cfg_graph.specs.declared.graph.Graph.{Graph}
use Rattle.cfg_graph.specs.Ready.{IsReadyGraph}
use Rattle.cfg_meaning.specs.Programs.{graph_run, raw_graph_run}
use Rattle.drop_elaborate.specs.Elaborated.{IsElaboration}

-- A graph that is elaborated from a ready raw graph has its trace and its end, for all numbers to be asked and all
-- ticks at which the raw graph, where a drop drops what remains, is not stuck; it itself drops whole values alone.
abbrev pub ElaborationKeepsRuns : Type 0
ElaborationKeepsRuns =
    (raw graph : Graph) (asked : List ℤ) (ticks : ℕ) → AreItems raw.items → IsReadyGraph raw → IsElaboration raw graph →
    ((body block : ℕ) → (raw_graph_run raw asked ticks).1 ≡ End.Stuck body block → ⊥) →
    graph_run graph asked ticks ≡ raw_graph_run raw asked ticks

-- A graph runs as a raw one, in which a drop drops what remains.
use Rattle.std.specs.Prelude.{◌≡◌, ℕ, ℤ, List}
use Rattle.mir_base.specs.declared.trace.End.{End}
use Rattle.cfg_graph.specs.declared.graph.Graph.{Graph}
use Rattle.cfg_meaning.specs.Programs.{graph_run, raw_graph_run}

-- for all numbers to be asked and all ticks at which the raw graph is not stuck it has the trace and the end of that one;
-- it itself drops whole values alone
abbrev pub RunsAsRaw : (raw graph : Graph) → Type 0
RunsAsRaw raw graph =
    (asked : List ℤ) (ticks : ℕ) → ((body block : ℕ) → (raw_graph_run raw asked ticks).1 ≡ End.Stuck body block → ⊥) →
    graph_run graph asked ticks ≡ raw_graph_run raw asked ticks

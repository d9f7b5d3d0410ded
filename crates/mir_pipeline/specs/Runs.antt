-- What is promised of the runs of an accepted program, and of its graphs beside it.
use Rattle.std.specs.Prelude.{◌≡◌, ◌≢◌, ℕ, ℤ, List}
use Rattle.mir_base.specs.declared.trace.End.{End}
use Rattle.cfg_graph.specs.declared.graph.Graph.{Graph}
use Rattle.cfg_meaning.specs.Programs.{graph_run, raw_graph_run}
use Rattle.soundness_values.specs.Laws.{EndsSo}
use Rattle.src_meaning.specs.Programs.{source}
use Rattle.typed_tree.specs.Tree.{ProgramTree}

-- no run of a program is stuck, whatever numbers are asked and however many ticks there are
abbrev pub IsNeverStuck : ProgramTree → Type 0
IsNeverStuck program =
    (asked : List ℤ) (ticks body block : ℕ) → (source program asked ticks).1 ≢ End.Stuck body block

-- where a run returns or unwinds to its top, each value that has a serial number is dropped, freed or forgotten exactly
-- once; where it ends otherwise, at most once
abbrev pub EndsEachOnce : ProgramTree → Type 0
EndsEachOnce program =
    (asked : List ℤ) (ticks : ℕ) → EndsSo (source program asked ticks).0 (source program asked ticks).1

-- a raw graph has the trace and the end of the source, for all numbers to be asked and all ticks
abbrev pub RunsExactlyAsItsSource : ProgramTree → Graph → Type 0
RunsExactlyAsItsSource program graph =
    (asked : List ℤ) (ticks : ℕ) → raw_graph_run graph asked ticks ≡ source program asked ticks

-- so has a graph by strict steps
abbrev pub RunsStrictlyAsItsSource : ProgramTree → Graph → Type 0
RunsStrictlyAsItsSource program graph =
    (asked : List ℤ) (ticks : ℕ) → graph_run graph asked ticks ≡ source program asked ticks

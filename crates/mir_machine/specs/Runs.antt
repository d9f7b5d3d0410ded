-- What the calls `run`, `run_raw` and `run_counted` answer.
use Rattle.std.specs.Prelude.{◌≡◌, ℕ, ℤ, Bool, true, false, List, [], ◌++◌, map, Some}
use Rattle.cfg_graph.specs.declared.graph.Graph.{Graph}
use Rattle.cfg_meaning.specs.Programs.{graph_run, raw_graph_run}
use Rattle.mir_base.specs.declared.trace.End.{End}
use Rattle.mir_base.specs.Trace.{Trace}
use Rattle.machine_steps.specs.declared.told.ToldEvents.{ToldEvents}
use Rattle.mir_base.specs.declared.trace.Event.{Event}
use Rattle.mir_machine.specs.declared.tasks.Doing.{Doing}
use Rattle.mir_machine.specs.Tasks.{AreRanked, AtEntry, RunsGraph}
use Rattle.machine_steps.specs.declared.world.World.{World}
use Rattle.machine_steps.specs.Worlds.{event_of, run_setting, state_of}
use Rattle.store_model.specs.Concrete.Bodies.{main_of}
use Rattle.mir_ty.specs.Named.{adt_name, body_name, text_of}
use Rattle.mir_base.specs.Lines.{event_lines}
use Rattle.std.specs.Prelude.{Option, None}
use Rattle.trace_summary.specs.declared.counts.Counts.{Counts}
use Rattle.trace_summary.specs.Summary.{counts_of}

-- a strict run, or one of a raw graph
abbrev pub run_by : Bool → Graph → List ℤ → ℕ → Trace × End
run_by true = graph_run
run_by false = raw_graph_run

-- the text of a run
abbrev pub run_text : Graph → Trace × End → List ℕ
run_text graph run = text_of graph.items run.0 run.1

-- what a machine told, as events
abbrev pub events_of : List ToldEvents → Trace
events_of told = map event_of told

-- how a run has ended, where it has
abbrev pub ended_by : Doing → Option End
ended_by (Doing.Ended end) = Some end
ended_by doing = None

-- whatever the run that enters `main` so
abbrev pub ForRun : Graph → World → (Trace × End → Type 0) → Type 0
ForRun graph world Says =
    (strict : Bool) (ticks : ℕ) (run : Trace × End) → AreRanked graph → RunsGraph strict graph world →
    AtEntry graph [] (Event.Call (main_of graph.items)) (main_of graph.items) [] strict ticks run (state_of [] world) →
    Says run

-- the lines of events, with the names of a graph
abbrev pub lines_in : Graph → Trace → List ℕ
lines_in graph trace = event_lines (body_name graph.items) (adt_name graph.items) trace

-- what was told was handed on, and nothing else changed
abbrev pub IsHandedOn : World → World → Type 0
IsHandedOn old new = (new.told ≡ []) × (run_setting new ≡ run_setting old)
    × ((before : Trace) → state_of (before ++ events_of old.told) new ≡ state_of before old)

-- whatever was counted before: these events are counted too
abbrev pub Counting : Counts → Counts → Trace → Type 0
Counting old new more = (trace : Trace) → old ≡ counts_of trace → new ≡ counts_of (trace ++ more)

-- What is written of a run to be looked at.
use Rattle.std.specs.Prelude.{◌≡◌, ℕ, ℤ, List}
use Rattle.cfg_graph.specs.declared.graph.Graph.{Graph}
use Rattle.cfg_build.specs.declared.programs.Lowered.{Lowered}
use Rattle.cfg_meaning.specs.Programs.{raw_graph_run}
use Rattle.mir_machine.specs.Runs.{run_text as text_of_run}
use Rattle.mir_pipeline.specs.Graphs.{IsAcceptedOf, IsLoweredOf, IsNotAccepted}
use Rattle.mir_pipeline.specs.Programs.{IsProgramOf, HasNoProgram}
use Rattle.mir_pipeline.specs.declared.refusal.Refusal.{Refusal}
use Rattle.mirdrop_program.specs.Refusals.{IsTold}
use Rattle.typed_tree.specs.Tree.{ProgramTree}
use Rattle.look_program.specs.Explanations.{explanation, explanation_of_use}
use Rattle.look_places.specs.LinePlaces.{program_places}
use Rattle.look_marked.specs.Marked.{marked}
use Rattle.look_lines.specs.Tellings.{telling}

-- the text of a run of a raw graph
abbrev pub run_text : Graph → List ℤ → ℕ → List ℕ
run_text graph asked ticks = text_of_run graph (raw_graph_run graph asked ticks)

-- with these numbers to be asked and so many ticks, the text of a run in which each line of the graph tells its number,
-- told with the places of the lines
abbrev pub trace_of : List ℕ → ProgramTree → Graph → List ℤ → ℕ → List ℕ
trace_of text program graph asked ticks = telling text (program_places program) (run_text (marked graph) asked ticks)

-- the raw graph of an accepted text
abbrev pub HasAcceptedGraph : List ℕ → Graph → Type 0
HasAcceptedGraph text graph = (lowered : Lowered) × IsAcceptedOf text lowered × (graph ≡ lowered.graph)

module _ (text : List ℕ) (asked : List ℤ) (ticks : ℕ) where
  -- the run of an accepted text is told, or its refusal is explained
  pub data OwedTrace : ℕ → List ℕ → Type 0 where
    traced : (graph : Graph) → HasAcceptedGraph text graph → (program : ProgramTree) → IsProgramOf text program →
        OwedTrace 0 (trace_of text program graph asked ticks)
    not_read : (why : Refusal) → HasNoProgram text why → IsTold why → OwedTrace 1 (explanation text why)
    not_accepted : (lowered : Lowered) → IsLoweredOf text lowered → (why : Refusal) → IsNotAccepted text why →
        IsTold why → OwedTrace 1 (explanation_of_use text lowered why)

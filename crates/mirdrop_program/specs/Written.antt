-- What was done with an answer; no public contract speaks of these words.
use Rattle.std.specs.Prelude.{◌≡◌, ℕ, List, ◌++◌, take, Option, Some, Result, Ok, Err}
use Rattle.cfg_graph.specs.declared.graph.Graph.{Graph}
use Rattle.mir_base.specs.declared.memory.NoMemory.{NoMemory}
use Rattle.mir_machine.specs.declared.error.RunError.{RunError}
use Rattle.mir_pipeline.specs.Programs.{IsProgramOf}
use Rattle.mir_pipeline.specs.Runs.{EndsEachOnce, IsNeverStuck, RunsStrictlyAsItsSource}
use Rattle.soak_text.specs.Text.{soak_text}
use Rattle.src_meaning.specs.Programs.{IsAccepted}
use Rattle.typed_tree.specs.Tree.{ProgramTree}
use Rattle.mirdrop_program.specs.TopCall.{Delivered}
use Rattle.mirdrop_program.specs.declared.answers.Answer.{Answer}

-- a trace was written as it came, with the status of its end; or it was cut off, for want of memory
pub data Ran (status : ℕ) (text : List ℕ) (taken taken_after : Option (List ℕ)) (sink_failed : Type 0) : ℕ →
    Type 0 where
  ran : {result : ℕ} → Delivered status text taken taken_after sink_failed result →
      Ran status text taken taken_after sink_failed result
  cut : (n : ℕ) → ((before : List ℕ) → taken ≡ Some before → taken_after ≡ Some (before ++ take n text)) →
      Ran status text taken taken_after sink_failed 5

-- an answer was handed to the sink, or there is none
abbrev pub HandedOn : Result Answer NoMemory → Option (List ℕ) → Option (List ℕ) → Type 0 → ℕ → Type 0
HandedOn (Ok answer) taken taken_after sink_failed result =
    Delivered answer.status answer.text.items taken taken_after sink_failed result
HandedOn (Err want) taken taken_after sink_failed result = (taken_after ≡ taken) × (result ≡ 5)

-- the status of a run that was not written to its end
abbrev pub error_status : RunError → ℕ
error_status (RunError.WriteFault written) = 4
error_status RunError.Memory = 5

-- a graph that runs as the program with so many functions that `soak` runs
pub record IsSoaked (functions : ℕ) (graph : Graph) : Type 0 where
  pub program : ProgramTree
  pub read : IsProgramOf (soak_text functions) program
  pub accepted : IsAccepted program
  pub runs : RunsStrictlyAsItsSource program graph
  pub never_stuck : IsNeverStuck program
  pub once : EndsEachOnce program

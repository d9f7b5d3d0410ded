-- What a text is owed for each command: a status, and all that is written with it.
use Rattle.std.specs.Prelude.{◌≡◌, ℕ, ℤ, pos, List, ◌++◌, codes, replicate, Err, ⊤}
use Rattle.cfg_graph.specs.declared.graph.Graph.{Graph}
use Rattle.cfg_build.specs.declared.programs.Lowered.{Lowered}
use Rattle.cfg_meaning.specs.Programs.{graph_run}
use Rattle.mir_text.specs.Answers.{IsText, Answers as AnswersListing}
use Rattle.mir_text.specs.declared.error.ListingError.{ListingError}
use Rattle.mir_base.specs.declared.trace.End.{End}
use Rattle.mir_base.specs.Lines.{line}
use Rattle.mir_base.specs.Trace.{Trace}
use Rattle.mir_machine.specs.Runs.{run_text}
use Rattle.mir_ty.specs.Named.{text_of}
use Rattle.drop_graphs.specs.declared.exact.Elaborated.{Elaborated}
use Rattle.mir_pipeline.specs.Built.{IsBuiltOf}
use Rattle.mir_pipeline.specs.Graphs.{IsAcceptedOf, IsLoweredOf, IsNotAccepted, RefusesUses}
use Rattle.mir_pipeline.specs.Programs.{HasAcceptedProgram, HasNoProgram, IsProgramOf}
use Rattle.mir_pipeline.specs.Runs.{EndsEachOnce, IsNeverStuck}
use Rattle.mir_pipeline.specs.declared.refusal.Refusal.{Refusal}
use Rattle.mir_pipeline.specs.declared.refusal.Refusal.TheVariants.{U1, U2}
use Rattle.listing_trip.specs.Trip.{ReadsBack}
use Rattle.listing_write.specs.Listing.{listing}
use Rattle.soak_text.specs.Text.{soak_text}
use Rattle.src_meaning.specs.Programs.{IsAccepted, source}
use Rattle.trace_summary.specs.Summary.{counts_of, summary_of}
use Rattle.typed_tree.specs.Tree.{ProgramTree}
use Rattle.mirdrop_program.specs.declared.request.Command.{Command}
use Rattle.mirdrop_program.specs.declared.request.Request.{Request}
use Rattle.mirdrop_program.specs.Refusals.{IsTold, IsToldError, error_line, refusal_lines}

-- the status of a run, by its end
abbrev pub end_status : End → ℕ
end_status End.Returned = 0
end_status End.Panicked = 10
end_status End.Aborted = 11
end_status End.OutOfTicks = 12
end_status (End.Stuck body block) = 13

abbrev pub accepted_line : List ℕ
accepted_line = line (codes "accepted")

-- a refusal of a use
abbrev pub IsOfUse : Refusal → Type 0
IsOfUse (U1 bad site) = ⊤
IsOfUse (U2 bad site) = ⊤
IsOfUse other = ⊥

-- the text of a run of a program, with its names
abbrev pub trace_text : ProgramTree → Trace × End → List ℕ
trace_text program run = text_of program.items run.0 run.1

module _ (text : List ℕ) where
  -- `check`: whether the program is accepted
  pub data OwedByCheck : ℕ → List ℕ → Type 0 where
    accepted : HasAcceptedProgram text → OwedByCheck 0 accepted_line
    not_accepted : (why : Refusal) → IsNotAccepted text why → IsTold why →
        OwedByCheck 1 (refusal_lines why)

  -- `raw`: the listing of its raw graph; where a use of it is bad, the lines of that are behind it
  pub data OwedByRaw : ℕ → List ℕ → Type 0 where
    listed : (lowered : Lowered) → IsAcceptedOf text lowered → OwedByRaw 0 (listing lowered.graph)
    listed_with_use : (lowered : Lowered) → IsLoweredOf text lowered → (why : Refusal) → RefusesUses lowered why →
        IsOfUse why → IsNotAccepted text why → OwedByRaw 0 (listing lowered.graph ++ refusal_lines why)
    no_program : (why : Refusal) → HasNoProgram text why → IsTold why → OwedByRaw 1 (refusal_lines why)

  -- `build`: the listing of its graph with exact drops, where the program is accepted; nothing but a graph that runs
  -- alike is read of that listing
  pub data OwedByBuild : ℕ → List ℕ → Type 0 where
    built : (done : Elaborated) → IsBuiltOf text done → ReadsBack done.graph → OwedByBuild 0 (listing done.graph)
    not_built : (why : Refusal) → IsNotAccepted text why → IsTold why → OwedByBuild 1 (refusal_lines why)

  -- `run`: the trace of the program, where it is accepted. No run of it is stuck, and each value that has a serial number
  -- ends exactly once in a run that returns or unwinds to its top, and at most once in any other
  pub data OwedByRun (asks : List ℤ) (ticks : ℕ) : ℕ → List ℕ → Type 0 where
    ran : (program : ProgramTree) → IsProgramOf text program → IsAccepted program → IsNeverStuck program →
        EndsEachOnce program →
        OwedByRun asks ticks (end_status (source program asks ticks).1)
        (trace_text program (source program asks ticks))
    not_run : (why : Refusal) → IsNotAccepted text why → IsTold why →
        OwedByRun asks ticks 1 (refusal_lines why)

  -- `exec`: the trace of the graph that the text lists
  pub data OwedByExec (asks : List ℤ) (ticks : ℕ) : ℕ → List ℕ → Type 0 where
    executed : (graph : Graph) → IsText text graph →
        OwedByExec asks ticks (end_status (graph_run graph asks ticks).1)
        (run_text graph (graph_run graph asks ticks))
    no_listing : (error : ListingError) → AnswersListing text (Err error) → IsToldError error →
        OwedByExec asks ticks 1 (error_line error)

-- `soak`: the summary of the run of its program, where 64 zeros are asked; of that program holds the same
abbrev pub zeros : List ℤ
zeros = replicate 64 (pos 0)

abbrev pub summary_of_run : ℕ → Trace × End → List ℕ
summary_of_run functions run = summary_of functions (counts_of run.0) run.1

pub data OwedBySoak (functions ticks : ℕ) : ℕ → List ℕ → Type 0 where
  summed : (program : ProgramTree) → IsProgramOf (soak_text functions) program → IsAccepted program →
      IsNeverStuck program → EndsEachOnce program →
      OwedBySoak functions ticks (end_status (source program zeros ticks).1)
      (summary_of_run functions (source program zeros ticks))

-- no text is read for `soak`, and what it is owed is the same whatever the text
abbrev pub owed_by : Command → Request → List ℕ → ℕ → List ℕ → Type 0
owed_by Command.Check request text = OwedByCheck text
owed_by Command.Raw request text = OwedByRaw text
owed_by Command.Build request text = OwedByBuild text
owed_by Command.Run request text = OwedByRun text request.asks request.ticks
owed_by Command.Exec request text = OwedByExec text request.asks request.ticks
owed_by (Command.Soak functions) request text = OwedBySoak functions request.ticks

abbrev pub Owed : Request → List ℕ → ℕ → List ℕ → Type 0
Owed request = owed_by request.command request

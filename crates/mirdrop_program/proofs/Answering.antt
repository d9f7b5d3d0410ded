-- What was done with the answer to a text.
use Rattle.std.proofs.Common.{◌≡◌, ℕ, ℤ, Bool, true, List, Option, Result, Ok, Err, IfOk, refl, sym, subst}
use Rattle.cfg_graph.specs.declared.graph.Graph.{Graph}
use Rattle.cfg_meaning.specs.Programs.{graph_run}
use Rattle.drop_graphs.specs.declared.exact.Elaborated.{Elaborated}
use Rattle.mir_base.specs.Trace.{Trace}
use Rattle.mir_base.specs.declared.trace.End.{End}
use Rattle.mir_text.specs.Answers.{IsText, Answers as AnswersListing}
use Rattle.mir_text.specs.declared.error.ListingError.{ListingError}
use Rattle.mir_base.specs.declared.memory.NoMemory.{NoMemory}
use Rattle.mir_machine.specs.Runs.{run_text}
use Rattle.mir_pipeline.specs.Built.{IsBuiltOf}
use Rattle.mir_pipeline.specs.Graphs.{IsNotAccepted}
use Rattle.mir_ty.specs.ItemTable.{ItemTable}
use Rattle.mir_ty.specs.Named.{text_of}
use Rattle.mir_pipeline.specs.declared.refusal.Refusal.{Refusal}
use Rattle.mirdrop_program.specs.declared.request.Command.{Command}
use Rattle.mirdrop_program.specs.declared.request.Request.{Request}
use Rattle.mirdrop_program.specs.Owed.{Owed, owed_by, OwedByRun, OwedByExec, ran, not_run, executed, no_listing, end_status}
use Rattle.mirdrop_program.specs.Refusals.{IsTold, IsToldError, error_line, refusal_lines}
use Rattle.mirdrop_program.specs.TopCall.{Responded, owing, cut_short, wanting, writes_a_trace}
use Rattle.mirdrop_program.specs.Written.{HandedOn, Ran, ran as ran_whole, cut}
use Rattle.mirdrop_program.specs.declared.answers.Answer.{Answer}
use Rattle.mirdrop_program.proofs.Owing.{as_said}

-- what is owed for the command of a request is owed to it
pub owes_by : (request : Request) (command : Command) (text : List ℕ) → request.command ≡ command → (status : ℕ) (written : List ℕ) →
    owed_by command request text status written → Owed request text status written
owes_by request command text is status written owed = subst (λ (c : Command). owed_by c request text status written) (sym is) owed

abbrev writes_by : Command → Type 0
writes_by command = writes_a_trace command ≡ true

module _ (request : Request) (text : List ℕ) (taken taken_after : Option (List ℕ)) (sink_failed : Type 0) where
  abbrev Done : ℕ → Type 0
  Done result = Responded request text taken taken_after sink_failed result

  pub handed_on : (O : ℕ → List ℕ → Type 0) → ((s : ℕ) (w : List ℕ) → O s w → Owed request text s w) → (r : Result Answer NoMemory) (result : ℕ) →
      IfOk r (λ answer. O answer.status answer.text.items) → HandedOn r taken taken_after sink_failed result → Done result
  handed_on O owes (Ok answer) result is done = owing (owes answer.status answer.text.items is) done
  handed_on O owes (Err want) result is done = subst Done (sym done.1) (wanting done.0)

  was_run : (status : ℕ) (written : List ℕ) (result : ℕ) → Owed request text status written → writes_by request.command →
      Ran status written taken taken_after sink_failed result → Done result
  was_run status written result owed writes (ran_whole d) = owing owed d
  was_run status written result owed writes (cut n h) = cut_short status written owed writes n h

  abbrev RanAs : ItemTable → Trace × End → ℕ → Type 0
  RanAs items run result = Ran (end_status run.1) (text_of items run.0 run.1) taken taken_after sink_failed result

  pub program_ran : (done : Elaborated) (result : ℕ) → request.command ≡ Command.Run → IsBuiltOf text done →
      RanAs done.graph.items (graph_run done.graph request.asks request.ticks) result → Done result
  program_ran done result is (program, p, built) wrote =
      was_run _ _ result
      (owes_by request Command.Run text is _ _ (ran program p built.source built.never_stuck built.once))
      (subst writes_by (sym is) refl)
      (subst (λ (run : Trace × End). RanAs program.items run result) (built.runs request.asks request.ticks)
      (subst (λ (items : ItemTable). RanAs items (graph_run done.graph request.asks request.ticks) result)
      built.elaborated.items wrote))

  pub listing_ran : (graph : Graph) (result : ℕ) → request.command ≡ Command.Exec → IsText text graph →
      Ran (end_status (graph_run graph request.asks request.ticks).1)
      (run_text graph (graph_run graph request.asks request.ticks)) taken taken_after sink_failed result →
      Done result
  listing_ran graph result is listed done =
      was_run _ _ result (owes_by request Command.Exec text is _ _ (executed graph listed))
      (subst writes_by (sym is) refl) done

pub run_refused : (text : List ℕ) (asks : List ℤ) (ticks : ℕ) (why : Refusal) (status : ℕ) (written : List ℕ) → IsNotAccepted text why → IsTold why →
    status ≡ 1 → written ≡ refusal_lines why → OwedByRun text asks ticks status written
run_refused text asks ticks why status written is told s w =
    as_said (OwedByRun text asks ticks) status 1 written (refusal_lines why) s w (not_run why is told)

pub exec_refused : (text : List ℕ) (asks : List ℤ) (ticks : ℕ) (error : ListingError) (status : ℕ) (written : List ℕ) → AnswersListing text (Err error) → IsToldError error →
    status ≡ 1 → written ≡ error_line error → OwedByExec text asks ticks status written
exec_refused text asks ticks error status written is told s w =
    as_said (OwedByExec text asks ticks) status 1 written (error_line error) s w (no_listing error is told)

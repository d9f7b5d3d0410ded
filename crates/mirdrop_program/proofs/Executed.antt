-- What `exec` owes to what `build` wrote is what `run` owes to the text.
use Rattle.std.proofs.Common.{◌≡◌, ℕ, ℤ, List, refl, ap, ◌∙◌, arith}
use Rattle.std.specs.Prelude.{Err, Ok}
use Rattle.cfg_meaning.specs.Programs.{graph_run}
use Rattle.drop_graphs.specs.declared.exact.Elaborated.{Elaborated}
use Rattle.listing_trip.specs.Trip.{IsReadAs, ReadsBack, RunsAs}
use Rattle.listing_write.specs.Listing.{listing}
use Rattle.mir_base.specs.declared.trace.End.{End}
use Rattle.mir_base.specs.Trace.{Trace}
use Rattle.mir_machine.specs.Runs.{run_text}
use Rattle.mir_pipeline.specs.Built.{IsBuiltOf}
use Rattle.mir_text.specs.declared.error.ListingError.{ListingError}
use Rattle.mir_ty.specs.ItemTable.{ItemTable}
use Rattle.mir_ty.specs.Named.{text_of}
use Rattle.src_meaning.specs.Programs.{source}
use Rattle.mirdrop_program.specs.Laws.{BuiltIsExecuted}
use Rattle.mirdrop_program.specs.Owed.{OwedByBuild, OwedByExec, OwedByRun, built, end_status, executed, no_listing, not_built, ran, trace_text}
use Rattle.mirdrop_program.specs.Refusals.{IsToldError}
use Rattle.mirdrop_program.proofs.Owing.{as_said}

module _ (text : List ℕ) (asks : List ℤ) (ticks : ℕ) where
  of_graph : (done : Elaborated) → IsBuiltOf text done → ReadsBack done.graph → (status : ℕ) (written : List ℕ) →
      OwedByExec (listing done.graph) asks ticks status written → OwedByRun text asks ticks status written
  of_graph done (program, p, is) back status written (executed graph read) =
      let alike : RunsAs done.graph graph = back (Ok graph) read in
      let same : graph_run graph asks ticks ≡ source program asks ticks = alike.runs asks ticks ∙ is.runs asks ticks in
      let run : Trace × End = graph_run done.graph asks ticks in
      as_said (OwedByRun text asks ticks) _ (end_status (source program asks ticks).1) _
      (trace_text program (source program asks ticks)) (ap (λ (r : Trace × End). end_status r.1) same)
      (alike.texts asks ticks ∙ ap (λ (items : ItemTable). text_of items run.0 run.1) is.elaborated.items
      ∙ ap (trace_text program) (is.runs asks ticks))
      (ran program p is.source is.never_stuck is.once)
  of_graph done is back status written (no_listing error answers told) = absurd (none error told (back (Err error) answers))
    where
      none : (error : ListingError) → IsToldError error → IsReadAs done.graph (Err error) → ⊥
      none ListingError.Memory told read = told
      none (ListingError.BadListing n) told read = read
      none (ListingError.BadGraph fault n) told read = read

  of_status : (s : ℕ) → s ≡ 0 → (listed : List ℕ) → OwedByBuild text s listed → (status : ℕ) (written : List ℕ) →
      OwedByExec listed asks ticks status written → OwedByRun text asks ticks status written
  of_status s is listed (built done how back) status written owed = of_graph done how back status written owed
  of_status s is listed (not_built why refused told) status written owed = absurd (omega (arith, is))

pub built_is_executed : BuiltIsExecuted
built_is_executed text listed asks ticks status written owed executes = of_status text asks ticks 0 refl listed owed status written executes

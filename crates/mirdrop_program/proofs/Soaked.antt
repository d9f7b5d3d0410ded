-- The program that `soak` runs: its text is built, and what is read of the listing of its graph runs as the program does.
use Rattle.std.proofs.Common.{◌≡◌, ◌<◌, ◌≤◌, ◌-◌, ◌^◌, ℕ, ℤ, List, length, refl, ap, ◌∙◌, arith}
use Rattle.cfg_graph.specs.declared.graph.Graph.{Graph}
use Rattle.cfg_meaning.specs.Programs.{graph_run}
use Rattle.drop_graphs.specs.declared.exact.Elaborated.{Elaborated}
use Rattle.mir_base.specs.Trace.{Trace}
use Rattle.mir_base.specs.declared.trace.End.{End}
use Rattle.mir_pipeline.specs.Built.{IsBuiltOf}
use Rattle.mir_pipeline.specs.Graphs.{IsNotAccepted}
use Rattle.mir_pipeline.specs.declared.refusal.Refusal.{Refusal}
use Rattle.listing_trip.specs.Trip.{RunsAs}
use Rattle.mirdrop_program.specs.Owed.{OwedBySoak, end_status, summary_of_run, summed, zeros}
use Rattle.mirdrop_program.specs.Written.{IsSoaked}
use Rattle.mirdrop_program.proofs.Owing.{as_said}
use Rattle.soak_laws.proofs.Accepted.{soak_is_short}
use Rattle.soak_text.specs.Text.{soak_text}
use Rattle.src_meaning.specs.Programs.{source}
use Rattle.text_laws.proofs.Soak.{soak_is_not_refused}
use Rattle.trace_summary.specs.declared.counts.Counts.{Counts}
use Rattle.trace_summary.specs.Summary.{counts_of, summary_of}

module _ (k : ℕ) (some : 1 ≤ k) (few : k ≤ 1500) where
  pub is_short : length (soak_text k) < 2 ^ 32 - 1
  is_short =
      let short = soak_is_short k some few in
      omega (arith, short)

  -- it is refused for want of memory alone
  pub refused_for_memory : (why : Refusal) → IsNotAccepted (soak_text k) why → why ≡ Refusal.Memory
  refused_for_memory why refused = soak_is_not_refused k why some few refused

  -- a graph that runs as the one that is built runs as the program
  pub listed : (done : Elaborated) (read : Graph) → IsBuiltOf (soak_text k) done → RunsAs done.graph read → IsSoaked k read
  listed done read (program, is, built) alike = record {
    program = program;
    read = is;
    accepted = built.source;
    runs = λ asked ticks. alike.runs asked ticks ∙ built.runs asked ticks;
    never_stuck = built.never_stuck;
    once = built.once;
  }

-- the summary of its run is what is owed
pub soaked : (k ticks : ℕ) (graph : Graph) (end : End) (counts : Counts) (status : ℕ) (written : List ℕ) →
    IsSoaked k graph → end ≡ (graph_run graph zeros ticks).1 → counts ≡ counts_of (graph_run graph zeros ticks).0 →
    status ≡ end_status end → written ≡ summary_of k counts end → OwedBySoak k ticks status written
soaked k ticks graph end counts status written is ends counted s w =
    let same : graph_run graph zeros ticks ≡ source is.program zeros ticks = is.runs zeros ticks in
    let run_end : end ≡ (source is.program zeros ticks).1 = ends ∙ ap (λ (r : Trace × End). r.1) same in
    let run_counts : counts ≡ counts_of (source is.program zeros ticks).0 =
    counted ∙ ap (λ (r : Trace × End). counts_of r.0) same in
    as_said (OwedBySoak k ticks) status (end_status (source is.program zeros ticks).1) written
    (summary_of_run k (source is.program zeros ticks)) (s ∙ ap end_status run_end)
    (w ∙ ap (λ (c : Counts). summary_of k c end) run_counts
    ∙ ap (λ (e : End). summary_of k (counts_of (source is.program zeros ticks).0) e) run_end)
    (summed is.program is.read is.accepted is.never_stuck is.once)

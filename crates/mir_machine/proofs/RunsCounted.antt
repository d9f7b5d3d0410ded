-- Runs whose events are counted.
use Rattle.std.proofs.Common.{◌≡◌, ◌<◌, ℕ, suc, ◌+◌, List, [], ◌∷◌, ◌++◌, map, take, length, get_or, Some, refl, ap, sym, subst, ◌∙◌}
use Rattle.std.proofs.lemmas.List.{append_assoc, append-nil, map_more}
use Rattle.cfg_graph.specs.declared.graph.Graph.{Graph}
use Rattle.mir_base.specs.declared.trace.End.{End}
use Rattle.mir_base.specs.declared.trace.Event.{Event}
use Rattle.mir_base.specs.Trace.{Trace}
use Rattle.mir_machine.proofs.RunsGoOn.{StillRuns, begins, ended, goes_on, handed_on}
use Rattle.mir_machine.specs.declared.tasks.Doing.{Doing}
use Rattle.mir_machine.specs.declared.tasks.Task.{Task}
use Rattle.mir_machine.specs.Runs.{Counting, ForRun, IsHandedOn, ended_by, events_of}
use Rattle.mir_machine.specs.Tasks.{AtEntry, Keeps, Next}
use Rattle.machine_steps.specs.declared.told.ToldEvents.{ToldEvents}
use Rattle.machine_steps.specs.declared.world.World.{World}
use Rattle.machine_steps.specs.Worlds.{event_of}
use Rattle.store_model.specs.Concrete.Bodies.{main_of}
use Rattle.trace_summary.specs.declared.counts.Counts.{Counts}
use Rattle.trace_summary.specs.Summary.{counts_of}

-- after some events were handed on, the machine does this next, and those were counted
abbrev pub AreCounted : Graph → World → World → List Task → Doing → Counts → Type 0
AreCounted graph first now tasks doing counts =
    (handed : Trace) × StillRuns graph first handed now tasks doing × (counts ≡ counts_of handed)

module _ (graph : Graph) (first now : World) (tasks : List Task) (doing : Doing) (counts : Counts) where
  pub counted_first : (main : ℕ) → main ≡ main_of graph.items → tasks ≡ [] →
      Keeps graph first now (AtEntry graph tasks (Event.Call main) main []) (Next graph tasks doing) →
      counts ≡ counts_of [] → AreCounted graph first now tasks doing counts
  counted_first main is none k c = ([], begins graph first now tasks main doing is none k, c)

  pub counted_on : (later : World) (others : List Task) (next : Doing) →
      AreCounted graph first now tasks doing counts →
      Keeps graph now later (Next graph tasks doing) (Next graph others next) →
      AreCounted graph first later others next counts
  counted_on later others next (handed, h, c) k = (handed, goes_on graph first now later handed tasks others doing next h k, c)

  pub counted_told : (later : World) (after : Counts) → AreCounted graph first now tasks doing counts →
      IsHandedOn now later → Counting counts after (events_of now.told) →
      AreCounted graph first later tasks doing after
  counted_told later after (handed, h, c) told counting =
      (handed ++ events_of now.told, handed_on graph first now later handed tasks doing h told, counting handed c)

  pub counts_are : (end : End) → ended_by doing ≡ Some end → now.told ≡ [] →
      AreCounted graph first now tasks doing counts →
      ForRun graph first (λ run. (run.1 ≡ end) × (counts ≡ counts_of run.0))
  counts_are end is none (handed, h, c) strict ticks run ranked runs enters =
      let e = ended graph first now handed tasks doing end is none h strict ticks run ranked runs enters in
      (ap (λ (r : Trace × End). r.1) e, c ∙ ap (λ (r : Trace × End). counts_of r.0) (sym e))

-- one event behind others that were counted
pub counting_more : (old now after : Counts) (told : List ToldEvents) (n : ℕ) (d : ToldEvents) → n < length told →
    Counting old now (map event_of (take n told)) → Counting now after (event_of (get_or told n d) ∷ []) →
    Counting old after (map event_of (take (n + 1) told))
counting_more old now after told n d within before one trace is =
    one (trace ++ map event_of (take n told)) (before trace is)
    ∙ ap counts_of
    (append_assoc trace (map event_of (take n told)) (event_of (get_or told n d) ∷ [])
    ∙ ap (λ more. trace ++ more) (sym (map_more event_of told n d within)))

-- none
pub counting_none : (counts : Counts) → Counting counts counts []
counting_none counts trace is = is ∙ ap counts_of (sym (append-nil trace))

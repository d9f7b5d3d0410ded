-- How a run goes on from turn to turn, while what was told is handed on.
use Rattle.std.proofs.Common.{◌≡◌, ℕ, Bool, List, [], ◌++◌, map, Option, Some, refl, ap, sym, subst, ◌∙◌, append-nil}
use Rattle.cfg_graph.specs.declared.graph.Graph.{Graph}
use Rattle.mir_base.specs.declared.trace.End.{End}
use Rattle.mir_base.specs.declared.trace.Event.{Event}
use Rattle.mir_base.specs.Trace.{Trace}
use Rattle.mir_machine.specs.declared.tasks.Doing.{Doing}
use Rattle.mir_machine.specs.declared.tasks.Task.{Task}
use Rattle.mir_machine.specs.Runs.{ForRun, IsHandedOn, ended_by}
use Rattle.mir_machine.specs.Tasks.{AreRanked, AtEntry, DoingLeft, Keeps, Next, RunsGraph}
use Rattle.machine_steps.specs.declared.told.ToldEvents.{ToldEvents}
use Rattle.machine_steps.specs.declared.world.World.{World}
use Rattle.machine_steps.specs.Worlds.{event_of, state_of}
use Rattle.store_model.specs.Concrete.Bodies.{main_of}

abbrev pub EntersMain : Graph → World → Bool → ℕ → Trace × End → Type 0
EntersMain graph world strict ticks run =
    AtEntry graph [] (Event.Call (main_of graph.items)) (main_of graph.items) [] strict ticks run (state_of [] world)

-- after these events were handed on, the run is what is left where the machine does this next
abbrev pub StillRuns : Graph → World → Trace → World → List Task → Doing → Type 0
StillRuns graph first handed now tasks doing =
    (strict : Bool) (ticks : ℕ) (run : Trace × End) → AreRanked graph → RunsGraph strict graph first →
    EntersMain graph first strict ticks run →
    RunsGraph strict graph now × DoingLeft strict graph ticks run tasks (state_of handed now) doing

module _ (graph : Graph) (first now : World) where
  pub begins : (tasks : List Task) (main : ℕ) (doing : Doing) → main ≡ main_of graph.items → tasks ≡ [] →
      Keeps graph first now (AtEntry graph tasks (Event.Call main) main []) (Next graph tasks doing) →
      StillRuns graph first [] now tasks doing
  begins tasks main doing is none k strict ticks run ranked runs h =
      k strict ticks run [] ranked runs
      (subst (λ tasks. AtEntry graph tasks (Event.Call main) main [] strict ticks run (state_of [] first)) (sym none)
      (subst (λ n. AtEntry graph [] (Event.Call n) n [] strict ticks run (state_of [] first)) (sym is) h))

  pub goes_on : (later : World) (handed : Trace) (tasks others : List Task) (doing next : Doing) →
      StillRuns graph first handed now tasks doing →
      Keeps graph now later (Next graph tasks doing) (Next graph others next) →
      StillRuns graph first handed later others next
  goes_on later handed tasks others doing next h k strict ticks run ranked runs enters =
      let s = h strict ticks run ranked runs enters in
      k strict ticks run handed ranked s.0 s.1

  pub handed_on : (later : World) (handed : Trace) (tasks : List Task) (doing : Doing) →
      StillRuns graph first handed now tasks doing → IsHandedOn now later →
      StillRuns graph first (handed ++ map event_of now.told) later tasks doing
  handed_on later handed tasks doing h (none, same_run, same) strict ticks run ranked runs enters =
      let s = h strict ticks run ranked runs enters in
      (same_run ∙ s.0, subst (λ w. DoingLeft strict graph ticks run tasks w doing) (sym (same handed)) s.1)

  -- the run has ended
  pub ended : (handed : Trace) (tasks : List Task) (doing : Doing) (end : End) → ended_by doing ≡ Some end →
      now.told ≡ [] → StillRuns graph first handed now tasks doing → ForRun graph first (λ run. run ≡ (handed, end))
  ended handed tasks doing end is none h strict ticks run ranked runs enters =
      by doing is (h strict ticks run ranked runs enters).1
    where
      by : (doing : Doing) → ended_by doing ≡ Some end →
          DoingLeft strict graph ticks run tasks (state_of handed now) doing → run ≡ (handed, end)
      by (Doing.Ended other) e l =
          let same : other ≡ end = cc in
          l ∙ ap (λ (t : List ToldEvents). (handed ++ map event_of t, other)) none
          ∙ ap (λ t. (t, other)) (append-nil handed) ∙ ap (λ e. (handed, e)) same
      by (Doing.Walks number block) e l = absurd (cc)
      by (Doing.Drops post drops turn) e l = absurd (cc)
      by (Doing.Returned value) e l = absurd (cc)
      by Doing.Unwound e l = absurd (cc)

-- Whole runs.
use Rattle.std.proofs.Common.{◌≡◌, ℕ, zero, suc, ◌+◌, Bool, true, false, List, [], ◌∷◌, ◌++◌, map, drop, Option, Some, None, string_bytes, refl, ap, sym, subst, ◌∙◌, arith, append_assoc, append-nil}
use Rattle.std.proofs.lemmas.Iterator.Adapters.{position_from-zero}
use Rattle.std.proofs.Math.Seq.{drop-cons}
use Rattle.std.proofs.lemmas.Option.{slice_get_within, get_or_from_slice_get}
use Rattle.std.specs.Cmp.Lexicographic.{pointwise}
use Rattle.std.specs.List.{position_from}
use Rattle.std.specs.Option.{option_map_or}
use Rattle.std.specs.Prelude.{nat_eq, codes, slice_get, ℤ}
use Rattle.cfg_graph.specs.declared.graph.Graph.{Graph}
use Rattle.cfg_meaning.specs.Programs.{setting_of}
use Rattle.mir_base.specs.declared.trace.End.{End}
use Rattle.mir_base.specs.declared.trace.Event.{Event}
use Rattle.mir_base.specs.Trace.{Trace}
use Rattle.mir_machine.specs.declared.tasks.Doing.{Doing}
use Rattle.mir_machine.specs.declared.tasks.Task.{Task}
use Rattle.cfg_meaning.specs.Laws.{bodies_of}
use Rattle.mir_machine.specs.Continuation.{left}
use Rattle.store_model.proofs.Concrete.Effects.{ticks_of}
use Rattle.mir_edge.specs.Told.{WhereTold}
use Rattle.mir_machine.proofs.FlowsOnward.{all_sent, flows_first, part_of}
use Rattle.mir_machine.proofs.OnlyAdds.{told_first}
use Rattle.mir_machine.proofs.RunsGoOn.{EntersMain, StillRuns, begins, ended, goes_on, handed_on}
use Rattle.mir_machine.specs.declared.trace_flow.TextFlow.{TextFlow}
use Rattle.mir_machine.specs.declared.error.RunError.{RunError}
use Rattle.mir_machine.specs.Flows.{Flows, FlowsOn, StopsIn}
use Rattle.mir_machine.specs.Runs.{ForRun, IsHandedOn, ended_by, events_of, lines_in, run_by, run_text}
use Rattle.mir_machine.specs.Errors.{TookPart}
use Rattle.mir_base.specs.Lines.{end_line}
use Rattle.mir_ty.specs.Named.{line_of}
use Rattle.mir_machine.specs.Tasks.{AreRanked, AtEntry, DoingLeft, Keeps, Next, RunsGraph}
use Rattle.machine_steps.specs.declared.told.ToldEvents.{ToldEvents}
use Rattle.machine_steps.specs.declared.world.World.{World}
use Rattle.machine_store.specs.Activations.{activations_of}
use Rattle.machine_steps.specs.Worlds.{event_of, state_of, run_setting}
use Rattle.mir_ty.specs.declared.def.Sig.{Sig}
use Rattle.mir_ty.specs.ItemTable.{ItemTable}
use Rattle.store_model.specs.Concrete.Bodies.{main_of}
use Rattle.store_model.specs.Concrete.State.{beginning}

-- The number of `main`.

abbrev pub is_main : Sig → Bool
is_main sig = pointwise nat_eq sig.name (codes "main")

abbrev pub number_or_zero : Option ℕ → ℕ
number_or_zero o = option_map_or (λ n. n) o 0

abbrev pub main_from : List Sig → ℕ → ℕ
main_from sigs n = number_or_zero (position_from is_main n (drop n sigs))

pub main_at_first : (items : ItemTable) → main_of items ≡ main_from items.bodies 0
main_at_first items = ap number_or_zero (position_from-zero is_main items.bodies)

sig_next : (sigs : List Sig) (n : ℕ) (sig : Sig) → slice_get sigs n ≡ Some sig → drop n sigs ≡ sig ∷ drop (suc n) sigs
sig_next sigs n sig e = drop-cons sigs n sig (slice_get_within sigs n sig e) ∙ ap (λ x. x ∷ drop (suc n) sigs) (get_or_from_slice_get sigs n sig sig e)

module _ (sigs : List Sig) (n : ℕ) (sig : Sig) (there : slice_get sigs n ≡ Some sig) where
  pub main_found : is_main sig ≡ true → main_from sigs n ≡ n
  main_found e = ap (λ l. number_or_zero (position_from is_main n l)) (sig_next sigs n sig there) ∙ rw e refl

  pub main_passed : is_main sig ≡ false → main_from sigs n ≡ main_from sigs (n + 1)
  main_passed e =
      ap (λ l. number_or_zero (position_from is_main n l)) (sig_next sigs n sig there)
      ∙ rw e (ap (λ k. number_or_zero (position_from is_main (n + 1) (drop k sigs))) (let s : suc n ≡ n + 1 = omega arith in s))

past : {A : Type 0} (list : List A) (n : ℕ) → slice_get list n ≡ None → drop n list ≡ []
past [] zero e = refl
past [] (suc n) e = refl
past (x ∷ list) zero e = absurd (cc)
past (x ∷ list) (suc n) e = past list n e

pub no_main : (sigs : List Sig) (n : ℕ) → slice_get sigs n ≡ None → main_from sigs n ≡ 0
no_main sigs n e = ap (λ l. number_or_zero (position_from is_main n l)) (past sigs n e)

-- The turns of a run.

-- so the lines of what was handed on flow to the sink
abbrev pub IsTold : Option (List ℕ) → Option (List ℕ) → Graph → World → World → List Task → Doing → TextFlow → Type 0
IsTold start taken graph first now tasks doing flow = (handed : Trace) × StillRuns graph first handed now tasks doing × Flows start taken (lines_in graph handed) flow

pub told_first_of_all : (start : Option (List ℕ)) (graph : Graph) (first now : World) (tasks : List Task) (main : ℕ) (doing : Doing) (flow : TextFlow) → main ≡ main_of graph.items → tasks ≡ [] →
    Keeps graph first now (AtEntry graph tasks (Event.Call main) main []) (Next graph tasks doing) → flow.sent ≡ 0 → string_bytes flow.piece ≡ [] → IsTold start start graph first now tasks doing flow
told_first_of_all start graph first now tasks main doing flow is none k sent waits = ([], begins graph first now tasks main doing is none k, flows_first start flow sent waits)

module _ (start old new : Option (List ℕ)) (graph : Graph) (first now later : World) where
  pub told_goes_on : (tasks others : List Task) (doing next : Doing) (flow : TextFlow) → IsTold start old graph first now tasks doing flow →
      Keeps graph now later (Next graph tasks doing) (Next graph others next) → IsTold start old graph first later others next flow
  told_goes_on tasks others doing next flow (handed, h, f) k =
      (handed, goes_on graph first now later handed tasks others doing next h k, f)

lines_append : (graph : Graph) (a b : Trace) → lines_in graph (a ++ b) ≡ lines_in graph a ++ lines_in graph b
lines_append graph [] b = refl
lines_append graph (event ∷ a) b = ap (λ l. line_of graph.items event ++ l) (lines_append graph a b) ∙ sym (append_assoc (line_of graph.items event) (lines_in graph a) (lines_in graph b))

module _ (start old new : Option (List ℕ)) (graph : Graph) (first now : World) (tasks : List Task) (doing : Doing) (flow : TextFlow) where
  pub told_handed : (later : World) (after : TextFlow) → IsTold start old graph first now tasks doing flow → IsHandedOn now later →
      FlowsOn old new flow after (lines_in graph (events_of now.told)) → IsTold start new graph first later tasks doing after
  told_handed later after (handed, h, f) (none, runs, same) flows = (
    handed ++ events_of now.told,
    handed_on graph first now later handed tasks doing h (none, runs, same),
    subst (λ text. Flows start new text after) (sym (lines_append graph handed (events_of now.told))) (flows start (lines_in graph handed) f),
  )

  -- what the sink took is part of what the run tells
  pub told_cut : (error : RunError) → IsTold start old graph first now tasks doing flow → StopsIn old new flow (lines_in graph (events_of now.told)) error →
      ForRun graph first (λ run. TookPart (run_text graph run) start new error)
  told_cut error (handed, h, f) stops strict ticks run ranked runs enters =
      part_of start new (lines_in graph handed ++ lines_in graph (events_of now.told)) (lines_in graph first_of.0 ++ end_line run.1) (run_text graph run) whole error
      (stops start (lines_in graph handed) f)
    where
      first_of : (further : Trace) × (run.0 ≡ (handed ++ events_of now.told) ++ further)
      first_of = told_first strict graph ticks run tasks (state_of handed now) doing (h strict ticks run ranked runs enters).1

      whole : run_text graph run ≡ (lines_in graph handed ++ lines_in graph (events_of now.told)) ++ (lines_in graph first_of.0 ++ end_line run.1)
      whole =
          ap (λ t. lines_in graph t ++ end_line run.1) first_of.1
          ∙ ap (λ l. l ++ end_line run.1)
          (lines_append graph (handed ++ events_of now.told) first_of.0 ∙ ap (λ l. l ++ lines_in graph first_of.0) (lines_append graph handed (events_of now.told)))
          ∙ append_assoc (lines_in graph handed ++ lines_in graph (events_of now.told)) (lines_in graph first_of.0) (end_line run.1)

  pub told_in_want : IsTold start old graph first now tasks doing flow → ForRun graph first (λ run. TookPart (run_text graph run) start old RunError.Memory)
  told_in_want told = by told
    where
      by : IsTold start old graph first now tasks doing flow → ForRun graph first (λ run. TookPart (run_text graph run) start old RunError.Memory)
      by (handed, h, f) strict ticks run ranked runs enters =
          part_of start old (lines_in graph handed) (lines_in graph (events_of now.told ++ first_of.0) ++ end_line run.1) (run_text graph run) whole RunError.Memory
          (λ taken at. (flow.sent, f.0, f.2 taken at))
        where
          first_of : (further : Trace) × (run.0 ≡ (handed ++ events_of now.told) ++ further)
          first_of = told_first strict graph ticks run tasks (state_of handed now) doing (h strict ticks run ranked runs enters).1

          whole : run_text graph run ≡ lines_in graph handed ++ (lines_in graph (events_of now.told ++ first_of.0) ++ end_line run.1)
          whole =
              ap (λ t. lines_in graph t ++ end_line run.1) (first_of.1 ∙ append_assoc handed (events_of now.told) first_of.0)
              ∙ ap (λ l. l ++ end_line run.1) (lines_append graph handed (events_of now.told ++ first_of.0))
              ∙ append_assoc (lines_in graph handed) (lines_in graph (events_of now.told ++ first_of.0)) (end_line run.1)

  -- the run has ended
  module _ (end : End) (is : ended_by doing ≡ Some end) (none : now.told ≡ []) where
    pub end_is : IsTold start old graph first now tasks doing flow → ForRun graph first (λ run. run.1 ≡ end)
    end_is (handed, h, f) strict ticks run ranked runs enters = ap (λ (run : Trace × End). run.1) (ended graph first now handed tasks doing end is none h strict ticks run ranked runs enters)

    pub text_is : (after : TextFlow) → IsTold start old graph first now tasks doing flow → FlowsOn old new flow after (end_line end) → string_bytes after.piece ≡ [] →
        ForRun graph first (λ run. WhereTold start (λ taken. new ≡ Some (taken ++ run_text graph run)))
    text_is after (handed, h, f) flows waits strict ticks run ranked runs enters = λ taken at.
        all_sent start new (lines_in graph handed ++ end_line end) after (flows start (lines_in graph handed) f) waits taken at
        ∙ ap (λ run. Some (taken ++ run_text graph run)) (sym (ended graph first now handed tasks doing end is none h strict ticks run ranked runs enters))

    pub part_is : (error : RunError) → IsTold start old graph first now tasks doing flow → StopsIn old new flow (end_line end) error →
        ForRun graph first (λ run. TookPart (run_text graph run) start new error)
    part_is error (handed, h, f) stops strict ticks run ranked runs enters =
        part_of start new (lines_in graph handed ++ end_line end) [] (run_text graph run)
        (ap (run_text graph) (ended graph first now handed tasks doing end is none h strict ticks run ranked runs enters) ∙ sym (append-nil (lines_in graph handed ++ end_line end))) error
        (stops start (lines_in graph handed) f)

-- where memory is wanted at first, nothing was sent
pub nothing_told : (start : Option (List ℕ)) (text : List ℕ) → TookPart text start start RunError.Memory
nothing_told start text = λ taken at. (0, at ∙ ap Some (sym (append-nil taken)))

-- the run of a graph is told
module _ (strict : Bool) (graph : Graph) (asked : List ℤ) (ticks : ℕ) (world : World) (is : state_of [] world ≡ beginning asked ticks) (runs : run_setting world ≡ setting_of strict graph) (ranked : AreRanked graph) where
  pub run_is_told : (Says : Trace × End → Type 0) → ForRun graph world Says → Says (run_by strict graph asked ticks)
  run_is_told Says tells = by strict refl
    where
      entry : (strictly : Bool) → strict ≡ strictly → (run : Trace × End) →
          run ≡ left strict graph (suc ticks) [] (bodies_of strict graph (suc ticks) (Event.Call (main_of graph.items)) (main_of graph.items) [] (beginning asked ticks)) → EntersMain graph world strict (suc ticks) run
      entry strictly s run e = record {
        waiting = [];
        waits = refl;
        answer = bodies_of strict graph (suc ticks) (Event.Call (main_of graph.items)) (main_of graph.items) [] (state_of [] world);
        is_answer = refl;
        is = e ∙ ap (λ w. left strict graph (suc ticks) [] (bodies_of strict graph (suc ticks) (Event.Call (main_of graph.items)) (main_of graph.items) [] w)) (sym is);
        within = (let k : world.ticks ≡ ticks = ap ticks_of is in omega arith);
      }

      by : (strictly : Bool) → strict ≡ strictly → Says (run_by strict graph asked ticks)
      by true s = tells strict (suc ticks) (run_by strict graph asked ticks) ranked runs (entry true s (run_by strict graph asked ticks) (ap (λ b. run_by b graph asked ticks) s ∙ ap (λ b. left b graph (suc ticks) [] (bodies_of b graph (suc ticks) (Event.Call (main_of graph.items)) (main_of graph.items) [] (beginning asked ticks))) (sym s)))
      by false s = tells strict (suc ticks) (run_by strict graph asked ticks) ranked runs (entry false s (run_by strict graph asked ticks) (ap (λ b. run_by b graph asked ticks) s ∙ ap (λ b. left b graph (suc ticks) [] (bodies_of b graph (suc ticks) (Event.Call (main_of graph.items)) (main_of graph.items) [] (beginning asked ticks))) (sym s)))

-- what was told is let go
pub handed_over : (old : World) (told : List ToldEvents) → told ≡ [] → IsHandedOn old (record old { told = told })
handed_over old told none = (
  none,
  refl,
  λ before. ap (λ (told : List ToldEvents). state_of (before ++ events_of old.told) (record old { told = told })) none
      ∙ ap (λ (trace : Trace). record (state_of before old) { trace = trace }) (append-nil (before ++ events_of old.told)),
)

-- a world in which nothing was done is at the beginning
pub at_start : (world : World) → activations_of world.store ≡ [] → world.told ≡ [] → world.serial ≡ 1 → state_of [] world ≡ beginning world.asks.now world.ticks
at_start world none nothing first =
    λ i. record { asked = world.asks.now; ticks = world.ticks; serial = first i; activations = none i; trace = map event_of (nothing i) }

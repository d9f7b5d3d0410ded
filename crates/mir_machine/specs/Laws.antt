-- The laws of what is left of a run.
use Rattle.std.specs.Prelude.{◌≡◌, ℕ, suc, ◌≤◌, ℤ, Bool, true, false, All, List, [], ◌∷◌, Some}
use Rattle.cfg_graph.specs.declared.graph.Body.{Body}
use Rattle.cfg_graph.specs.declared.graph.Graph.{Graph}
use Rattle.cfg_graph.specs.declared.place.Operand.{Operand}
use Rattle.cfg_graph.specs.declared.place.Place as places
use Rattle.cfg_graph.specs.declared.terminator.Term.{Term}
use Rattle.cfg_graph.specs.Edges.{IsRanked}
use Rattle.cfg_meaning.specs.Actions.{site_of, operands_of}
use Rattle.cfg_meaning.specs.Laws.{bodies_of, concrete_effects_of}
use Rattle.cfg_meaning.specs.Programs.{graph_run, raw_graph_run, setting_of}
use Rattle.cfg_meaning.specs.Walk.{naming, stuck_in, term_does, unfolded}
use Rattle.mir_base.specs.declared.trace.End.{End}
use Rattle.mir_base.specs.declared.trace.Event.{Event}
use Rattle.mir_base.specs.Trace.{Trace}
use Rattle.mir_machine.specs.Continuation.{WaitingBody, Waiting, ForCall, ForDrop, walks, entered, resumed, left}
use Rattle.store_model.specs.Concrete.Bodies.{ended, main_of, outcome_of}
use Rattle.store_model.specs.Concrete.Effects.{evaluate_operands, never_at}
use Rattle.store_model.specs.Concrete.State.{HaltsIn, State, beginning}
use Rattle.store_model.specs.Effects.{Halt, Stuck, Halts}
use Rattle.store_model.specs.Values.Datum.{Datum}

-- a run is what is left as `main` is entered and nothing waits
abbrev pub IsLeftAtFirst : Bool → (Graph → List ℤ → ℕ → Trace × End) → Type 0
IsLeftAtFirst strict run =
    (graph : Graph) (asked : List ℤ) (ticks : ℕ) →
    run graph asked ticks
    ≡ left strict graph (suc ticks) []
    (bodies_of strict graph (suc ticks) (Event.Call (main_of graph.items)) (main_of graph.items) []
    (beginning asked ticks))

abbrev pub RunIsLeft : Type 0
RunIsLeft = IsLeftAtFirst true graph_run

abbrev pub RawRunIsLeft : Type 0
RawRunIsLeft = IsLeftAtFirst false raw_graph_run

-- with no more ticks than those of the run, a body calls the same bodies
abbrev pub BodyIsOneEquation : Type 0
BodyIsOneEquation =
    (strict : Bool) (graph : Graph) (ticks : ℕ) (event : Event) (number : ℕ) (args : List Datum) (w : State) →
    w.ticks ≤ ticks → bodies_of strict graph ticks event number args w ≡ entered strict graph ticks event number args w

-- the walk of a ranked body is what its block does, and then a walk
abbrev pub WalkIsOneEquation : Type 0
WalkIsOneEquation =
    (strict : Bool) (graph : Graph) (ticks number : ℕ) (body : Body) → IsRanked body → (block : ℕ) (w : State) →
    w.ticks ≤ ticks →
    walks strict graph ticks number body block w
    ≡ unfolded (concrete_effects_of strict graph ticks) number (λ block line. 0) body
    (walks strict graph ticks number body) block w

-- a call leaves its body to wait for the one that it calls
abbrev pub CallIsOneEquation : Type 0
CallIsOneEquation =
    (strict : Bool) (graph : Graph) (ticks : ℕ) (place : WaitingBody) (to : places.Place) (callee : ℕ)
    (args : List Operand)
    (w after : State) (values : List Datum) →
    evaluate_operands (setting_of strict graph) (operands_of 0 args) w ≡ Some (values, after) →
    ended place.number 0
    (term_does (naming (stuck_in place.number place.block) (concrete_effects_of strict graph ticks)) 0
    (Term.Call to callee args place.onward place.unwind) (walks strict graph ticks place.number place.body) w)
    ≡ resumed strict graph ticks (ForCall place (site_of 0 to) (never_at (setting_of strict graph) w (site_of 0 to)))
    (bodies_of strict graph ticks (Event.Call callee) callee values after)

-- a halt that is known by its block, if it has one
abbrev pub IsPlaced : Halt → Type 0
IsPlaced Stuck = ⊥
IsPlaced halt = Unit {0}

-- a drop that waits for a `Drop` body halts with it
abbrev pub HaltsWithIt : Waiting → Type 0
HaltsWithIt (ForCall place to lost) = Unit {0}
HaltsWithIt (ForDrop place comes_to) = (halt : Halt) (w : State) → comes_to (HaltsIn halt w) ≡ Halts halt w

-- where a run halts nothing else comes
abbrev pub HaltEndsTheRun : Type 0
HaltEndsTheRun =
    (strict : Bool) (graph : Graph) (ticks : ℕ) (waiting : List Waiting) (halt : Halt) (w : State) →
    All HaltsWithIt waiting → IsPlaced halt →
    left strict graph ticks waiting (HaltsIn halt w) ≡ outcome_of (HaltsIn halt w)

abbrev pub place_of : Waiting → WaitingBody
place_of (ForCall place to lost) = place
place_of (ForDrop place comes_to) = place

-- a body that the graph does not have is stuck in the block that called it
abbrev pub StuckBodyHasTheBlockOfItsCaller : Type 0
StuckBodyHasTheBlockOfItsCaller =
    (strict : Bool) (graph : Graph) (ticks : ℕ) (first : Waiting) (waiting : List Waiting) (w : State) →
    All HaltsWithIt (first ∷ waiting) →
    left strict graph ticks (first ∷ waiting) (HaltsIn Stuck w)
    ≡ (w.trace, End.Stuck (place_of first).number (place_of first).block)

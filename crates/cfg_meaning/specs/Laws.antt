-- The laws of walks and runs. The fuel by which a walk is defined never ends it, so it is one equation without them;
-- and a run does not change what it did by one tick more.
use Rattle.std.specs.Prelude.{◌≡◌, ℕ, suc, ◌<◌, ◌≤◌, ℤ, Bool, List, length, Option}
use Rattle.cfg_graph.specs.declared.graph.Body.{Body}
use Rattle.cfg_graph.specs.declared.graph.Graph.{Graph}
use Rattle.cfg_graph.specs.Edges.{IsRanked}
use Rattle.cfg_meaning.specs.Programs.{setting_of, code_of, graph_run, raw_graph_run}
use Rattle.cfg_meaning.specs.Walk.{unfolded, walk}
use Rattle.mir_base.specs.declared.trace.Event.{Event}
use Rattle.mir_ty.specs.declared.ty.TyId.{TyId}
use Rattle.mir_ty.specs.ItemTable.{ItemTable}
use Rattle.store_model.specs.Concrete.Effects.{concrete_effects}
use Rattle.store_model.specs.Values.Datum.{Datum}
use Rattle.store_model.specs.Effects.{Effects}
use Rattle.store_model.specs.Concrete.Bodies.{run_body, GoesOnFrom}
use Rattle.store_model.specs.Abstract.Effects.{AbstractState, abstract_effects}
use Rattle.store_model.specs.Concrete.State.{State, Bodies}

-- the effects on values, where the bodies that are called are those of a graph, nested no deeper than so much
abbrev pub concrete_effects_of : Bool → Graph → ℕ → Effects State
concrete_effects_of strict graph n =
    concrete_effects (setting_of strict graph) (run_body (setting_of strict graph) (code_of graph) n) (suc n)

-- the walk of a body is what its first block does, and then a walk
abbrev pub IsOneEquation :
    {W : Type 0} → Effects W → ℕ → (ℕ → ℕ → ℕ) → Body → (fuel block : ℕ) → W → Type 0
IsOneEquation p number node body fuel block w =
    walk p number node body fuel block w ≡ unfolded p number node body (walk p number node body fuel) block w

-- with fewer ticks than the fuel for turns, the walk of a ranked body is one equation
abbrev pub WalkIsOneEquation : Type 0
WalkIsOneEquation =
    (strict : Bool) (graph : Graph) (n number : ℕ) (node : ℕ → ℕ → ℕ) (body : Body) → IsRanked body →
    (fuel block : ℕ) (w : State) → w.ticks < fuel →
    IsOneEquation (concrete_effects_of strict graph n) number node body fuel block w

-- two amounts of fuel that are greater than the ticks give the same walk
abbrev pub FuelOfWalksIsIrrelevant : Type 0
FuelOfWalksIsIrrelevant =
    (strict : Bool) (graph : Graph) (n number : ℕ) (node : ℕ → ℕ → ℕ) (body : Body) → IsRanked body →
    (fuel other block : ℕ) (w : State) → w.ticks < fuel → w.ticks < other →
    walk (concrete_effects_of strict graph n) number node body fuel block w
    ≡ walk (concrete_effects_of strict graph n) number node body other block w

-- with fewer choices than the fuel for turns, the free walk of a ranked body is one equation
abbrev pub FreeWalkIsOneEquation : Type 0
FreeWalkIsOneEquation =
    (items : ItemTable) (local_ty : ℕ → Option TyId) (number : ℕ) (node : ℕ → ℕ → ℕ) (body : Body) →
    IsRanked body → (fuel block : ℕ) (w : AbstractState) → length w.choices < fuel →
    IsOneEquation (abstract_effects items local_ty) number node body fuel block w

-- two amounts of fuel that are greater than the number of choices give the same free walk
abbrev pub FuelOfFreeWalksIsIrrelevant : Type 0
FuelOfFreeWalksIsIrrelevant =
    (items : ItemTable) (local_ty : ℕ → Option TyId) (number : ℕ) (node : ℕ → ℕ → ℕ) (body : Body) →
    IsRanked body → (fuel other block : ℕ) (w : AbstractState) → length w.choices < fuel → length w.choices < other →
    walk (abstract_effects items local_ty) number node body fuel block w
    ≡ walk (abstract_effects items local_ty) number node body other block w

abbrev pub bodies_of : Bool → Graph → ℕ → Bodies
bodies_of strict graph n = run_body (setting_of strict graph) (code_of graph) n

-- Two amounts of fuel for nesting that are no less than the ticks give the same run of a body, whatever its graph is;
-- the fuel for turns and for drops goes with it.
abbrev pub FuelOfGraphRunsIsIrrelevant : Type 0
FuelOfGraphRunsIsIrrelevant =
    (strict : Bool) (graph : Graph) (n m : ℕ) (event : Event) (body : ℕ) (args : List Datum) (w : State) →
    w.ticks ≤ n → w.ticks ≤ m → bodies_of strict graph n event body args w ≡ bodies_of strict graph m event body args w

-- a run that is not out of ticks is the same with one tick more, and otherwise it goes on from the same events
abbrev pub GraphRunGoesOn : Type 0
GraphRunGoesOn =
    (graph : Graph) (asked : List ℤ) (ticks : ℕ) → GoesOnFrom (graph_run graph asked ticks)
    (graph_run graph asked (suc ticks))

abbrev pub RawGraphRunGoesOn : Type 0
RawGraphRunGoesOn =
    (graph : Graph) (asked : List ℤ) (ticks : ℕ) →
    GoesOnFrom (raw_graph_run graph asked ticks) (raw_graph_run graph asked (suc ticks))

-- What is left of a run, by what the machine holds: the tasks that wait, and what is done next.
use Rattle.std.specs.Prelude.{◌≡◌, ℕ, suc, ◌≤◌, Bool, true, false, List, [], ◌∷◌, Option, Some, None, slice_get, option_map, option_and_then}
use Rattle.cfg_graph.specs.declared.graph.Block.{Block}
use Rattle.cfg_graph.specs.declared.graph.Body.{Body}
use Rattle.cfg_graph.specs.declared.graph.Graph.{Graph}
use Rattle.cfg_graph.specs.declared.place.Place as places
use Rattle.cfg_graph.specs.declared.terminator.Term.{Term}
use Rattle.cfg_graph.specs.Edges.{IsRanked}
use Rattle.cfg_meaning.specs.Actions.{site_of}
use Rattle.cfg_meaning.specs.Laws.{bodies_of, concrete_effects_of}
use Rattle.cfg_meaning.specs.Programs.{setting_of}
use Rattle.cfg_meaning.specs.Walk.{naming, stuck_in, term_does}
use Rattle.machine_steps.specs.declared.drops.Drops.{Drops}
use Rattle.machine_steps.specs.Continuation.{AwaitsLeft}
use Rattle.cfg_meaning.specs.Actions.{mode_of}
use Rattle.machine_steps.specs.Turns.{IsDropOf, IsResumedBy, TurnLeft, levels_of, mode_by}
use Rattle.machine_store.specs.declared.types.Dynamic.{Dynamic}
use Rattle.store_model.specs.declared.address.Addr.{Addr}
use Rattle.mir_base.specs.declared.trace.End.{End}
use Rattle.mir_base.specs.Trace.{Trace}
use Rattle.mir_machine.specs.declared.tasks.Doing.{Doing}
use Rattle.mir_machine.specs.declared.tasks.Post.{Post}
use Rattle.mir_machine.specs.declared.tasks.Task.{Task}
use Rattle.mir_machine.specs.Continuation.{WaitingBody, Waiting, ForCall, ForDrop, walks, goes_on, left}
use Rattle.machine_steps.specs.declared.actions.Outcome.{Outcome}
use Rattle.machine_steps.specs.declared.world.World.{World}
use Rattle.cfg_graph.specs.declared.place.Operand.{Operand}
use Rattle.machine_steps.specs.Worlds.{Evaluates, state_of, run_setting}
use Rattle.machine_store.specs.Standing.{dynamic_of}
use Rattle.store_model.specs.Concrete.Bodies.{ended}
use Rattle.store_model.specs.Concrete.State.{Answer, Returns, Unwinds, State}
use Rattle.cfg_graph.specs.declared.graph.Kind.{Kind}
use Rattle.cfg_graph.specs.declared.statement.Stmt.{Stmt}
use Rattle.cfg_meaning.specs.Walk.{stmts_do}
use Rattle.machine_steps.specs.declared.drops.Turn.{Turn}
use Rattle.mir_base.specs.declared.trace.Event.{Event}
use Rattle.mir_ty.specs.ItemTable.{ItemTable, type_at}
use Rattle.store_model.specs.Concrete.Effects.{concrete_effects, put}
use Rattle.store_model.specs.Concrete.Location.{DynamicType, OfType, OfObject}
use Rattle.store_model.specs.Concrete.State.{Bodies, tick}
use Rattle.store_model.specs.Effects.{Halt, OutOfTicks, Stuck, Out, Go, Unwind, Halts, halting_if}
use Rattle.store_model.specs.Places.TypeForms.{is_dyn_of}
use Rattle.store_model.specs.declared.value.Value.{Value}
use Rattle.store_model.specs.Values.Datum.{Datum, datum_of}
use Rattle.store_model.specs.Values.Wholeness.{IsWhole}

-- each body of a graph is ranked, as in every graph without a fault
abbrev pub AreRanked : Graph → Type 0
AreRanked graph = (n : ℕ) (body : Body) → slice_get graph.bodies n ≡ Some body → IsRanked body

abbrev pub body_if : Bool → Option ℕ → Option ℕ
body_if true body = body
body_if false body = None

-- the place into which a call stores its result
abbrev pub result_of : Term → Option places.Place
result_of (Term.Call to body args onward unwind) = Some to
result_of (Term.Virtual to trait_no method args onward unwind) = Some to
result_of term = None

abbrev pub block_in : Graph → ℕ → ℕ → Option Block
block_in graph number block = option_and_then (λ body. slice_get body.blocks block) (slice_get graph.bodies number)

-- the terminator of a block, and the place into which it stores the result of a body
abbrev pub term_in : Graph → ℕ → ℕ → Option Term
term_in graph number block = option_map (λ block. block.term) (block_in graph number block)

abbrev pub destination_in : Graph → ℕ → ℕ → Option places.Place
destination_in graph number block = option_and_then result_of (term_in graph number block)

-- a body that waits in a block
abbrev pub place_in : Post → Body → WaitingBody
place_in post body = record {
  number = post.number;
  body = body;
  block = post.block;
  onward = post.onward;
  unwind = post.unwind;
}

module _ (strict : Bool) (graph : Graph) (ticks : ℕ) where
  -- a call waits for the body that it called, to store its result
  pub record CallWaits (post : Post) (lost : Bool) (waiting : Waiting) : Type 0 where
    pub body : Body
    pub there : slice_get graph.bodies post.number ≡ Some body
    pub to : places.Place
    pub leads : destination_in graph post.number post.block ≡ Some to
    pub is : waiting ≡ ForCall (place_in post body) (site_of 0 to) lost

  -- a drop waits for a `Drop` body that was entered when no fewer ticks were left than so many
  pub record DropWaits (least : ℕ) (post : Post) (drops : Drops) (outs : Answer → Out State) (waiting : Waiting)
      (Awaits : State → Type 0) : Type 0 where
    pub body : Body
    pub there : slice_get graph.bodies post.number ≡ Some body
    pub w : State
    pub later : least ≤ w.ticks
    pub awaits : Awaits w
    pub is : waiting ≡ ForDrop (place_in post body) outs

  -- what a task waits for
  abbrev pub WaitsFor : ℕ → Task → Waiting → Type 0
  WaitsFor least (Task.Call post lost) waiting = CallWaits post lost waiting
  WaitsFor least (Task.Drop post drops dynamic) waiting =
      (outs : Answer → Out State) × DropWaits least post drops outs waiting
      (λ w. AwaitsLeft (setting_of strict graph) (bodies_of strict graph ticks) drops.address.depth drops.address.key.0
      (levels_of drops.levels) w drops.address.path (mode_by drops.unwinds) drops.panicked outs (dynamic_of dynamic))

  -- what the tasks wait for, the youngest of which is the last, on top of what waits before them
  abbrev pub AllWait : ℕ → List Task → List Waiting → List Waiting → Type 0
  AllWait least [] older waiting = waiting ≡ older
  AllWait least (task ∷ tasks) older waiting = (first : Waiting) × WaitsFor least task first
      × AllWait least tasks (first ∷ older) waiting

  -- a run is what is left where the youngest body ends so, and the drops that wait began with no fewer ticks
  pub record RunLeftFrom (least : ℕ) (run : Trace × End) (tasks : List Task) (w : State)
      (IsAnswer : Answer → Type 0) : Type 0 where
    pub waiting : List Waiting
    pub waits : AllWait least tasks [] waiting
    pub answer : Answer
    pub is_answer : IsAnswer answer
    pub is : run ≡ left strict graph ticks waiting answer
    pub within : w.ticks ≤ ticks

  -- the same where a tick was spent since each of these drops began
  abbrev pub RunLeft : Trace × End → List Task → State → (Answer → Type 0) → Type 0
  RunLeft run tasks w IsAnswer = RunLeftFrom (suc w.ticks) run tasks w IsAnswer

  -- the youngest body is one of the graph, and ends so
  pub record BodyEnds (number : ℕ) (Ends : Body → Answer → Type 0) (answer : Answer) : Type 0 where
    pub body : Body
    pub there : slice_get graph.bodies number ≡ Some body
    pub ends : Ends body answer

  -- it walks from a block on
  abbrev pub EndsWalking : ℕ → ℕ → State → Answer → Type 0
  EndsWalking number block w =
      BodyEnds number (λ body answer. answer ≡ ended number 0 (walks strict graph ticks number body block w))

  -- the terminator of a block is next
  abbrev pub EndsByTerm : ℕ → ℕ → Term → State → Answer → Type 0
  EndsByTerm number block term w =
      BodyEnds number (λ body answer. answer
      ≡ ended number 0 (term_does (naming (stuck_in number block) (concrete_effects_of strict graph ticks)) 0 term
      (walks strict graph ticks number body) w))

  -- the terminator has come to this, and then the body goes on
  pub record PostEnds (post : Post) (IsOut : Out State → Type 0) (answer : Answer) : Type 0 where
    pub body : Body
    pub there : slice_get graph.bodies post.number ≡ Some body
    pub out : Out State
    pub is_out : IsOut out
    pub ends : answer ≡ goes_on strict graph ticks (place_in post body) out

  -- a run is what is left where the machine does this next
  abbrev pub DoingLeft : Trace × End → List Task → State → Doing → Type 0
  DoingLeft run tasks w (Doing.Walks number block) = RunLeft run tasks w (EndsWalking number block w)
  DoingLeft run tasks w (Doing.Drops post drops turn) =
      RunLeft run tasks w (PostEnds post (λ out. TurnLeft (setting_of strict graph) (bodies_of strict graph ticks) w out
      drops turn))
  DoingLeft run tasks w (Doing.Returned value) =
      RunLeft run tasks w (λ answer. IsWhole (datum_of value) × (answer ≡ Returns (datum_of value) w))
  DoingLeft run tasks w Doing.Unwound = RunLeft run tasks w (λ answer. answer ≡ Unwinds w)
  DoingLeft run tasks w (Doing.Ended end) = run ≡ (w.trace, end)

-- the world runs this graph so
abbrev pub RunsGraph : Bool → Graph → World → Type 0
RunsGraph strict graph world = run_setting world ≡ setting_of strict graph

-- Whatever the run and the events that were handed on: what is left before is what is left after.
abbrev pub Keeps : Graph → World → World → (Bool → ℕ → Trace × End → State → Type 0)
    → (Bool → ℕ → Trace × End → State → Type 0) → Type 0
Keeps graph old new Before After =
    (strict : Bool) (ticks : ℕ) (run : Trace × End) (before : Trace) → AreRanked graph → RunsGraph strict graph old →
    Before strict ticks run (state_of before old) → RunsGraph strict graph new × After strict ticks run (state_of before
    new)

-- what is left where the machine does this next
abbrev pub Next : Graph → List Task → Doing → Bool → ℕ → Trace × End → State → Type 0
Next graph tasks doing strict ticks run w = DoingLeft strict graph ticks run tasks w doing

-- what is left where a body walks from a block on
abbrev pub AtBlock : Graph → List Task → ℕ → ℕ → Bool → ℕ → Trace × End → State → Type 0
AtBlock graph tasks number block strict ticks run w =
    RunLeft strict graph ticks run tasks w (EndsWalking strict graph ticks number block w)

-- what is left where the terminator of a block is next
abbrev pub AtTerm : Graph → List Task → ℕ → ℕ → Term → Bool → ℕ → Trace × End → State → Type 0
AtTerm graph tasks number block term strict ticks run w =
    (term_in graph number block ≡ Some term)
    × RunLeft strict graph ticks run tasks w (EndsByTerm strict graph ticks number block term w)

-- what is left where a body is entered
abbrev pub AtEntry : Graph → List Task → Event → ℕ → List Datum → Bool → ℕ → Trace × End → State → Type 0
AtEntry graph tasks event number args strict ticks run w =
    RunLeftFrom strict graph ticks w.ticks run tasks w
    (λ answer. answer ≡ bodies_of strict graph ticks event number args w)

-- what is left where a drop makes a turn
abbrev pub AtTurn : Graph → List Task → Post → Drops → Turn → Bool → ℕ → Trace × End → State → Type 0
AtTurn graph tasks post drops turn strict ticks run w =
    DoingLeft strict graph ticks run tasks w (Doing.Drops post drops turn)

-- what is left where the youngest body returned a value, and where it unwound
abbrev pub AtReturn : Graph → List Task → Value → Bool → ℕ → Trace × End → State → Type 0
AtReturn graph tasks value strict ticks run w = DoingLeft strict graph ticks run tasks w (Doing.Returned value)

abbrev pub AtUnwound : Graph → List Task → Bool → ℕ → Trace × End → State → Type 0
AtUnwound graph tasks strict ticks run w = DoingLeft strict graph ticks run tasks w Doing.Unwound

-- how a run ends where the youngest body has no step and no block
abbrev pub stuck_end : Task → End
stuck_end (Task.Call post lost) = End.Stuck post.number post.block
stuck_end (Task.Drop post drops dynamic) = End.Stuck post.number post.block

abbrev pub last_end : End → List Task → End
last_end end [] = end
last_end end (task ∷ tasks) = last_end (stuck_end task) tasks

abbrev pub lost_end : List Task → End
lost_end tasks = last_end (End.Stuck 0 0) tasks

-- a turn block spends a tick as it is entered
abbrev pub begun : Kind → State → Out State
begun Kind.Turn w = tick w
begun Kind.Plain w = Go w
begun Kind.Cleanup w = Go w

-- a block begins; or there is no tick, and nothing changes
abbrev pub BeginsSo : Kind → State → Bool → State → Type 0
BeginsSo kind w true after = begun kind w ≡ Go after
BeginsSo kind w false after = (begun kind w ≡ Halts OutOfTicks w) × (after ≡ w)

-- statements go on to this state; or they have no step
abbrev pub StmtsEnd : (Halt → Halt) → (State → Out State) → Out State → Outcome → State → Type 0
StmtsEnd name rest out Outcome.Goes w = out ≡ rest w
StmtsEnd name rest out Outcome.Panics w = (v : State) × (out ≡ Halts Stuck v) × (v.trace ≡ w.trace)
StmtsEnd name rest out Outcome.Stuck w = (v : State) × (out ≡ Halts (name Stuck) v) × (v.trace ≡ w.trace)

abbrev pub DoesStmts : List Stmt → World → Outcome → World → Type 0
DoesStmts stmts old outcome new =
    (run : Bodies) (fuel : ℕ) (name : Halt → Halt) (rest : State → Out State) (before : Trace) →
    StmtsEnd name rest
    (stmts_do (naming name (concrete_effects (run_setting old) run fuel)) (λ line. 0) 0 stmts rest
    (state_of before old)) outcome (state_of before new)

-- the body of a trait's method by the row of the trait object that an argument names
abbrev pub row_of_object : ItemTable → ℕ → ℕ → DynamicType → Option ℕ
row_of_object items trait_no method (OfType id) = None
row_of_object items trait_no method (OfObject id impl_no) =
    body_if (is_dyn_of trait_no (type_at items id))
    (option_and_then (λ impl. slice_get impl.bodies method) (slice_get items.impls impl_no))

-- what is left where a terminator has come to this outcome
abbrev pub AtOutcome : Graph → List Task → Post → Outcome → Bool → ℕ → Trace × End → State → Type 0
AtOutcome graph tasks post Outcome.Goes strict ticks run w =
    RunLeft strict graph ticks run tasks w (PostEnds strict graph ticks post (λ out. out ≡ Go w))
AtOutcome graph tasks post Outcome.Panics strict ticks run w =
    RunLeft strict graph ticks run tasks w (PostEnds strict graph ticks post (λ out. out ≡ Unwind w))
AtOutcome graph tasks post Outcome.Stuck strict ticks run w = run ≡ (w.trace, End.Stuck post.number post.block)

-- a drop of what stands at an address is begun
abbrev pub DropsThat : Post → Addr → Dynamic → Doing → Type 0
DropsThat post address dynamic (Doing.Drops post_of drops turn) =
    (post_of ≡ post) × (turn ≡ Turn.Visits false (Some dynamic))
    × ((unwinds : Bool) × (mode_by unwinds ≡ mode_of post.unwind) × IsDropOf address unwinds drops)
DropsThat post address dynamic doing = ⊥

abbrev pub drop_outcome : Bool → Outcome
drop_outcome true = Outcome.Panics
drop_outcome false = Outcome.Goes

-- where a choice leads
abbrev pub target_of : Bool → ℕ → ℕ → ℕ
target_of true if_true if_false = if_true
target_of false if_true if_false = if_false

abbrev pub chosen_doing : ℕ → ℕ → Option Bool → ℕ → ℕ → Doing
chosen_doing number block (Some choice) if_true if_false = Doing.Walks number (target_of choice if_true if_false)
chosen_doing number block None if_true if_false = Doing.Ended (End.Stuck number block)

-- what is left where a call is to store the result of the body that it called
abbrev pub AtResult : Graph → List Task → Post → Bool → Datum → Bool → ℕ → Trace × End → State → Type 0
AtResult graph tasks post lost value strict ticks run w =
    (to : places.Place) × (destination_in graph post.number post.block ≡ Some to)
    × RunLeft strict graph ticks run tasks w
    (PostEnds strict graph ticks post
    (λ out. out ≡ halting_if lost Stuck (put (setting_of strict graph) (site_of 0 to) value w)))

-- a drop goes on, after its `Drop` body has ended, by this turn; or the run is aborted
abbrev pub ResumesSo : Post → Drops → Dynamic → Bool → Doing → Type 0
ResumesSo post old dynamic panicked (Doing.Drops post_of new turn) =
    (post_of ≡ post) × IsResumedBy dynamic panicked old new (Some turn)
ResumesSo post old dynamic panicked (Doing.Ended end) =
    (end ≡ End.Aborted) × ((new : Drops) × IsResumedBy dynamic panicked old new None)
ResumesSo post old dynamic panicked doing = ⊥

-- the result of the youngest body is taken, where it is whole
abbrev pub TakesResult : World → Option Value → World → Type 0
TakesResult old taken new =
    (before : Trace) → Evaluates (run_setting old) (Operand.Moved (record { local = 0; steps = [] }))
    (state_of before old) taken (state_of before new)

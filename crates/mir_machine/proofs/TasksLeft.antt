-- What is left of a run, by the tasks that wait.
use Rattle.std.proofs.Common.{◌≡◌, ℕ, suc, ◌≤◌, Bool, true, false, All, List, [], ◌∷◌, ◌++◌, refl, ap, sym, subst, ◌∙◌, arith}
use Rattle.std.proofs.lemmas.List.Elements.{All-nil, All-cons}
use Rattle.cfg_graph.specs.declared.graph.Graph.{Graph}
use Rattle.cfg_graph.specs.declared.terminator.Unwind.{Unwind}
use Rattle.cfg_meaning.specs.Laws.{bodies_of}
use Rattle.cfg_meaning.specs.Programs.{setting_of}
use Rattle.machine_steps.specs.Continuation.{finished, found_as}
use Rattle.machine_store.specs.Standing.{dynamic_of}
use Rattle.store_model.specs.Values.Datum.{Gone}
use Rattle.machine_steps.specs.Turns.{mode_by}
use Rattle.mir_base.specs.declared.trace.End.{End}
use Rattle.mir_base.specs.Trace.{Trace}
use Rattle.mir_machine.proofs.RunsLeft.{halts_end, stuck_ends}
use Rattle.mir_machine.specs.declared.tasks.Post.{Post}
use Rattle.mir_machine.specs.declared.tasks.Task.{Task}
use Rattle.mir_machine.specs.Laws.{HaltsWithIt, IsPlaced, place_of}
use Rattle.mir_machine.specs.Continuation.{Waiting, goes_on, left}
use Rattle.mir_machine.specs.Tasks.{place_in, WaitsFor, AllWait, RunLeft, RunLeftFrom, PostEnds, stuck_end, last_end, lost_end}
use Rattle.store_model.specs.Concrete.Bodies.{outcome_of}
use Rattle.store_model.specs.Concrete.Drops.{HasRun, drop_at, drop_body_out, in_mode}
use Rattle.store_model.specs.Concrete.State.{Answer, HaltsIn, State}
use Rattle.store_model.specs.Effects.{Mode, Halt, Aborted, Stuck, Out, Unwind as Unwinds, Halts}

-- a halt ends a drop that waits
drop_halts : (panicked unwinds : Bool) (halt : Halt) (w : State) (next : Mode → State → Out State) → finished panicked (in_mode (mode_by unwinds) (drop_body_out (mode_by unwinds) (HaltsIn halt w)) next) ≡ Halts halt w
drop_halts true true halt w next = refl
drop_halts true false halt w next = refl
drop_halts false true halt w next = refl
drop_halts false false halt w next = refl

module _ (strict : Bool) (graph : Graph) (ticks : ℕ) where
  waits_halt : (least : ℕ) (task : Task) (waiting : Waiting) → WaitsFor strict graph ticks least task waiting → HaltsWithIt waiting
  waits_halt least (Task.Call post lost) waiting h = subst HaltsWithIt (sym h.is) tt
  waits_halt least (Task.Drop post drops dynamic) waiting (outs, h) =
      subst HaltsWithIt (sym h.is) (λ halt w. h.awaits.is (HaltsIn halt w) ∙ drop_halts drops.panicked drops.unwinds halt w
      (λ mode v. in_mode mode (drop_at (setting_of strict graph) (bodies_of strict graph ticks) h.awaits.fuel HasRun
      (found_as (setting_of strict graph) (bodies_of strict graph ticks) drops.address.depth drops.address.key.0 drops.address.path (dynamic_of dynamic) Gone) mode v) h.awaits.rest))

  all_halt : (least : ℕ) (tasks : List Task) (older waiting : List Waiting) → All HaltsWithIt older → AllWait strict graph ticks least tasks older waiting → All HaltsWithIt waiting
  all_halt least [] older waiting all h = subst (All HaltsWithIt) (sym h) all
  all_halt least (task ∷ tasks) older waiting all h = all_halt least tasks (h.0 ∷ older) waiting (All-cons HaltsWithIt h.0 older (waits_halt least task h.0 h.1) all) h.2

  pub tasks_halt : (least : ℕ) (tasks : List Task) (waiting : List Waiting) → AllWait strict graph ticks least tasks [] waiting → All HaltsWithIt waiting
  tasks_halt least tasks waiting h = all_halt least tasks [] waiting (All-nil HaltsWithIt) h

  waits_with_less : (least less : ℕ) → less ≤ least → (task : Task) (waiting : Waiting) → WaitsFor strict graph ticks least task waiting → WaitsFor strict graph ticks less task waiting
  waits_with_less least less l (Task.Call post lost) waiting h = h
  waits_with_less least less l (Task.Drop post drops dynamic) waiting (outs, h) =
      (outs, record { body = h.body; there = h.there; w = h.w; later = (let k = h.later in omega arith); awaits = h.awaits; is = h.is })

  -- fewer ticks are left
  pub all_wait_with_less : (least less : ℕ) → less ≤ least → (tasks : List Task) (older waiting : List Waiting) → AllWait strict graph ticks least tasks older waiting → AllWait strict graph ticks less tasks older waiting
  all_wait_with_less least less l [] older waiting h = h
  all_wait_with_less least less l (task ∷ tasks) older waiting h = (h.0, waits_with_less least less l task h.0 h.1, all_wait_with_less least less l tasks (h.0 ∷ older) waiting h.2)

  -- a task more waits
  pub task_waits : (least : ℕ) (tasks : List Task) (task : Task) (first : Waiting) (older waiting : List Waiting) → AllWait strict graph ticks least tasks older waiting → WaitsFor strict graph ticks least task first →
      AllWait strict graph ticks least (tasks ++ task ∷ []) older (first ∷ waiting)
  task_waits least [] task first older waiting h w = (first, w, ap (λ l. first ∷ l) h)
  task_waits least (one ∷ tasks) task first older waiting h w = (h.0, h.1, task_waits least tasks task first (h.0 ∷ older) waiting h.2 w)

  -- the youngest task
  pub record YoungestWaits (least : ℕ) (tasks : List Task) (task : Task) (older waiting : List Waiting) : Type 0 where
    pub first : Waiting
    pub others : List Waiting
    pub is : waiting ≡ first ∷ others
    pub waits : WaitsFor strict graph ticks least task first
    pub rest : AllWait strict graph ticks least tasks older others

  pub youngest_waits : (least : ℕ) (tasks : List Task) (task : Task) (older waiting : List Waiting) → AllWait strict graph ticks least (tasks ++ task ∷ []) older waiting → YoungestWaits least tasks task older waiting
  youngest_waits least [] task older waiting h = record { first = h.0; others = older; is = h.2; waits = h.1; rest = refl }
  youngest_waits least (one ∷ tasks) task older waiting h =
      let y = youngest_waits least tasks task (h.0 ∷ older) waiting h.2 in
      record { first = y.first; others = y.others; is = y.is; waits = y.waits; rest = (h.0, h.1, y.rest) }

  module _ (run : Trace × End) (tasks : List Task) where
    -- the same run, where the answer is known otherwise
    pub otherwise : (w : State) (One Other : Answer → Type 0) → ((answer : Answer) → One answer → Other answer) → RunLeft strict graph ticks run tasks w One → RunLeft strict graph ticks run tasks w Other
    otherwise w One Other f h = record { waiting = h.waiting; waits = h.waits; answer = h.answer; is_answer = f h.answer h.is_answer; is = h.is; within = h.within }

    -- the same run in a state with no more ticks
    pub moved : (least less : ℕ) (w v : State) (One Other : Answer → Type 0) → less ≤ least → v.ticks ≤ w.ticks → ((answer : Answer) → One answer → Other answer) → RunLeftFrom strict graph ticks least run tasks w One →
        RunLeftFrom strict graph ticks less run tasks v Other
    moved least less w v One Other l k f h = record {
      waiting = h.waiting;
      waits = all_wait_with_less least less l tasks [] h.waiting h.waits;
      answer = h.answer;
      is_answer = f h.answer h.is_answer;
      is = h.is;
      within = (let i = h.within in omega arith);
    }

    -- where the answer is a halt with a block, the run ends
    pub ends_halted : (least : ℕ) (w : State) (halt : Halt) → IsPlaced halt → (v : State) → RunLeftFrom strict graph ticks least run tasks w (λ answer. answer ≡ HaltsIn halt v) → run ≡ outcome_of (HaltsIn halt v)
    ends_halted least w halt p v h = h.is ∙ ap (left strict graph ticks h.waiting) h.is_answer ∙ halts_end strict graph ticks h.waiting halt v (tasks_halt least tasks h.waiting h.waits) p

  -- where the youngest body has no step and no block, the run is stuck in the block that waits for it
  end_of_waiting : (least : ℕ) (task : Task) (waiting : Waiting) → WaitsFor strict graph ticks least task waiting → End.Stuck (place_of waiting).number (place_of waiting).block ≡ stuck_end task
  end_of_waiting least (Task.Call post lost) waiting h = ap (λ w. End.Stuck (place_of w).number (place_of w).block) h.is
  end_of_waiting least (Task.Drop post drops dynamic) waiting (outs, h) = ap (λ w. End.Stuck (place_of w).number (place_of w).block) h.is

  abbrev end_by : End → List Waiting → End
  end_by end [] = end
  end_by end (first ∷ others) = End.Stuck (place_of first).number (place_of first).block

  last_is : (least : ℕ) (tasks : List Task) (older waiting : List Waiting) (end : End) → end_by (End.Stuck 0 0) older ≡ end → AllWait strict graph ticks least tasks older waiting → end_by (End.Stuck 0 0) waiting ≡ last_end end tasks
  last_is least [] older waiting end e h = ap (end_by (End.Stuck 0 0)) h ∙ e
  last_is least (task ∷ tasks) older waiting end e h = last_is least tasks (h.0 ∷ older) waiting (stuck_end task) (end_of_waiting least task h.0 h.1) h.2

  pub ends_lost : (run : Trace × End) (tasks : List Task) (least : ℕ) (w v : State) → RunLeftFrom strict graph ticks least run tasks w (λ answer. answer ≡ HaltsIn Stuck v) → run ≡ (v.trace, lost_end tasks)
  ends_lost run tasks least w v h = go h.waiting (tasks_halt least tasks h.waiting h.waits) (last_is least tasks [] h.waiting (End.Stuck 0 0) refl h.waits) (h.is ∙ ap (left strict graph ticks h.waiting) h.is_answer)
    where
      go : (waiting : List Waiting) → All HaltsWithIt waiting → end_by (End.Stuck 0 0) waiting ≡ lost_end tasks → run ≡ left strict graph ticks waiting (HaltsIn Stuck v) → run ≡ (v.trace, lost_end tasks)
      go [] all e is = is ∙ ap (λ e. (v.trace, e)) e
      go (first ∷ others) all e is = is ∙ stuck_ends strict graph ticks first others v all ∙ ap (λ e. (v.trace, e)) e

  -- what a terminator has come to
  module _ (run : Trace × End) (tasks : List Task) (post : Post) (w : State) where
    abbrev pub AtOut : (Out State → Type 0) → Type 0
    AtOut IsOut = RunLeft strict graph ticks run tasks w (PostEnds strict graph ticks post IsOut)

    pub other_out : (One Other : Out State → Type 0) → ((out : Out State) → One out → Other out) → AtOut One → AtOut Other
    other_out One Other f h =
        otherwise run tasks w (PostEnds strict graph ticks post One) (PostEnds strict graph ticks post Other)
        (λ answer p. record { body = p.body; there = p.there; out = p.out; is_out = f p.out p.is_out; ends = p.ends }) h

    pub aborts_at : AtOut (λ out. out ≡ Halts Aborted w) → run ≡ (w.trace, End.Aborted)
    aborts_at h =
        ends_halted run tasks (suc w.ticks) w Aborted tt w
        (record {
          waiting = h.waiting;
          waits = h.waits;
          answer = h.answer;
          is_answer = h.is_answer.ends ∙ ap (goes_on strict graph ticks (place_in post h.is_answer.body)) h.is_answer.is_out;
          is = h.is;
          within = h.within;
        })

    -- a panic aborts the run
    pub panic_aborts : post.unwind ≡ Unwind.Abort → AtOut (λ out. out ≡ Unwinds w) → run ≡ (w.trace, End.Aborted)
    panic_aborts abort h =
        ends_halted run tasks (suc w.ticks) w Aborted tt w
        (record {
          waiting = h.waiting;
          waits = h.waits;
          answer = h.answer;
          is_answer = h.is_answer.ends ∙ ap (goes_on strict graph ticks (place_in post h.is_answer.body)) h.is_answer.is_out
              ∙ ap (λ u. goes_on strict graph ticks (record (place_in post h.is_answer.body) { unwind = u }) (Unwinds w)) abort;
          is = h.is;
          within = h.within;
        })

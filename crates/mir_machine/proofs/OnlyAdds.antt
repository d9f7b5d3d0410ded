-- Each step of a run only adds to what was told. So at each turn of the machine what was told is the beginning of what
-- the run tells.
use Rattle.std.proofs.Common.{◌≡◌, ℕ, zero, suc, ◌==◌, Bool, true, false, List, [], ◌∷◌, ◌++◌, Option, Some, None, slice_get, refl, ap, sym, subst, ◌∙◌, append-nil}
use Rattle.std.specs.Option.{option_map_or}
use Rattle.cfg_graph.specs.declared.graph.Body.{Body}
use Rattle.cfg_graph.specs.declared.graph.Graph.{Graph}
use Rattle.cfg_graph.specs.declared.terminator.Unwind as ways
use Rattle.cfg_meaning.proofs.WalksFollow.{Names, walk_follows}
use Rattle.cfg_meaning.specs.Actions.{site_of}
use Rattle.cfg_meaning.specs.Laws.{bodies_of, concrete_effects_of}
use Rattle.cfg_meaning.specs.Programs.{setting_of, code_of}
use Rattle.cfg_meaning.specs.Walk.{acts, renamed, stuck_in}
use Rattle.machine_steps.specs.declared.drops.Drops.{Drops}
use Rattle.machine_steps.specs.declared.drops.Turn.{Turn}
use Rattle.machine_steps.specs.Continuation as dropping
use Rattle.machine_steps.specs.Continuation.{Level, PartsOf, ContentOf, DropRest, AtEnd, after_by, HasLeft, IsAfter, Visits, AsRead, Again, Then, AwaitsLeft, finished, found_as, from_part, at_path}
use Rattle.machine_steps.specs.Turns.{TurnLeft, levels_of, mode_by, stage_by}
use Rattle.mir_base.specs.declared.trace.End.{End}
use Rattle.mir_base.specs.declared.trace.Event.{Event}
use Rattle.mir_base.specs.Trace.{Trace}
use Rattle.mir_machine.specs.declared.tasks.Doing.{Doing}
use Rattle.mir_machine.specs.declared.tasks.Post.{Post}
use Rattle.mir_machine.specs.declared.tasks.Task.{Task}
use Rattle.mir_machine.specs.Continuation.{WaitingBody, Waiting, ForCall, ForDrop, walks, goes_on, resumed, left}
use Rattle.mir_machine.specs.Tasks.{AllWait, BodyEnds, DoingLeft, DropWaits, CallWaits, PostEnds, RunLeftFrom, WaitsFor, place_in}
use Rattle.machine_steps.specs.Steps.{Seen, Goes, Panics, Halted, seen}
use Rattle.machine_store.specs.Standing.{dynamic_of}
use Rattle.store_model.proofs.Effects.Following.{FollowsOuts, ends}
use Rattle.store_model.proofs.Concrete.MoreTicks.{Beside, OneMore, After, Begun, begun_further, More, both_go, both_unwind, both_halt, MoreAnswer, both_return, both_end, both_halt_in}
use Rattle.store_model.proofs.Concrete.OneTickMore.{one_tick_more, FollowsWithin, bodies_more, follows_more, values_follow}
use Rattle.store_model.specs.Concrete.Bodies.{ended, outcome_of}
use Rattle.store_model.specs.Concrete.Drops.{Stage, Begins, HasRun, drop_body_out, unwinding_out, in_mode, same_if, if_still_typed, gone_at, freed_there, freed_at, as_read, if_part, with_body, own_body, drop_impl, drop_value, drop_parts, dropped_there, drop_at}
use Rattle.store_model.specs.Concrete.Effects.{answered, put}
use Rattle.store_model.specs.Concrete.Location.{Setting, DynamicType, concrete_ty, Located, into, located_at, Reached, Reaches, CutOff, Nowhere, reach, on_reached, stored_at}
use Rattle.store_model.specs.Concrete.State.{State, with_event, without_activation, Answer, Returns, Unwinds, HaltsIn, Bodies}
use Rattle.store_model.specs.declared.address.At.{At}
use Rattle.store_model.specs.declared.address.At.TheVariants.{Part, Inside}
use Rattle.store_model.specs.Effects.{Halt, Aborted, OutOfTicks, Stuck, Mode, Normal, Unwinding, Out, Go, Unwind, Halts, EffectSite, halting_if}
use Rattle.store_model.specs.Values.Datum.{Datum, Data, Gone, Number, Truth, UnitValue, Aggregate, Box, Address, no_part, a_part}

-- so much was told before
abbrev pub Told : Trace → State → Type 0
Told before w = Begun (After before) w.trace

abbrev pub ToldOut : Trace → Out State → Type 0
ToldOut before (Go w) = Told before w
ToldOut before (Unwind w) = Told before w
ToldOut before (Halts halt w) = Told before w

abbrev pub ToldAnswer : Trace → Answer → Type 0
ToldAnswer before (Returns value w) = Told before w
ToldAnswer before (Unwinds w) = Told before w
ToldAnswer before (HaltsIn halt w) = Told before w

abbrev pub Adds : (State → Out State) → Type 0
Adds f = (before : Trace) (w : State) → Told before w → ToldOut before (f w)

abbrev pub AddsIn : (Mode → State → Out State) → Type 0
AddsIn f = (mode : Mode) → Adds (f mode)

abbrev pub BodiesAdd : Bodies → Type 0
BodiesAdd run = (before : Trace) (event : Event) (body : ℕ) (args : List Datum) (w : State) → Told before w → ToldAnswer before (run event body args w)

module _ (before : Trace) where
  more_told : (o o' : Out State) → More (After before) o o' → ToldOut before o
  more_told _ _ (both_go _ w b) = b
  more_told _ _ (both_unwind _ w b) = b
  more_told _ _ (both_halt _ halt w b) = b

  answer_told : (a a' : Answer) → MoreAnswer (After before) a a' → ToldAnswer before a
  answer_told _ _ (both_return _ value w b) = b
  answer_told _ _ (both_end _ w b) = b
  answer_told _ _ (both_halt_in _ halt w b) = b

  unwinding_told : (o : Out State) → ToldOut before o → ToldOut before (unwinding_out o)
  unwinding_told (Go w) t = t
  unwinding_told (Unwind w) t = t
  unwinding_told (Halts halt w) t = t

  finished_told : (panicked : Bool) (o : Out State) → ToldOut before o → ToldOut before (finished panicked o)
  finished_told true o t = unwinding_told o t
  finished_told false o t = t

  in_mode_told : (mode : Mode) (o : Out State) (next : Mode → State → Out State) → ToldOut before o → AddsIn next → ToldOut before (in_mode mode o next)
  in_mode_told mode (Go w) next t e = e mode before w t
  in_mode_told mode (Unwind w) next t e = unwinding_told (next Unwinding w) (e Unwinding before w t)
  in_mode_told mode (Halts halt w) next t e = t

  body_out_told : (mode : Mode) (a : Answer) → ToldAnswer before a → ToldOut before (drop_body_out mode a)
  body_out_told mode (Returns value w) t = t
  body_out_told Normal (Unwinds w) t = t
  body_out_told Unwinding (Unwinds w) t = t
  body_out_told mode (HaltsIn halt w) t = t

  renamed_told : (name : Halt → Halt) (o : Out State) → ToldOut before o → ToldOut before (renamed name o)
  renamed_told name (Go w) t = t
  renamed_told name (Unwind w) t = t
  renamed_told name (Halts halt w) t = t

  halting_told : (c : Bool) (halt : Halt) (o : Out State) → ToldOut before o → ToldOut before (halting_if c halt o)
  halting_told true halt (Go w) t = t
  halting_told true halt (Unwind w) t = t
  halting_told true halt (Halts other w) t = t
  halting_told false halt o t = t

  same_told : (c : Bool) (next : State → Out State) (w : State) → Told before w → ToldOut before (next w) → ToldOut before (same_if c next w)
  same_told true next w t h = h
  same_told false next w t h = t

  ended_told : (body answer : ℕ) (o : Out State) → ToldOut before o → ToldAnswer before (ended body answer o)
  ended_told body answer (Go w) t = begun_further (After before) w.trace (Event.Return body ∷ []) t
  ended_told body answer (Unwind w) t = begun_further (After before) w.trace (Event.Unwind body ∷ []) t
  ended_told body answer (Halts halt w) t = t

-- A drop.
module _ (setting : Setting) (run : Bodies) (bodies : BodiesAdd run) where
  still_told : (dynamic : DynamicType) (o : Option Located) (next : Located → State → Out State) (before : Trace) (w : State) → Told before w →
      ((s : Located) → ToldOut before (next s w)) → ToldOut before (if_still_typed setting.items dynamic o next w)
  still_told dynamic None next before w t e = t
  still_told dynamic (Some s) next before w t e = same_told before _ (next s) w t (e s)

  gone_adds : (s : Located) → Adds (gone_at setting run s)
  gone_adds s before w t = still_told s.dynamic _ (λ s w. Go (stored_at s.address Gone w)) before w t (λ s. t)

  freed_there_adds : (value : Datum) (s : Located) → Adds (freed_there setting run value s)
  freed_there_adds (Box serial impl_no inside) s before w t = begun_further (After before) w.trace (Event.Freed serial ∷ []) t
  freed_there_adds other s before w t = t

  freed_adds : (s : Located) → Adds (freed_at setting run s)
  freed_adds s before w t = still_told s.dynamic _ (λ s w. freed_there setting run s.value s w) before w t (λ s. freed_there_adds s.value s before w t)

  module _ (again : Stage → Located → Mode → State → Out State) (adds : (stage : Stage) (s : Located) → AddsIn (again stage s)) (ticks : ℕ) where
    read_told : (c : Bool) (drop : Located → Mode → State → Out State) (s : Located) (mode : Mode) (before : Trace) (w : State) → Told before w →
        ToldOut before (drop s mode w) → ToldOut before (as_read setting run again ticks c drop s mode w)
    read_told true drop s mode before w t h = h
    read_told false drop s mode before w t h = adds Begins s mode before w t

    part_told : (o : Option Located) (drop : Located → Mode → State → Out State) (mode : Mode) (before : Trace) (w : State) → Told before w →
        ((s : Located) → ToldOut before (drop s mode w)) → ToldOut before (if_part setting run again ticks o drop mode w)
    part_told None drop mode before w t e = t
    part_told (Some s) drop mode before w t e = read_told _ drop s mode before w t (e s)

    with_body_told : (of : Option (ℕ × ℕ)) (serial : Option ℕ) (s : Located) (parts : Mode → State → Out State) (mode : Mode) (before : Trace) (w : State) →
        Told before w → ToldOut before (parts mode w) → ToldOut before (with_body setting run again ticks of serial s parts mode w)
    with_body_told None serial s parts mode before w t h = h
    with_body_told (Some of) serial s parts mode before w t h =
        in_mode_told before mode _ (again HasRun s) (body_out_told before mode _ (bodies before _ of.1 (Address s.address ∷ []) w t)) (adds HasRun s)

    mutual
      value_adds : (value : Datum) (stage : Stage) (s : Located) → AddsIn (drop_value setting run again ticks value stage s)
      value_adds Gone stage s mode before w t = t
      value_adds (Number number) stage s mode before w t = gone_adds s before w t
      value_adds (Truth truth) stage s mode before w t = gone_adds s before w t
      value_adds UnitValue stage s mode before w t = gone_adds s before w t
      value_adds (Address address) stage s mode before w t = gone_adds s before w t
      value_adds (Aggregate variant serial parts) stage s mode before w t =
          with_body_told (own_body setting run again ticks stage (drop_impl setting.items (concrete_ty setting.items s.dynamic))) serial s _ mode before w t
          (in_mode_told before mode _ (λ mode. gone_at setting run s) (parts_add parts zero s mode before w t) (λ mode. gone_adds s))
      value_adds (Box serial impl_no inside) stage s mode before w t =
          in_mode_told before mode _ (λ mode. freed_at setting run s)
          (part_told (into setting.items Inside s) (drop_value setting run again ticks inside Begins) mode before w t (λ s. value_adds inside Begins s mode before w t))
          (λ mode. freed_adds s)

      parts_add : (parts : Data) (k : ℕ) (s : Located) → AddsIn (drop_parts setting run again ticks parts k s)
      parts_add no_part k s mode before w t = t
      parts_add (a_part first rest) k s mode before w t =
          in_mode_told before mode _ (drop_parts setting run again ticks rest (suc k) s)
          (part_told (into setting.items (Part k) s) (drop_value setting run again ticks first Begins) mode before w t (λ s. value_adds first Begins s mode before w t))
          (parts_add rest (suc k) s)

  drop_adds : (fuel : ℕ) (stage : Stage) (s : Located) → AddsIn (drop_at setting run fuel stage s)
  drop_adds zero stage s mode before w t = t
  drop_adds (suc fuel) stage s mode before w t =
      still_told s.dynamic _ (dropped_there setting run (drop_at setting run fuel) stage mode) before w t
      (λ s. value_adds (drop_at setting run fuel) (drop_adds fuel) w.ticks s.value stage s mode before w t)

  -- What is left of a drop.
  module _ (depth key : ℕ) where
    end_adds : (rest : DropRest) → AtEnd rest → AddsIn rest
    end_adds rest e mode before w t = subst (ToldOut before) (sym (e mode w)) t

    after_adds : (levels : List Level) (Left : List At → DropRest → Type 0) → ((path : List At) (rest : DropRest) → Left path rest → AddsIn rest) → (path : List At) (rest : DropRest) →
        after_by setting run depth key levels Left path rest → AddsIn rest
    after_adds [] Left adds path rest h = end_adds rest h
    after_adds (level ∷ levels) Left adds path rest h = adds h.above rest h.left

    left_adds : (levels : List Level) (w : State) (path : List At) (rest : DropRest) → HasLeft setting run depth key levels w path rest → AddsIn rest
    left_adds [] w path rest h mode before v t = end_adds rest h mode before v t
    left_adds (PartsOf dynamic variant next total ticks ∷ levels) w path rest h mode before v t =
        subst (ToldOut before) (sym (h.does mode v))
        (in_mode_told before mode _
        (λ mode v. in_mode mode (gone_at setting run (found_as setting run depth key path dynamic Gone) v) h.outer)
        (parts_add (drop_at setting run h.fuel) (drop_adds h.fuel) ticks (from_part next h.parts) next _ mode before v t)
        (λ mode before v t. in_mode_told before mode _ h.outer (gone_adds (found_as setting run depth key path dynamic Gone) before v t)
        (after_adds levels (HasLeft setting run depth key levels w) (left_adds levels w) path h.outer h.after)))
    left_adds (ContentOf dynamic ∷ levels) w path rest h mode before v t =
        subst (ToldOut before) (sym (h.does mode v))
        (in_mode_told before mode _ h.outer (freed_adds (found_as setting run depth key path dynamic Gone) before v t)
        (after_adds levels (HasLeft setting run depth key levels w) (left_adds levels w) path h.outer h.after))

    rest_adds : (levels : List Level) (w : State) (path : List At) (rest : DropRest) → IsAfter setting run depth key levels w path rest → AddsIn rest
    rest_adds levels w path rest h = after_adds levels (HasLeft setting run depth key levels w) (left_adds levels w) path rest h

    visits_told : (w : State) (path : List At) (stage : Stage) (does : DropRest) (expected : Option DynamicType) → Visits setting run depth key w path stage does expected → AddsIn does
    visits_told w path stage does _ (AsRead fuel s enough there is) mode before v t =
        subst (ToldOut before) (sym (is mode v)) (value_adds (drop_at setting run fuel) (drop_adds fuel) w.ticks s.value stage s mode before v t)
    visits_told w path stage does _ (Again fuel dynamic enough is) mode before v t =
        subst (ToldOut before) (sym (is mode v)) (drop_adds fuel stage (found_as setting run depth key path dynamic Gone) mode before v t)

    awaits_told : (levels : List Level) (w : State) (path : List At) (mode : Mode) (panicked : Bool) (outs : Answer → Out State) (dynamic : DynamicType) →
        AwaitsLeft setting run depth key levels w path mode panicked outs dynamic → (before : Trace) (a : Answer) → ToldAnswer before a → ToldOut before (outs a)
    awaits_told levels w path mode panicked outs dynamic h before a t =
        subst (ToldOut before) (sym (h.is a))
        (finished_told before panicked _ (in_mode_told before mode _ _ (body_out_told before mode a t)
        (λ mode before v t. in_mode_told before mode _ h.rest (drop_adds h.fuel HasRun (found_as setting run depth key path dynamic Gone) mode before v t)
        (rest_adds levels w path h.rest h.after))))

  seen_told : (before : Trace) (o : Out State) (halt : Halt) (trace : Trace) → seen o ≡ Halted halt trace → Begun (After before) trace → ToldOut before o
  seen_told before (Go w) halt trace e t = absurd (cc)
  seen_told before (Unwind w) halt trace e t = absurd (cc)
  seen_told before (Halts other w) halt trace e t = let same : w.trace ≡ trace = cc in subst (Begun (After before)) (sym same) t

  turn_told : (before : Trace) (w : State) (out : Out State) (drops : Drops) (turn : Turn) → TurnLeft setting run w out drops turn → Told before w → ToldOut before out
  turn_told before w out drops (Turn.Visits has_run expected) h t =
      subst (ToldOut before) (sym h.left.is)
      (finished_told before drops.panicked _ (in_mode_told before (mode_by drops.unwinds) _ h.left.rest
      (visits_told drops.address.depth drops.address.key.0 w drops.address.path (stage_by has_run) h.does _ h.visits (mode_by drops.unwinds) before w t)
      (rest_adds drops.address.depth drops.address.key.0 (levels_of drops.levels) w drops.address.path h.left.rest h.left.is_rest)))
  turn_told before w out drops Turn.Goes h t =
      subst (ToldOut before) (sym h.is)
      (finished_told before drops.panicked _ (left_adds drops.address.depth drops.address.key.0 (levels_of drops.levels) w drops.address.path h.rest h.is_rest (mode_by drops.unwinds) before w t))
  turn_told before w out drops Turn.Leaves h t =
      subst (ToldOut before) (sym h.is)
      (finished_told before drops.panicked _ (rest_adds drops.address.depth drops.address.key.0 (levels_of drops.levels) w drops.address.path h.rest h.is_rest (mode_by drops.unwinds) before w t))
  turn_told before w out drops (Turn.Clears dynamic) h t =
      subst (ToldOut before) (sym h.is)
      (finished_told before drops.panicked _ (in_mode_told before (mode_by drops.unwinds) _ h.rest (gone_adds (found_as setting run drops.address.depth drops.address.key.0 drops.address.path (dynamic_of dynamic) Gone) before w t)
      (rest_adds drops.address.depth drops.address.key.0 (levels_of drops.levels) w drops.address.path h.rest h.is_rest)))
  turn_told before w out drops (Turn.Frees dynamic) h t =
      subst (ToldOut before) (sym h.is)
      (finished_told before drops.panicked _ (in_mode_told before (mode_by drops.unwinds) _ h.rest (freed_adds (found_as setting run drops.address.depth drops.address.key.0 drops.address.path (dynamic_of dynamic) Gone) before w t)
      (rest_adds drops.address.depth drops.address.key.0 (levels_of drops.levels) w drops.address.path h.rest h.is_rest)))
  turn_told before w out drops (Turn.Enters adt serial body dynamic) h t =
      subst (ToldOut before) (sym h.is)
      (awaits_told drops.address.depth drops.address.key.0 (levels_of drops.levels) w drops.address.path (mode_by drops.unwinds) drops.panicked h.outs (dynamic_of dynamic) h.awaits before _
      (bodies before _ body _ w t))
  turn_told before w out drops Turn.Ends h t = subst (ToldOut before) (sym h) (finished_told before drops.panicked (Go w) t)
  turn_told before w out drops Turn.Stuck h t = seen_told before out Stuck w.trace h t

-- Walks and bodies of a graph.
outlive : (body block : ℕ) (n : Beside) (halt : Halt) (w : State) (later : Beside) →
    one_tick_more.outlives n halt w later → one_tick_more.outlives n (stuck_in body block halt) w later
outlive body block OneMore OutOfTicks w (After before) r = r
outlive body block n halt w later r = absurd r

names : Names one_tick_more
names = record { lapse = λ body block n halt w r. absurd r; outlive = outlive; refuse = λ body block halt r. absurd r }

if_body_follows : (o : Option Body) (f : Body → State → Out State) → ((body : Body) → FollowsOuts one_tick_more (f body) (f body)) →
    FollowsOuts one_tick_more (λ w. option_map_or (λ body. f body w) o (Halts Stuck w)) (λ w. option_map_or (λ body. f body w) o (Halts Stuck w))
if_body_follows None f e n w c k = ends one_tick_more n Stuck w c k
if_body_follows (Some body) f e n w c k = e body n w c k

within_follows : (graph : Graph) → FollowsWithin (code_of graph)
within_follows graph p follow turns number =
    if_body_follows (slice_get graph.bodies number) _ (λ body. walk_follows one_tick_more names p p follow number (λ block line. 0) body turns 0)

module _ (strict : Bool) (graph : Graph) (ticks : ℕ) where
  abbrev setting : Setting
  setting = setting_of strict graph

  bodies_add : BodiesAdd (bodies_of strict graph ticks)
  bodies_add before event body args w t =
      answer_told before _ _ (bodies_more setting (code_of graph) (within_follows graph) ticks (After before) event body args w t)

  walks_add : (number : ℕ) (body : Body) (block : ℕ) → Adds (walks strict graph ticks number body block)
  walks_add number body block before w t =
      more_told before _ _ (follows_more (After before) _ _
      (walk_follows one_tick_more names (concrete_effects_of strict graph ticks) (concrete_effects_of strict graph ticks)
      (values_follow setting (bodies_of strict graph ticks) (bodies_more setting (code_of graph) (within_follows graph) ticks) (suc ticks))
      number (λ block line. 0) body (suc ticks) block (After before) w w (refl, t)))

  goes_on_told : (place : WaitingBody) (before : Trace) (o : Out State) → ToldOut before o → ToldAnswer before (goes_on strict graph ticks place o)
  goes_on_told place before (Go w) t = ended_told before place.number 0 _ (walks_add place.number place.body place.onward before w t)
  goes_on_told place before (Unwind w) t = ended_told before place.number 0 _ (by place.unwind)
    where
      by : (unwind : ways.Unwind) → ToldOut before (acts (Unwind w) (walks strict graph ticks place.number place.body) place.onward unwind)
      by (ways.Unwind.Block block) = walks_add place.number place.body block before w t
      by ways.Unwind.Resume = t
      by ways.Unwind.Abort = t
  goes_on_told place before (Halts halt w) t = t

  put_told : (to : EffectSite) (value : Datum) → Adds (put setting to value)
  put_told to value before w t = go (reach setting w to.place)
    where
      go : (r : Reached) → ToldOut before (on_reached r (λ s. Go (stored_at s.address value w)) (Halts Stuck w) (Halts Stuck w))
      go (Reaches s) = t
      go CutOff = t
      go Nowhere = t

  answered_told : (to : EffectSite) (before : Trace) (a : Answer) → ToldAnswer before a → ToldOut before (answered setting to a)
  answered_told to before (Returns value w) t = put_told to value before w t
  answered_told to before (Unwinds w) t = t
  answered_told to before (HaltsIn halt w) t = t

  -- what waits only adds
  abbrev WaitingAdds : Waiting → Type 0
  WaitingAdds waiting = (before : Trace) (a : Answer) → ToldAnswer before a → ToldAnswer before (resumed strict graph ticks waiting a)

  abbrev AllAdd : List Waiting → Type 0
  AllAdd [] = Unit {0}
  AllAdd (waiting ∷ others) = WaitingAdds waiting × AllAdd others

  call_adds : (place : WaitingBody) (to : EffectSite) (lost : Bool) → WaitingAdds (ForCall place to lost)
  call_adds place to lost before a t = goes_on_told place before _ (halting_told before lost Stuck _ (answered_told to before a t))

  waits_adds : (least : ℕ) (task : Task) (waiting : Waiting) → WaitsFor strict graph ticks least task waiting → WaitingAdds waiting
  waits_adds least (Task.Call post lost) waiting h = subst WaitingAdds (sym h.is) (call_adds (place_in post h.body) (site_of 0 h.to) lost)
  waits_adds least (Task.Drop post drops dynamic) waiting h =
      subst WaitingAdds (sym h.1.is)
      (λ before a t. goes_on_told (place_in post h.1.body) before _
      (awaits_told setting (bodies_of strict graph ticks) bodies_add drops.address.depth drops.address.key.0 (levels_of drops.levels) h.1.w drops.address.path
      (mode_by drops.unwinds) drops.panicked h.0 (dynamic_of dynamic) h.1.awaits before a t))

  all_add : (least : ℕ) (tasks : List Task) (older waiting : List Waiting) → AllAdd older → AllWait strict graph ticks least tasks older waiting → AllAdd waiting
  all_add least [] older waiting adds h = subst AllAdd (sym h) adds
  all_add least (task ∷ tasks) older waiting adds h = all_add least tasks (h.0 ∷ older) waiting (waits_adds least task h.0 h.1, adds) h.2

  outcome_told : (before : Trace) (a : Answer) → ToldAnswer before a → Begun (After before) (outcome_of a).0
  outcome_told before (Returns value w) t = t
  outcome_told before (Unwinds w) t = t
  outcome_told before (HaltsIn halt w) t = t

  left_told : (waiting : List Waiting) (before : Trace) (a : Answer) → AllAdd waiting → ToldAnswer before a → Begun (After before) (left strict graph ticks waiting a).0
  left_told [] before a adds t = outcome_told before a t
  left_told (waiting ∷ others) before a adds t = left_told others before (resumed strict graph ticks waiting a) adds.1 (adds.0 before a t)

  abbrev now_told : (w : State) → Told w.trace w
  now_told w = ([], sym (append-nil w.trace))

  run_told : (least : ℕ) (run : Trace × End) (tasks : List Task) (w : State) (IsAnswer : Answer → Type 0) → RunLeftFrom strict graph ticks least run tasks w IsAnswer →
      ((a : Answer) → IsAnswer a → ToldAnswer w.trace a) → Begun (After w.trace) run.0
  run_told least run tasks w IsAnswer h e =
      subst (λ (run : Trace × End). Begun (After w.trace) run.0) (sym h.is)
      (left_told h.waiting w.trace h.answer (all_add least tasks [] h.waiting tt h.waits) (e h.answer h.is_answer))

  -- what was told is the beginning of what the run tells
  pub told_first : (run : Trace × End) (tasks : List Task) (w : State) (doing : Doing) → DoingLeft strict graph ticks run tasks w doing → Begun (After w.trace) run.0
  told_first run tasks w (Doing.Walks number block) h =
      run_told _ run tasks w _ h (λ a is. subst (ToldAnswer w.trace) (sym is.ends) (ended_told w.trace number 0 _ (walks_add number is.body block w.trace w (now_told w))))
  told_first run tasks w (Doing.Drops post drops turn) h =
      run_told _ run tasks w _ h
      (λ a is. subst (ToldAnswer w.trace) (sym is.ends)
      (goes_on_told (place_in post is.body) w.trace is.out (turn_told setting (bodies_of strict graph ticks) bodies_add w.trace w is.out drops turn is.is_out (now_told w))))
  told_first run tasks w (Doing.Returned value) h = run_told _ run tasks w _ h (λ a is. subst (ToldAnswer w.trace) (sym is.1) (now_told w))
  told_first run tasks w Doing.Unwound h = run_told _ run tasks w _ h (λ a is. subst (ToldAnswer w.trace) (sym is) (now_told w))
  told_first run tasks w (Doing.Ended end) h = subst (λ (run : Trace × End). Begun (After w.trace) run.0) (sym h) (now_told w)

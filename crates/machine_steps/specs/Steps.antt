-- What one step of a run does, as the machine does it. Where a run has halted, only what it told is left to see.
use Rattle.std.specs.Prelude.{◌≡◌, ℤ, pos, int_lt, int_le, Bool, true, false, ◌&&◌, not, Option, Some, None}
use Rattle.mir_base.specs.declared.operator.Cmp.{Cmp}
use Rattle.mir_base.specs.Trace.{Trace}
use Rattle.machine_steps.specs.declared.actions.Outcome.{Outcome}
use Rattle.machine_steps.specs.declared.world.World.{World}
use Rattle.machine_steps.specs.Worlds.{state_of, run_setting}
use Rattle.store_model.specs.Concrete.Effects.{acted, choose, put, tell_after}
use Rattle.store_model.specs.Concrete.Location.{Setting}
use Rattle.mir_base.specs.declared.trace.Event.{Event}
use Rattle.store_model.specs.Concrete.State.{State, Bodies}
use Rattle.store_model.specs.Values.Datum.{Datum, Truth}
use Rattle.store_model.specs.Effects.{EffectSite, Action, Test, Halt, Stuck, Out, Go, Unwind, Halts, Choice, Yes, No, Neither}

pub data Seen : Type 0 where
  Goes : (w : State) → Seen
  Panics : (w : State) → Seen
  Halted : (halt : Halt) (trace : Trace) → Seen

abbrev pub seen : Out State → Seen
seen (Go w) = Goes w
seen (Unwind w) = Panics w
seen (Halts halt w) = Halted halt w.trace

abbrev pub leaves : Outcome → State → Seen
leaves Outcome.Goes w = Goes w
leaves Outcome.Panics w = Panics w
leaves Outcome.Stuck w = Halted Stuck w.trace

-- a step ends so, and leaves this
abbrev pub Does : (State → Out State) → World → Outcome → World → Type 0
Does step old outcome new = (before : Trace) → seen (step (state_of before old)) ≡ leaves outcome (state_of before new)

-- the same of an action that calls no body, whatever the bodies are
abbrev pub DoesAction : Action → World → Outcome → World → Type 0
DoesAction action old outcome new = (run : Bodies) → Does (acted (run_setting old) run action) old outcome new

-- the truth value that a value is
abbrev pub truth_of : Datum → Option Bool
truth_of (Truth truth) = Some truth
truth_of value = None

-- a value is stored, and then an event tells of it
abbrev pub stored_and_told : Setting → EffectSite → Datum → Event → State → Out State
stored_and_told setting to value event w = tell_after setting event (put setting to value w)

-- a truth value as a number, by which it compares
abbrev pub number_by_truth : Bool → ℤ
number_by_truth false = pos 0
number_by_truth true = pos 1

-- how two numbers compare
abbrev same_numbers : ℤ → ℤ → Bool
same_numbers a b = int_le a b && int_le b a

abbrev pub compared_as : Cmp → ℤ → ℤ → Bool
compared_as Cmp.Eq a b = same_numbers a b
compared_as Cmp.Ne a b = not (same_numbers a b)
compared_as Cmp.Lt a b = int_lt a b
compared_as Cmp.Le a b = int_le a b
compared_as Cmp.Gt a b = int_lt b a
compared_as Cmp.Ge a b = int_le b a

-- what is seen of a choice: it goes on one way or the other, or the run has halted
pub data SeenChoice : Type 0 where
  Chosen : (choice : Bool) (w : State) → SeenChoice
  NotChosen : (halt : Halt) (trace : Trace) → SeenChoice

abbrev pub seen_choice : Choice State → SeenChoice
seen_choice (Yes w) = Chosen true w
seen_choice (No w) = Chosen false w
seen_choice (Neither halt w) = NotChosen halt w.trace

abbrev pub leaves_choice : Option Bool → State → SeenChoice
leaves_choice (Some choice) w = Chosen choice w
leaves_choice None w = NotChosen Stuck w.trace

-- a test gives this choice, and leaves this
abbrev pub Chooses : Test → World → Option Bool → World → Type 0
Chooses test old choice new =
    (before : Trace) → seen_choice (choose (run_setting old) test (state_of before old))
    ≡ leaves_choice choice (state_of before new)

-- What a run has at hand, as the machine holds it.
use Rattle.std.specs.Prelude.{◌≡◌, List, ◌++◌, map, All, Option, Some, None, MatchOption}
use Rattle.cfg_graph.specs.declared.place.Operand.{Operand}
use Rattle.cfg_graph.specs.declared.place.Place.{Place}
use Rattle.cfg_meaning.specs.Actions.{site_of, operand_of, operands_of}
use Rattle.cfg_meaning.specs.Programs.{setting_of}
use Rattle.mir_base.specs.Trace.{Trace}
use Rattle.mir_base.specs.declared.trace.Event.{Event}
use Rattle.machine_steps.specs.declared.told.ToldEvents.{ToldEvents}
use Rattle.machine_store.specs.Activations.{activations_of}
use Rattle.machine_steps.specs.declared.world.World.{World}
use Rattle.store_model.specs.Concrete.Location.{Setting}
use Rattle.store_model.specs.Concrete.State.{State}
use Rattle.store_model.specs.Concrete.Effects.{evaluate_operand, evaluate_operands}
use Rattle.store_model.specs.declared.value.Value.{Value}
use Rattle.store_model.specs.Effects as effects
use Rattle.store_model.specs.Values.Datum.{datum_of}
use Rattle.store_model.specs.Values.Wholeness.{IsWhole}

-- the event that was told
abbrev pub event_of : ToldEvents → Event
event_of (ToldEvents.Event event) = event
event_of (ToldEvents.Printed number) = Event.Printed number

-- after these events, which were handed on
abbrev pub state_of : Trace → World → State
state_of before w = record {
  asked = w.asks.now;
  ticks = w.ticks;
  serial = w.serial;
  activations = activations_of w.store;
  trace = before ++ map event_of w.told;
}

abbrev pub run_setting : World → Setting
run_setting w = setting_of w.strict w.graph.now

abbrev pub copied_at : Place → effects.Operand
copied_at place = effects.Copied (site_of 0 place)

abbrev pub moved_at : Place → effects.Operand
moved_at place = effects.Moved (site_of 0 place)

-- an operand gives a whole value, and leaves another state; or it gives none, and leaves the same
abbrev pub Evaluates : Setting → Operand → State → Option Value → State → Type 0
Evaluates setting operand w taken after =
    MatchOption taken ((evaluate_operand setting (operand_of 0 operand) w ≡ None) × (after ≡ w))
    (λ value. IsWhole (datum_of value) × (evaluate_operand setting (operand_of 0 operand) w ≡
    Some (datum_of value, after)))

-- operands give whole values; or one gives none, and then no event was told
abbrev pub EvaluatesAll : Setting → List Operand → State → Option (List Value) → State → Type 0
EvaluatesAll setting operands w taken after =
    MatchOption taken ((evaluate_operands setting (operands_of 0 operands) w ≡ None) × (after.trace ≡ w.trace))
    (λ values. All (λ value. IsWhole (datum_of value)) values
    × (evaluate_operands setting (operands_of 0 operands) w ≡ Some (map datum_of values, after)))

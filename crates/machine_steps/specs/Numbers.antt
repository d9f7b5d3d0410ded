-- Checked operations, as the machine does them.
use Rattle.std.specs.Prelude.{ℤ, neg_ℤ, Option, Some, None}
use Rattle.mir_base.specs.declared.int_kind.IntKind.{IntKind}
use Rattle.mir_base.specs.declared.operator.Math.{Math}
use Rattle.machine_steps.specs.declared.arithmetic.Computation.{Computation}
use Rattle.store_model.specs.Concrete.Effects as effects
use Rattle.store_model.specs.Concrete.Effects.{Computed, computed, if_within, put_computed}
use Rattle.store_model.specs.Concrete.Location.{Setting}
use Rattle.store_model.specs.Concrete.State.{State}
use Rattle.store_model.specs.Effects.{EffectSite, Stuck, Out, Halts}
use Rattle.store_model.specs.Values.Datum.{Datum, Number}

abbrev pub computed_as : Computation → Computed
computed_as (Computation.Gives number) = effects.Gives number
computed_as (Computation.PanicsBy why) = effects.PanicsBy why

-- what an operation on two values gives, where it is one on numbers
abbrev pub computation : Math → Option IntKind → Datum → Datum → Option Computed
computation operator (Some kind) (Number a) (Number b) = Some (computed operator kind a b)
computation operator kind left right = None

-- what negation gives
abbrev pub negation : Option IntKind → Datum → Option Computed
negation (Some kind) (Number a) = Some (if_within kind (neg_ℤ a))
negation kind value = None

-- a number that was computed is stored, or a panic starts; or there is no step
abbrev pub puts_if : Setting → EffectSite → Option Computed → State → Out State
puts_if setting to None w = Halts Stuck w
puts_if setting to (Some computed) w = put_computed setting to computed w

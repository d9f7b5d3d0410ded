-- Checked operations, as the machine does them.
use Rattle.std.proofs.Common.{◌≡◌, ℕ, suc, Option, Some, None, length, refl, ap, sym, ◌∙◌}
use Rattle.std.specs.Prelude.{slice_get}
use Rattle.std.specs.Option.{option_map_or}
use Rattle.cfg_graph.specs.declared.place.Operand.{Operand}
use Rattle.cfg_meaning.specs.Actions.{operand_of}
use Rattle.mir_base.specs.declared.int_kind.IntKind.{IntKind}
use Rattle.mir_base.specs.declared.operator.Math.{Math}
use Rattle.mir_base.specs.Trace.{Trace}
use Rattle.machine_steps.specs.declared.actions.Outcome.{Outcome}
use Rattle.machine_steps.specs.declared.world.World.{World}
use Rattle.machine_steps.specs.Numbers.{computation, negation, puts_if}
use Rattle.machine_steps.specs.Steps.{seen, Does}
use Rattle.machine_steps.specs.Typed.{running, kind_of}
use Rattle.machine_steps.specs.Worlds.{state_of, run_setting}
use Rattle.machine_store.proofs.Activations.{youngest_frame}
use Rattle.machine_store.specs.Activations.{on_top_of}
use Rattle.machine_store.specs.declared.frame.StoredLocal.{StoredLocal}
use Rattle.std.specs.Prelude.{List, []}
use Rattle.store_model.specs.Concrete.Effects.{acted, compute, negate, with_operand, with_two_operands, Computed}
use Rattle.store_model.specs.Concrete.Location.{Setting}
use Rattle.store_model.specs.Concrete.State.{State, Bodies}
use Rattle.store_model.specs.Effects as actions
use Rattle.store_model.specs.Effects.{EffectSite, Out}
use Rattle.store_model.specs.Values.Datum.{Datum, Gone, Number, Truth, UnitValue, Aggregate, Box, Address}

-- the body that runs is that of the last frame
pub runs_last : (frames : List (ℕ × List StoredLocal)) (depth : ℕ) (frame : ℕ × List StoredLocal) → slice_get frames depth ≡ Some frame → suc depth ≡ length frames → running (on_top_of frames []) ≡ Some frame.0
runs_last frames depth frame e l = ap running (youngest_frame frames depth frame e l).1

-- the same steps end the same way
pub same_does : (one other : State → Out State) (old new : World) (outcome : Outcome) → ((before : Trace) → one (state_of before old) ≡ other (state_of before old)) → Does other old outcome new → Does one old outcome new
same_does one other old new outcome e h before = ap seen (e before) ∙ h before

pub computes_by : (setting : Setting) (to : EffectSite) (operator : Math) (kind : Option IntKind) (left right : Datum) (w : State) →
    compute setting to operator kind left right w ≡ puts_if setting to (computation operator kind left right) w
computes_by setting to operator None left right w = refl
computes_by setting to operator (Some kind) (Number a) (Number b) w = refl
computes_by setting to operator (Some kind) (Number a) other w = refl
computes_by setting to operator (Some kind) other right w = refl

pub negates_by : (setting : Setting) (to : EffectSite) (kind : Option IntKind) (value : Datum) (w : State) → negate setting to kind value w ≡ puts_if setting to (negation kind value) w
negates_by setting to None value w = refl
negates_by setting to (Some kind) (Number a) w = refl
negates_by setting to (Some kind) other w = refl

module _ (setting : Setting) (run : Bodies) (to : EffectSite) where
  pub acts_computing : (operator : Math) (left right : Operand) (w : State) → acted setting run (actions.Compute to operator (operand_of 0 left) (operand_of 0 right)) w
      ≡ with_two_operands setting (operand_of 0 left) (operand_of 0 right) w (compute setting to operator (kind_of setting w left))
  acts_computing operator (Operand.Copied place) right w = refl
  acts_computing operator (Operand.Moved place) right w = refl
  acts_computing operator (Operand.Number value kind) right w = refl
  acts_computing operator (Operand.Truth value) right w = refl
  acts_computing operator Operand.Unit right w = refl

  pub acts_negating : (operand : Operand) (w : State) → acted setting run (actions.Negate to (operand_of 0 operand)) w
      ≡ with_operand setting (operand_of 0 operand) w (negate setting to (kind_of setting w operand))
  acts_negating (Operand.Copied place) w = refl
  acts_negating (Operand.Moved place) w = refl
  acts_negating (Operand.Number value kind) w = refl
  acts_negating (Operand.Truth value) w = refl
  acts_negating Operand.Unit w = refl

-- the integer type of an operand goes by the bodies that run
pub same_kind : (w : World) (before : Trace) (operand : Operand) → kind_of (run_setting w) (state_of before w) operand ≡ kind_of (run_setting w) (state_of [] w) operand
same_kind w before (Operand.Copied place) = refl
same_kind w before (Operand.Moved place) = refl
same_kind w before (Operand.Number value kind) = refl
same_kind w before (Operand.Truth value) = refl
same_kind w before Operand.Unit = refl

-- what was computed is stored
module _ (setting : Setting) (to : EffectSite) (last new : World) (outcome : Outcome) (computed : Option Computed) (h : Does (puts_if setting to computed) last outcome new) where
  pub puts_computed : (operator : Math) (kind other : Option IntKind) (left right : Datum) → kind ≡ other → computed ≡ computation operator other left right → Does (compute setting to operator kind left right) last outcome new
  puts_computed operator kind other left right k e before =
      ap seen (computes_by setting to operator kind left right (state_of before last) ∙ ap (λ k. puts_if setting to (computation operator k left right) (state_of before last)) k
      ∙ ap (λ c. puts_if setting to c (state_of before last)) (sym e))
      ∙ h before

  pub puts_negated : (kind other : Option IntKind) (value : Datum) → kind ≡ other → computed ≡ negation other value → Does (negate setting to kind value) last outcome new
  puts_negated kind other value k e before =
      ap seen (negates_by setting to kind value (state_of before last) ∙ ap (λ k. puts_if setting to (negation k value) (state_of before last)) k ∙ ap (λ c. puts_if setting to c (state_of before last)) (sym e))
      ∙ h before

-- What one statement, operand or terminator does to what a run holds (the rustc development guide, "The MIR"). The
-- evaluation rules of the source and the steps of a graph are stated over these effects, so that one proof joins them,
-- whatever the effects are: those on values (`Concrete`), or those on what is present and gone (`Abstract`).
use Rattle.std.specs.Prelude.{◌≡◌, ℕ, ℤ, Bool, true, false, List, Option, Some, None}
use Rattle.std.specs.Option.{option_map_or}
use Rattle.mir_base.specs.declared.int_kind.IntKind.{IntKind}
use Rattle.mir_base.specs.declared.operator.Cmp.{Cmp}
use Rattle.mir_base.specs.declared.operator.Math.{Math}
use Rattle.mir_base.specs.declared.trace.Why.{Why}
use Rattle.store_model.specs.Places.Place.{Place}

-- a place with the number of the node that uses it, which a refused use names
pub record EffectSite : Type 0 where
  pub node : ℕ
  pub place : Place

pub data Operand : Type 0 where
  Copied : (site : EffectSite) → Operand
  Moved : (site : EffectSite) → Operand
  Number : (value : ℤ) (kind : IntKind) → Operand
  Truth : (value : Bool) → Operand
  UnitValue : Operand

-- what an aggregate is
pub data AggregateKind : Type 0 where
  OfTuple : AggregateKind
  OfArray : AggregateKind
  OfVariant : (adt variant : ℕ) → AggregateKind
  OfClosure : (closure : ℕ) → AggregateKind

pub data Action : Type 0 where
  Put : (to : EffectSite) (from : Operand) → Action
  Compare : (to : EffectSite) (operator : Cmp) (left right : Operand) → Action
  Not : (to : EffectSite) (operand : Operand) → Action
  Build : (to : EffectSite) (kind : AggregateKind) (parts : List Operand) → Action
  NewBox : (to : EffectSite) (content : Operand) → Action
  Unsize : (to : EffectSite) (trait_no : ℕ) (operand : Operand) → Action
  Borrow : (to : EffectSite) (unique : Bool) (base : EffectSite) → Action
  Touch : (base : EffectSite) → Action
  Print : (operand : Operand) → Action
  Forget : (operand : Operand) → Action
  Free : (box : EffectSite) → Action
  Compute : (to : EffectSite) (operator : Math) (left right : Operand) → Action
  Negate : (to : EffectSite) (operand : Operand) → Action
  Bounds : (index : Operand) (length : ℕ) → Action
  Call : (to : EffectSite) (body : ℕ) (args : List Operand) → Action
  CallVirtual : (to : EffectSite) (trait_no method : ℕ) (args : List Operand) → Action
  Ask : (to : EffectSite) → Action

-- the place into which an action stores, if it stores
abbrev pub stored_by : Action → Option EffectSite
stored_by (Put to from) = Some to
stored_by (Compare to operator left right) = Some to
stored_by (Not to operand) = Some to
stored_by (Build to kind parts) = Some to
stored_by (NewBox to content) = Some to
stored_by (Unsize to trait_no operand) = Some to
stored_by (Borrow to unique base) = Some to
stored_by (Touch base) = None
stored_by (Print operand) = None
stored_by (Forget operand) = None
stored_by (Free box) = None
stored_by (Compute to operator left right) = Some to
stored_by (Negate to operand) = Some to
stored_by (Bounds index length) = None
stored_by (Call to body args) = Some to
stored_by (CallVirtual to trait_no method args) = Some to
stored_by (Ask to) = Some to

-- it stores into a place of which something holds
abbrev pub stores_where : (EffectSite → Bool) → Action → Bool
stores_where holds action = option_map_or holds (stored_by action) false

pub data Test : Type 0 where
  IsTrue : (operand : Operand) → Test
  HasVariant : (site : EffectSite) (variant : ℕ) → Test

-- a drop before a panic, and one that is made while a panic unwinds
pub data Mode : Type 0 where
  Normal : Mode
  Unwinding : Mode

-- Why a run halts at once, with no further drops: a second panic while unwinding, no tick, no step that the rules give
-- (in a block of a graph, once that is known), and in a free run a refused use of a place, a choice that is missing,
-- a choice that no run takes, or a point past which no run comes.
pub data Halt : Type 0 where
  Aborted : Halt
  OutOfTicks : Halt
  Stuck : Halt
  StuckAt : (body block : ℕ) → Halt
  BadUse : (site : EffectSite) → Halt
  BadStore : (site : EffectSite) → Halt
  NoChoice : Halt
  Infeasible : Halt
  Unreachable : Halt

-- an effect goes on, a panic unwinds from it, or the run halts
pub data Out (W : Type 0) : Type 0 where
  Go : (w : W) → Out W
  Unwind : (w : W) → Out W
  Halts : (halt : Halt) (w : W) → Out W

pub data Choice (W : Type 0) : Type 0 where
  Yes : (w : W) → Choice W
  No : (w : W) → Choice W
  Neither : (halt : Halt) (w : W) → Choice W

pub record Effects (W : Type 0) : Type 0 where
  pub act : Action → W → Out W
  pub choose : Test → W → Choice W
  pub drop : Mode → EffectSite → W → Out W
  pub panic : Why → W → W
  pub tick : W → Out W
  pub give : EffectSite → W → Out W  -- a body ends with the value of its result

-- what comes next, where an effect goes on
abbrev pub on_go : {W : Type 0} → Out W → (W → Out W) → Out W
on_go (Go w) next = next w
on_go (Unwind w) next = Unwind w
on_go (Halts halt w) next = Halts halt w

-- a panic that unwinds out of a drop made while unwinding aborts the run
abbrev pub aborting : {W : Type 0} → Out W → (W → Out W) → Out W
aborting (Go w) next = next w
aborting (Unwind w) next = Halts Aborted w
aborting (Halts halt w) next = Halts halt w

-- where something holds, what would go on halts
abbrev pub halting_if : {W : Type 0} → Bool → Halt → Out W → Out W
halting_if true halt (Go w) = Halts halt w
halting_if true halt out = out
halting_if false halt out = out

abbrev pub DoesNotGoOn : {W : Type 0} → Out W → Type 0
DoesNotGoOn (Go w) = ⊥
DoesNotGoOn (Unwind w) = Unit {0}
DoesNotGoOn (Halts halt w) = Unit {0}

-- no action that stores into a place of the type `!` goes on
abbrev pub StoresNoNever : {W : Type 0} → (W → EffectSite → Bool) → Effects W → Type 0
StoresNoNever {W} never_at p =
    (action : Action) (w : W) → stores_where (never_at w) action ≡ true → DoesNotGoOn (p.act action w)

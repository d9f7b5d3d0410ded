-- What is left of a drop that the machine makes.
use Rattle.std.specs.Prelude.{◌≡◌, ℕ, ◌<◌, ◌⊎◌, Bool, true, false, List, [], ◌∷◌, ◌++◌, Option, Some, None, option_map}
use Rattle.machine_steps.specs.declared.drops.Drops.{Drops}
use Rattle.machine_steps.specs.declared.drops.Turn.{Turn}
use Rattle.machine_steps.specs.declared.level.Level.{Level}
use Rattle.machine_steps.specs.Continuation as left
use Rattle.machine_steps.specs.Continuation.{LeavesLeft, GoesLeft, ClearsLeft, FreesLeft, VisitsLeft, ReadLeft, AwaitsLeft, EntersLeft, finished, own_impl, told_serial, found_as}
use Rattle.machine_steps.specs.declared.found.OwnDrop.{OwnDrop}
use Rattle.machine_store.specs.declared.types.Dynamic.{Dynamic}
use Rattle.store_model.specs.declared.address.Addr.{Addr}
use Rattle.store_model.specs.declared.address.At.{At}
use Rattle.store_model.specs.Values.Datum.{Datum, Gone}
use Rattle.machine_steps.specs.declared.found.FoundValue.{FoundValue}
use Rattle.machine_steps.specs.Reading.{ShowsValue, pair_of}
use Rattle.mir_ty.specs.ItemTable.{ItemTable}
use Rattle.machine_steps.specs.Steps.{seen, Halted}
use Rattle.machine_store.specs.Standing.{dynamic_of}
use Rattle.store_model.specs.Concrete.Drops.{Stage, HasRun, drop_impl, gone_at, freed_at, drop_at}
use Rattle.store_model.specs.Concrete.Drops as stages
use Rattle.store_model.specs.Concrete.Location.{Setting, Located, concrete_ty, located_at}
use Rattle.store_model.specs.Concrete.State.{State, Answer, Returns, Unwinds, Bodies}
use Rattle.store_model.specs.Effects.{Mode, Normal, Unwinding, Aborted, Stuck, Out, Go, Halts}

abbrev pub level_of : Level → left.Level
level_of (Level.Parts dynamic variant next total ticks) = left.PartsOf (dynamic_of dynamic) variant next total ticks
level_of (Level.Content dynamic) = left.ContentOf (dynamic_of dynamic)

-- levels, the innermost first, within outer ones
abbrev pub within : List Level → List left.Level → List left.Level
within [] outer = outer
within (level ∷ levels) outer = within levels (level_of level ∷ outer)

abbrev pub levels_of : List Level → List left.Level
levels_of levels = within levels []

abbrev pub mode_by : Bool → Mode
mode_by true = Unwinding
mode_by false = Normal

abbrev pub stage_by : Bool → Stage
stage_by true = HasRun
stage_by false = stages.Begins

-- what is left of a drop that does this next ends so
module _ (setting : Setting) (run : Bodies) (w : State) (out : Out State) (drops : Drops) where
  abbrev depth : ℕ
  depth = drops.address.depth

  abbrev key : ℕ
  key = drops.address.key.0

  abbrev pub TurnLeft : Turn → Type 0
  TurnLeft (Turn.Visits has_run expected) =
      VisitsLeft setting run depth key (levels_of drops.levels) w drops.address.path (mode_by drops.unwinds)
      drops.panicked out
      (stage_by has_run) (option_map dynamic_of expected)
  TurnLeft Turn.Goes =
      GoesLeft setting run depth key (levels_of drops.levels) w drops.address.path (mode_by drops.unwinds)
      drops.panicked out
  TurnLeft Turn.Leaves =
      LeavesLeft setting run depth key (levels_of drops.levels) w drops.address.path (mode_by drops.unwinds)
      drops.panicked out
  TurnLeft (Turn.Clears dynamic) =
      ClearsLeft setting run depth key (levels_of drops.levels) w drops.address.path (mode_by drops.unwinds)
      drops.panicked out
      (dynamic_of dynamic)
  TurnLeft (Turn.Frees dynamic) =
      FreesLeft setting run depth key (levels_of drops.levels) w drops.address.path (mode_by drops.unwinds)
      drops.panicked out
      (dynamic_of dynamic)
  TurnLeft (Turn.Enters adt serial body dynamic) =
      EntersLeft setting run depth key (levels_of drops.levels) w drops.address.path (mode_by drops.unwinds)
      drops.panicked out
      adt serial body (dynamic_of dynamic)
  TurnLeft Turn.Ends = out ≡ finished drops.panicked (Go w)
  TurnLeft Turn.Stuck = seen out ≡ Halted Stuck w.trace

-- What steps of a drop leave.

-- the state of a run of these items, with so many ticks
pub record IsOf (items : ItemTable) (ticks : ℕ) (setting : Setting) (w : State) : Type 0 where
  pub items_are : setting.items ≡ items
  pub ticks_are : w.ticks ≡ ticks

-- it goes on with this turn
abbrev pub GoesOn : Turn → ItemTable → ℕ → Drops → Drops → Turn → Type 0
GoesOn turn items ticks old new next =
    (setting : Setting) (run : Bodies) (w : State) (out : Out State) → IsOf items ticks setting w →
    TurnLeft setting run w out old turn → TurnLeft setting run w out new next

-- the `Drop` body of what was found that is still to run, if its own may have run
abbrev pub IsOwn : ItemTable → Bool → FoundValue → Option OwnDrop → Type 0
IsOwn items has_run found own =
    option_map pair_of own ≡ own_impl (stage_by has_run)
    (drop_impl items (concrete_ty items (dynamic_of found.dynamic)))

-- it goes on with what was read
abbrev pub Begins : ItemTable → ℕ → Bool → FoundValue → Drops → Drops → Turn → Type 0
Begins items ticks has_run found old new next =
    (setting : Setting) (run : Bodies) (w : State) (out : Out State) (s : Located) → IsOf items ticks setting w →
    located_at setting w old.address ≡ Some s → s.dynamic ≡ dynamic_of found.dynamic →
    ShowsValue items s.value s.dynamic found.kind →
    ReadLeft setting run old.address.depth old.address.key.0 (levels_of old.levels) w old.address.path
    (mode_by old.unwinds) old.panicked out (stage_by has_run) s → TurnLeft setting run w out new next

-- a part of the innermost container, which was left out of the levels
abbrev pub GoesOnPart : ItemTable → ℕ → Dynamic → (variant part total ticks : ℕ) → Drops → Drops → Turn → Type 0
GoesOnPart items now dynamic variant part total ticks old new next =
    (setting : Setting) (run : Bodies) (w : State) (out : Out State) → IsOf items now setting w →
    GoesLeft setting run old.address.depth old.address.key.0
    (left.PartsOf (dynamic_of dynamic) variant part total ticks ∷ levels_of old.levels) w old.address.path
    (mode_by old.unwinds) old.panicked out → TurnLeft setting run w out new next

-- a path without its last step
pub record EndsIn (path above : List At) : Type 0 where
  pub step : At
  pub is : path ≡ above ++ step ∷ []

abbrev pub IsContainer : List At → List At → Type 0
IsContainer path above = (path ≡ []) ⊎ EndsIn path above

abbrev pub enters_of : OwnDrop → Option ℕ → Dynamic → Turn
enters_of of serial dynamic = Turn.Enters of.adt (told_serial serial) of.body dynamic

abbrev pub expected_by : Bool → Dynamic → Option Dynamic
expected_by true dynamic = None
expected_by false dynamic = Some dynamic

abbrev pub left_if : Bool → Turn
left_if true = Turn.Leaves
left_if false = Turn.Stuck

-- what was found at an address is gone there; or it was not found so, and there is no step
abbrev pub Does : (State → Out State) → State → Bool → State → Type 0
Does step w true v = step w ≡ Go v
Does step w false v = (step w ≡ Halts Stuck w) × (v ≡ w)

abbrev pub Clears : Setting → Bodies → Addr → Dynamic → State → Bool → State → Type 0
Clears setting run address dynamic w went v =
    Does (gone_at setting run
    (found_as setting run address.depth address.key.0 address.path (dynamic_of dynamic) Gone)) w went v

abbrev pub Frees : Setting → Bodies → Addr → Dynamic → State → Bool → State → Type 0
Frees setting run address dynamic w went v =
    Does (freed_at setting run
    (found_as setting run address.depth address.key.0 address.path (dynamic_of dynamic) Gone)) w went v

-- How a drop begins, and how it goes on after a `Drop` body.

-- the drop of what stands at an address
abbrev pub IsDropOf : Addr → Bool → Drops → Type 0
IsDropOf address unwinds drops =
    (setting : Setting) (run : Bodies) (w : State) (fuel : ℕ) (dynamic : Dynamic) → w.ticks < fuel →
    TurnLeft setting run w
    (drop_at setting run fuel stages.Begins
    (found_as setting run address.depth address.key.0 address.path (dynamic_of dynamic) Gone) (mode_by unwinds) w)
    drops (Turn.Visits false (Some dynamic))

-- what is left after the `Drop` body returned, or unwound
abbrev pub IsResumed : Setting → Bodies → State → (Answer → Out State) → Drops → Bool → Option Turn → Type 0
IsResumed setting run v outs drops panicked None = (panicked ≡ true) × (outs (Unwinds v) ≡ Halts Aborted v)
IsResumed setting run v outs drops true (Some turn) = TurnLeft setting run v (outs (Unwinds v)) drops turn
IsResumed setting run v outs drops false (Some turn) =
    (value : Datum) → TurnLeft setting run v (outs (Returns value v)) drops turn

abbrev pub IsResumedBy : Dynamic → Bool → Drops → Drops → Option Turn → Type 0
IsResumedBy dynamic panicked old new turn =
    (setting : Setting) (run : Bodies) (w v : State) (outs : Answer → Out State) → v.ticks < w.ticks →
    AwaitsLeft setting run old.address.depth old.address.key.0 (levels_of old.levels) w old.address.path
    (mode_by old.unwinds) old.panicked outs (dynamic_of dynamic) → IsResumed setting run v outs new panicked turn

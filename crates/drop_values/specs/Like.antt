-- A state of a raw run and one of the elaborated run that are alike: the same events, ticks and numbers to be asked;
-- the same bodies run; each local of the raw graph holds what covers the other's; and what the flags hold is known.
use Rattle.std.specs.Prelude.{◌≡◌, ◌⊎◌, ℕ, true, false, List, Option, Some, None, length, ◌≤◌, [], ◌∷◌}
use Rattle.std.specs.Option.{option_map_or}
use Rattle.mir_base.specs.declared.trace.Event.{Event}
use Rattle.mir_ty.specs.declared.ty.TyId.{TyId}
use Rattle.mir_ty.specs.ItemTable.{ItemTable}
use Rattle.store_model.specs.Values.Datum.{Datum, Gone, Address}
use Rattle.store_model.specs.Effects.{Halt, Stuck, StuckAt, Out, Go, Unwind, Halts}
use Rattle.store_model.specs.Concrete.Location.{Setting, concrete_ty, Located, located_at}
use Rattle.store_model.specs.Concrete.Drops.{drop_impl}
use Rattle.store_model.specs.Concrete.State.{State, Activation, cell, at_depth, Answer, Returns, Unwinds, HaltsIn, Bodies}
use Rattle.drop_values.specs.Covers.{CoversBy, Unnumbered}
use Rattle.drop_values.specs.Typed.{IsFull}

abbrev pub held_by : ℕ → Option Activation → Datum
held_by k o = option_map_or (λ a. cell k a.cells) o Gone

abbrev pub body_of : Option Activation → Option ℕ
body_of o = option_map_or (λ a. Some a.body) o None

-- what a local of a depth holds, and which body runs there
abbrev pub held : ℕ → ℕ → State → Datum
held d k w = held_by k (at_depth d w.activations)

abbrev pub body_at : ℕ → State → Option ℕ
body_at d w = body_of (at_depth d w.activations)

-- the same events, ticks and numbers to be asked
pub record SameTold (w w' : State) : Type 0 where
  pub asked : w'.asked ≡ w.asked
  pub ticks : w'.ticks ≡ w.ticks
  pub serial : w'.serial ≡ w.serial
  pub trace : w'.trace ≡ w.trace

abbrev pub IsStuck : Halt → Type 0
IsStuck Stuck = Unit {0}
IsStuck (StuckAt body block) = Unit {0}
IsStuck _ = ⊥

-- what the locals that the elaboration added hold, by depth and local
abbrev pub Flags : Type 0
Flags = ℕ → ℕ → Datum

module _ (Spare : Datum → Type 0) (local_ty : (body local : ℕ) → Option TyId) where
  -- such values may stand where the first state holds nothing
  pub record LikeBy (flags : Flags) (w w' : State) : Type 0 where
    pub asked : w'.asked ≡ w.asked
    pub ticks : w'.ticks ≡ w.ticks
    pub serial : w'.serial ≡ w.serial
    pub trace : w'.trace ≡ w.trace
    pub count : length w'.activations ≡ length w.activations
    pub bodies : (d : ℕ) → body_at d w' ≡ body_at d w
    pub covers : (d k b : ℕ) (id : TyId) → body_at d w ≡ Some b → local_ty b k ≡ Some id →
        CoversBy Spare (held d k w) (held d k w')
    pub flags_are : (d k b : ℕ) → body_at d w ≡ Some b → local_ty b k ≡ None → held d k w' ≡ flags d k

module _ (local_ty : (body local : ℕ) → Option TyId) where
  abbrev pub Like : Flags → State → State → Type 0
  Like flags w w' = LikeBy Unnumbered local_ty flags w w'

  -- unless the raw run is stuck, the elaborated one goes the same way
  abbrev pub Same : (State → State → Type 0) → Out State → Out State → Type 0
  Same P (Go w) o = (w' : State) × (o ≡ Go w') × P w w'
  Same P (Unwind w) o = (w' : State) × (o ≡ Unwind w') × P w w'
  Same P (Halts halt w) o = IsStuck halt ⊎ ((w' : State) × (o ≡ Halts halt w') × (w'.trace ≡ w.trace))

  abbrev pub SameAnswer : Flags → Answer → Answer → Type 0
  SameAnswer flags (Returns value w) a = (w' : State) × (a ≡ Returns value w') × Like flags w w'
  SameAnswer flags (Unwinds w) a = (w' : State) × (a ≡ Unwinds w') × Like flags w w'
  SameAnswer flags (HaltsIn halt w) a = IsStuck halt ⊎ ((w' : State) × (a ≡ HaltsIn halt w') × (w'.trace ≡ w.trace))

  -- bodies that do the same where at most so many ticks are left, and they may be entered with these arguments
  abbrev pub SameBodies : (ℕ → List Datum → State → Type 0) → ℕ → Bodies → Bodies → Type 0
  SameBodies good n run run' = (flags : Flags) (event : Event) (body : ℕ) (args : List Datum) (w w' : State) →
      good body args w → Like flags w w' → w.ticks ≤ n →
      SameAnswer flags (run event body args w) (run' event body args w')

-- the settings of the two graphs: the same items; the elaborated graph has further locals, and drops strictly
abbrev pub raw_setting : ItemTable → ((body local : ℕ) → Option TyId) → Setting
raw_setting items local_ty = record { items = items; local_ty = local_ty; strict = false }

abbrev pub strict_setting : ItemTable → ((body local : ℕ) → Option TyId) → Setting
strict_setting items local_ty = record { items = items; local_ty = local_ty; strict = true }

-- a `Drop` body may be entered where the value is full
abbrev pub MayEnter : ItemTable → ((body local : ℕ) → Option TyId) → (ℕ → List Datum → State → Type 0) → Type 0
MayEnter items local_ty good = (flags : Flags) (of : ℕ × ℕ) (s : Located) (w w' : State) → Like local_ty flags w w' →
    drop_impl items (concrete_ty items s.dynamic) ≡ Some of →
    located_at (raw_setting items local_ty) w s.address ≡ Some s → IsFull items s.dynamic s.value →
    good of.1 (Address s.address ∷ []) w

abbrev pub Extends : ((body local : ℕ) → Option TyId) → ((body local : ℕ) → Option TyId) → Type 0
Extends local_ty local_ty' = (body local : ℕ) (id : TyId) → local_ty body local ≡ Some id →
    local_ty' body local ≡ Some id

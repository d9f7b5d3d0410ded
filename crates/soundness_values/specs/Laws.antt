-- The laws of soundness: a program that is well typed, keeps the rules of borrows and is accepted is never stuck, a
-- call changes nothing but what its `&mut` arguments name and leaves whole what its references name, and each value
-- that has a serial number ends once.
use Rattle.std.specs.Prelude.{◌≡◌, ◌≢◌, ◌⊎◌, ℕ, Bool, true, false, ℤ, List, [], ◌∷◌, Option, Some, None, slice_get}
use Rattle.mir_base.specs.declared.trace.End.{End}
use Rattle.mir_base.specs.declared.trace.Event.{Event}
use Rattle.mir_base.specs.Trace.{Trace}
use Rattle.mir_ty.specs.declared.def.Sig.{Sig}
use Rattle.mir_ty.specs.declared.ty.Ty.{Ty}
use Rattle.mir_ty.specs.declared.ty.TyId.{TyId}
use Rattle.mir_ty.specs.ItemTable.{ItemTable, type_at}
use Rattle.store_model.specs.declared.address.Addr.{Addr}
use Rattle.store_model.specs.Values.Datum.{Datum, Address}
use Rattle.store_model.specs.Effects.{Aborted, OutOfTicks}
use Rattle.store_model.specs.Concrete.Bodies.{run_body}
use Rattle.store_model.specs.Concrete.Location.{Setting, OfType, Located, is_of_type, located_at, stored_at}
use Rattle.store_model.specs.Concrete.State.{State, Activation, Answer, Returns, Unwinds, HaltsIn}
use Rattle.src_meaning.specs.Programs.{source, setting_of, code_of, IsAccepted}
use Rattle.typed_tree.specs.Tree.{ProgramTree}
use Rattle.typing_rules.specs.Borrows.{broken_borrow}
use Rattle.well_typed.specs.Program.{WellTyped}
use Rattle.soundness_values.specs.Frames.{Apart, Alike}
use Rattle.mir_base.specs.Once.{IsOnce, IsAtMostOnce}
use Rattle.soundness_values.specs.Typed.{IsOf, is_found}

-- what the checks before a run ask of a program
pub record IsSound (p : ProgramTree) : Type 0 where
  pub typed : WellTyped p
  pub borrows : broken_borrow p ≡ None
  pub accepted : IsAccepted p

-- no run is stuck: nothing that is gone is read, and no step is missing
abbrev pub NeverStuck : Type 0
NeverStuck = (p : ProgramTree) (asked : List ℤ) (ticks body block : ℕ) → IsSound p →
    (source p asked ticks).1 ≢ End.Stuck body block

-- ---- calls

-- a whole value stands at an address, and is of the type as which it is found there
pub record Names (setting : Setting) (w : State) (to : TyId) (address : Addr) : Type 0 where
  pub standing : Located
  pub stands : located_at setting w address ≡ Some standing
  pub of_type : is_of_type setting.items to standing.dynamic ≡ true
  pub by_impl : is_found setting.items standing.dynamic ≡ true
  pub whole : IsOf setting.items standing.dynamic standing.value

-- a reference argument: whether it is unique, where what it names stands, and of what type that is
pub record Reference : Type 0 where
  pub unique : Bool
  pub address : Addr
  pub to : TyId

abbrev pub reference : Option Ty → Datum → Option Reference
reference (Some (Ty.Unique to)) (Address address) = Some record { unique = true; address = address; to = to }
reference (Some (Ty.Shared to)) (Address address) = Some record { unique = false; address = address; to = to }
reference ty value = None

abbrev pub and_those : Option Reference → List Reference → List Reference
and_those None rest = rest
and_those (Some r) rest = r ∷ rest

abbrev pub references : ItemTable → List TyId → List Datum → List Reference
references items [] values = []
references items tys [] = []
references items (ty ∷ tys) (value ∷ values) = and_those (reference (type_at items ty) value)
    (references items tys values)

-- what the reference arguments of a call name is whole, and no other overlaps what a `&mut` argument names
pub record MayBePassed (setting : Setting) (w : State) (refs : List Reference) : Type 0 where
  pub named : (n : ℕ) (r : Reference) → slice_get refs n ≡ Some r → Names setting w r.to r.address
  pub alone : (n m : ℕ) (r s : Reference) → n ≢ m → slice_get refs n ≡ Some r → slice_get refs m ≡ Some s →
      r.unique ≡ true → Apart r.address s.address

-- the older activations hold what they held, but at and below the places that the `&mut` arguments name
pub data ChangedAt (refs : List Reference) : List Activation → List Activation → Type 0 where
  unchanged : (before after : List Activation) → Alike after before → ChangedAt refs before after
  changed : (w : State) (before after : List Activation) (n : ℕ) (r : Reference) (d : Datum) →
      ChangedAt refs before w.activations → slice_get refs n ≡ Some r → r.unique ≡ true →
      Alike after (stored_at r.address d w).activations → ChangedAt refs before after

-- a call that does not end the run
pub record LeavesWhole (setting : Setting) (w v : State) (refs : List Reference) : Type 0 where
  pub changes : ChangedAt refs w.activations v.activations
  pub whole : (n : ℕ) (r : Reference) → slice_get refs n ≡ Some r → Names setting v r.to r.address

abbrev pub LeftBy : Setting → State → List Reference → TyId → Answer → Type 0
LeftBy setting w refs result (Returns value v) = LeavesWhole setting w v refs × IsOf setting.items
    (OfType result) value
LeftBy setting w refs result (Unwinds v) = LeavesWhole setting w v refs
LeftBy setting w refs result (HaltsIn halt v) = (halt ≡ Aborted) ⊎ (halt ≡ OutOfTicks)

-- a value is of a type, with all its parts
abbrev pub AreOf : ItemTable → List TyId → List Datum → Type 0
AreOf items [] [] = Unit {0}
AreOf items (ty ∷ tys) (value ∷ values) = IsOf items (OfType ty) value × AreOf items tys values
AreOf items _ _ = ⊥

-- A call of a body with arguments of its types, of which the references may be passed together, is never stuck, and
-- changes older activations only where its `&mut` arguments allow it; each place that its reference arguments name
-- stays whole.
abbrev pub CallsLeaveWhole : Type 0
CallsLeaveWhole =
    (p : ProgramTree) (event : Event) (fuel n : ℕ) (sig : Sig) (values : List Datum) (w : State) → IsSound p →
    slice_get p.items.bodies n ≡ Some sig → AreOf p.items sig.params values →
    MayBePassed (setting_of p) w (references p.items sig.params values) →
    LeftBy (setting_of p) w (references p.items sig.params values) sig.result
    (run_body (setting_of p) (code_of p) fuel event n values w)

-- ---- serial numbers

abbrev pub EndsSo : Trace → End → Type 0
EndsSo trace End.Returned = IsOnce trace
EndsSo trace End.Panicked = IsOnce trace
EndsSo trace end = IsAtMostOnce trace

-- where a run returns or unwinds, each value that has a serial number is dropped, freed or forgotten exactly once;
-- and at most once otherwise
abbrev pub EndsOnce : Type 0
EndsOnce = (p : ProgramTree) (asked : List ℤ) (ticks : ℕ) → IsSound p → EndsSo (source p asked ticks).0
    (source p asked ticks).1

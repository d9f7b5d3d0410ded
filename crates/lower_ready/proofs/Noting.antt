-- Effects that only look: each line that uses places is shown to a watch, with whether it is a call, whatever is
-- present or gone. A condition may go either way, and what can panic may panic, as the choices say.
use Rattle.std.proofs.Common.{ℕ, ◌≤◌, Bool, true, false, List, [], ◌∷◌, ◌++◌, length, flat_map, Option, arith}
use Rattle.std.specs.Option.{option_map_or}
use Rattle.mir_ty.specs.declared.ty.TyId.{TyId}
use Rattle.mir_ty.specs.Facts.{needs_drop}
use Rattle.mir_ty.specs.ItemTable.{ItemTable}
use Rattle.store_model.proofs.Effects.Laws.{NoMore, NoMoreOf, Ticked, Laws}
use Rattle.store_model.specs.Abstract.Effects.{never_at}
use Rattle.store_model.specs.Effects as effects
use Rattle.store_model.specs.Effects.{EffectSite, Operand, Action, Test, IsTrue, HasVariant, Mode, Normal, Unwinding, Halt, Aborted, NoChoice, Infeasible, Unreachable, Out, Go, Unwind, Halts, Choice, Yes, No, Neither, Effects, stored_by, stores_where, halting_if}
use Rattle.store_model.specs.Places.Place.{Place, place_ty}
use Rattle.cfg_graph.specs.Uses.{PlaceUse, Copies, Moves, Borrows, Touches, Tests, Stores, Drops, Frees}

-- a use of a place
abbrev pub Note : Type 0
Note = PlaceUse × Place

-- ---- what an action does with places, in its order

abbrev pub operand_notes : Operand → List Note
operand_notes (effects.Copied site) = (Copies, site.place) ∷ []
operand_notes (effects.Moved site) = (Moves, site.place) ∷ []
operand_notes (effects.Number value kind) = []
operand_notes (effects.Truth value) = []
operand_notes effects.UnitValue = []

abbrev pub operands_in : Action → List Operand
operands_in (effects.Put to from) = from ∷ []
operands_in (effects.Compare to operator left right) = left ∷ right ∷ []
operands_in (effects.Not to operand) = operand ∷ []
operands_in (effects.Build to kind parts) = parts
operands_in (effects.NewBox to content) = content ∷ []
operands_in (effects.Unsize to trait_no operand) = operand ∷ []
operands_in (effects.Borrow to unique base) = []
operands_in (effects.Touch base) = []
operands_in (effects.Print operand) = operand ∷ []
operands_in (effects.Forget operand) = operand ∷ []
operands_in (effects.Free box) = []
operands_in (effects.Compute to operator left right) = left ∷ right ∷ []
operands_in (effects.Negate to operand) = operand ∷ []
operands_in (effects.Bounds index length) = index ∷ []
operands_in (effects.Call to body args) = args
operands_in (effects.CallVirtual to trait_no method args) = args
operands_in (effects.Ask to) = []

abbrev pub other_notes : Action → List Note
other_notes (effects.Borrow to unique base) = (Borrows, base.place) ∷ []
other_notes (effects.Touch base) = (Touches, base.place) ∷ []
other_notes (effects.Free box) = (Frees, box.place) ∷ []
other_notes _ = []

-- what an action uses before it stores, and what it stores into
abbrev pub before : Action → List Note
before action = flat_map operand_notes (operands_in action) ++ other_notes action

abbrev pub store_note : EffectSite → List Note
store_note site = (Stores, site.place) ∷ []

abbrev pub stored : Action → List Note
stored action = option_map_or store_note (stored_by action) []

abbrev pub tested : Test → List Note
tested (IsTrue operand) = flat_map operand_notes (operand ∷ []) ++ []
tested (HasVariant site variant) = (Tests, site.place) ∷ []

-- an action that a terminator does, which may panic
abbrev pub may_panic : Action → Bool
may_panic (effects.Compute to operator left right) = true
may_panic (effects.Negate to operand) = true
may_panic (effects.Bounds index length) = true
may_panic (effects.Call to body args) = true
may_panic (effects.CallVirtual to trait_no method args) = true
may_panic (effects.Ask to) = true
may_panic _ = false

-- a call
abbrev pub is_call : Action → Bool
is_call (effects.Call to body args) = true
is_call (effects.CallVirtual to trait_no method args) = true
is_call _ = false

-- what a watch makes of a line
abbrev pub Sees : Type 0 → Type 0
Sees M = (call : Bool) → List Note → M → M

-- ---- the effects

-- what a watch has seen, and the choices that are left
pub record Watched (M : Type 0) : Type 0 where
  pub seen : M
  pub choices : List Bool

abbrev pub left_of : {M : Type 0} → Watched M → ℕ
left_of w = length w.choices

module _ {M : Type 0} where
  abbrev pub choice : List Bool → M → (Watched M → Out (Watched M)) → (Watched M → Out (Watched M)) → Out (Watched M)
  choice [] seen zero_does one_does = Halts NoChoice (record { seen = seen; choices = [] })
  choice (false ∷ rest) seen zero_does one_does = zero_does (record { seen = seen; choices = rest })
  choice (true ∷ rest) seen zero_does one_does = one_does (record { seen = seen; choices = rest })

  abbrev pub chosen : List Bool → M → Choice (Watched M)
  chosen [] seen = Neither NoChoice (record { seen = seen; choices = [] })
  chosen (false ∷ rest) seen = No (record { seen = seen; choices = rest })
  chosen (true ∷ rest) seen = Yes (record { seen = seen; choices = rest })

  abbrev pub unwound : Mode → Watched M → Out (Watched M)
  unwound Normal w = Unwind w
  unwound Unwinding w = Halts Aborted w

module _ {M : Type 0} (items : ItemTable) (ty : ℕ → Option TyId) (see : Sees M) where
  abbrev pub looked : List Note → Watched M → Watched M
  looked notes w = record w { seen = see false notes w.seen }

  abbrev pub acts_by : Bool → Action → Watched M → Out (Watched M)
  acts_by false action w = Go (looked (before action ++ stored action) w)
  acts_by true action w = choice w.choices (see (is_call action) (before action) w.seen) (λ v. Go (looked
      (stored action) v)) Unwind

  abbrev pub drops_by : Bool → Mode → Watched M → Out (Watched M)
  drops_by true mode w = choice w.choices w.seen Go (unwound mode)
  drops_by false mode w = Go w

  abbrev pub needs_at : EffectSite → Bool
  needs_at site = option_map_or (needs_drop items) (place_ty items ty site.place) false

  abbrev pub watching : Effects (Watched M)
  watching = record {
    act = λ action w. halting_if (stores_where (never_at items ty) action) Unreachable
        (acts_by (may_panic action) action w);
    choose = λ test w. chosen w.choices (see false (tested test) w.seen);
    drop = λ mode site w. drops_by (needs_at site) mode (looked ((Drops, site.place) ∷ []) w);
    panic = λ why w. w;
    tick = λ w. choice w.choices w.seen Go (Halts Infeasible);
    give = λ site w. Go w;
  }

  -- ---- no choice is given back

  abbrev Less : ℕ → Out (Watched M) → Type 0
  Less = NoMore left_of

  choice_less : (m : ℕ) (list : List Bool) (seen : M) (f h : Watched M → Out (Watched M)) → length list ≤ m →
      ((v : Watched M) → left_of v ≤ m → Less m (f v)) → ((v : Watched M) → left_of v ≤ m → Less m (h v)) →
      Less m (choice list seen f h)
  choice_less m [] seen f h l e d = tt
  choice_less m (false ∷ list) seen f h l e d = e (record { seen = seen; choices = list }) (omega arith)
  choice_less m (true ∷ list) seen f h l e d = d (record { seen = seen; choices = list }) (omega arith)

  chosen_less : (list : List Bool) (seen : M) → NoMoreOf left_of (length list) (chosen list seen)
  chosen_less [] seen = tt
  chosen_less (false ∷ list) seen = omega arith
  chosen_less (true ∷ list) seen = omega arith

  halting_less : (m : ℕ) (b : Bool) (o : Out (Watched M)) → Less m o → Less m (halting_if b Unreachable o)
  halting_less m true (Go w) l = tt
  halting_less m true (Unwind w) l = l
  halting_less m true (Halts halt w) l = tt
  halting_less m false (Go w) l = l
  halting_less m false (Unwind w) l = l
  halting_less m false (Halts halt w) l = tt

  acts_less : (b : Bool) (action : Action) (w : Watched M) → Less (left_of w) (acts_by b action w)
  acts_less false action w = omega arith
  acts_less true action w =
      choice_less (left_of w) w.choices (see (is_call action) (before action) w.seen) (λ v. Go (looked
      (stored action) v)) Unwind
      (omega arith) (λ v l. l) (λ v l. l)

  unwound_less : (m : ℕ) (mode : Mode) (v : Watched M) → left_of v ≤ m → Less m (unwound mode v)
  unwound_less m Normal v l = l
  unwound_less m Unwinding v l = tt

  drops_less : (b : Bool) (mode : Mode) (w : Watched M) → Less (left_of w) (drops_by b mode w)
  drops_less true mode w =
      choice_less (left_of w) w.choices w.seen Go (unwound mode) (omega arith) (λ v l. l)
      (unwound_less (left_of w) mode)
  drops_less false mode w = omega arith

  ticks_less : (w : Watched M) (list : List Bool) → Ticked left_of (length list)
      (choice list w.seen Go (Halts Infeasible))
  ticks_less w [] = tt
  ticks_less w (false ∷ list) = omega arith
  ticks_less w (true ∷ list) = tt

  pub watching_laws : Laws watching left_of
  watching_laws = record {
    acting = λ action w. halting_less (left_of w) (stores_where (never_at items ty) action)
        (acts_by (may_panic action) action w) (acts_less (may_panic action) action w);
    choosing = λ test w. chosen_less w.choices (see false (tested test) w.seen);
    dropping = λ mode site w. drops_less (needs_at site) mode (looked ((Drops, site.place) ∷ []) w);
    panicking = λ why w. omega arith;
    ticking = λ w. ticks_less w w.choices;
    giving = λ site w. omega arith;
  }

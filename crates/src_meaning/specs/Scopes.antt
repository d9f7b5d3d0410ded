-- The scopes of a body that runs, and how they are left (The Rust Reference, "Destructors", "Drop scopes"). What a
-- scope holds is known from the text alone: keys, and the types under them. The values are with the effects.
use Rattle.std.specs.Prelude.{ℕ, ◌==◌, Bool, true, false, List, [], ◌∷◌, ◌++◌, if◌then◌else◌}
use Rattle.mir_ty.specs.declared.ty.TyId.{TyId}
use Rattle.mir_ty.specs.Facts.{needs_drop}
use Rattle.mir_ty.specs.ItemTable.{ItemTable}
use Rattle.store_model.specs.Effects.{EffectSite, Normal, Unwinding, Halt, Aborted, Out, Go, Unwind, Halts, Choice, Yes, No, Neither, Effects}
use Rattle.store_model.specs.Places.Place.{whole_local}

-- a parameter, variable, operand or temporary, or a destination that is not complete
pub record Entry : Type 0 where
  pub key : ℕ
  pub ty : TyId

-- The entries, and the destinations that are pending, which count as younger than all entries; the youngest first.
-- Temporaries go to the nearest scope that is for them. The node is the one whose scope it is: a block, a statement,
-- an arm, an expression; the block of its body for that of the entire function and for that of its result.
pub record Scope : Type 0 where
  pub node : ℕ
  pub for_temporaries : Bool
  pub entries : List Entry
  pub pending : List Entry

-- the innermost first
abbrev pub Scopes : Type 0
Scopes = List Scope

abbrev pub with_scope : ℕ → Bool → Scopes → Scopes
with_scope node for_temporaries S =
    (record { node = node; for_temporaries = for_temporaries; entries = []; pending = [] }) ∷ S

abbrev pub without_key : ℕ → List Entry → List Entry
without_key key [] = []
without_key key (e ∷ es) = if key == e.key then without_key key es else e ∷ without_key key es

abbrev pub without_keys : List ℕ → List Entry → List Entry
without_keys [] es = es
without_keys (key ∷ keys) es = without_keys keys (without_key key es)

-- a change of the innermost scope, of the one around it, of the nearest one for temporaries
abbrev pub innermost : (Scope → Scope) → Scopes → Scopes
innermost change [] = []
innermost change (s ∷ S) = change s ∷ S

abbrev pub around_innermost : (Scope → Scope) → Scopes → Scopes
around_innermost change [] = []
around_innermost change (s ∷ S) = s ∷ innermost change S

abbrev pub nearest_from : Bool → (Scope → Scope) → Scope → Scopes → Scopes → Scopes
nearest_from true change s S changed = change s ∷ S
nearest_from false change s S changed = s ∷ changed

abbrev pub nearest_temporary : (Scope → Scope) → Scopes → Scopes
nearest_temporary change [] = []
nearest_temporary change (s ∷ S) = nearest_from s.for_temporaries change s S (nearest_temporary change S)

abbrev pub with_entry : Entry → Scope → Scope
with_entry e s = record s { entries = e ∷ s.entries }

abbrev pub with_pending : Entry → Scope → Scope
with_pending e s = record s { pending = e ∷ s.pending }

abbrev pub without_pending : Entry → Scope → Scope
without_pending e s = record s { pending = without_key e.key s.pending }

-- a destination that is complete becomes the youngest entry
abbrev pub becomes_entry : Entry → Scope → Scope
becomes_entry e s = with_entry e (without_pending e s)

-- operands that are taken are no entries any more
abbrev pub without_operands : List ℕ → Scope → Scope
without_operands keys s = record s { entries = without_keys keys s.entries }

-- all that a panic may drop in these scopes, the youngest first
abbrev pub all_entries : Scopes → List Entry
all_entries [] = []
all_entries (s ∷ S) = (s.pending ++ s.entries) ++ all_entries S

-- the entries that are dropped: those whose types need it
abbrev pub needing_drop : ItemTable → List Entry → List Entry
needing_drop items [] = []
needing_drop items (e ∷ es) = if needs_drop items e.ty then e ∷ needing_drop items es else needing_drop items es

-- how the evaluation of a node ends: with its value, by a jump that names a loop, by `return`, or by a panic
pub data Exit : Type 0 where
  Value : Exit
  Breaks : (loop : ℕ) → Exit
  Continues : (loop : ℕ) → Exit
  Returns : Exit
  Panics : Exit

-- an evaluation is at an exit, with the scopes that are still to be left; or the run has halted
pub data Run (W : Type 0) : Type 0 where
  At : (exit : Exit) (S : Scopes) (w : W) → Run W
  Over : (halt : Halt) (w : W) → Run W

-- what is evaluated or reached, in scopes; `At exit` is an exit taken at once, `At Value` nothing
abbrev pub Does : Type 0 → Type 0
Does W = Scopes → W → Run W

-- what follows a value
abbrev pub on_value : {W : Type 0} → Run W → Does W → Run W
on_value (At Value S w) next = next S w
on_value run next = run

-- one, and then another where there is a value
infixl 10 ◌>>◌
abbrev pub ◌>>◌ : {W : Type 0} → Does W → Does W → Does W
one >> other = λ S w. on_value (one S w) other

-- an effect in these scopes
abbrev pub in_scopes : {W : Type 0} → Scopes → Out W → Run W
in_scopes S (Go w) = At Value S w
in_scopes S (Unwind w) = At Panics S w
in_scopes S (Halts halt w) = Over halt w

abbrev pub doing : {W : Type 0} → (W → Out W) → Does W
doing act S w = in_scopes S (act w)

-- a change of the scopes
abbrev pub changing : {W : Type 0} → (Scopes → Scopes) → Does W
changing change S w = At Value (change S) w

-- a test, and what follows where it holds and where it does not
abbrev pub chosen : {W : Type 0} → Choice W → (W → Run W) → (W → Run W) → Run W
chosen (Yes w) yes_does no_does = yes_does w
chosen (No w) yes_does no_does = no_does w
chosen (Neither halt w) yes_does no_does = Over halt w

abbrev pub choosing : {W : Type 0} → (W → Choice W) → Does W → Does W → Does W
choosing test yes_does no_does S w = chosen (test w) (yes_does S) (no_does S)

-- what has a value leaves the scopes around it as they were
abbrev pub back_in : {W : Type 0} → Scopes → Run W → Run W
back_in S (At Value inner w) = At Value S w
back_in S run = run

abbrev pub entry_site : Entry → EffectSite
entry_site e = record { node = e.key; place = whole_local e.key }

module _ {W : Type 0} (items : ItemTable) (p : Effects W) where
  abbrev pub dropped_unwinding : Out W → (W → Run W) → Run W
  dropped_unwinding (Go w) next = next w
  dropped_unwinding (Unwind w) next = Over Aborted w
  dropped_unwinding (Halts halt w) next = Over halt w

  -- entries are dropped while a panic unwinds
  abbrev pub drop_unwinding : List Entry → Does W
  drop_unwinding [] S w = At Panics S w
  drop_unwinding (e ∷ es) S w = dropped_unwinding (p.drop Unwinding (entry_site e) w) (drop_unwinding es S)

  abbrev pub dropped_normally : Out W → (W → Run W) → (W → Run W) → Run W
  dropped_normally (Go w) next panicked = next w
  dropped_normally (Unwind w) next panicked = panicked w
  dropped_normally (Halts halt w) next panicked = Over halt w

  -- entries are dropped; after a panic the rest is dropped while it unwinds, and the exit is the panic
  abbrev pub drop_normally : Exit → List Entry → Does W
  drop_normally exit [] S w = At exit S w
  drop_normally exit (e ∷ es) S w =
      dropped_normally (p.drop Normal (entry_site e) w) (drop_normally exit es S) (drop_unwinding es S)

  -- the innermost scope is left: its entries are dropped, the youngest first; a panic drops what is pending before them
  abbrev pub leave_scope : Exit → Scope → Does W
  leave_scope Panics s = drop_unwinding (needing_drop items (s.pending ++ s.entries))
  leave_scope exit s = drop_normally exit (needing_drop items s.entries)

  abbrev pub leave : Run W → Run W
  leave (At exit [] w) = At exit [] w
  leave (At exit (s ∷ S) w) = leave_scope exit s S w
  leave (Over halt w) = Over halt w

  -- what is done in the innermost scope, which is then left, whatever the exit is
  abbrev pub leaving : Does W → Does W
  leaving does S w = leave (does S w)

  -- what is done in a scope of its own
  abbrev pub in_scope : ℕ → Bool → Does W → Does W
  in_scope node for_temporaries does S w = leaving does (with_scope node for_temporaries S) w

  -- what follows a value; by any other exit the innermost scope is left
  abbrev pub then_or_leave : Run W → Does W → Run W
  then_or_leave (At Value S w) next = next S w
  then_or_leave run next = leave run

  -- what is done in a scope of its own, which is left by what follows a value
  abbrev pub in_scope_with : ℕ → Bool → Does W → Does W → Does W
  in_scope_with node for_temporaries does next S w = then_or_leave (does (with_scope node for_temporaries S) w) next

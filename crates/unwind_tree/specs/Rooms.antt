-- Entries with room for more: what is pending for a scope becomes its entry without taking memory.
use Rattle.std.specs.Prelude.{◌≡◌, ℕ, zero, suc, ◌+◌, ◌-◌, ◌==◌, ◌≤◌, Bool, List, [], ◌∷◌, ◌++◌, map, take, slice_get, slice_set, Some, None, if◌then◌else◌}
use Rattle.std.specs.List.{position}
use Rattle.mir_base.specs.declared.place_in_text.Key.{Key}
use Rattle.unwind_tree.specs.Roomy.{Roomy}
use Rattle.unwind_tree.specs.Trees.{OpenScope}
use Rattle.unwind_tree.specs.declared.scheduled.Scheduled.{Scheduled}
use Rattle.unwind_tree.specs.declared.scope.Pending.{Pending}
use Rattle.unwind_tree.specs.declared.scope.Scope.{Scope}

-- what contracts see of a scope, and of scopes
abbrev pub seen : Scope → OpenScope
seen scope = record { entries = scope.entries.items; pending = scope.pending.items }

abbrev pub seen_all : List Scope → List OpenScope
seen_all scopes = map seen scopes

-- how many destinations are to become entries of the scope with a number
abbrev pub goes_into : ℕ → Pending → ℕ
goes_into number destination = if destination.into == number then 1 else 0

abbrev pub going : ℕ → List Pending → ℕ
going number [] = 0
going number (destination ∷ pending) = goes_into number destination + going number pending

abbrev pub awaited : ℕ → List Scope → ℕ
awaited number [] = 0
awaited number (scope ∷ scopes) = going number scope.pending.items + awaited number scopes

abbrev pub room_of : ℕ → List Scope → ℕ
room_of number [] = 0
room_of zero (scope ∷ scopes) = scope.entries.room
room_of (suc number) (scope ∷ scopes) = room_of number scopes

-- each scope has room for all that are to become its entries, and none of these is pending further out
pub record IsRoomy (scopes : List Scope) : Type 0 where
  pub has_room : (number : ℕ) → awaited number scopes ≤ room_of number scopes
  pub within : (number : ℕ) → awaited number (take number scopes) ≡ 0

abbrev pub has_key : Key → Pending → Bool
has_key key destination = destination.scheduled.key.0 == key.0

-- no scope from a number on has a destination with this key, and one has it at a place
abbrev pub IsAbsentFrom : Key → ℕ → List Scope → Type 0
IsAbsentFrom key number scopes = (k : ℕ) (scope : Scope) → number ≤ k → slice_get scopes k ≡ Some scope →
    position (has_key key) scope.pending.items ≡ None

pub record IsFoundAt (key : Key) (number place : ℕ) (scopes : List Scope) : Type 0 where
  pub scope : Scope
  pub there : slice_get scopes number ≡ Some scope
  pub at_place : position (has_key key) scope.pending.items ≡ Some place

-- one scope changes, and how
pub record IsChangedAt (number : ℕ) (Change : Scope → Scope → Type 0) (scopes after : List Scope) : Type 0 where
  pub scope : Scope
  pub left : Scope
  pub there : slice_get scopes number ≡ Some scope
  pub how : Change scope left
  pub is : after ≡ slice_set scopes number left

abbrev pub Holds : Roomy → List Pending → Scope → Scope → Type 0
Holds entries pending scope left = (left.entries ≡ entries) × (left.pending.items ≡ pending)

abbrev pub AsBefore : Scope → Scope → Type 0
AsBefore scope = Holds scope.entries scope.pending.items scope

abbrev pub WithEntry : Scheduled → Scope → Scope → Type 0
WithEntry entry scope =
    Holds (record scope.entries { items = scope.entries.items ++ entry ∷ [] }) scope.pending.items scope

abbrev pub WithRoom : Scope → Scope → Type 0
WithRoom scope = Holds (record scope.entries { room = scope.entries.room + 1 }) scope.pending.items scope

abbrev pub WithPending : Pending → Scope → Scope → Type 0
WithPending destination scope = Holds scope.entries (scope.pending.items ++ destination ∷ []) scope

abbrev pub Filled : Scheduled → Scope → Scope → Type 0
Filled entry scope =
    Holds (record { items = scope.entries.items ++ entry ∷ []; room = scope.entries.room - 1 }) scope.pending.items
    scope

-- a destination with this key is taken out of a scope
pub record IsTakenOut (key : Key) (destination : Pending) (scope left : Scope) : Type 0 where
  pub before : List Pending
  pub behind : List Pending
  pub has_key : destination.scheduled.key ≡ key
  pub was : scope.pending.items ≡ before ++ destination ∷ behind
  pub holds : Holds scope.entries (before ++ behind) scope left

pub record IsTakenFrom (key : Key) (destination : Pending) (scopes after : List Scope) : Type 0 where
  pub number : ℕ
  pub taken : IsChangedAt number (IsTakenOut key destination) scopes after

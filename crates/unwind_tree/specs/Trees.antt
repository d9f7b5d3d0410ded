-- Open scopes, and what is dropped as they are left (The Rust Reference, "Destructors", "Drop scopes"; the rustc
-- development guide, "MIR construction"). The outermost scope is the first, and has the number 0. In a scope what is
-- older stands first; destinations that are pending count as younger than all entries.
use Rattle.std.specs.Prelude.{◌≡◌, ℕ, zero, suc, List, [], ◌∷◌, ◌++◌, map, slice_get, Some}
use Rattle.cfg_graph.specs.declared.place.Place.{Place}
use Rattle.mir_base.specs.declared.place_in_text.Key.{Key}
use Rattle.unwind_tree.specs.declared.scheduled.Scheduled.{Scheduled}
use Rattle.unwind_tree.specs.declared.scope.Pending.{Pending}

pub record OpenScope : Type 0 where
  pub entries : List Scheduled
  pub pending : List Pending

abbrev pub a_scope : OpenScope
a_scope = record { entries = []; pending = [] }

abbrev pub with_entry : Scheduled → OpenScope → OpenScope
with_entry entry scope = record scope { entries = scope.entries ++ entry ∷ [] }

abbrev pub with_pending : Pending → OpenScope → OpenScope
with_pending destination scope = record scope { pending = scope.pending ++ destination ∷ [] }

-- the scopes with that of a number changed
abbrev pub changed_at : ℕ → (OpenScope → OpenScope) → List OpenScope → List OpenScope
changed_at n change [] = []
changed_at zero change (scope ∷ inner) = change scope ∷ inner
changed_at (suc n) change (scope ∷ inner) = scope ∷ changed_at n change inner

-- the places of entries in the order of their drops: that of the youngest first
abbrev pub dropped : List Scheduled → List Place
dropped [] = []
dropped (entry ∷ younger) = dropped younger ++ entry.place ∷ []

abbrev pub awaiting : List Pending → List Scheduled
awaiting pending = map (λ destination. destination.scheduled) pending

-- what is dropped as scopes are left, the innermost scope first: by a value or a jump their entries; by a panic what is
-- pending as well, before the entries of its scope
abbrev pub left_by_exit : List OpenScope → List Place
left_by_exit [] = []
left_by_exit (scope ∷ inner) = left_by_exit inner ++ dropped scope.entries

abbrev pub left_by_panic : List OpenScope → List Place
left_by_panic [] = []
left_by_panic (scope ∷ inner) = left_by_panic inner ++ dropped (awaiting scope.pending) ++ dropped scope.entries

-- a destination is pending in the scope of a number, behind some and before others
pub record IsPendingIn (number : ℕ) (destination : Pending) (before behind : List Pending) (scopes : List OpenScope) :
    Type 0 where
  pub scope : OpenScope
  pub there : slice_get scopes number ≡ Some scope
  pub pending : scope.pending ≡ before ++ destination ∷ behind

-- a destination with this key is pending in one of the scopes
pub record IsPending (key : Key) (scopes : List OpenScope) : Type 0 where
  pub number : ℕ
  pub destination : Pending
  pub before : List Pending
  pub behind : List Pending
  pub has_key : destination.scheduled.key ≡ key
  pub is_in : IsPendingIn number destination before behind scopes

abbrev pub pending_only : List Pending → OpenScope → OpenScope
pending_only pending scope = record scope { pending = pending }

-- a destination with this key is no longer pending, and is the youngest entry of the scope into which it was to go
pub record IsCompleted (key : Key) (scopes after : List OpenScope) : Type 0 where
  pub number : ℕ
  pub destination : Pending
  pub before : List Pending
  pub behind : List Pending
  pub has_key : destination.scheduled.key ≡ key
  pub was_in : IsPendingIn number destination before behind scopes
  pub is : after ≡ changed_at destination.into (with_entry destination.scheduled)
      (changed_at number (pending_only (before ++ behind)) scopes)

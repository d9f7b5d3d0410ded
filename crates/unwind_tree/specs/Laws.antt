-- A tree that follows the scopes of a run, scope by scope, and what both drop.
use Rattle.std.specs.Prelude.{◌≡◌, ℕ, ◌==◌, ◌-◌, Bool, List, [], ◌∷◌, ◌++◌, drop, length, map, take, if◌then◌else◌}
use Rattle.cfg_graph.specs.declared.place.Place.{Place}
use Rattle.src_meaning.specs.Scopes as run
use Rattle.src_meaning.specs.Scopes.{Entry, Scope, Scopes, all_entries, with_scope, without_key, without_pending}
use Rattle.unwind_tree.specs.Trees.{OpenScope, a_scope, changed_at, with_entry, with_pending, pending_only, dropped, awaiting, left_by_exit, left_by_panic}
use Rattle.unwind_tree.specs.declared.scheduled.Scheduled.{Scheduled}
use Rattle.unwind_tree.specs.declared.scope.Pending.{Pending}

-- the entries of scopes, the youngest first, as an exit that is no panic drops them
abbrev pub entries_of : Scopes → List Entry
entries_of [] = []
entries_of (s ∷ S) = s.entries ++ entries_of S

-- the scopes of a run with that of a number changed, where the outermost has the number 0
abbrev pub changed_in_run : ℕ → (Scope → Scope) → Scopes → Scopes
changed_in_run n change [] = []
changed_in_run n change (s ∷ S) = if n == length S then change s ∷ S else s ∷ changed_in_run n change S

-- no entry has a key
abbrev pub AreWithoutKey : ℕ → List Entry → Type 0
AreWithoutKey key entries = without_key key entries ≡ entries

module _ (place_of : ℕ → Place) where
  -- the places of entries by their keys
  abbrev pub placed : List Entry → List Place
  placed entries = map (λ e. place_of e.key) entries

  -- a scope of the tree holds what a scope of the run holds
  pub record FollowsScope (held : OpenScope) (scope : Scope) : Type 0 where
    pub entries : dropped held.entries ≡ placed scope.entries
    pub pending : dropped (awaiting held.pending) ≡ placed scope.pending

  pub data Follows : List OpenScope → Scopes → Type 0 where
    none_open : Follows [] []
    one_more : (outer : List OpenScope) (S : Scopes) (held : OpenScope) (scope : Scope) → Follows outer S →
        FollowsScope held scope → Follows (outer ++ held ∷ []) (scope ∷ S)

-- At each exit the tree answers what the run drops, in its order: for a panic all entries and pending destinations, for
-- any other exit the entries of the scopes that are left. And the tree goes on following: as a scope is opened, as the
-- innermost is left, and as one scope changes in both; a scope does, as one more entry, or one more destination, comes
-- into both.
pub record FollowsScopes : Type 0 where
  pub panic : (place_of : ℕ → Place) (tree : List OpenScope) (S : Scopes) → Follows place_of tree S →
      left_by_panic tree ≡ placed place_of (all_entries S)
  pub exit : (place_of : ℕ → Place) (tree : List OpenScope) (S : Scopes) (depth : ℕ) → Follows place_of tree S →
      left_by_exit (drop depth tree) ≡ placed place_of (entries_of (take (length S - depth) S))
  pub entry : (place_of : ℕ → Place) (held : OpenScope) (scope : Scope) (new : Scheduled) (e : Entry) →
      FollowsScope place_of held scope → new.place ≡ place_of e.key →
      FollowsScope place_of (with_entry new held) (run.with_entry e scope)
  pub pending : (place_of : ℕ → Place) (held : OpenScope) (scope : Scope) (new : Pending) (e : Entry) →
      FollowsScope place_of held scope → new.scheduled.place ≡ place_of e.key →
      FollowsScope place_of (with_pending new held) (run.with_pending e scope)
  pub enter : (place_of : ℕ → Place) (tree : List OpenScope) (S : Scopes) (node : ℕ) (for_temporaries : Bool) →
      Follows place_of tree S → Follows place_of (tree ++ a_scope ∷ []) (with_scope node for_temporaries S)
  pub leave : (place_of : ℕ → Place) (tree : List OpenScope) (scope : Scope) (S : Scopes) →
      Follows place_of tree (scope ∷ S) → Follows place_of (take (length tree - 1) tree) S
  pub change : (place_of : ℕ → Place) (tree : List OpenScope) (S : Scopes) (number : ℕ)
      (in_tree : OpenScope → OpenScope) (in_run : Scope → Scope) → Follows place_of tree S →
      ((held : OpenScope) (scope : Scope) → FollowsScope place_of held scope →
      FollowsScope place_of (in_tree held) (in_run scope)) →
      Follows place_of (changed_at number in_tree tree) (changed_in_run number in_run S)
  -- A destination that is complete stands at one place among those that are pending in both, and no other one there has
  -- its key. Both are without it then, and it has the place of the run's entry: so as it becomes an entry of its scope, or
  -- of one around, both go on as with any entry.
  pub complete : (place_of : ℕ → Place) (held : OpenScope) (scope : Scope) (before behind : List Pending)
      (destination : Pending) (younger older : List Entry) (e : Entry) → FollowsScope place_of held scope →
      held.pending ≡ before ++ destination ∷ behind → scope.pending ≡ younger ++ e ∷ older →
      length younger ≡ length behind → AreWithoutKey e.key younger → AreWithoutKey e.key older →
      FollowsScope place_of (pending_only (before ++ behind) held) (without_pending e scope)
      × (destination.scheduled.place ≡ place_of e.key)

-- Where the paths of a local stand among those that have flags; no public contract but that of this list speaks of it.
use Rattle.std.specs.Prelude.{◌≡◌, ◌+◌, ◌<◌, ◌≤◌, ℕ, nat_lt, List, ◌++◌, if◌then◌else◌, length, Some, slice_get, slice_index_or}
use Rattle.cfg_graph.specs.declared.place.Place.{Place}
use Rattle.drop_flags.specs.declared.paths.Span.{Span}

abbrev pub nowhere : Span
nowhere = record { from = 0; end = 0 }

abbrev pub span_of : List Span → (local : ℕ) → Span
span_of spans local = slice_index_or spans local nowhere

-- spans are numbers of paths, and each path stands within that of its local
pub record AreSpans (paths : List Place) (spans : List Span) : Type 0 where
  pub in_order : (local : ℕ) → (span_of spans local).from ≤ (span_of spans local).end
  pub bounded : (local : ℕ) → (span_of spans local).end ≤ length paths
  pub each : (n : ℕ) (path : Place) → slice_get paths n ≡ Some path →
      ((span_of spans path.local).from ≤ n) × (n < (span_of spans path.local).end)

-- no path of a local is among these
abbrev pub AreOthers : (local : ℕ) → List Place → Type 0
AreOthers local paths = (n : ℕ) (path : Place) → slice_get paths n ≡ Some path → path.local ≡ local → ⊥

-- all paths of a local are among these, which stand side by side from a number on
pub record IsNear (paths : List Place) (local first : ℕ) (near : List Place) : Type 0 where
  pub before : List Place
  pub after : List Place
  pub parts : paths ≡ before ++ near ++ after
  pub first_is : length before ≡ first
  pub others_before : AreOthers local before
  pub others_after : AreOthers local after

-- what the code goes on with
-- there is room for the span of a local, and none is changed
pub record IsLonger (old new : List Span) (local : ℕ) : Type 0 where
  pub long : local < length new
  pub same : (other : ℕ) → span_of new other ≡ span_of old other

abbrev pub wider : Span → (number : ℕ) → Span
wider span number = record { from = if nat_lt span.from span.end then span.from else number; end = number + 1 }

-- the path with a number is within the span of its local
pub record IsWider (old new : List Span) (local number : ℕ) : Type 0 where
  pub is : span_of new local ≡ wider (span_of old local) number
  pub same : (other : ℕ) → (other ≡ local → ⊥) → span_of new other ≡ span_of old other

-- What contracts see of scopes: the innermost first, and in each the youngest entry first.
use Rattle.std.specs.Prelude.{ℕ, ◌==◌, Bool, false, ◌||◌, List, [], ◌∷◌, map, reverse}
use Rattle.src_meaning.specs.Scopes as scopes
use Rattle.src_meaning.specs.Scopes.{with_entry, with_pending, without_pending, becomes_entry}
use Rattle.lower_code.specs.View.{entry_of}
use Rattle.lower_code.specs.declared.code.Entry.{Entry}
use Rattle.lower_passes.specs.declared.scope_changes.How.{How}
use Rattle.lower_passes.specs.declared.scope.Entries.{Entries, NoEntry, Youngest'}
use Rattle.lower_passes.specs.declared.scope.Scope.{Scope}
use Rattle.lower_passes.specs.declared.scope.Scopes.{Scopes, NoScope, Innermost'}

-- entries that stand one behind the other, the youngest last
abbrev pub entries_of : List Entry → List scopes.Entry
entries_of entries = reverse (map entry_of entries)

-- entries of a scope
abbrev pub held : Entries → List scopes.Entry
held NoEntry = []
held (Youngest' entry pointer older) = entry_of entry ∷ held older

abbrev pub scope_of : Scope → scopes.Scope
scope_of scope = record {
  node = scope.node.0;
  for_temporaries = scope.for_temporaries;
  entries = held scope.entries;
  pending = held scope.pending;
}

abbrev pub scopes_of : Scopes → scopes.Scopes
scopes_of NoScope = []
scopes_of (Innermost' scope pointer around) = scope_of scope ∷ scopes_of around

-- whether an entry has a key
abbrev pub has_key : ℕ → List scopes.Entry → Bool
has_key key [] = false
has_key key (e ∷ es) = (e.key == key) || has_key key es

-- what happens to an entry of a scope
abbrev pub how_of : How → scopes.Entry → scopes.Scope → scopes.Scope
how_of How.Pends = with_pending
how_of How.Completes = becomes_entry
how_of How.Enters = with_entry
how_of How.Leaves = without_pending

-- The locals of a body that runs, as the machine holds them.
use Rattle.std.specs.Prelude.{ℕ, zero, suc, ◌==◌, List, [], ◌∷◌, map, Option, Some, None, option_map}
use Rattle.std.specs.Prelude.{slice_get, if◌then◌else◌}
use Rattle.machine_store.specs.declared.frame.StoredLocal.{StoredLocal}
use Rattle.store_model.specs.declared.value.Value.{Value}
use Rattle.store_model.specs.Concrete.State.{Activation, Cells}
use Rattle.store_model.specs.Values.Datum.{datum_of}

-- the place of a local among the entries
abbrev pub place_of : ℕ → List StoredLocal → Option ℕ
place_of key [] = None
place_of key (entry ∷ entries) = if key == entry.key then Some 0 else option_map suc (place_of key entries)

abbrev pub place_from : Option ℕ → Option ℕ
place_from None = None
place_from (Some zero) = None
place_from (Some (suc place)) = Some place

-- the place that an index has for a local
abbrev pub place_in : List ℕ → ℕ → Option ℕ
place_in index key = place_from (slice_get index key)

-- what a local holds, if it was stored into
abbrev pub entry_of : ℕ → List StoredLocal → Option Value
entry_of key [] = None
entry_of key (entry ∷ entries) = if key == entry.key then Some entry.cell else entry_of key entries

abbrev pub cells_of : List StoredLocal → Cells
cells_of entries = map (λ entry. (entry.key, datum_of entry.cell)) entries

abbrev pub activation_of : ℕ × List StoredLocal → Activation
activation_of frame = record { body = frame.0; cells = cells_of frame.1 }

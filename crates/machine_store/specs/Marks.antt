-- The places of a local at which nothing stands.
use Rattle.std.specs.Prelude.{◌≡◌, ◌↔◌, ◌⊎◌, ◌==◌, ◌&&◌, ◌||◌, not, Bool, true, false, List, [], ◌∷◌, Some, length}
use Rattle.store_model.specs.declared.address.At.{At}
use Rattle.store_model.specs.declared.address.At.TheVariants.{Part, Inside}
use Rattle.store_model.specs.Values.Datum.{Datum, Gone}
use Rattle.store_model.specs.Values.Access.{value_at}

abbrev pub same_step : At → At → Bool
same_step (Part n) (Part m) = n == m
same_step Inside Inside = true
same_step step other = false

-- a path leads to a place or into it
abbrev pub leads_into : List At → List At → Bool
leads_into path [] = true
leads_into [] (step ∷ place) = false
leads_into (other ∷ path) (step ∷ place) = same_step other step && leads_into path place

-- a path does not lead into a place, nor to it where that counts too
abbrev pub is_outside : Bool → List At → List At → Bool
is_outside counts place path = not (leads_into path place) || (not counts && (length path == length place))

abbrev pub IsMarked : List (List At) → List At → Type 0
IsMarked [] path = ⊥
IsMarked (marked ∷ places) path = (marked ≡ path) ⊎ IsMarked places path

-- these are all places of a value that are gone
abbrev pub GoneMarks : Datum → List (List At) → Type 0
GoneMarks root places = (path : List At) → IsMarked places path ↔ (value_at path root ≡ Some Gone)

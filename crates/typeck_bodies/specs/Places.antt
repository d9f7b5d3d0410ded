-- Where numbers stand in a list, by a table.
use Rattle.std.specs.Prelude.{◌≡◌, ℕ, ◌+◌, List, drop, slice_get}
use Rattle.std.specs.Option.{option_map_or}
use Rattle.typeck_bodies.specs.declared.places.NumberPlaces.{NumberPlaces}
use Rattle.typing_rules.specs.Numbered.{place_among}

-- what a table says of a number, in a list of so many
abbrev pub place_by : List ℕ → ℕ → ℕ → ℕ
place_by table count k = option_map_or (λ place. place) (slice_get table k) count

-- the table has the places of the numbers of a list from a place on
abbrev pub IsPlacedFrom : List ℕ → ℕ → ℕ → List ℕ → Type 0
IsPlacedFrom numbers count start table =
    (k : ℕ) → place_by table count k ≡ start + place_among (drop start numbers) k

abbrev pub placed : NumberPlaces → ℕ → ℕ
placed places k = place_by places.table places.count k

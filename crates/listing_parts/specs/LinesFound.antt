-- When a text begins with a line.
use Rattle.std.specs.Prelude.{ℕ, List, [], ◌∷◌, Option}
use Rattle.listing_write.specs.Reading.Words.{bind, strip}

-- what stands behind a line of these words, where the text begins with it
abbrev pub behind_line : List ℕ → List ℕ → Option (List ℕ)
behind_line words text = bind (strip words text) (strip (10 ∷ []))

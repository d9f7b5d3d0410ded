-- The first wrong line, by how far a text was read.
use Rattle.std.specs.Prelude.{ℕ, ◌+◌, ◌-◌, Bool, true, false, List, [], ◌∷◌, Option, Some, None}

-- of so many lines that the graph has: whether its last block is whole, and what stands behind the line `end`
abbrev pub wrong_line : ℕ → Bool → Option (List ℕ) → Option ℕ
wrong_line lines false behind = Some (lines - 1)
wrong_line lines true None = Some lines
wrong_line lines true (Some []) = None
wrong_line lines true (Some (b ∷ bs)) = Some (lines + 1)

-- Lines and columns.
use Rattle.std.specs.Prelude.{ℕ, ◌+◌, Bool, ◌==◌, not, List, count_by}
use Rattle.std.specs.List.{suffix_len}
use Rattle.mir_base.specs.declared.place_in_text.Pos.{Pos}

abbrev pub is_line_feed : ℕ → Bool
is_line_feed c = c == 10

abbrev pub is_in_line : ℕ → Bool
is_in_line c = not (is_line_feed c)

-- the place of what follows these characters: lines are counted by their line feeds, and columns from the last one
unfoldable pub place_after : List ℕ → Pos
place_after before = record { line = 1 + count_by is_line_feed before; col = 1 + suffix_len is_in_line before }

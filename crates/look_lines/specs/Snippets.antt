-- The line of a text at a place, with a mark below the place.
use Rattle.std.specs.Prelude.{ℕ, zero, suc, ◌+◌, ◌-◌, ◌==◌, ◌&&◌, nat_lt, not, Bool, List, [], ◌∷◌, ◌++◌, drop, take, flat_map, codes, Option, Some, None, if◌then◌else◌}
use Rattle.std.specs.Fmt.{decimal}
use Rattle.std.specs.List.{position}
use Rattle.mir_base.specs.declared.place_in_text.Pos.{Pos}
use Rattle.mir_base.specs.Lines.{line}

-- a line ends at a line feed
abbrev pub is_feed : ℕ → Bool
is_feed byte = byte == 10

abbrev pub up_to : Option ℕ → List ℕ → List ℕ
up_to None text = text
up_to (Some n) text = take n text

abbrev pub past : Option ℕ → List ℕ → List ℕ
past None text = []
past (Some n) text = drop (n + 1) text

-- the first line of a text, and the text behind it
abbrev pub first_line : List ℕ → List ℕ
first_line text = up_to (position is_feed text) text

abbrev pub behind_line : List ℕ → List ℕ
behind_line text = past (position is_feed text) text

-- the text behind so many lines
abbrev pub behind_lines : ℕ → List ℕ → List ℕ
behind_lines zero text = text
behind_lines (suc n) text = behind_line (behind_lines n text)

-- the line with a number; the first has the number 1
abbrev pub line_of : ℕ → List ℕ → List ℕ
line_of n text = first_line (behind_lines (n - 1) text)

-- a byte of UTF-8 that goes on with a character
abbrev pub goes_on : ℕ → Bool
goes_on byte = not (nat_lt byte 128) && nat_lt byte 192

-- what stands below a byte: a tab below a tab, nothing below a byte that goes on with a character, otherwise a blank
abbrev pub below_byte : ℕ → List ℕ
below_byte byte = if goes_on byte then [] else (if byte == 9 then 9 ∷ [] else 32 ∷ [])

abbrev pub below : List ℕ → List ℕ
below bytes = flat_map below_byte bytes

abbrev pub numbered_line : ℕ → List ℕ → List ℕ
numbered_line n words = line (decimal n ++ codes " | " ++ words)

abbrev pub mark_below : List ℕ → Pos → List ℕ
mark_below words at =
    line (below (decimal at.line) ++ codes " | " ++ take (at.col - 1) (below words) ++ codes "^")

-- the line of a place, and a mark below the place
abbrev pub snippet : List ℕ → Pos → List ℕ
snippet text at = numbered_line at.line (line_of at.line text) ++ mark_below (line_of at.line text) at

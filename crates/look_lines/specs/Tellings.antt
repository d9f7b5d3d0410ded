-- How the text of a run is told to people, where its graph tells the number of each line before it does what the line
-- says: each line of the trace gets the place in the text of the line that made it, the serial numbers that are alive
-- then, and that line of the text.
use Rattle.std.specs.Prelude.{ℕ, ◌+◌, ◌-◌, ◌*◌, ◌%◌, ◌==◌, ◌&&◌, ◌||◌, nat_eq, nat_lt, not, Bool, true, false, List, [], ◌∷◌, ◌++◌, length, take, slice_get, flat_map, codes, Option, Some, None, option_and_then, if◌then◌else◌}
use Rattle.std.specs.Fmt.{decimal}
use Rattle.std.specs.List.{filter, starts_with}
use Rattle.mir_base.specs.declared.place_in_text.Pos.{Pos}
use Rattle.mir_base.specs.Lines.{line}
use Rattle.look_lines.specs.Snippets.{is_feed, line_of}
use Rattle.look_lines.specs.declared.tellings.Reading.{Reading}

-- the lines of a text, without their line feeds
abbrev pub with_first : ℕ → List (List ℕ) → List (List ℕ)
with_first byte [] = (byte ∷ []) ∷ []
with_first byte (words ∷ lines) = (byte ∷ words) ∷ lines

abbrev pub before_lines : Bool → ℕ → List (List ℕ) → List (List ℕ)
before_lines true byte lines = [] ∷ lines
before_lines false byte lines = with_first byte lines

abbrev pub lines_of : List ℕ → List (List ℕ)
lines_of [] = []
lines_of (byte ∷ text) = before_lines (is_feed byte) byte (lines_of text)

-- the number at the end of a line, of which at most 18 digits count
abbrev pub is_digit : ℕ → Bool
is_digit byte = not (nat_lt byte 48) && nat_lt byte 58

abbrev pub with_digit : ℕ → ℕ → ℕ
with_digit n byte = if is_digit byte then n % 100000000000000000 * 10 + (byte - 48) else 0

abbrev pub number_from : ℕ → List ℕ → ℕ
number_from n [] = n
number_from n (byte ∷ words) = number_from (with_digit n byte) words

abbrev pub number_at_end : List ℕ → ℕ
number_at_end words = number_from 0 words

module _ (words : List ℕ) where
  abbrev pub begins : List ℕ → Bool
  begins with_that = starts_with nat_eq words with_that

  -- a body is entered; it is left
  abbrev pub enters : Bool
  enters = begins (codes "call ") || begins (codes "drop ")

  abbrev pub leaves : Bool
  leaves = begins (codes "return ") || begins (codes "unwind ")

  -- a serial number is given to a value, or the value ends
  abbrev pub makes : Bool
  makes = begins (codes "make ") || begins (codes "box ")

  abbrev pub ends : Bool
  ends = begins (codes "drop ") || (begins (codes "free ") || begins (codes "forget "))

  abbrev pub is_last_line : Bool
  is_last_line = begins (codes "end: ")

-- the lines at which the bodies are that have begun: the youngest body's is the last, 0 before its first line
abbrev pub without_last : List ℕ → List ℕ
without_last list = take (length list - 1) list

abbrev pub at_line : ℕ → List ℕ → List ℕ
at_line n at = without_last at ++ n ∷ []

abbrev pub bodies_after : List ℕ → List ℕ → List ℕ
bodies_after words at = if enters words then at ++ 0 ∷ [] else (if leaves words then without_last at else at)

abbrev pub alive_after : List ℕ → List ℕ → List ℕ
alive_after words alive =
    if makes words then alive ++ number_at_end words ∷ []
    else (if ends words then filter (λ n. not (n == number_at_end words)) alive else alive)

-- A number is printed before each line, a negative one where the line prints: then the next line of the trace is what
-- it prints.
abbrev pub tells_number : Reading → List ℕ → Bool
tells_number r words = begins words (codes "print ") && not r.prints

abbrev pub after : Reading → List ℕ → Reading
after r words =
    if tells_number r words
    then record r { at = at_line (number_at_end words) r.at; prints = begins words (codes "print -") }
    else record { at = bodies_after words r.at; prints = false; alive = alive_after words r.alive }

abbrev pub at_first : Reading
at_first = record { at = []; prints = false; alive = [] }

-- the place of the line that made a line of the trace
abbrev pub the_place : Option Pos → Option Pos
the_place place = place

abbrev pub place_at : List (Option Pos) → List ℕ → Option Pos
place_at places at =
    option_and_then the_place (option_and_then (λ n. slice_get places n) (slice_get at (length at - 1)))

abbrev pub alive_words : List ℕ → List ℕ
alive_words alive = codes "; alive:" ++ flat_map (λ n. codes " #" ++ decimal n) alive

abbrev pub place_words : Pos → List ℕ
place_words at = codes " at " ++ decimal at.line ++ codes ":" ++ decimal at.col

module _ (text : List ℕ) where
  abbrev pub told_at : List ℕ → List ℕ → Option Pos → List ℕ
  told_at words alive None = line (words ++ alive_words alive)
  told_at words alive (Some at) =
      line (words ++ place_words at ++ alive_words alive ++ codes " | " ++ line_of at.line text)

  abbrev pub event_told : List ℕ → List ℕ → Option Pos → List ℕ
  event_told words alive place = if is_last_line words then line words else told_at words alive place

module _ (text : List ℕ) (places : List (Option Pos)) where
  abbrev pub line_told : Reading → List ℕ → List ℕ
  line_told r words =
      if tells_number r words then []
      else event_told text words (alive_after words r.alive) (place_at places r.at)

  abbrev pub lines_told : List (List ℕ) → Reading → List ℕ
  lines_told [] r = []
  lines_told (words ∷ lines) r = line_told r words ++ lines_told lines (after r words)

  -- the text of a run, told to people
  abbrev pub telling : List ℕ → List ℕ
  telling run = lines_told (lines_of run) at_first

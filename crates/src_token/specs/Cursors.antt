-- Where the lexer stands after some characters.
use Rattle.std.specs.Prelude.{ℕ, ◌+◌, ◌==◌, ◌&&◌, nat_le, nat_lt, List, length, if◌then◌else◌}
use Rattle.std.specs.Char.{len_utf8}
use Rattle.std.specs.Str.{encode_utf8_all}
use Rattle.mir_base.specs.declared.place_in_text.Pos.{Pos}
use Rattle.src_token.specs.declared.cursor.Cursor.{Cursor}
use Rattle.src_token.specs.Places.{place_after, is_line_feed}

unfoldable pub cursor_after : List ℕ → Cursor
cursor_after before = record { at = place_after before; bytes = length (encode_utf8_all before) }

-- the place of what follows a character at a place
abbrev pub place_past : Pos → ℕ → Pos
place_past at c =
    if is_line_feed c then record { line = at.line + 1; col = 1 } else record { line = at.line; col = at.col + 1 }

abbrev pub past_char : Cursor → ℕ → Cursor
past_char cursor c = record { at = place_past cursor.at c; bytes = cursor.bytes + len_utf8 c }

-- the place of what follows a byte of a text in UTF-8: the bytes that go on a character are 128 to 191
abbrev pub place_past_byte : Pos → ℕ → Pos
place_past_byte at b =
    if b == 10 then record { line = at.line + 1; col = 1 }
    else if nat_le 128 b && nat_lt b 192 then at
    else record { line = at.line; col = at.col + 1 }

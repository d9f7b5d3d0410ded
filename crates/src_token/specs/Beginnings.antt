-- What kind of piece a character begins, and which characters an identifier has (The Rust Reference, "Identifiers").
use Rattle.std.specs.Prelude.{ℕ, Bool, false, ◌==◌, ◌||◌, ◌&&◌, List, [], ◌∷◌, if◌then◌else◌, is_some}
use Rattle.std.specs.List.{list_all}
use Rattle.std.specs.Str.{byte}
use Rattle.std.specs.Char.{is_ascii_digit}
use Rattle.unicode_ident.specs.Ident.{is_xid_start, is_xid_continue}
use Rattle.src_token.specs.declared.piece.Beginning.{Beginning}
use Rattle.src_token.specs.Marks.{one_mark}

-- a space, a tab, a carriage return or a line feed
abbrev pub is_blank : ℕ → Bool
is_blank c = c == 32 || c == 9 || c == 13 || c == 10

abbrev pub beginning_of : ℕ → Beginning
beginning_of c =
    if is_blank c then Beginning.Blank
    else if is_ascii_digit c then Beginning.Digit
    else if c == byte "'" then Beginning.Quote
    else if c == 34 then Beginning.DoubleQuote
    else if c == byte "/" then Beginning.Slash
    else if c == byte "_" then Beginning.Letter
    else if is_some (one_mark c) then Beginning.Sign
    else if is_xid_start c then Beginning.Letter
    else Beginning.Other

-- an identifier or a keyword: `_` alone is neither
abbrev pub is_identifier : List ℕ → Bool
is_identifier [] = false
is_identifier (c ∷ []) = is_xid_start c
is_identifier (c ∷ d ∷ cs) = (is_xid_start c || c == byte "_") && list_all is_xid_continue (d ∷ cs)

-- Which pieces of a text there are, and what each of them is by itself: one row for each kind.
use Rattle.std.specs.Prelude.{◌≡◌, ℕ, ◌+◌, Bool, ◌==◌, ◌&&◌, not, List, [], ◌∷◌, ◌++◌, Option, None, Some, IsTrue, position}
use Rattle.std.specs.List.{list_all}
use Rattle.std.specs.Str.{byte, encode_utf8_all}
use Rattle.unicode_ident.specs.Ident.{is_xid_continue}
use Rattle.src_token.specs.declared.mark.Mark.{Mark}
use Rattle.src_token.specs.declared.piece.Beginning.{Beginning}
use Rattle.src_token.specs.declared.piece.TokenFault.{TokenFault}
use Rattle.src_token.specs.declared.piece.Reading.{Reading}
use Rattle.src_token.specs.declared.piece.Reading.TheVariants.{Skipped, Reads, Fails}
use Rattle.src_token.specs.declared.token.Token.{Token}
use Rattle.src_token.specs.Beginnings.{beginning_of, is_identifier}
use Rattle.src_token.specs.Comments.{EndsComment}
use Rattle.src_token.specs.Marks.{mark_of}
use Rattle.src_token.specs.Numbers.{number_reading}
use Rattle.src_token.specs.Words.{word_token}

-- `"`, which ends a text, and `\`, which may not stand in one
abbrev quote : ℕ
quote = 34

abbrev pub is_backslash : ℕ → Bool
is_backslash c = c == 92

abbrev pub is_inside_text : ℕ → Bool
is_inside_text c = not (c == quote) && not (c == 10)

abbrev pub is_inside_line : ℕ → Bool
is_inside_line c = not (c == 10)

abbrev pub text_with : List ℕ → Option ℕ → Reading
text_with inside None = Reads (Token.Text (encode_utf8_all inside))
text_with inside (Some before) = Fails TokenFault.BadChar (1 + before)

-- characters between quotes: a text, or else a `\` behind so many of them and the quote
abbrev pub text_reading : List ℕ → Reading
text_reading inside = text_with inside (position is_backslash inside)

pub data TokenRow : List ℕ → Reading → Type 0 where
  blank : (c : ℕ) → beginning_of c ≡ Beginning.Blank → TokenRow (c ∷ []) Skipped
  line_comment : (line : List ℕ) → IsTrue (list_all is_inside_line line) → TokenRow (byte "/" ∷ byte "/" ∷ line) Skipped
  comment : (inside : List ℕ) → EndsComment inside → TokenRow (byte "/" ∷ byte "*" ∷ inside) Skipped
  open_comment : TokenRow (byte "/" ∷ byte "*" ∷ []) (Fails TokenFault.OpenComment 0)
  slash : TokenRow (byte "/" ∷ []) (Reads (Token.Mark Mark.Slash))
  mark : (c : ℕ) (cs : List ℕ) (m : Mark) → beginning_of c ≡ Beginning.Sign → mark_of (c ∷ cs) ≡ Some m →
      TokenRow (c ∷ cs) (Reads (Token.Mark m))
  word : (c : ℕ) (cs : List ℕ) → beginning_of c ≡ Beginning.Letter → IsTrue (list_all is_xid_continue cs) →
      TokenRow (c ∷ cs) (Reads (word_token (c ∷ cs)))
  number : (c : ℕ) (cs : List ℕ) → beginning_of c ≡ Beginning.Digit → IsTrue (list_all is_xid_continue cs) →
      TokenRow (c ∷ cs) (number_reading (c ∷ cs))
  label : (cs : List ℕ) → IsTrue (is_identifier cs) →
      TokenRow (byte "'" ∷ cs) (Reads (Token.Label (encode_utf8_all cs)))
  no_label : TokenRow (byte "'" ∷ []) (Fails TokenFault.BadChar 0)
  text : (inside : List ℕ) → IsTrue (list_all is_inside_text inside) →
      TokenRow (quote ∷ (inside ++ quote ∷ [])) (text_reading inside)
  open_text : TokenRow (quote ∷ []) (Fails TokenFault.OpenText 0)
  other : (c : ℕ) → beginning_of c ≡ Beginning.Other → TokenRow (c ∷ []) (Fails TokenFault.BadChar 0)

-- What runs of digits and letters, words, marks and texts between quotes are, and where what follows them stands.
use Rattle.std.proofs.Common.{◌≡◌, ℕ, [], ◌∷◌, map, Option, Some, None, refl}
use Rattle.std.proofs.Math.Utf8.{encode}
use Rattle.std.specs.Prelude.{codes}
use Rattle.mir_base.specs.declared.int_kind.IntKind.{IntKind}
use Rattle.mir_base.specs.declared.place_in_text.Pos.{Pos}
use Rattle.src_token.specs.declared.mark.Mark.{Mark}
use Rattle.src_token.specs.declared.piece.TokenFault.{TokenFault}
use Rattle.src_token.specs.declared.piece.Reading.{Reading}
use Rattle.src_token.specs.declared.token.Token.{Token}
use Rattle.src_token.specs.declared.word.Word.{Word}
use Rattle.src_token.specs.Marks.{mark_of}
use Rattle.src_token.specs.Numbers.{number_reading}
use Rattle.src_token.specs.Places.{place_after}
use Rattle.src_token.specs.Rows.{text_reading}
use Rattle.src_token.specs.Words.{word_token, keyword_of}

-- ---- numbers

abbrev number : ℕ → Option IntKind → Reading
number value kind = Reading.Reads (Token.Number value kind)

abbrev no_number : Reading
no_number = Reading.Fails TokenFault.BadNumber 0

number_of_each : map number_reading (codes "1_" ∷ codes "0_1usize" ∷ codes "2i64" ∷ codes "18446744073709551615" ∷
    codes "18446744073709551616" ∷ codes "18446744073709551616_u64" ∷ codes "1abc" ∷ codes "1u8" ∷ [])
    ≡ number 1 None ∷ number 1 (Some IntKind.Usize) ∷ number 2 (Some IntKind.I64) ∷ number 18446744073709551615 None ∷
    no_number ∷ no_number ∷ no_number ∷ no_number ∷ []
unfolding number_reading
number_of_each = refl

-- ---- marks, of one character and of two

mark_of_each : map mark_of (codes "{" ∷ codes "}" ∷ codes "(" ∷ codes ")" ∷ codes "[" ∷ codes "]" ∷ codes "," ∷
    codes ";" ∷ codes "::" ∷ codes ":" ∷ codes ".." ∷ codes "." ∷ codes "->" ∷ codes "-" ∷ codes "=>" ∷ codes "==" ∷
    codes "=" ∷ codes "!=" ∷ codes "!" ∷ codes "<=" ∷ codes "<" ∷ codes ">=" ∷ codes ">" ∷ codes "+" ∷ codes "*" ∷
    codes "/" ∷ codes "%" ∷ codes "&&" ∷ codes "&" ∷ codes "||" ∷ codes "|" ∷ codes "#" ∷ codes "_" ∷ codes "..." ∷
    codes "?" ∷ [])
    ≡ Some Mark.OpenBrace ∷ Some Mark.CloseBrace ∷ Some Mark.OpenParenthesis ∷ Some Mark.CloseParenthesis ∷
    Some Mark.OpenBracket ∷ Some Mark.CloseBracket ∷ Some Mark.Comma ∷ Some Mark.Semi ∷ Some Mark.PathSep ∷
    Some Mark.Colon ∷ Some Mark.DotDot ∷ Some Mark.Dot ∷ Some Mark.RArrow ∷ Some Mark.Minus ∷ Some Mark.FatArrow ∷
    Some Mark.EqEq ∷ Some Mark.Eq ∷ Some Mark.Ne ∷ Some Mark.Not ∷ Some Mark.Le ∷ Some Mark.Lt ∷ Some Mark.Ge ∷
    Some Mark.Gt ∷ Some Mark.Plus ∷ Some Mark.Star ∷ Some Mark.Slash ∷ Some Mark.Percent ∷ Some Mark.AndAnd ∷
    Some Mark.And ∷ Some Mark.OrOr ∷ Some Mark.Or ∷ Some Mark.Pound ∷ Some Mark.Underscore ∷ None ∷ None ∷ []
mark_of_each = refl

-- ---- words

word_of_each : map word_token (codes "fn" ∷ codes "Self" ∷ codes "gen" ∷ codes "_" ∷ codes "_x" ∷ codes "fnx" ∷ [])
    ≡ Token.Word Word.Fn ∷ Token.Word Word.SelfType ∷ Token.Word Word.Gen ∷ Token.Mark Mark.Underscore ∷
    Token.Name (codes "_x") ∷ Token.Name (codes "fnx") ∷ []
unfolding keyword_of encode
word_of_each = refl

-- ---- texts between quotes: a `\` is refused, behind the quote and what stands before it

text_of_each : map text_reading (codes "" ∷ codes "a//" ∷ codes "a\\b" ∷ [])
    ≡ Reading.Reads (Token.Text []) ∷ Reading.Reads (Token.Text (codes "a//")) ∷ Reading.Fails TokenFault.BadChar 2 ∷ []
unfolding encode
text_of_each = refl

-- ---- places: a carriage return is a character of its line

abbrev pos_at : ℕ → ℕ → Pos
pos_at line col = record { line = line; col = col }

place_of_each : map place_after ([] ∷ codes "a" ∷ (97 ∷ 13 ∷ 10 ∷ []) ∷ (97 ∷ 13 ∷ 10 ∷ 233 ∷ 32 ∷ []) ∷ (97 ∷ 13 ∷ []) ∷ [])
    ≡ pos_at 1 1 ∷ pos_at 1 2 ∷ pos_at 2 1 ∷ pos_at 2 3 ∷ pos_at 1 3 ∷ []
unfolding place_after
place_of_each = refl

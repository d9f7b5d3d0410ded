-- The marks, of one character or of two.
use Rattle.std.specs.Prelude.{ℕ, ◌==◌, ◌&&◌, List, [], ◌∷◌, Option, Some, None, if◌then◌else◌}
use Rattle.std.specs.Str.{byte}
use Rattle.src_token.specs.declared.mark.Mark.{Mark}

abbrev pub one_mark : ℕ → Option Mark
one_mark c =
    if c == byte "{" then Some Mark.OpenBrace
    else if c == byte "}" then Some Mark.CloseBrace
    else if c == byte "(" then Some Mark.OpenParenthesis
    else if c == byte ")" then Some Mark.CloseParenthesis
    else if c == byte "[" then Some Mark.OpenBracket
    else if c == byte "]" then Some Mark.CloseBracket
    else if c == byte "," then Some Mark.Comma
    else if c == byte ";" then Some Mark.Semi
    else if c == byte ":" then Some Mark.Colon
    else if c == byte "." then Some Mark.Dot
    else if c == byte "=" then Some Mark.Eq
    else if c == byte "<" then Some Mark.Lt
    else if c == byte ">" then Some Mark.Gt
    else if c == byte "+" then Some Mark.Plus
    else if c == byte "-" then Some Mark.Minus
    else if c == byte "*" then Some Mark.Star
    else if c == byte "/" then Some Mark.Slash
    else if c == byte "%" then Some Mark.Percent
    else if c == byte "!" then Some Mark.Not
    else if c == byte "&" then Some Mark.And
    else if c == byte "|" then Some Mark.Or
    else if c == byte "#" then Some Mark.Pound
    else if c == byte "_" then Some Mark.Underscore
    else None

abbrev pub two_mark : ℕ → ℕ → Option Mark
two_mark c d =
    if c == byte ":" && d == byte ":" then Some Mark.PathSep
    else if c == byte "." && d == byte "." then Some Mark.DotDot
    else if c == byte "-" && d == byte ">" then Some Mark.RArrow
    else if c == byte "=" && d == byte ">" then Some Mark.FatArrow
    else if c == byte "=" && d == byte "=" then Some Mark.EqEq
    else if c == byte "!" && d == byte "=" then Some Mark.Ne
    else if c == byte "<" && d == byte "=" then Some Mark.Le
    else if c == byte ">" && d == byte "=" then Some Mark.Ge
    else if c == byte "&" && d == byte "&" then Some Mark.AndAnd
    else if c == byte "|" && d == byte "|" then Some Mark.OrOr
    else None

-- the mark that these characters are
abbrev pub mark_of : List ℕ → Option Mark
mark_of [] = None
mark_of (c ∷ []) = one_mark c
mark_of (c ∷ d ∷ []) = two_mark c d
mark_of (c ∷ d ∷ e ∷ cs) = None

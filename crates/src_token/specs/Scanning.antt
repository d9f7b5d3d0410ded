-- How the lexer finds the next piece of some characters, one character after the other. That it is the longest that a
-- row describes is proved in `proofs/`.
use Rattle.std.specs.Prelude.{ℕ, zero, suc, ◌+◌, ◌<◌, ◌≤◌, Bool, true, false, ◌==◌, List, [], ◌∷◌, length, take, drop, slice_index, Option, Some, None, option_map, if◌then◌else◌}
use Rattle.std.specs.List.{prefix_len}
use Rattle.std.specs.Str.{byte, encode_utf8_all}
use Rattle.unicode_ident.specs.Ident.{is_xid_continue}
use Rattle.src_token.specs.declared.mark.Mark.{Mark}
use Rattle.src_token.specs.declared.piece.Beginning.{Beginning}
use Rattle.src_token.specs.declared.piece.TokenFault.{TokenFault}
use Rattle.src_token.specs.declared.piece.TokenPiece.{TokenPiece}
use Rattle.src_token.specs.declared.piece.Reading.{Reading}
use Rattle.src_token.specs.declared.piece.Reading.TheVariants.{Skipped, Reads, Fails}
use Rattle.src_token.specs.declared.token.Token.{Token}
use Rattle.src_token.specs.Beginnings.{beginning_of, is_identifier}
use Rattle.src_token.specs.Comments.{opens, closes}
use Rattle.src_token.specs.Marks.{one_mark, two_mark}
use Rattle.src_token.specs.Numbers.{number_reading}
use Rattle.src_token.specs.Rows.{is_inside_text, is_inside_line, text_reading}
use Rattle.src_token.specs.Words.{word_token}

abbrev pub piece : ℕ → Reading → TokenPiece
piece length reading = record { length = length; reading = reading }

-- the identifier characters after the first character
abbrev pub run_length : List ℕ → ℕ
run_length rest = prefix_len is_xid_continue (drop 1 rest)

abbrev pub number_piece : List ℕ → TokenPiece
number_piece rest = piece (1 + run_length rest) (number_reading (take (1 + run_length rest) rest))

abbrev pub word_piece : List ℕ → TokenPiece
word_piece rest = piece (1 + run_length rest) (Reads (word_token (take (1 + run_length rest) rest)))

abbrev pub label_if : Bool → List ℕ → ℕ → TokenPiece
label_if true name length = piece length (Reads (Token.Label (encode_utf8_all name)))
label_if false name length = piece 1 (Fails TokenFault.BadChar 0)

abbrev pub label_piece : List ℕ → TokenPiece
label_piece rest =
    let name = take (run_length rest) (drop 1 rest) in label_if (is_identifier name) name (1 + run_length rest)

abbrev pub text_length : List ℕ → ℕ
text_length rest = prefix_len is_inside_text (drop 1 rest)

abbrev pub text_piece : List ℕ → TokenPiece
text_piece rest =
    if slice_index rest (1 + text_length rest) == 34 then piece (2 + text_length rest)
    (text_reading (take (text_length rest) (drop 1 rest)))
    else piece 1 (Fails TokenFault.OpenText 0)

-- one of two more comments is closed: the outermost one, or another
abbrev pub closed : ℕ → (ℕ → Option ℕ) → Option ℕ
closed zero more = Some 2
closed (suc depth) more = option_map suc (more depth)

-- how many characters there are up to the end of the outermost comment, inside so many more; the first character may be
-- the second one of a mark
abbrev pub closing : ℕ → Bool → List ℕ → Option ℕ
closing depth second [] = None
closing depth true (c ∷ cs) = option_map suc (closing depth false cs)
closing depth false (c ∷ cs) =
    if closes c (slice_index cs 0) then closed depth (λ d. closing d true cs)
    else if opens c (slice_index cs 0) then option_map suc (closing (suc depth) true cs)
    else option_map suc (closing depth false cs)

abbrev pub comment_piece : Option ℕ → TokenPiece
comment_piece None = piece 2 (Fails TokenFault.OpenComment 0)
comment_piece (Some length) = piece (2 + length) Skipped

abbrev pub slash_piece : List ℕ → TokenPiece
slash_piece rest =
    if slice_index rest 1 == byte "/" then piece (prefix_len is_inside_line rest) Skipped
    else if slice_index rest 1 == byte "*" then comment_piece (closing 0 false (drop 2 rest))
    else piece 1 (Reads (Token.Mark Mark.Slash))

abbrev pub one_sign : Option Mark → TokenPiece
one_sign None = piece 1 (Fails TokenFault.BadChar 0)
one_sign (Some mark) = piece 1 (Reads (Token.Mark mark))

abbrev pub two_signs : Option Mark → ℕ → TokenPiece
two_signs None c = one_sign (one_mark c)
two_signs (Some mark) c = piece 2 (Reads (Token.Mark mark))

abbrev pub sign_piece : List ℕ → TokenPiece
sign_piece rest = two_signs (two_mark (slice_index rest 0) (slice_index rest 1)) (slice_index rest 0)

abbrev pub piece_by : Beginning → List ℕ → TokenPiece
piece_by Beginning.Blank rest = piece 1 Skipped
piece_by Beginning.Digit rest = number_piece rest
piece_by Beginning.Quote rest = label_piece rest
piece_by Beginning.DoubleQuote rest = text_piece rest
piece_by Beginning.Slash rest = slash_piece rest
piece_by Beginning.Sign rest = sign_piece rest
piece_by Beginning.Letter rest = word_piece rest
piece_by Beginning.Other rest = piece 1 (Fails TokenFault.BadChar 0)

abbrev pub next_piece : List ℕ → TokenPiece
next_piece rest = piece_by (beginning_of (slice_index rest 0)) rest

-- a fault stands within its piece
abbrev pub Near : ℕ → Reading → Type 0
Near length Skipped = Unit {0}
Near length (Reads token) = Unit {0}
Near length (Fails fault passed) = passed ≤ length

-- a piece is within the characters, and so is its fault
pub record Stands (rest : List ℕ) (p : TokenPiece) : Type 0 where
  pub some : 0 < p.length
  pub within : p.length ≤ length rest
  pub near : Near p.length p.reading

-- The tokens of a text, or its first error. A text is cut into pieces, each of them the longest that a row
-- describes there.
use Rattle.std.specs.Prelude.{◌≡◌, ℕ, ◌≤◌, List, [], ◌∷◌, ◌++◌, length, take, Option, Some, None}
use Rattle.std.specs.Str.{chars, encode_utf8_all, IsUtf8, IsValidUpTo}
use Rattle.mir_base.specs.declared.place_in_text.Pos.{Pos}
use Rattle.src_token.specs.declared.piece.TokenFault.{TokenFault}
use Rattle.src_token.specs.declared.piece.Reading.{Reading}
use Rattle.src_token.specs.declared.piece.Reading.TheVariants.{Skipped, Reads, Fails}
use Rattle.src_token.specs.declared.token.LexError.{LexError}
use Rattle.src_token.specs.declared.token.LexError.TheVariants.{BadChar, BadNumber, OpenComment, OpenText, NotUtf8, Memory}
use Rattle.src_token.specs.declared.token.Spanned.{Spanned}
use Rattle.src_token.specs.Places.{place_after}
use Rattle.src_token.specs.Rows.{TokenRow}

-- a piece of a text, and what it is
pub record Cut : Type 0 where
  pub piece : List ℕ
  pub reading : Reading

-- a text begins by this piece, and no row describes a longer one there
pub record Begins (text : List ℕ) (cut : Cut) (rest : List ℕ) : Type 0 where
  pub joined : text ≡ cut.piece ++ rest
  pub described : TokenRow cut.piece cut.reading
  pub longest : (longer others : List ℕ) (reading : Reading) → text ≡ longer ++ others → TokenRow longer reading →
      length longer ≤ length cut.piece

-- the pieces of a text, in their order
abbrev pub Cutting : List ℕ → List Cut → Type 0
Cutting text [] = text ≡ []
Cutting text (cut ∷ cuts) = (rest : List ℕ) × Begins text cut rest × Cutting rest cuts

-- the tokens of a piece that these characters stand before
abbrev pub token_of : List ℕ → List ℕ → Reading → List Spanned
token_of before piece Skipped = []
token_of before piece (Reads token) =
    record {
      token = token;
      at = place_after before;
      start = length (encode_utf8_all before);
      end = length (encode_utf8_all (before ++ piece));
    } ∷ []
token_of before piece (Fails fault passed) = []

abbrev pub tokens_of : List ℕ → List Cut → List Spanned
tokens_of before [] = []
tokens_of before (cut ∷ cuts) = token_of before cut.piece cut.reading ++ tokens_of (before ++ cut.piece) cuts

abbrev pub error_at : TokenFault → Pos → LexError
error_at TokenFault.BadChar at = BadChar at
error_at TokenFault.BadNumber at = BadNumber at
error_at TokenFault.OpenComment at = OpenComment at
error_at TokenFault.OpenText at = OpenText at

-- the error of a piece that these characters stand before, or else that of the rest
abbrev pub error_or : List ℕ → List ℕ → Reading → Option LexError → Option LexError
error_or before piece Skipped rest = rest
error_or before piece (Reads token) rest = rest
error_or before piece (Fails fault passed) rest = Some (error_at fault (place_after (before ++ take passed piece)))

-- the first error of the pieces
abbrev pub first_error : List ℕ → List Cut → Option LexError
first_error before [] = None
first_error before (cut ∷ cuts) = error_or before cut.piece cut.reading (first_error (before ++ cut.piece) cuts)

-- these are the tokens of the characters
pub record CutTokens (characters : List ℕ) (tokens : List Spanned) : Type 0 where
  pub cuts : List Cut
  pub cutting : Cutting characters cuts
  pub no_error : first_error [] cuts ≡ None
  pub told : tokens ≡ tokens_of [] cuts

-- this is the first error of the characters' pieces
pub record CutError (characters : List ℕ) (error : LexError) : Type 0 where
  pub cuts : List Cut
  pub cutting : Cutting characters cuts
  pub first : first_error [] cuts ≡ Some error

-- the bytes are UTF-8, and these are the tokens of their characters
abbrev pub Tokens : List ℕ → List Spanned → Type 0
Tokens bytes tokens = IsUtf8 bytes × CutTokens (chars bytes) tokens

abbrev pub FirstError : List ℕ → LexError → Type 0
FirstError bytes error = IsUtf8 bytes × CutError (chars bytes) error

-- the longest beginning of the bytes that is UTF-8 ends before this place
pub record EndsBefore (bytes : List ℕ) (at : Pos) : Type 0 where
  pub count : ℕ
  pub valid : IsValidUpTo bytes count
  pub place : at ≡ place_after (chars (take count bytes))

-- the bytes have no tokens, for this reason; want of memory says nothing of them
abbrev pub Refused : List ℕ → LexError → Type 0
Refused bytes (BadChar at) = FirstError bytes (BadChar at)
Refused bytes (BadNumber at) = FirstError bytes (BadNumber at)
Refused bytes (OpenComment at) = FirstError bytes (OpenComment at)
Refused bytes (OpenText at) = FirstError bytes (OpenText at)
Refused bytes (NotUtf8 at) = EndsBefore bytes at
Refused bytes Memory = Unit {0}

-- no list of tokens was made of the characters, for this reason
abbrev pub CutRefused : List ℕ → LexError → Type 0
CutRefused characters (NotUtf8 at) = ⊥
CutRefused characters Memory = Unit {0}
CutRefused characters error = CutError characters error

-- there is one way to cut these characters
pub record OneCutting (characters : List ℕ) : Type 0 where
  pub cuts : List Cut
  pub cutting : Cutting characters cuts
  pub unique : (others : List Cut) → Cutting characters others → others ≡ cuts

-- Identifiers and keywords as tokens.
use Rattle.std.specs.Prelude.{ℕ, List, [], ◌∷◌, Option, Some, None, if◌then◌else◌}
use Rattle.std.specs.Str.{bytes_eq, encode_utf8_all}
use Rattle.src_token.specs.declared.word.TheConstants.{KEYWORDS}
use Rattle.src_token.specs.declared.mark.Mark.{Mark}
use Rattle.src_token.specs.declared.token.Token.{Token}
use Rattle.src_token.specs.declared.word.Word.{Word}
use Rattle.src_token.specs.Marks.{mark_of}

-- the keyword that these characters are, if they are one of a table of spellings and words
abbrev pub keyword_among : {X : Type 0} → (X → List ℕ) → (X → Word) → List X → List ℕ → Option Word
keyword_among spelling word [] piece = None
keyword_among spelling word (entry ∷ table) piece =
    if bytes_eq (spelling entry) piece then Some (word entry) else keyword_among spelling word table piece

unfoldable pub keyword_of : List ℕ → Option Word
keyword_of piece = keyword_among (λ entry. entry.0.now) (λ entry. entry.1) KEYWORDS piece

abbrev pub marked : List ℕ → Option Mark → Token
marked piece None = Token.Name (encode_utf8_all piece)
marked piece (Some mark) = Token.Mark mark

abbrev pub worded : List ℕ → Option Word → Token
worded piece None = marked piece (mark_of piece)
worded piece (Some word) = Token.Word word

-- a keyword, the mark `_`, or else a name
abbrev pub word_token : List ℕ → Token
word_token piece = worded piece (keyword_of piece)

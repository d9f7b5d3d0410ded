-- What a row says of a piece, by the kind that its first character begins.
use Rattle.std.proofs.Common.{◌≡◌, ℕ, Bool, true, List, [], ◌∷◌, ◌++◌, Some, refl, sym, subst}
use Rattle.std.specs.Prelude.{IsTrue}
use Rattle.std.specs.List.{list_all}
use Rattle.std.specs.Str.{encode_utf8_all}
use Rattle.unicode_ident.specs.Ident.{is_xid_continue}
use Rattle.src_token.specs.declared.mark.Mark.{Mark}
use Rattle.src_token.specs.declared.piece.Beginning.{Beginning}
use Rattle.src_token.specs.declared.piece.Beginning.TheVariants.{Blank, Digit, Quote, DoubleQuote, Slash, Sign, Letter, Other}
use Rattle.src_token.specs.declared.piece.TokenFault.{TokenFault}
use Rattle.src_token.specs.declared.piece.Reading.{Reading}
use Rattle.src_token.specs.declared.piece.Reading.TheVariants.{Skipped, Reads, Fails}
use Rattle.src_token.specs.declared.token.Token.{Token}
use Rattle.src_token.specs.Beginnings.{beginning_of, is_identifier}
use Rattle.src_token.specs.Comments.{EndsComment}
use Rattle.src_token.specs.Marks.{mark_of}
use Rattle.src_token.specs.Numbers.{number_reading}
use Rattle.src_token.specs.Rows.{TokenRow, blank, line_comment, comment, open_comment, slash, mark, word, number, label, no_label, text, open_text, other, is_inside_text, is_inside_line, text_reading}
use Rattle.src_token.specs.Words.{word_token}

-- behind a `"`: nothing, or a text
pub data TextRow (cs : List ℕ) (r : Reading) : Type 0 where
  open_one : cs ≡ [] → r ≡ Fails TokenFault.OpenText 0 → TextRow cs r
  whole : (inside : List ℕ) → cs ≡ inside ++ 34 ∷ [] → list_all is_inside_text inside ≡ true → r ≡ text_reading inside → TextRow cs r

-- behind a `'`
pub data LabelRow (cs : List ℕ) (r : Reading) : Type 0 where
  none : cs ≡ [] → r ≡ Fails TokenFault.BadChar 0 → LabelRow cs r
  named : is_identifier cs ≡ true → r ≡ Reads (Token.Label (encode_utf8_all cs)) → LabelRow cs r

-- behind a `/`
pub data SlashRow (cs : List ℕ) (r : Reading) : Type 0 where
  alone : cs ≡ [] → r ≡ Reads (Token.Mark Mark.Slash) → SlashRow cs r
  to_line_end : (line : List ℕ) → cs ≡ 47 ∷ line → list_all is_inside_line line ≡ true → r ≡ Skipped → SlashRow cs r
  to_nowhere : cs ≡ 42 ∷ [] → r ≡ Fails TokenFault.OpenComment 0 → SlashRow cs r
  to_end : (inside : List ℕ) → cs ≡ 42 ∷ inside → EndsComment inside → r ≡ Skipped → SlashRow cs r

abbrev pub Described : Beginning → ℕ → List ℕ → Reading → Type 0
Described Blank c cs r = (cs ≡ []) × (r ≡ Skipped)
Described Digit c cs r = (list_all is_xid_continue cs ≡ true) × (r ≡ number_reading (c ∷ cs))
Described Quote c cs r = LabelRow cs r
Described DoubleQuote c cs r = TextRow cs r
Described Slash c cs r = SlashRow cs r
Described Sign c cs r = (m : Mark) × (mark_of (c ∷ cs) ≡ Some m) × (r ≡ Reads (Token.Mark m))
Described Letter c cs r = (list_all is_xid_continue cs ≡ true) × (r ≡ Reads (word_token (c ∷ cs)))
Described Other c cs r = (cs ≡ []) × (r ≡ Fails TokenFault.BadChar 0)

abbrev pub IsDescribed : List ℕ → Reading → Type 0
IsDescribed [] r = ⊥
IsDescribed (c ∷ cs) r = Described (beginning_of c) c cs r

truth : (b : Bool) → IsTrue b → b ≡ true
truth b h = h

at : {b : Beginning} (c : ℕ) (cs : List ℕ) (r : Reading) → beginning_of c ≡ b → Described b c cs r → IsDescribed (c ∷ cs) r
at c cs r e h = subst (λ (b : Beginning). Described b c cs r) (sym e) h

pub row_described : (piece : List ℕ) (r : Reading) → TokenRow piece r → IsDescribed piece r
row_described _ _ (blank c e) = at c _ _ e (refl, refl)
row_described _ _ (line_comment line h) = to_line_end line refl (truth _ h) refl
row_described _ _ (comment inside h) = to_end inside refl h refl
row_described _ _ open_comment = to_nowhere refl refl
row_described _ _ slash = alone refl refl
row_described _ _ (mark c cs m e h) = at c cs _ e (m, h, refl)
row_described _ _ (word c cs e h) = at c cs _ e (truth _ h, refl)
row_described _ _ (number c cs e h) = at c cs _ e (truth _ h, refl)
row_described _ _ (label cs h) = named (truth _ h) refl
row_described _ _ no_label = none refl refl
row_described _ _ (text inside h) = whole inside refl (truth _ h) refl
row_described _ _ open_text = open_one refl refl
row_described _ _ (other c e) = at c _ _ e (refl, refl)

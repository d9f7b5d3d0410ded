-- Pieces of a text that stand side by side: each is cut off where what follows does not go on with it.
use Rattle.std.proofs.Common.{◌≡◌, ℕ, suc, ◌+◌, nat_lt, Bool, true, false, not, ◌&&◌, ◌||◌, ◌==◌, if◌then◌else◌, List, [], ◌∷◌, ◌++◌, length, take, drop, Some, None, refl, ap, sym, subst, ◌∙◌, append_assoc, arith}
use Rattle.std.specs.Prelude.{slice_index, is_some}
use Rattle.std.specs.Str.{byte}
use Rattle.std.specs.List.{list_all, prefix_len}
use Rattle.std.specs.Char.{is_ascii_alphabetic, is_ascii_alphanumeric, is_ascii_digit}
use Rattle.std.proofs.lemmas.Bool.{and_parts, and_from, ltb-true}
use Rattle.unicode_ident.specs.Ident.{is_xid_continue}
use Rattle.unicode_ident.proofs.IdentLemmas.{is_xid_start-ascii, is_xid_continue-ascii}
use Rattle.src_token.specs.declared.mark.Mark.{Mark}
use Rattle.src_token.specs.declared.piece.Beginning.{Beginning}
use Rattle.src_token.specs.declared.piece.Beginning.TheVariants.{Blank, Digit, Letter, Sign}
use Rattle.src_token.specs.declared.piece.TokenPiece.{TokenPiece}
use Rattle.src_token.specs.declared.piece.Reading.{Reading}
use Rattle.src_token.specs.declared.piece.Reading.TheVariants.{Skipped, Reads}
use Rattle.src_token.specs.declared.token.Token.{Token}
use Rattle.src_token.specs.Beginnings.{beginning_of, is_blank}
use Rattle.src_token.specs.Marks.{one_mark, two_mark}
use Rattle.src_token.specs.Numbers.{number_reading}
use Rattle.src_token.specs.Scanning.{next_piece, piece, piece_by, two_signs, one_sign}
use Rattle.src_token.specs.Tokens.{Cut, Begins, Cutting}
use Rattle.src_token.specs.Words.{word_token}
use Rattle.src_token.proofs.Cuttings.{cut_of, begins_at}
use Rattle.src_token.proofs.Runs.{run_to}

pub data Lexeme : Type 0 where
  gap : (c : ℕ) → Lexeme
  sign : (c : ℕ) (m : Mark) → Lexeme
  pair : (c d : ℕ) (m : Mark) → Lexeme
  a_word : (w : List ℕ) (t : Token) → Lexeme
  numeral : (w : List ℕ) (n : ℕ) → Lexeme

abbrev pub piece_of : Lexeme → List ℕ
piece_of (gap c) = c ∷ []
piece_of (sign c m) = c ∷ []
piece_of (pair c d m) = c ∷ d ∷ []
piece_of (a_word w t) = w
piece_of (numeral w n) = w

abbrev pub reading_of : Lexeme → Reading
reading_of (gap c) = Skipped
reading_of (sign c m) = Reads (Token.Mark m)
reading_of (pair c d m) = Reads (Token.Mark m)
reading_of (a_word w t) = Reads t
reading_of (numeral w n) = Reads (Token.Number n None)

abbrev pub lexeme_cut : Lexeme → Cut
lexeme_cut l = record { piece = piece_of l; reading = reading_of l }

-- ---- what a piece asks of what follows

-- ASCII characters that go on a word, and those that do not
abbrev pub goes_on : ℕ → Bool
goes_on c = nat_lt c 128 && (is_ascii_alphanumeric c || (c == 95))

abbrev pub ends_it : ℕ → Bool
ends_it c = nat_lt c 128 && not (is_ascii_alphanumeric c || (c == 95))

abbrev pub stops : List ℕ → Bool
stops [] = false
stops (c ∷ cs) = ends_it c

-- the kind of piece that a character begins, if it is known whether it begins a word
abbrev kind_by : Bool → ℕ → Beginning
kind_by letter c =
    if is_blank c then Blank
    else if is_ascii_digit c then Digit
    else if c == byte "'" then Beginning.Quote
    else if c == 34 then Beginning.DoubleQuote
    else if c == byte "/" then Beginning.Slash
    else if c == byte "_" then Letter
    else if is_some (one_mark c) then Sign
    else if letter then Letter
    else Beginning.Other

abbrev pub IsLetter : ℕ → Type 0
IsLetter c = (nat_lt c 128 ≡ true) × (kind_by (is_ascii_alphabetic c) c ≡ Letter)

abbrev pub Fits : Lexeme → List ℕ → Type 0
Fits (gap c) rest = beginning_of c ≡ Blank
Fits (sign c m) rest = (beginning_of c ≡ Sign) × (two_mark c (slice_index rest 0) ≡ None) × (one_mark c ≡ Some m)
Fits (pair c d m) rest = (beginning_of c ≡ Sign) × (two_mark c d ≡ Some m)
Fits (a_word [] t) rest = ⊥
Fits (a_word (c ∷ cs) t) rest =
    IsLetter c × (list_all goes_on cs ≡ true) × (stops rest ≡ true) × (word_token (c ∷ cs) ≡ t)
Fits (numeral [] n) rest = ⊥
Fits (numeral (c ∷ cs) n) rest =
    (beginning_of c ≡ Digit) × (list_all goes_on cs ≡ true) × (stops rest ≡ true)
    × (number_reading (c ∷ cs) ≡ Reads (Token.Number n None))

-- ---- characters

continues : (c : ℕ) → goes_on c ≡ true → is_xid_continue c ≡ true
continues c h =
    let k = and_parts (nat_lt c 128) _ h in is_xid_continue-ascii c (ltb-true c 128 k.0) ∙ k.1

all_continue : (cs : List ℕ) → list_all goes_on cs ≡ true → list_all is_xid_continue cs ≡ true
all_continue [] h = refl
all_continue (c ∷ cs) h =
    let k = and_parts (goes_on c) _ h in and_from (is_xid_continue c) _ (continues c k.0) (all_continue cs k.1)

not_true : (b : Bool) → not b ≡ true → b ≡ false
not_true true h = cc
not_true false h = refl

ends : (c : ℕ) → ends_it c ≡ true → is_xid_continue c ≡ false
ends c h =
    let k = and_parts (nat_lt c 128) _ h in is_xid_continue-ascii c (ltb-true c 128 k.0) ∙ not_true _ k.1

run_is : (cs rest : List ℕ) → list_all goes_on cs ≡ true → stops rest ≡ true →
    prefix_len is_xid_continue (cs ++ rest) ≡ length cs
run_is cs [] h k = cc
run_is cs (d ∷ ds) h k = run_to is_xid_continue cs d ds (all_continue cs h) (ends d k)

-- the kind of piece that a letter begins
letter_begins : (c : ℕ) → IsLetter c → beginning_of c ≡ Letter
letter_begins c h = ap (λ b. kind_by b c) (is_xid_start-ascii c (ltb-true c 128 h.0)) ∙ h.1

-- ---- one piece

from_next : (c : ℕ) (cs : List ℕ) (p : TokenPiece) → next_piece (c ∷ cs) ≡ p →
    Begins (c ∷ cs) (cut_of (c ∷ cs) p) (drop p.length (c ∷ cs))
from_next c cs p e = subst (λ p. Begins (c ∷ cs) (cut_of (c ∷ cs) p) (drop p.length (c ∷ cs))) e (begins_at c cs)

front : (xs ys : List ℕ) → take (length xs) (xs ++ ys) ≡ xs
front [] ys = refl
front (x ∷ xs) ys = ap (λ zs. x ∷ zs) (front xs ys)

back : (xs ys : List ℕ) → drop (length xs) (xs ++ ys) ≡ ys
back [] ys = refl
back (x ∷ xs) ys = back xs ys

next_is : (c : ℕ) (cs : List ℕ) (b : Beginning) → beginning_of c ≡ b → next_piece (c ∷ cs) ≡ piece_by b (c ∷ cs)
next_is c cs b e = ap (λ b. piece_by b (c ∷ cs)) e

-- a cut is known by its piece and its reading
as_cut : (text front_ rest : List ℕ) (p : TokenPiece) (r : Reading) → text ≡ front_ ++ rest → p.length ≡ length front_ →
    p.reading ≡ r → Begins text (cut_of text p) (drop p.length text) →
    Begins text (record { piece = front_; reading = r }) rest
as_cut text front_ rest p r joined counted read begins =
    let piece_is : take p.length text ≡ front_ = rw (counted, joined) (front front_ rest) in
    let rest_is : drop p.length text ≡ rest = rw (counted, joined) (back front_ rest) in
    subst (λ w. Begins text (record { piece = w; reading = r }) rest) piece_is
    (subst (λ s. Begins text (record { piece = take p.length text; reading = s }) rest) read
    (subst (λ rest. Begins text (cut_of text p) rest) rest_is begins))

one_more : (n : ℕ) → 1 + n ≡ suc n
one_more n = omega arith

module _ (c : ℕ) (cs rest : List ℕ) (go : list_all goes_on cs ≡ true) (stop : stops rest ≡ true) where
  run_counts : 1 + prefix_len is_xid_continue (cs ++ rest) ≡ length (c ∷ cs)
  run_counts = ap (λ n. 1 + n) (run_is cs rest go stop) ∙ one_more (length cs)

  run_read : take (1 + prefix_len is_xid_continue (cs ++ rest)) (c ∷ (cs ++ rest)) ≡ c ∷ cs
  run_read = rw run_counts (front (c ∷ cs) rest)

  word_begins : (t : Token) → beginning_of c ≡ Letter → word_token (c ∷ cs) ≡ t →
      Begins (c ∷ (cs ++ rest)) (record { piece = c ∷ cs; reading = Reads t }) rest
  word_begins t kind token =
      as_cut (c ∷ (cs ++ rest)) (c ∷ cs) rest _ (Reads t) refl run_counts
      (ap (λ w. Reads (word_token w)) run_read ∙ ap Reads token)
      (from_next c (cs ++ rest) _ (next_is c (cs ++ rest) Letter kind))

  number_begins : (n : ℕ) → beginning_of c ≡ Digit → number_reading (c ∷ cs) ≡ Reads (Token.Number n None) →
      Begins (c ∷ (cs ++ rest)) (record { piece = c ∷ cs; reading = Reads (Token.Number n None) }) rest
  number_begins n kind read =
      as_cut (c ∷ (cs ++ rest)) (c ∷ cs) rest _ (Reads (Token.Number n None)) refl run_counts
      (ap number_reading run_read ∙ read)
      (from_next c (cs ++ rest) _ (next_is c (cs ++ rest) Digit kind))

pub begins : (l : Lexeme) (rest : List ℕ) → Fits l rest → Begins (piece_of l ++ rest) (lexeme_cut l) rest
begins (gap c) rest fits =
    as_cut (c ∷ rest) (c ∷ []) rest _ Skipped refl refl refl (from_next c rest _ (next_is c rest Blank fits))
begins (sign c m) rest (kind, alone, one) =
    as_cut (c ∷ rest) (c ∷ []) rest _ (Reads (Token.Mark m)) refl refl refl
    (from_next c rest (piece 1 (Reads (Token.Mark m)))
    (next_is c rest Sign kind ∙ ap (λ o. two_signs o c) alone ∙ ap one_sign one))
begins (pair c d m) rest (kind, both) =
    as_cut (c ∷ d ∷ rest) (c ∷ d ∷ []) rest _ (Reads (Token.Mark m)) refl refl refl
    (from_next c (d ∷ rest) (piece 2 (Reads (Token.Mark m)))
    (next_is c (d ∷ rest) Sign kind ∙ ap (λ o. two_signs o c) both))
begins (a_word [] t) rest fits = absurd fits
begins (a_word (c ∷ cs) t) rest (letter, go, stop, token) =
    word_begins c cs rest go stop t (letter_begins c letter) token
begins (numeral [] n) rest fits = absurd fits
begins (numeral (c ∷ cs) n) rest (kind, go, stop, read) = number_begins c cs rest go stop n kind read

-- ---- pieces side by side

abbrev pub spelled : List Lexeme → List ℕ → List ℕ
spelled [] rest = rest
spelled (l ∷ ls) rest = piece_of l ++ spelled ls rest

abbrev pub cut_before : List Lexeme → List Cut → List Cut
cut_before [] cuts = cuts
cut_before (l ∷ ls) cuts = lexeme_cut l ∷ cut_before ls cuts

spelled_both : (xs ys : List Lexeme) (rest : List ℕ) → spelled (xs ++ ys) rest ≡ spelled xs (spelled ys rest)
spelled_both [] ys rest = refl
spelled_both (l ∷ xs) ys rest = ap (λ w. piece_of l ++ w) (spelled_both xs ys rest)

abbrev pub AllFit : List Lexeme → List ℕ → Type 0
AllFit [] rest = Unit {0}
AllFit (l ∷ ls) rest = Fits l (spelled ls rest) × AllFit ls rest

pub cut_all : (ls : List Lexeme) (rest : List ℕ) (cuts : List Cut) → AllFit ls rest → Cutting rest cuts →
    Cutting (spelled ls rest) (cut_before ls cuts)
cut_all [] rest cuts fit cutting = cutting
cut_all (l ∷ ls) rest cuts (this, others) cutting =
    (spelled ls rest, begins l (spelled ls rest) this, cut_all ls rest cuts others cutting)

-- what stands behind pieces stands behind all of them
pub spelled_on : (ls : List Lexeme) (rest : List ℕ) → spelled ls rest ≡ spelled ls [] ++ rest
spelled_on [] rest = refl
spelled_on (l ∷ ls) rest =
    ap (λ w. piece_of l ++ w) (spelled_on ls rest) ∙ sym (append_assoc (piece_of l) (spelled ls []) rest)

-- pieces behind pieces fit where both do
pub fit_both : (xs ys : List Lexeme) (rest : List ℕ) → AllFit xs (spelled ys rest) → AllFit ys rest →
    AllFit (xs ++ ys) rest
fit_both [] ys rest fit others = others
fit_both (l ∷ xs) ys rest (this, more) others =
    (subst (λ w. Fits l w) (sym (spelled_both xs ys rest)) this, fit_both xs ys rest more others)

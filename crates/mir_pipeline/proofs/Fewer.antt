-- A text has no more tokens than bytes.
use Rattle.std.proofs.Common.{ℕ, ◌≤◌, List, [], ◌∷◌, ◌++◌, length, ap, ◌∙◌, arith}
use Rattle.std.specs.Str.{chars}
use Rattle.std.proofs.lemmas.List.{length-append}
use Rattle.std.proofs.lemmas.Str.{length-le-encodes, encodes-chars}
use Rattle.src_token.specs.declared.token.Spanned.{Spanned}
use Rattle.src_token.specs.declared.piece.Reading.{Reading}
use Rattle.src_token.specs.declared.piece.Reading.TheVariants.{Skipped, Reads, Fails}
use Rattle.src_token.specs.Rows.{TokenRow, blank, line_comment, comment, open_comment, slash, mark, word, number, label, no_label, text, open_text, other}
use Rattle.src_token.specs.Tokens.{Cut, Cutting, Tokens, token_of, tokens_of}

row_some : (p : List ℕ) (r : Reading) → TokenRow p r → 1 ≤ length p
row_some p r (blank c e) = omega arith
row_some p r (line_comment l e) = omega arith
row_some p r (comment i e) = omega arith
row_some p r open_comment = omega arith
row_some p r slash = omega arith
row_some p r (mark c cs m e f) = omega arith
row_some p r (word c cs e f) = omega arith
row_some p r (number c cs e f) = omega arith
row_some p r (label cs e) = omega arith
row_some p r no_label = omega arith
row_some p r (text i e) = omega arith
row_some p r open_text = omega arith
row_some p r (other c e) = omega arith

one_token : (before piece : List ℕ) (r : Reading) → length (token_of before piece r) ≤ 1
one_token before piece Skipped = omega arith
one_token before piece (Reads t) = omega arith
one_token before piece (Fails f n) = omega arith

fewer : (cuts : List Cut) (before all : List ℕ) → Cutting all cuts → length (tokens_of before cuts) ≤ length all
fewer [] before all c = omega arith
fewer (cut ∷ cuts) before all (rest, b, c) =
    let i = fewer cuts (before ++ cut.piece) rest c in
    let p = row_some cut.piece cut.reading b.described in
    let o = one_token before cut.piece cut.reading in
    let a = length-append (token_of before cut.piece cut.reading) (tokens_of (before ++ cut.piece) cuts) in
    let l = ap length b.joined ∙ length-append cut.piece rest in omega arith

pub fewer_bytes : (bytes : List ℕ) (tokens : List Spanned) → Tokens bytes tokens → length tokens ≤ length bytes
fewer_bytes bytes tokens (utf8, c) =
    let f = fewer c.cuts [] (chars bytes) c.cutting in
    let l = length-le-encodes (chars bytes) in
    let e = ap length (encodes-chars bytes utf8) in
    let t = ap length c.told in omega arith

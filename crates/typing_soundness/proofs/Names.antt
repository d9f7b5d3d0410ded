-- Names in a text are words, without the mark of closures' names, and none is a keyword.
use Rattle.std.proofs.Common.{◌≡◌, ℕ, ◌+◌, ◌/◌, ◌%◌, ◌<◌, ◌≤◌, Bool, true, false, ◌||◌, ◌==◌, not, List, [], ◌∷◌, ◌++◌, map, Option, Some, None, IsTrue, refl, sym, ap, ◌∙◌, subst, arith}
use Rattle.std.specs.Prelude.{cond, nat_lt}
use Rattle.std.specs.List.{list_any, list_all}
use Rattle.std.specs.Str.{encode_utf8_all}
use Rattle.std.proofs.lemmas.Bool.{eqb-true, and_parts, false≢true}
use Rattle.std.proofs.lemmas.List.Folds.{list_any-append}
use Rattle.std.proofs.Math.Utf8.{encode}
use Rattle.unicode_ident.specs.Ident.{is_xid_continue}
use Rattle.unicode_ident.proofs.IdentLemmas.{is_xid_continue-ascii}
use Rattle.src_token.specs.Beginnings.{beginning_of}
use Rattle.src_token.specs.declared.mark.Mark.{Mark}
use Rattle.src_token.specs.declared.piece.Beginning.{Beginning}
use Rattle.src_token.specs.declared.piece.Reading.{Reading}
use Rattle.src_token.specs.declared.piece.Reading.TheVariants.{Skipped, Reads, Fails}
use Rattle.src_token.specs.declared.token.Spanned.{Spanned}
use Rattle.src_token.specs.declared.token.Token.{Token}
use Rattle.src_token.specs.declared.word.Word.{Word as Keyword}
use Rattle.src_token.specs.Marks.{mark_of}
use Rattle.src_token.specs.Numbers.{number_of, number_reading}
use Rattle.src_token.specs.Rows.{TokenRow, blank, line_comment, comment, open_comment, slash, mark, word, number, label, no_label, text, open_text, other, text_with}
use Rattle.src_token.specs.Tokens.{Tokens, Cut, Cutting, token_of, tokens_of}
use Rattle.src_token.specs.Words.{keyword_of, marked, worded}
use Rattle.well_typed.specs.Names.{is_word}
use Rattle.well_typed.proofs.ClaimLemmas.{and_true}
use Rattle.typing_rules.specs.Promises.{is_plain_name}
use Rattle.src_tree.specs.Layout.{node, end, tok, sub, spell, spell_parts}
use Rattle.typing_soundness.proofs.Good.{Tree, Held}
use Rattle.typing_soundness.proofs.Tokens.{IsPlain}
use Rattle.typing_soundness.proofs.Trees.{AllPlain, PartsPlain}
use Rattle.typing_soundness.proofs.Words.{word_of, no_digit, no_dyn}

-- ---- bytes

-- a mark of ASCII
module _ (mark : ℕ) (low : mark < 128) where
  abbrev is_mark : ℕ → Bool
  is_mark byte = byte == mark

  not_mark : (b : ℕ) → (b ≡ mark → ⊥) → is_mark b ≡ false
  not_mark b h = by (is_mark b) refl
    where
      by : (x : Bool) → is_mark b ≡ x → x ≡ false
      by true e = absurd (h (eqb-true b mark e))
      by false e = refl

  high : (b : ℕ) → 128 ≤ b → is_mark b ≡ false
  high b h = not_mark b (λ e. omega (arith, low, h, e))

  abbrev Clean : List ℕ → Type 0
  Clean [] = Unit {0}
  Clean (b ∷ bs) = (is_mark b ≡ false) × Clean bs

  clean : (bs : List ℕ) → Clean bs → list_any is_mark bs ≡ false
  clean [] h = refl
  clean (b ∷ bs) h = ap (λ z. z || list_any is_mark bs) h.0 ∙ clean bs h.1

  picked : (b : Bool) (x y : List ℕ) → list_any is_mark x ≡ false → list_any is_mark y ≡ false → list_any is_mark (cond b
      x y) ≡ false
  picked true x y h k = h
  picked false x y h k = k

  two_plain : (a b : ℕ) → list_any is_mark ((192 + a) ∷ (128 + b) ∷ []) ≡ false
  two_plain a b =
      clean ((192 + a) ∷ (128 + b) ∷ []) (high (192 + a) (omega arith), (high (128 + b) (omega arith), tt))

  three_plain : (a b c : ℕ) → list_any is_mark ((224 + a) ∷ (128 + b) ∷ (128 + c) ∷ []) ≡ false
  three_plain a b c =
      clean ((224 + a) ∷ (128 + b) ∷ (128 + c) ∷ []) (
        high (224 + a) (omega arith),
        (
          high (128 + b) (omega arith),
          (
            high (128
                + c) (omega arith),
            tt,
          ),
        ),
      )

  four_plain : (a b c d : ℕ) → list_any is_mark ((240 + a) ∷ (128 + b) ∷ (128 + c) ∷ (128 + d) ∷ []) ≡ false
  four_plain a b c d =
      clean ((240 + a) ∷ (128 + b) ∷ (128 + c) ∷ (128 + d) ∷ []) (
        high (240 + a) (omega arith),
        (
          high (128 + b) (omega
              arith),
          (high (128 + c) (omega arith), (high (128 + d) (omega arith), tt)),
        ),
      )

  char_plain : (c : ℕ) → (c ≡ mark → ⊥) → list_any is_mark (encode c) ≡ false
  unfolding encode
  char_plain c h =
      let two = (192 + c / 64) ∷ (128 + c % 64) ∷ [] in
      let three = (224 + c / 4096) ∷ (128 + (c / 64) % 64) ∷ (128 + c % 64) ∷ [] in
      let four = (240 + c / 262144) ∷ (128 + (c / 4096) % 64) ∷ (128 + (c / 64) % 64) ∷ (128 + c % 64) ∷ [] in
      let large = cond (nat_lt c 65536) three four in
      picked (nat_lt c 128) (c ∷ []) (cond (nat_lt c 2048) two large) (clean (c ∷ []) (not_mark c h, tt))
      (picked (nat_lt c 2048) two large (two_plain (c / 64) (c % 64)) (picked (nat_lt c 65536) three four (three_plain (c /
      4096) ((c / 64) % 64) (c % 64)) (four_plain (c / 262144) ((c / 4096) % 64) ((c / 64) % 64) (c % 64))))

  abbrev NoMark : List ℕ → Type 0
  NoMark [] = Unit {0}
  NoMark (c ∷ cs) = (c ≡ mark → ⊥) × NoMark cs

  all_plain : (cs : List ℕ) → NoMark cs → list_any is_mark (encode_utf8_all cs) ≡ false
  all_plain [] h = refl
  all_plain (c ∷ cs) h =
      list_any-append is_mark (encode c) (encode_utf8_all cs) ∙ ap (λ z. z || list_any is_mark (encode_utf8_all cs))
      (char_plain c h.0) ∙ all_plain cs h.1

  -- ---- characters

  goes_on : is_xid_continue mark ≡ false → (c : ℕ) → is_xid_continue c ≡ true → c ≡ mark → ⊥
  goes_on no_mark c h e = false≢true (sym no_mark ∙ sym (ap is_xid_continue e) ∙ h)

  go_on : is_xid_continue mark ≡ false → (cs : List ℕ) → IsTrue (list_all is_xid_continue cs) → NoMark cs
  go_on no_mark [] h = tt
  go_on no_mark (c ∷ cs) h =
      let k = and_parts (is_xid_continue c) (list_all is_xid_continue cs) h in (goes_on no_mark c k.0, go_on no_mark cs k.1)

  begins : beginning_of mark ≡ Beginning.Sign → (c : ℕ) → beginning_of c ≡ Beginning.Letter → c ≡ mark → ⊥
  begins sign c h e =
      let k : Beginning.Sign ≡ Beginning.Letter = sym sign ∙ sym (ap beginning_of e) ∙ h in absurd (cc)

-- ---- pieces

abbrev ReadsPlain : Reading → Type 0
ReadsPlain (Reads t) = IsPlain t
ReadsPlain _ = Unit {0}

-- an identifier, which is a keyword or a name
module _ (c : ℕ) (cs : List ℕ) (e : beginning_of c ≡ Beginning.Letter) (f : IsTrue (list_all is_xid_continue cs)) where
  abbrev own : List ℕ
  own = c ∷ cs

  without : (mark : ℕ) (low : mark < 128) → is_xid_continue mark ≡ false → beginning_of mark ≡ Beginning.Sign → list_any (λ b. b
      == mark) (encode_utf8_all own) ≡ false
  without byte low none sign = all_plain byte low own (begins byte low sign c e, go_on byte low none cs f)

  marked_plain : (o : Option Mark) → keyword_of own ≡ None → IsPlain (marked own o)
  marked_plain None none =
      let plain = ap not (without 35 (omega arith) (is_xid_continue-ascii 35 (omega arith)) refl) in
      let colon = ap not (without 58 (omega arith) (is_xid_continue-ascii 58 (omega arith)) refl) in
      let a = word_of c cs e f in
      record {
        plain = plain;
        is_word = a;
        is_type = and_true (is_word (encode_utf8_all own)) _ a (and_true (is_plain_name (encode_utf8_all own)) _ plain (ap
            not (no_dyn own none)));
        is_own = and_true (is_word (encode_utf8_all own)) _ a (and_true (is_plain_name (encode_utf8_all own)) _ plain colon);
        is_field = no_digit c cs e;
      }
  marked_plain (Some m) none = tt

  worded_plain : (o : Option Keyword) → keyword_of own ≡ o → IsPlain (worded own o)
  worded_plain None none = marked_plain (mark_of own) none
  worded_plain (Some w) is = tt

number_plain : (run : List ℕ) → ReadsPlain (number_reading run)
unfolding number_reading
number_plain run = by _ _
  where
    by : (o : Option ℕ) (q : _) → ReadsPlain (number_of o q)
    by None q = tt
    by (Some value) None = tt
    by (Some value) (Some suffix) = tt

text_plain : (inside : List ℕ) (o : Option ℕ) → ReadsPlain (text_with inside o)
text_plain inside None = tt
text_plain inside (Some n) = tt

row_plain : (piece : List ℕ) (reading : Reading) → TokenRow piece reading → ReadsPlain reading
row_plain _ _ (blank c e) = tt
row_plain _ _ (line_comment line e) = tt
row_plain _ _ (comment inside e) = tt
row_plain _ _ open_comment = tt
row_plain _ _ slash = tt
row_plain _ _ (mark c cs m e f) = tt
row_plain _ _ (word c cs e f) = worded_plain c cs e f (keyword_of (c ∷ cs)) refl
row_plain _ _ (number c cs e f) = number_plain (c ∷ cs)
row_plain _ _ (label cs e) = tt
row_plain _ _ no_label = tt
row_plain _ _ (text inside e) = text_plain inside _
row_plain _ _ open_text = tt
row_plain _ _ (other c e) = tt

-- so of each of some tokens
abbrev pub EachPlain : List Token → Type 0
EachPlain [] = Unit {0}
EachPlain (t ∷ ts) = IsPlain t × EachPlain ts

mutual
  plain_node : (g : Tree) (k : List Token) → EachPlain (spell g k) → AllPlain g × EachPlain k
  plain_node (node at r parts) k h = plain_parts parts k h

  pub plain_parts : (parts : Held) (k : List Token) → EachPlain (spell_parts parts k) → PartsPlain parts × EachPlain k
  plain_parts end k h = (tt, h)
  plain_parts (tok t rest) k h = let p = plain_parts rest k h.1 in ((h.0, p.0), p.1)
  plain_parts (sub g rest) k h =
      let q = plain_node g (spell_parts rest k) h in
      let p = plain_parts rest k q.1 in ((q.0, p.0), p.1)

piece_plain : (before piece : List ℕ) (reading : Reading) (rest : List Spanned) → ReadsPlain reading → EachPlain (map (λ
    s. s.token) rest) → EachPlain (map (λ s. s.token) (token_of before piece reading ++ rest))
piece_plain before piece Skipped rest h k = k
piece_plain before piece (Reads t) rest h k = (h, k)
piece_plain before piece (Fails fault passed) rest h k = k

cuts_plain : (characters before : List ℕ) (cuts : List Cut) → Cutting characters cuts → EachPlain (map (λ s. s.token)
    (tokens_of before cuts))
cuts_plain characters before [] h = tt
cuts_plain characters before (cut ∷ cuts) h =
    piece_plain before cut.piece cut.reading _ (row_plain cut.piece cut.reading h.1.described) (cuts_plain h.0 (before ++
    cut.piece) cuts h.2)

-- the tokens of a text
pub tokens_plain : (bytes : List ℕ) (tokens : List Spanned) → Tokens bytes tokens → EachPlain (map (λ s. s.token) tokens)
tokens_plain bytes tokens h =
    let c = h.1 in
    subst (λ ts. EachPlain (map (λ s. s.token) ts)) (sym c.told) (cuts_plain _ [] c.cuts c.cutting)

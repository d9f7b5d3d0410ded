-- Names in a text are words, without a blank or a mark in them, and none is the keyword `dyn`.
use Rattle.std.proofs.Common.{◌≡◌, ℕ, zero, suc, ◌+◌, ◌/◌, ◌%◌, ◌<◌, ◌≤◌, Bool, true, false, ◌&&◌, ◌||◌, ◌==◌, not, nat_eq, nat_lt, nat_le, cond, if◌then◌else◌, List, [], ◌∷◌, ◌++◌, Some, None, ◌⊎◌, inl, inr, IsTrue, refl, sym, ap, ◌∙◌, subst, arith}
use Rattle.std.specs.Prelude.{codes, is_some}
use Rattle.std.specs.List.{list_any, list_all}
use Rattle.std.specs.Char.{is_ascii_alphabetic, is_ascii_alphanumeric, is_ascii_digit}
use Rattle.std.specs.Str.{byte, bytes_eq, encode_utf8_all}
use Rattle.std.proofs.lemmas.Bool.{eqb-true, and_parts, false≢true, lt-ltb, ltb-true, ltb-false, leb-true}
use Rattle.std.proofs.lemmas.List.Folds.{list_all-append}
use Rattle.std.proofs.lemmas.Option.{none-some}
use Rattle.std.proofs.lemmas.Slice.Eq.{bytes_eq-Decides}
use Rattle.std.proofs.Math.Utf8.{encode}
use Rattle.unicode_ident.specs.Ident.{is_xid_continue}
use Rattle.unicode_ident.proofs.IdentLemmas.{is_xid_start-ascii, is_xid_continue-ascii}
use Rattle.typing_soundness.specs.Named.{begins_with_digit}
use Rattle.src_token.specs.Beginnings.{beginning_of, is_blank}
use Rattle.src_token.specs.Marks.{one_mark}
use Rattle.src_token.specs.declared.piece.Beginning.{Beginning}
use Rattle.src_token.specs.declared.word.Word.{Word as Keyword}
use Rattle.src_token.specs.Words.{keyword_of}
use Rattle.well_typed.specs.Names.{is_word}

-- ---- the bytes of a character: itself, or bytes above those of ASCII

abbrev AllHigh : List ℕ → Type 0
AllHigh [] = Unit {0}
AllHigh (b ∷ bs) = (128 ≤ b) × AllHigh bs

record AreHigh (bytes : List ℕ) : Type 0 where
  first : ℕ
  rest : List ℕ
  is : bytes ≡ first ∷ rest
  high : AllHigh (first ∷ rest)

abbrev Encoded : ℕ → List ℕ → Type 0
Encoded c bytes = ((c < 128) × (bytes ≡ c ∷ [])) ⊎ AreHigh bytes

picked : (c : ℕ) (b : Bool) (x y : List ℕ) → (b ≡ true → Encoded c x) → Encoded c y → Encoded c (cond b x y)
picked c true x y h k = h refl
picked c false x y h k = k

encoded : (c : ℕ) → Encoded c (encode c)
unfolding encode
encoded c =
    let two = (192 + c / 64) ∷ (128 + c % 64) ∷ [] in
    let three = (224 + c / 4096) ∷ (128 + (c / 64) % 64) ∷ (128 + c % 64) ∷ [] in
    let four = (240 + c / 262144) ∷ (128 + (c / 4096) % 64) ∷ (128 + (c / 64) % 64) ∷ (128 + c % 64) ∷ [] in
    let large = cond (nat_lt c 65536) three four in
    let of_two : AreHigh two = record {
      first = 192 + c / 64;
      rest = (128 + c % 64) ∷ [];
      is = refl;
      high = (omega arith, (omega arith, tt));
    } in
    let of_three : AreHigh three = record {
      first = 224 + c / 4096;
      rest = (128 + (c / 64) % 64) ∷ (128 + c % 64) ∷ [];
      is = refl;
      high = (omega arith, (omega arith, (omega arith, tt)));
    } in
    let of_four : AreHigh four = record {
      first = 240 + c / 262144;
      rest = (128 + (c / 4096) % 64) ∷ (128 + (c / 64) % 64) ∷ (128 + c % 64) ∷ [];
      is = refl;
      high = (omega arith, (omega arith, (omega arith, (omega arith, tt))));
    } in
    picked c (nat_lt c 128) (c ∷ []) (cond (nat_lt c 2048) two large) (λ e. inl (ltb-true c 128 e, refl))
    (picked c (nat_lt c 2048) two large (λ e. inr of_two) (picked c (nat_lt c 65536) three four (λ e. inr of_three) (inr
    of_four)))

-- ---- letters

abbrev marks : List ℕ
marks = codes "()[]{}<>,;&!"

abbrev is_letter : ℕ → Bool
is_letter b = nat_lt 32 b && not (list_any (nat_eq b) marks)

both : (a b : Bool) → a ≡ true → b ≡ true → (a && b) ≡ true
both true b h k = k
both false b h k = h

first_so : (a b : Bool) → (a && b) ≡ true → a ≡ true
first_so true b h = refl
first_so false b h = h

second_so : (a b : Bool) → (a && b) ≡ true → b ≡ true
second_so true b h = h
second_so false b h = absurd (false≢true h)

implied : (a b : Bool) → (not a || b) ≡ true → a ≡ true → b ≡ true
implied true b h k = h
implied false b h k = absurd (false≢true k)

no_number : (b n : ℕ) → (b ≡ n → ⊥) → nat_eq b n ≡ false
no_number b n h = by (nat_eq b n) refl
  where
    by : (x : Bool) → nat_eq b n ≡ x → x ≡ false
    by true e = absurd (h (eqb-true b n e))
    by false e = refl

no_mark : (b : ℕ) (ns : List ℕ) → 128 ≤ b → list_all (λ n. nat_lt n 128) ns ≡ true → list_any (nat_eq b) ns ≡ false
no_mark b [] h k = refl
no_mark b (n ∷ ns) h k =
    let low = ltb-true n 128 (first_so (nat_lt n 128) _ k) in
    ap (λ x. x || list_any (nat_eq b) ns) (no_number b n (λ e. omega (arith, h, low, e))) ∙ no_mark b ns h (second_so (nat_lt n
    128) _ k)

high_letter : (b : ℕ) → 128 ≤ b → is_letter b ≡ true
high_letter b h = both (nat_lt 32 b) _ (lt-ltb 32 b (omega (arith, h))) (ap not (no_mark b marks h refl))

high_letters : (bs : List ℕ) → AllHigh bs → list_all is_letter bs ≡ true
high_letters [] h = refl
high_letters (b ∷ bs) h = both (is_letter b) _ (high_letter b h.0) (high_letters bs h.1)

letters : (c : ℕ) → (c < 128 → is_letter c ≡ true) → list_all is_letter (encode c) ≡ true
letters c h = by (encoded c)
  where
    by : Encoded c (encode c) → list_all is_letter (encode c) ≡ true
    by (inl low) = subst (λ bs. list_all is_letter bs ≡ true) (sym low.1) (both (is_letter c) true (h low.0) refl)
    by (inr high) = subst (λ bs. list_all is_letter bs ≡ true) (sym high.is) (high_letters (high.first ∷ high.rest) high.high)

-- characters that are letters where they are of ASCII
abbrev AreLetters : List ℕ → Type 0
AreLetters [] = Unit {0}
AreLetters (c ∷ cs) = (c < 128 → is_letter c ≡ true) × AreLetters cs

all_letters : (cs : List ℕ) → AreLetters cs → list_all is_letter (encode_utf8_all cs) ≡ true
all_letters [] h = refl
all_letters (c ∷ cs) h =
    list_all-append is_letter (encode c) (encode_utf8_all cs) ∙ both _ _ (letters c h.0) (all_letters cs h.1)

-- ---- ASCII, by going through it

abbrev all_below : ℕ → (ℕ → Bool) → Bool
all_below zero test = true
all_below (suc n) test = test n && all_below n test

below_or_same : (c n : ℕ) → c < suc n → (c < n) ⊎ (c ≡ n)
below_or_same c n h = by (nat_lt c n) refl
  where
    by : (b : Bool) → nat_lt c n ≡ b → (c < n) ⊎ (c ≡ n)
    by true e = inl (ltb-true c n e)
    by false e = inr (let past = ltb-false c n e in omega (arith, past, h))

at_below : (n : ℕ) (test : ℕ → Bool) → all_below n test ≡ true → (c : ℕ) → c < n → test c ≡ true
at_below zero test h c l = absurd (omega (arith, l))
at_below (suc n) test h c l =
    by (below_or_same c n l) (λ less. at_below n test (second_so (test n) _ h) c less)
  where
    by : (c < n) ⊎ (c ≡ n) → (c < n → test c ≡ true) → test c ≡ true
    by (inl less) again = again less
    by (inr same) again = subst (λ k. test k ≡ true) (sym same) (first_so (test n) _ h)

continues : (c : ℕ) → is_xid_continue c ≡ true → c < 128 → is_letter c ≡ true
continues c h l =
    implied (is_ascii_alphanumeric c || (c == 95)) (is_letter c) (at_below 128 (λ k. not (is_ascii_alphanumeric k || (k ==
    95)) || is_letter k) refl c l) (sym (is_xid_continue-ascii c l) ∙ h)

continue_all : (cs : List ℕ) → IsTrue (list_all is_xid_continue cs) → AreLetters cs
continue_all [] h = tt
continue_all (c ∷ cs) h =
    let k = and_parts (is_xid_continue c) (list_all is_xid_continue cs) h in (continues c k.0, continue_all cs k.1)

-- the beginning of a piece, where a character begins an identifier or does not
abbrev beginning_by : ℕ → Bool → Beginning
beginning_by c starts =
    if is_blank c then Beginning.Blank
    else if is_ascii_digit c then Beginning.Digit
    else if c == byte "'" then Beginning.Quote
    else if c == 34 then Beginning.DoubleQuote
    else if c == byte "/" then Beginning.Slash
    else if c == byte "_" then Beginning.Letter
    else if is_some (one_mark c) then Beginning.Sign
    else if starts then Beginning.Letter
    else Beginning.Other

abbrev begins_word : Beginning → Bool
begins_word Beginning.Letter = true
begins_word _ = false

begins : (c : ℕ) → beginning_of c ≡ Beginning.Letter → c < 128 → is_letter c ≡ true
begins c h l =
    implied (begins_word (beginning_by c (is_ascii_alphabetic c))) (is_letter c) (at_below 128 (λ k. not (begins_word
    (beginning_by k (is_ascii_alphabetic k))) || is_letter k) refl c l) (ap (λ b. begins_word (beginning_by c b)) (sym
    (is_xid_start-ascii c l)) ∙ ap begins_word h)

-- ---- words

abbrev is_empty : List ℕ → Bool
is_empty [] = true
is_empty (b ∷ bs) = false

not_empty : (c : ℕ) (cs : List ℕ) → not (is_empty (encode_utf8_all (c ∷ cs))) ≡ true
not_empty c cs = by (encoded c)
  where
    by : Encoded c (encode c) → not (is_empty (encode c ++ encode_utf8_all cs)) ≡ true
    by (inl low) = ap (λ bs. not (is_empty (bs ++ encode_utf8_all cs))) low.1
    by (inr high) = ap (λ bs. not (is_empty (bs ++ encode_utf8_all cs))) high.is

is_a_word : (c : ℕ) (cs : List ℕ) → AreLetters (c ∷ cs) → IsTrue (is_word (encode_utf8_all (c ∷ cs)))
is_a_word c cs h = both _ _ (not_empty c cs) (all_letters (c ∷ cs) h)

-- no digit begins them
no_digit_byte : (c : ℕ) → beginning_of c ≡ Beginning.Letter → c < 128 → not (nat_le 48 c && nat_le c 57) ≡ true
no_digit_byte c h l =
    implied (begins_word (beginning_by c (is_ascii_alphabetic c))) (not (nat_le 48 c && nat_le c 57)) (at_below 128 (λ k. not
    (begins_word (beginning_by k (is_ascii_alphabetic k))) || not (nat_le 48 k && nat_le k 57)) refl c l) (ap (λ b. begins_word
    (beginning_by c b)) (sym (is_xid_start-ascii c l)) ∙ ap begins_word h)

high_digit : (c : ℕ) → 128 ≤ c → not (nat_le 48 c && nat_le c 57) ≡ true
high_digit c h = by (nat_le c 57) refl
  where
    by : (b : Bool) → nat_le c 57 ≡ b → not (nat_le 48 c && b) ≡ true
    by true e = absurd (let low = leb-true c 57 e in omega (arith, h, low))
    by false e = none (nat_le 48 c)
      where
        none : (b : Bool) → not (b && false) ≡ true
        none true = refl
        none false = refl

pub no_digit : (c : ℕ) (cs : List ℕ) → beginning_of c ≡ Beginning.Letter → IsTrue (not (begins_with_digit (encode_utf8_all (c ∷
    cs))))
no_digit c cs h = by (encoded c)
  where
    by : Encoded c (encode c) → not (begins_with_digit (encode c ++ encode_utf8_all cs)) ≡ true
    by (inl low) =
        ap (λ bs. not (begins_with_digit (bs ++ encode_utf8_all cs))) low.1 ∙ no_digit_byte c h low.0
    by (inr high) =
        ap (λ bs. not (begins_with_digit (bs ++ encode_utf8_all cs))) high.is ∙ high_digit high.first high.high.0

-- ---- no keyword

-- characters whose bytes begin by one of ASCII begin by it
first_char : (cs : List ℕ) (b : ℕ) (bs : List ℕ) → b < 128 → encode_utf8_all cs ≡ b ∷ bs → (rest : List ℕ) × (cs ≡ b ∷
    rest) × (encode_utf8_all rest ≡ bs)
first_char [] b bs l e = absurd (cc)
first_char (c ∷ cs) b bs l e = by (encoded c)
  where
    by : Encoded c (encode c) → (rest : List ℕ) × (c ∷ cs ≡ b ∷ rest) × (encode_utf8_all rest ≡ bs)
    by (inl low) =
        let f : c ∷ encode_utf8_all cs ≡ b ∷ bs = ap (λ x. x ++ encode_utf8_all cs) (sym low.1) ∙ e in
        let same : c ≡ b = ap (λ x. head_or x) f in
        let others : encode_utf8_all cs ≡ bs = ap (λ x. tail_of x) f in
        (cs, ap (λ x. x ∷ cs) same, others)
      where
        head_or : List ℕ → ℕ
        head_or [] = 0
        head_or (x ∷ xs) = x

        tail_of : List ℕ → List ℕ
        tail_of [] = []
        tail_of (x ∷ xs) = xs
    by (inr high) =
        let f : high.first ∷ (high.rest ++ encode_utf8_all cs) ≡ b ∷ bs = ap (λ x. x ++ encode_utf8_all cs) (sym high.is) ∙ e in
        let same : high.first ≡ b = ap (λ x. head_or x) f in
        let above = high.high.0 in
        absurd (omega (arith, above, same, l))
      where
        head_or : List ℕ → ℕ
        head_or [] = 0
        head_or (x ∷ xs) = x

no_char : (cs : List ℕ) → encode_utf8_all cs ≡ [] → cs ≡ []
no_char [] e = refl
no_char (c ∷ cs) e = absurd (false≢true (sym (ap (λ bs. not (is_empty bs)) e) ∙ not_empty c cs))

spelled : (piece : List ℕ) → encode_utf8_all piece ≡ codes "dyn" → piece ≡ codes "dyn"
spelled piece e =
    let d = first_char piece 100 (121 ∷ 110 ∷ []) (omega arith) e in
    let y = first_char d.0 121 (110 ∷ []) (omega arith) d.2 in
    let n = first_char y.0 110 [] (omega arith) y.2 in
    d.1 ∙ ap (λ cs. 100 ∷ cs) (y.1 ∙ ap (λ cs. 121 ∷ cs) (n.1 ∙ ap (λ cs. 110 ∷ cs) (no_char n.0 n.2)))

dyn_is : keyword_of (codes "dyn") ≡ Some Keyword.Dyn
unfolding keyword_of
dyn_is = refl

pub no_dyn : (piece : List ℕ) → keyword_of piece ≡ None → bytes_eq (encode_utf8_all piece) (codes "dyn") ≡ false
no_dyn piece h = by (bytes_eq (encode_utf8_all piece) (codes "dyn")) refl
  where
    by : (x : Bool) → bytes_eq (encode_utf8_all piece) (codes "dyn") ≡ x → x ≡ false
    by true e =
        absurd (none-some Keyword.Dyn (sym h ∙ ap keyword_of (spelled piece ((bytes_eq-Decides (encode_utf8_all piece) (codes
        "dyn")).0 e)) ∙ dyn_is))
    by false e = refl

-- the bytes of an identifier
pub word_of : (c : ℕ) (cs : List ℕ) → beginning_of c ≡ Beginning.Letter → IsTrue (list_all is_xid_continue cs) → IsTrue (is_word
    (encode_utf8_all (c ∷ cs)))
word_of c cs begin more = is_a_word c cs (begins c begin, continue_all cs more)

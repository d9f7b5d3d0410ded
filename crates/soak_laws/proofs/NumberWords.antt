-- The digits of a number are cut off as that number, and behind an `f` as a name.
use Rattle.std.proofs.Common.{◌≡◌, ℕ, zero, suc, ◌^◌, ◌<◌, Bool, true, false, List, [], ◌∷◌, length, take, drop, Option, Some, None, refl, ap, ◌∙◌, arith}
use Rattle.std.specs.Prelude.{fold, filter, is_none}
use Rattle.std.specs.List.{list_all, prefix_len}
use Rattle.std.specs.Char.{is_ascii_digit}
use Rattle.std.specs.Fmt.{decimal}
use Rattle.std.specs.Str.{IsAscii}
use Rattle.std.proofs.lemmas.Bool.{and_parts, and_from}
use Rattle.std.proofs.lemmas.Fmt.{decimal_nonempty, IsAscii-decimal}
use Rattle.std.proofs.lemmas.Str.{encodes-IsAscii}
use Rattle.src_token.specs.declared.piece.Beginning.{Beginning}
use Rattle.src_token.specs.declared.piece.Beginning.TheVariants.{Digit}
use Rattle.src_token.specs.declared.piece.Reading.TheVariants.{Reads}
use Rattle.src_token.specs.declared.token.Token.{Token}
use Rattle.src_token.specs.Beginnings.{beginning_of}
use Rattle.src_token.specs.Marks.{mark_of}
use Rattle.src_token.specs.Numbers.{is_numeral, number_reading, number_of, limited, numeral_value, suffix_of}
use Rattle.src_token.specs.Words.{keyword_of, word_token, worded, marked}
use Rattle.src_token.proofs.Values.{under}
use Rattle.soak_laws.proofs.Numerals as numerals
use Rattle.soak_laws.proofs.Numerals.{IsNumeral, of_digit}
use Rattle.soak_laws.proofs.Lexemes.{Fits, numeral, goes_on, stops}
use Rattle.soak_laws.proofs.Trees.{f_word}

-- ---- lists of which each element passes

module _ (p : ℕ → Bool) where
  pub passing : (q : ℕ → Bool) → ((c : ℕ) → q c ≡ true → p c ≡ true) → (cs : List ℕ) → list_all q cs ≡ true →
      list_all p cs ≡ true
  passing q so [] h = refl
  passing q so (c ∷ cs) h =
      let k = and_parts (q c) _ h in and_from (p c) _ (so c k.0) (passing q so cs k.1)

  whole_prefix : (cs : List ℕ) → list_all p cs ≡ true → prefix_len p cs ≡ length cs
  whole_prefix [] h = refl
  whole_prefix (c ∷ cs) h =
      let k = and_parts (p c) _ h in
      let rest = whole_prefix cs k.1 in rw (k.0, rest) (omega arith)

  kept : (cs : List ℕ) → list_all p cs ≡ true → filter p cs ≡ cs
  kept [] h = refl
  kept (c ∷ cs) h = let k = and_parts (p c) _ h in let rest = kept cs k.1 in rw (k.0, rest) refl

take_whole : (cs : List ℕ) → take (length cs) cs ≡ cs
take_whole [] = refl
take_whole (c ∷ cs) = ap (λ ds. c ∷ ds) (take_whole cs)

drop_whole : (cs : List ℕ) → drop (length cs) cs ≡ []
drop_whole [] = refl
drop_whole (c ∷ cs) = drop_whole cs

-- ---- characters

is_digit_kind : Beginning → Bool
is_digit_kind Beginning.Digit = true
is_digit_kind _ = false

digit_kind : (b : Beginning) → is_digit_kind b ≡ true → b ≡ Digit
unfolding is_digit_kind
digit_kind Beginning.Digit h = refl
digit_kind _ h = absurd (cc)

digit_begins : (c : ℕ) → is_ascii_digit c ≡ true → beginning_of c ≡ Digit
unfolding is_digit_kind
digit_begins c h = digit_kind (beginning_of c) (of_digit (λ c. is_digit_kind (beginning_of c)) refl c h)

digit_goes_on : (c : ℕ) → is_ascii_digit c ≡ true → goes_on c ≡ true
digit_goes_on c h = of_digit goes_on refl c h

digit_numeral : (c : ℕ) → is_ascii_digit c ≡ true → is_numeral c ≡ true
digit_numeral c h = of_digit is_numeral refl c h

-- ---- a number

reads_number : (n : ℕ) → n < 2 ^ 64 → (w : List ℕ) → IsNumeral n w → number_reading w ≡ Reads (Token.Number n None)
unfolding number_reading
reads_number n small w is =
    let all : prefix_len is_numeral w ≡ length w =
    whole_prefix is_numeral w (passing is_numeral is_ascii_digit digit_numeral w is.digits) in
    let taken : take (prefix_len is_numeral w) w ≡ w = rw all (take_whole w) in
    let behind : drop (prefix_len is_numeral w) w ≡ [] = rw all (drop_whole w) in
    let value : numeral_value w ≡ n = ap (fold _ 0) (kept is_ascii_digit w is.digits) ∙ is.value in
    ap (λ v. number_of (limited (numeral_value v)) (suffix_of (drop (prefix_len is_numeral w) w))) taken
    ∙ ap (λ d. number_of (limited (numeral_value w)) (suffix_of d)) behind
    ∙ ap (λ m. number_of (limited m) (suffix_of [])) value
    ∙ ap (λ o. number_of o (suffix_of [])) (under n small)

-- ---- a name

no_keyword : (c : ℕ) (cs : List ℕ) → is_ascii_digit c ≡ true → is_none (keyword_of (102 ∷ c ∷ cs)) ≡ true
unfolding keyword_of
no_keyword c cs h = of_digit (λ c. is_none (keyword_of (102 ∷ c ∷ cs))) refl c h

none_is : {A : Type 0} (o : Option A) → is_none o ≡ true → o ≡ None
none_is None h = refl
none_is (Some a) h = absurd (cc)

no_mark : (c : ℕ) (cs : List ℕ) → mark_of (102 ∷ c ∷ cs) ≡ None
no_mark c [] = refl
no_mark c (d ∷ ds) = refl

reads_name : (c : ℕ) (cs : List ℕ) → is_ascii_digit c ≡ true → IsAscii (102 ∷ c ∷ cs) →
    word_token (102 ∷ c ∷ cs) ≡ Token.Name (102 ∷ c ∷ cs)
reads_name c cs h ascii =
    ap (worded (102 ∷ c ∷ cs)) (none_is (keyword_of (102 ∷ c ∷ cs)) (no_keyword c cs h))
    ∙ ap (marked (102 ∷ c ∷ cs)) (no_mark c cs)
    ∙ ap (λ w. Token.Name w) (encodes-IsAscii (102 ∷ c ∷ cs) ascii)

-- ---- both

ascii_more : (cs : List ℕ) → IsAscii cs → IsAscii (102 ∷ cs)
ascii_more cs h zero = omega arith
ascii_more cs h (suc i) = h i

module _ (n : ℕ) (small : n < 2 ^ 64) where
  number_fits_at : (w : List ℕ) → 0 < length w → IsNumeral n w → (rest : List ℕ) → stops rest ≡ true →
      Fits (numeral w n) rest
  number_fits_at [] some is rest h = absurd (omega (arith, some))
  number_fits_at (c ∷ cs) some is rest h =
      let k = and_parts (is_ascii_digit c) _ is.digits in
      (digit_begins c k.0, passing goes_on is_ascii_digit digit_goes_on cs k.1, h, reads_number n small (c ∷ cs) is)

  name_token_at : (w : List ℕ) → 0 < length w → IsAscii w → IsNumeral n w → word_token (102 ∷ w) ≡ Token.Name (102 ∷ w)
  name_token_at [] some ascii is = absurd (omega (arith, some))
  name_token_at (c ∷ cs) some ascii is =
      reads_name c cs (and_parts (is_ascii_digit c) _ is.digits).0 (ascii_more (c ∷ cs) ascii)

  pub number_fits : (rest : List ℕ) → stops rest ≡ true → Fits (numeral (decimal n) n) rest
  number_fits = number_fits_at (decimal n) (decimal_nonempty n small) (numerals.is_numeral n small)

  -- behind an `f`
  pub name_goes_on : list_all goes_on (decimal n) ≡ true
  name_goes_on = passing goes_on is_ascii_digit digit_goes_on (decimal n) (numerals.is_numeral n small).digits

  pub name_token : word_token (f_word n) ≡ Token.Name (f_word n)
  name_token = name_token_at (decimal n) (decimal_nonempty n small) (IsAscii-decimal n small)
      (numerals.is_numeral n small)

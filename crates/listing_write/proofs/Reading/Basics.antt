-- Reading what was written: the words and numbers of a text, and rows of things that are written one after the other.
use Rattle.std.proofs.Common.{◌≡◌, ℕ, zero, suc, ◌+◌, ◌/◌, ◌%◌, ◌^◌, ◌==◌, ◌<◌, Bool, true, false, not, ◌||◌, if◌then◌else◌, nat_eq, nat_lt, List, [], ◌∷◌, ◌++◌, length, Option, Some, None, decimal, ℤ, pos, negsuc, refl, ap, sym, subst, ◌∙◌, arith, append_assoc, eqb-true, lt-ltb}
use Rattle.std.specs.Prelude.{⊤}
use Rattle.std.specs.Fmt.{signed_decimal, digit_glyph, digits, digits_onto}
use Rattle.std.specs.List.{list_all, list_any}
use Rattle.std.specs.Str.Parse.{AllDigits, digits_value}
use Rattle.std.proofs.lemmas.Fmt.{decimal_is_IsNumeral_wide}
use Rattle.std.proofs.lemmas.Str.Parse.{digit_from_value}
use Rattle.std.proofs.lemmas.Bool.{and_parts, and_from, false≢true}
use Rattle.listing_write.specs.Fields.{Fits, ConstantFits}
pub use Rattle.listing_write.specs.Reading.Words.{FoundInText, bind, or_else, chosen, as_, strip, said, span, is_digit, limited, valued, number, negative, signed}

abbrev pub stops : (ℕ → Bool) → List ℕ → Bool
stops p [] = true
stops p (b ∷ bs) = not (p b)

abbrev pub Every : {X : Type 0} → (X → Type 0) → List X → Type 0
Every P [] = ⊤
Every P (x ∷ xs) = P x × Every P xs

span_on : (p : ℕ → Bool) (b : ℕ) (bs : List ℕ) → p b ≡ true → span p (b ∷ bs) ≡ (b ∷ (span p bs).0, (span p bs).1)
span_on p b bs h = rw h refl

span_off : (p : ℕ → Bool) (b : ℕ) (bs : List ℕ) → not (p b) ≡ true → span p (b ∷ bs) ≡ ([], b ∷ bs)
span_off p b bs h = by (p b) refl
  where
    by : (t : Bool) → p b ≡ t → span p (b ∷ bs) ≡ ([], b ∷ bs)
    by true e = absurd (false≢true (sym (ap not e) ∙ h))
    by false e = rw e refl

pub span_run : (p : ℕ → Bool) (w r : List ℕ) → list_all p w ≡ true → stops p r ≡ true → span p (w ++ r) ≡ (w, r)
span_run p [] [] h s = refl
span_run p [] (b ∷ bs) h s = span_off p b bs s
span_run p (a ∷ more) r h s =
    let (this, others) = and_parts (p a) _ h in
    span_on p a (more ++ r) this ∙ ap (λ (q : List ℕ × List ℕ). (a ∷ q.0, q.1)) (span_run p more r others s)

-- a byte that is one of these
pub one_of : (P : ℕ → Type 0) (b : ℕ) (xs : List ℕ) → Every P xs → list_any (nat_eq b) xs ≡ true → P b
one_of P b [] all h = absurd (false≢true h)
one_of P b (x ∷ xs) all h = by (nat_eq b x) refl (one_of P b xs all.1)
  where
    by : (t : Bool) → nat_eq b x ≡ t → (list_any (nat_eq b) xs ≡ true → P b) → P b
    by true e others = subst P (sym (eqb-true b x e)) all.0
    by false e others = others (subst (λ (t : Bool). (t || list_any (nat_eq b) xs) ≡ true) e h)

digits_pass : (ds : List ℕ) → AllDigits 10 ds → list_all is_digit ds ≡ true
digits_pass [] h = refl
digits_pass (d ∷ ds) h =
    let within = digit_from_value d h.0 in
    and_from (is_digit d) _ (and_from (nat_lt 47 d) (nat_lt d 58) (lt-ltb 47 d (omega (arith, within))) (lt-ltb d 58 (omega (arith, within)))) (digits_pass ds h.1)

-- the digits of a number
pub decimal_digits : (n : ℕ) → n < 10 ^ 64 → list_all is_digit (decimal n) ≡ true
decimal_digits n small = digits_pass (decimal n) (decimal_is_IsNumeral_wide n small).0.1

-- a text that begins with one of several digits does not begin with another byte
pub no_digit : (c : ℕ) (cs ds r : List ℕ) → is_digit c ≡ false → list_all is_digit ds ≡ true → 0 < length ds → strip (c ∷ cs) (ds ++ r) ≡ None
no_digit c cs [] r h all some = absurd (omega arith)
no_digit c cs (d ∷ ds) r h all some = by (nat_eq c d) refl
  where
    by : (t : Bool) → nat_eq c d ≡ t → strip (c ∷ cs) ((d ∷ ds) ++ r) ≡ None
    by true e = absurd (false≢true (sym h ∙ ap is_digit (eqb-true c d e) ∙ (and_parts (is_digit d) _ all).0))
    by false e = rw e refl

pub no_decimal : (c : ℕ) (cs : List ℕ) (n : ℕ) (r : List ℕ) → n < 10 ^ 64 → is_digit c ≡ false → strip (c ∷ cs) (decimal n ++ r) ≡ None
no_decimal c cs n r small h =
    let own = decimal_is_IsNumeral_wide n small in
    no_digit c cs (decimal n) r h (decimal_digits n small) own.0.0

-- a number, from its digits
limited_of : (limit n : ℕ) → n < limit → limited limit n ≡ Some n
limited_of limit n small = rw (lt-ltb n limit small) refl

valued_of : (limit : ℕ) (ds r : List ℕ) → 0 < length ds → digits_value 10 ds < limit → valued limit (ds, r) ≡ Some (digits_value 10 ds, r)
valued_of limit [] r some small = absurd (omega arith)
valued_of limit (d ∷ ds) r some small = ap (λ (o : Option ℕ). bind o (λ n. Some (n, r))) (limited_of limit (digits_value 10 (d ∷ ds)) small)

valued_reads : (limit n : ℕ) (r : List ℕ) → n < limit → n < 10 ^ 64 → stops is_digit r ≡ true → valued limit (span is_digit (decimal n ++ r)) ≡ Some (n, r)
valued_reads limit n r small wide s =
    let own = decimal_is_IsNumeral_wide n wide in
    ap (valued limit) (span_run is_digit (decimal n) r (decimal_digits n wide) s)
    ∙ valued_of limit (decimal n) r own.0.0 (subst (λ (k : ℕ). k < limit) (sym own.1) small) ∙ ap (λ (k : ℕ). Some (k, r)) own.1

pub number_reads : (n : ℕ) (r : List ℕ) → Fits n → stops is_digit r ≡ true → number (decimal n ++ r) ≡ Some (n, r)
number_reads n r small s = valued_reads (2 ^ 32) n r small (omega (arith, small)) s

-- a number with its sign
pub signed_reads : (z : ℤ) (r : List ℕ) → ConstantFits z → stops is_digit r ≡ true → signed (signed_decimal z ++ r) ≡ Some (z, r)
signed_reads (pos n) r small s =
    let wide : n < 10 ^ 64 = omega (arith, small) in
    ap (λ (o : Option (List ℕ)). chosen o (λ t. as_ negative (valued (2 ^ 127 + 1) (span is_digit t))) (as_ pos (valued (2 ^ 127) (span is_digit (decimal n ++ r)))))
    (no_decimal 45 [] n r wide refl)
    ∙ ap (as_ pos) (valued_reads (2 ^ 127) n r small wide s)
signed_reads (negsuc n) r small s =
    ap (as_ negative) (valued_reads (2 ^ 127 + 1) (suc n) r (omega (arith, small)) (omega (arith, small)) s)

-- words that are written one after the other, and what is behind them
pub behind3 : (a b c r : List ℕ) → (a ++ b ++ c) ++ r ≡ a ++ (b ++ (c ++ r))
behind3 a b c r = append_assoc (a ++ b) c r ∙ append_assoc a b (c ++ r)

pub behind4 : (a b c d r : List ℕ) → (a ++ b ++ c ++ d) ++ r ≡ a ++ (b ++ (c ++ (d ++ r)))
behind4 a b c d r = append_assoc (a ++ b ++ c) d r ∙ behind3 a b c (d ++ r)

pub behind5 : (a b c d e r : List ℕ) → (a ++ b ++ c ++ d ++ e) ++ r ≡ a ++ (b ++ (c ++ (d ++ (e ++ r))))
behind5 a b c d e r = append_assoc (a ++ b ++ c ++ d) e r ∙ behind4 a b c d (e ++ r)

pub behind6 : (a b c d e f r : List ℕ) → (a ++ b ++ c ++ d ++ e ++ f) ++ r ≡ a ++ (b ++ (c ++ (d ++ (e ++ (f ++ r)))))
behind6 a b c d e f r = append_assoc (a ++ b ++ c ++ d ++ e) f r ∙ behind5 a b c d e (f ++ r)

pub behind7 : (a b c d e f g r : List ℕ) → (a ++ b ++ c ++ d ++ e ++ f ++ g) ++ r ≡ a ++ (b ++ (c ++ (d ++ (e ++ (f ++ (g ++ r))))))
behind7 a b c d e f g r = append_assoc (a ++ b ++ c ++ d ++ e ++ f) g r ∙ behind6 a b c d e f (g ++ r)

pub behind8 : (a b c d e f g h r : List ℕ) → (a ++ b ++ c ++ d ++ e ++ f ++ g ++ h) ++ r ≡ a ++ (b ++ (c ++ (d ++ (e ++ (f ++ (g ++ (h ++ r)))))))
behind8 a b c d e f g h r = append_assoc (a ++ b ++ c ++ d ++ e ++ f ++ g) h r ∙ behind7 a b c d e f g (h ++ r)

-- digits, whatever the number
glyph-digit : (n : ℕ) → is_digit (digit_glyph false (n % 10)) ≡ true
glyph-digit n =
    let small : n % 10 < 10 = omega arith in
    let shown : digit_glyph false (n % 10) ≡ 48 + n % 10 = ap (λ (t : Bool). if t then 48 + n % 10 else (87 + n % 10)) (lt-ltb (n % 10) 10 small) in
    ap is_digit shown ∙ and_from (nat_lt 47 (48 + n % 10)) (nat_lt (48 + n % 10) 58) (lt-ltb 47 (48 + n % 10) (omega arith)) (lt-ltb (48 + n % 10) 58 (omega arith))

onto-digits : (k n : ℕ) (acc : List ℕ) → list_all is_digit acc ≡ true → list_all is_digit (digits_onto k 10 false n acc) ≡ true
onto-digits zero n acc h = h
onto-digits (suc k) n acc h =
    let one : list_all is_digit (digit_glyph false (n % 10) ∷ acc) ≡ true = and_from (is_digit (digit_glyph false (n % 10))) _ (glyph-digit n) h in
    by (n / 10 == 0) one (onto-digits k (n / 10) (digit_glyph false (n % 10) ∷ acc) one)
  where
    by : (t : Bool) → list_all is_digit (digit_glyph false (n % 10) ∷ acc) ≡ true → list_all is_digit (digits_onto k 10 false (n / 10) (digit_glyph false (n % 10) ∷ acc)) ≡ true
        → list_all is_digit (if t then digit_glyph false (n % 10) ∷ acc else digits_onto k 10 false (n / 10) (digit_glyph false (n % 10) ∷ acc)) ≡ true
    by true a b = a
    by false a b = b

pub any_decimal : (n : ℕ) → list_all is_digit (decimal n) ≡ true
unfolding digits
any_decimal n = onto-digits 64 n [] refl

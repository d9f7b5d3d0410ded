-- The bits of words: where they stand in a row, and what one that is turned on or off leaves.
use Rattle.std.proofs.Common.{◌≡◌, ◌≢◌, ℕ, zero, suc, ◌+◌, ◌-◌, ◌*◌, ◌/◌, ◌%◌, ◌^◌, ◌<◌, ◌≤◌, ◌==◌, inl, inr, Bool, false, not, ◌&&◌, ◌||◌, List, length, replicate, get_or, ap, sym, ◌∙◌, refl, arith, subst, true≢false, min, max, bit_or}
use Rattle.std.specs.Int.{bit_at, bit_not, w64}
use Rattle.std.specs.Simd.Lanes.{zip2}
use Rattle.std.proofs.lemmas.List.{ext_get_or, get_or-replicate, get_or-set_same, get_or-set_other, length-replicate, length-set}
use Rattle.std.proofs.lemmas.List.FromFn.{length-map-range_with_len, get_or-map-range_with_len}
use Rattle.std.proofs.lemmas.Nat.Bits.{bit_at-zero, bit_at-lt, bit_at_or, bit_at_and, bit_at_not, same_from_bits_below}
use Rattle.std.proofs.lemmas.Bool.{cases_lt, cases_eq}
use Rattle.std.proofs.lemmas.Nat.{or_lt, and_le_r}
use Rattle.std.proofs.lemmas.Simd.{get_or-zip2, length-zip2}
use Rattle.std.proofs.Math.ListN.{get_or-eq_default, set}
use Rattle.bit_rows.specs.Words.{bit, bits, without}

pub length-bits : (len : ℕ) (words : List ℕ) → length (bits len words) ≡ len
length-bits len words = length-map-range_with_len (bit words) 0 len

pub bits-at : (len : ℕ) (words : List ℕ) (i : ℕ) (d : Bool) → i < len → get_or (bits len words) i d ≡ bit words i
bits-at len words i d h = get_or-map-range_with_len (bit words) 0 len i i d h (omega arith)

-- rows are equal where they have one length and one bit under each number
pub bits-ext : (len : ℕ) (words : List ℕ) (row : List Bool) → length row ≡ len → ((i : ℕ) → i < len → bit words i ≡ get_or row i false) → bits len words ≡ row
bits-ext len words row long each =
    ext_get_or false (bits len words) row (length-bits len words ∙ sym long)
    (λ i h. let within : i < len = omega (h, length-bits len words, arith) in bits-at len words i false within ∙ each i within)

pub word-of_none : (n k : ℕ) → get_or {A = ℕ} (replicate n 0) k 0 ≡ 0
word-of_none n k =
    let none : List ℕ = replicate n 0 in
    elim (cases_lt k n) [ inl h ↦ get_or-replicate n k 0 0 h | inr h ↦ get_or-eq_default none 0 (omega (h, length-replicate {A = ℕ} n 0, arith)) ]

pub bit-of_none : (n i : ℕ) → bit (replicate n 0) i ≡ false
bit-of_none n i = ap (λ w. bit_at w (i % 64) == 1) (word-of_none n (i / 64)) ∙ ap (λ b. b == 1) (bit_at-zero (i % 64))

-- One bit of a row is turned on or off.

pub bit-set_same : (words : List ℕ) (i word : ℕ) (on : Bool) → i / 64 < length words → (bit_at word (i % 64) == 1) ≡ on → bit (set words (i / 64) word) i ≡ on
bit-set_same words i word on within is = ap (λ w. bit_at w (i % 64) == 1) (get_or-set_same words (i / 64) word 0 within) ∙ is

pub bit-set_other : (words : List ℕ) (i j word : ℕ) → j ≢ i → i / 64 < length words →
    ((k : ℕ) → k < 64 → k ≢ i % 64 → bit_at word k ≡ bit_at (get_or words (i / 64) 0) k) → bit (set words (i / 64) word) j ≡ bit words j
bit-set_other words i j word differ within others =
    elim (cases_eq (j / 64) (i / 64)) [
      | inl same ↦
          let below : j % 64 < 64 = omega arith in
          let apart : j % 64 ≢ i % 64 = λ e. differ (omega (same, e, arith)) in
          let one : get_or (set words (i / 64) word) (j / 64) 0 ≡ word = ap (λ k. get_or (set words (i / 64) word) k 0) same ∙ get_or-set_same words (i / 64) word 0 within in
          ap (λ w. bit_at w (j % 64) == 1) one ∙ ap (λ b. b == 1) (others (j % 64) below apart) ∙ sym (ap (λ k. bit_at (get_or words k 0) (j % 64) == 1) same)
      | inr other ↦ ap (λ w. bit_at w (j % 64) == 1) (get_or-set_other words (i / 64) (j / 64) word 0 other)
    ]

pub bits-set : (len i : ℕ) (words : List ℕ) (word : ℕ) (on : Bool) → i < len → i / 64 < length words → (bit_at word (i % 64) == 1) ≡ on →
    ((k : ℕ) → k < 64 → k ≢ i % 64 → bit_at word k ≡ bit_at (get_or words (i / 64) 0) k) → bits len (set words (i / 64) word) ≡ set (bits len words) i on
bits-set len i words word on within in_words is others =
    bits-ext len (set words (i / 64) word) (set (bits len words) i on) (length-set (bits len words) i on ∙ length-bits len words)
    (λ j h. elim (cases_eq j i) [
      | inl same ↦
          ap (bit (set words (i / 64) word)) same ∙ bit-set_same words i word on in_words is
          ∙ sym (ap (λ k. get_or (set (bits len words) i on) k false) same ∙ get_or-set_same (bits len words) i on false (omega (within, length-bits len words, arith)))
      | inr other ↦
          bit-set_other words i j word other in_words others ∙ sym (get_or-set_other (bits len words) i j on false other ∙ bits-at len words j false h)
    ])

-- Two rows of words, bit by bit.

-- a function of words that works bit by bit
abbrev pub IsBitwise : (ℕ → ℕ → ℕ) → (Bool → Bool → Bool) → Type 0
IsBitwise f g = (a b i : ℕ) → i < 64 → a < 2 ^ 64 → (bit_at (f a b) i == 1) ≡ g (bit_at a i == 1) (bit_at b i == 1)

pub bit-zip2 : (f : ℕ → ℕ → ℕ) (g : Bool → Bool → Bool) → IsBitwise f g → (xs ys : List ℕ) → ((k : ℕ) → get_or xs k 0 < 2 ^ 64) → (i : ℕ) → i / 64 < length xs → i / 64 < length ys →
    bit (zip2 f xs ys) i ≡ g (bit xs i) (bit ys i)
bit-zip2 f g bitwise xs ys fit i a b =
    ap (λ w. bit_at w (i % 64) == 1) (get_or-zip2 f xs ys (i / 64) 0 0 0 a b) ∙ bitwise (get_or xs (i / 64) 0) (get_or ys (i / 64) 0) (i % 64) (omega arith) (fit (i / 64))

pub bits-zip2 : (f : ℕ → ℕ → ℕ) (g : Bool → Bool → Bool) → IsBitwise f g → (len : ℕ) (xs ys : List ℕ) → ((k : ℕ) → get_or xs k 0 < 2 ^ 64) →
    length xs ≡ (len + 63) / 64 → length ys ≡ (len + 63) / 64 → bits len (zip2 f xs ys) ≡ zip2 g (bits len xs) (bits len ys)
bits-zip2 f g bitwise len xs ys fit a b =
    bits-ext len (zip2 f xs ys) (zip2 g (bits len xs) (bits len ys))
    (length-zip2 g (bits len xs) (bits len ys) (length-bits len xs ∙ sym (length-bits len ys)) ∙ length-bits len xs)
    (λ i h. let in_xs : i / 64 < length xs = omega (a, h, arith) in let in_ys : i / 64 < length ys = omega (b, h, arith) in
    bit-zip2 f g bitwise xs ys fit i in_xs in_ys
    ∙ sym (get_or-zip2 g (bits len xs) (bits len ys) i false false false (omega (h, length-bits len xs, arith)) (omega (h, length-bits len ys, arith))
    ∙ ap (λ x. g x (get_or (bits len ys) i false)) (bits-at len xs i false h) ∙ ap (g (bit xs i)) (bits-at len ys i false h)))

past : (words : List ℕ) (i : ℕ) → length words ≤ i / 64 → bit words i ≡ false
past words i h = ap (λ w. bit_at w (i % 64) == 1) (get_or-eq_default words 0 h) ∙ ap (λ b. b == 1) (bit_at-zero (i % 64))

-- no bit is on past the length where none is in the second row, if what is off there stays off
pub rest-zip2 : (f : ℕ → ℕ → ℕ) (g : Bool → Bool → Bool) → IsBitwise f g → (len : ℕ) (xs ys : List ℕ) → ((k : ℕ) → get_or xs k 0 < 2 ^ 64) → length xs ≡ length ys →
    ((i : ℕ) → len ≤ i → g (bit xs i) (bit ys i) ≡ false) → (i : ℕ) → len ≤ i → bit (zip2 f xs ys) i ≡ false
rest-zip2 f g bitwise len xs ys fit long off i h =
    elim (cases_lt (i / 64) (length xs)) [
      | inl within ↦ bit-zip2 f g bitwise xs ys fit i within (omega (within, long, arith)) ∙ off i h
      | inr past_it ↦ past (zip2 f xs ys) i (omega (past_it, length-zip2 f xs ys long, arith))
    ]

same_two : (x y : ℕ) → x < 2 → y < 2 → (x == 1) ≡ (y == 1) → x ≡ y
same_two zero zero h k e = refl
same_two zero (suc zero) h k e = absurd (true≢false (sym e))
same_two zero (suc (suc y)) h k e = absurd (omega (k, arith))
same_two (suc zero) zero h k e = absurd (true≢false e)
same_two (suc zero) (suc zero) h k e = refl
same_two (suc zero) (suc (suc y)) h k e = absurd (omega (k, arith))
same_two (suc (suc x)) y h k e = absurd (omega (h, arith))

same_bit : (len : ℕ) (xs ys : List ℕ) → ((i : ℕ) → len ≤ i → bit xs i ≡ false) → ((i : ℕ) → len ≤ i → bit ys i ≡ false) → bits len xs ≡ bits len ys → (i : ℕ) → bit xs i ≡ bit ys i
same_bit len xs ys off_xs off_ys e i =
    elim (cases_lt i len) [
      | inl within ↦ sym (bits-at len xs i false within) ∙ ap (λ l. get_or l i false) e ∙ bits-at len ys i false within
      | inr past_it ↦ off_xs i past_it ∙ sym (off_ys i past_it)
    ]

bit-at : (words : List ℕ) (k j : ℕ) → j < 64 → bit words (64 * k + j) ≡ (bit_at (get_or words k 0) j == 1)
bit-at words k j below =
    let word : (64 * k + j) / 64 ≡ k = omega (below, arith) in
    let place : (64 * k + j) % 64 ≡ j = omega (below, arith) in
    ap (λ n. bit_at (get_or words n 0) ((64 * k + j) % 64) == 1) word ∙ ap (λ n. bit_at (get_or words k 0) n == 1) place

-- rows of as many words of 64 bits have one list of bits only where they have the same words
pub words-from_bits : (len : ℕ) (xs ys : List ℕ) → ((k : ℕ) → get_or xs k 0 < 2 ^ 64) → ((k : ℕ) → get_or ys k 0 < 2 ^ 64) → length xs ≡ length ys →
    ((i : ℕ) → len ≤ i → bit xs i ≡ false) → ((i : ℕ) → len ≤ i → bit ys i ≡ false) → bits len xs ≡ bits len ys → xs ≡ ys
words-from_bits len xs ys fit_xs fit_ys long off_xs off_ys e =
    ext_get_or 0 xs ys long (λ k h. same_from_bits_below 64 (get_or xs k 0) (get_or ys k 0) (fit_xs k) (fit_ys k)
    (λ j below. same_two (bit_at (get_or xs k 0) j) (bit_at (get_or ys k 0) j) (bit_at-lt (get_or xs k 0) j) (bit_at-lt (get_or ys k 0) j)
    (sym (bit-at xs k j below) ∙ same_bit len xs ys off_xs off_ys e (64 * k + j) ∙ bit-at ys k j below)))

-- The two operations work bit by bit.

max_one : (x y : ℕ) → x < 2 → y < 2 → (max x y == 1) ≡ ((x == 1) || (y == 1))
max_one zero zero h k = refl
max_one zero (suc zero) h k = refl
max_one zero (suc (suc y)) h k = absurd (omega (k, arith))
max_one (suc zero) zero h k = refl
max_one (suc zero) (suc zero) h k = refl
max_one (suc zero) (suc (suc y)) h k = absurd (omega (k, arith))
max_one (suc (suc x)) y h k = absurd (omega (h, arith))

min_other : (x y : ℕ) → x < 2 → y < 2 → (min (1 - x) y == 1) ≡ (not (x == 1) && (y == 1))
min_other zero zero h k = refl
min_other zero (suc zero) h k = refl
min_other zero (suc (suc y)) h k = absurd (omega (k, arith))
min_other (suc zero) zero h k = refl
min_other (suc zero) (suc zero) h k = refl
min_other (suc zero) (suc (suc y)) h k = absurd (omega (k, arith))
min_other (suc (suc x)) y h k = absurd (omega (h, arith))

pub or-bitwise : IsBitwise bit_or (λ a b. a || b)
or-bitwise a b i below fit = ap (λ x. x == 1) (bit_at_or a b i) ∙ max_one (bit_at a i) (bit_at b i) (bit_at-lt a i) (bit_at-lt b i)

pub without-bitwise : IsBitwise without (λ a b. not a && b)
without-bitwise a b i below fit =
    ap (λ x. x == 1) (bit_at_and (bit_not w64 a) b i ∙ ap (λ x. min x (bit_at b i)) (bit_at_not w64 a i fit below))
    ∙ min_other (bit_at a i) (bit_at b i) (bit_at-lt a i) (bit_at-lt b i)

abbrev pub KeepsWidth : (ℕ → ℕ → ℕ) → Type 0
KeepsWidth f = (a b : ℕ) → a < 2 ^ 64 → b < 2 ^ 64 → f a b < 2 ^ 64

pub or-width : KeepsWidth bit_or
or-width a b x y = or_lt 64 a b x y

pub without-width : KeepsWidth without
without-width a b x y = omega (and_le_r (bit_not w64 a) b, y, arith)

width-zip2 : (f : ℕ → ℕ → ℕ) → KeepsWidth f → (xs ys : List ℕ) → ((k : ℕ) → get_or xs k 0 < 2 ^ 64) → ((k : ℕ) → get_or ys k 0 < 2 ^ 64) → length xs ≡ length ys → (k : ℕ) → get_or (zip2 f xs ys) k 0 < 2 ^ 64
width-zip2 f keeps xs ys fit_xs fit_ys long k =
    elim (cases_lt k (length xs)) [
      | inl within ↦
          subst (λ (w : ℕ). w < 2 ^ 64) (sym (get_or-zip2 f xs ys k 0 0 0 within (omega (within, long, arith)))) (keeps (get_or xs k 0) (get_or ys k 0) (fit_xs k) (fit_ys k))
      | inr past_it ↦
          subst (λ (w : ℕ). w < 2 ^ 64) (sym (get_or-eq_default (zip2 f xs ys) 0 (omega (past_it, length-zip2 f xs ys long, arith)))) (omega arith)
    ]

-- A row after an operation on its words.

-- the two rows, and what the second has then
pub record Operation (len : ℕ) (f : ℕ → ℕ → ℕ) (g : Bool → Bool → Bool) (xs ys : List ℕ) : Type 0 where
  pub bitwise : IsBitwise f g
  pub width : KeepsWidth f
  pub none : g false false ≡ false
  pub fit_xs : (k : ℕ) → get_or xs k 0 < 2 ^ 64
  pub fit_ys : (k : ℕ) → get_or ys k 0 < 2 ^ 64
  pub long_xs : length xs ≡ (len + 63) / 64
  pub long_ys : length ys ≡ (len + 63) / 64
  pub off_xs : (i : ℕ) → len ≤ i → bit xs i ≡ false
  pub off_ys : (i : ℕ) → len ≤ i → bit ys i ≡ false

module _ (len : ℕ) (f : ℕ → ℕ → ℕ) (g : Bool → Bool → Bool) (xs ys : List ℕ) (o : Operation len f g xs ys) where
  abbrev as_long : length xs ≡ length ys
  as_long = o.long_xs ∙ sym o.long_ys

  pub enough_then : (new : List ℕ) → new ≡ zip2 f xs ys → length new ≡ (len + 63) / 64
  enough_then new is = ap length is ∙ length-zip2 f xs ys as_long ∙ o.long_xs

  pub width_then : (k : ℕ) → get_or (zip2 f xs ys) k 0 < 2 ^ 64
  width_then k = width-zip2 f o.width xs ys o.fit_xs o.fit_ys as_long k

  pub rest_then : (new : List ℕ) → new ≡ zip2 f xs ys → (i : ℕ) → len ≤ i → bit new i ≡ false
  rest_then new is i h =
      ap (λ l. bit l i) is
      ∙ rest-zip2 f g o.bitwise len xs ys o.fit_xs as_long (λ i h. ap (λ b. g b (bit ys i)) (o.off_xs i h) ∙ ap (g false) (o.off_ys i h) ∙ o.none) i h

  pub bits_then : (new : List ℕ) → new ≡ zip2 f xs ys → bits len new ≡ zip2 g (bits len xs) (bits len ys)
  bits_then new is = ap (bits len) is ∙ bits-zip2 f g o.bitwise len xs ys o.fit_xs o.long_xs o.long_ys

  pub same_then : (new : List ℕ) → new ≡ zip2 f xs ys → bits len new ≡ bits len ys → new ≡ ys
  same_then new is e =
      words-from_bits len new ys (λ k. subst (λ (l : List ℕ). get_or l k 0 < 2 ^ 64) (sym is) (width_then k)) o.fit_ys
      (enough_then new is ∙ sym o.long_ys) (rest_then new is) o.off_ys e

pub bits-of_none : (len n : ℕ) (words : List ℕ) → words ≡ replicate n 0 → bits len words ≡ replicate len false
bits-of_none len n words is =
    bits-ext len words (replicate len false) (length-replicate len false)
    (λ i h. ap (λ l. bit l i) is ∙ bit-of_none n i ∙ sym (get_or-replicate len i false false h))

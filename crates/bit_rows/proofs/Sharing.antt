-- Bits that are on in both of two rows, word by word.
use Rattle.std.proofs.Common.{◌≡◌, ◌≢◌, ℕ, zero, suc, ◌+◌, ◌/◌, ◌^◌, ◌==◌, ◌<◌, ◌≤◌, Bool, true, false, not, ◌&&◌, ◌||◌, List, [], ◌∷◌, length, replicate, drop, get_or, ap, sym, ◌∙◌, refl, arith, subst, true≢false, min, bit_and}
use Rattle.std.specs.Int.{bit_at}
use Rattle.std.specs.Int.Bits.{and_lt}
use Rattle.std.specs.Simd.Lanes.{zip2}
use Rattle.std.proofs.Math.ListN.{drop_of_length-le}
use Rattle.std.proofs.lemmas.Bool.{eq-eqb, ne_eqb, eqb-true}
use Rattle.std.proofs.lemmas.List.{get_or-replicate, length-replicate}
use Rattle.std.proofs.lemmas.Nat.Bits.{bit_at-lt, bit_at_and}
use Rattle.bit_rows.specs.Words.{bit, bits, any_both, share}
use Rattle.bit_rows.proofs.Bits.{IsBitwise, KeepsWidth, Operation, length-bits, bit-of_none, bits-of_none, bits_then, words-from_bits, width_then, enough_then, rest_then, word-of_none}

-- from a word on

pub share-more : (xs ys : List ℕ) (at : ℕ) → length xs ≡ length ys → at < length xs →
    share (drop at xs) (drop at ys) ≡ (not (bit_and (get_or xs at 0) (get_or ys at 0) == 0) || share (drop (at + 1) xs) (drop (at + 1) ys))
share-more xs ys at long h =
    next xs ys at long h
    ∙ ap (λ (n : ℕ). not (bit_and (get_or xs at 0) (get_or ys at 0) == 0) || share (drop n xs) (drop n ys)) (let e : suc at ≡ at + 1 = omega arith in e)
  where
    next : (xs ys : List ℕ) (at : ℕ) → length xs ≡ length ys → at < length xs →
        share (drop at xs) (drop at ys) ≡ (not (bit_and (get_or xs at 0) (get_or ys at 0) == 0) || share (drop (suc at) xs) (drop (suc at) ys))
    next [] ys at long h = absurd (omega (h, arith))
    next (x ∷ xs) [] at long h = absurd (omega (long, arith))
    next (x ∷ xs) (y ∷ ys) zero long h = refl
    next (x ∷ xs) (y ∷ ys) (suc at) long h = next xs ys at (omega (long, arith)) (omega (h, arith))

pub share-here : (xs ys : List ℕ) (at : ℕ) → length xs ≡ length ys → at < length xs → bit_and (get_or xs at 0) (get_or ys at 0) ≢ 0 → share (drop at xs) (drop at ys) ≡ true
share-here xs ys at long h other =
    share-more xs ys at long h ∙ ap (λ (b : Bool). not b || share (drop (at + 1) xs) (drop (at + 1) ys)) (ne_eqb (bit_and (get_or xs at 0) (get_or ys at 0)) 0 other)

pub share-past : (xs ys : List ℕ) (at : ℕ) → length xs ≡ length ys → at < length xs → bit_and (get_or xs at 0) (get_or ys at 0) ≡ 0 → share (drop (at + 1) xs) (drop (at + 1) ys) ≡ share (drop at xs) (drop at ys)
share-past xs ys at long h none =
    sym (share-more xs ys at long h ∙ ap (λ (b : Bool). not b || share (drop (at + 1) xs) (drop (at + 1) ys)) (eq-eqb (bit_and (get_or xs at 0) (get_or ys at 0)) 0 none))

pub share-end : (xs ys : List ℕ) (at : ℕ) → length xs ≤ at → share (drop at xs) (drop at ys) ≡ false
share-end xs ys at h = ap (λ (l : List ℕ). share l (drop at ys)) (drop_of_length-le xs h)

-- words that share no bit, and rows that do not

or_none : (a b : Bool) → (a || b) ≡ false → (a ≡ false) × (b ≡ false)
or_none false b h = (refl, h)
or_none true b h = absurd (true≢false h)

not_none : (b : Bool) → not b ≡ false → b ≡ true
not_none true h = refl
not_none false h = absurd (true≢false h)

apart : (xs ys : List ℕ) → length xs ≡ length ys → share xs ys ≡ false → zip2 bit_and xs ys ≡ replicate (length ys) 0
apart [] [] long h = refl
apart [] (y ∷ ys) long h = absurd (omega (long, arith))
apart (x ∷ xs) [] long h = absurd (omega (long, arith))
apart (x ∷ xs) (y ∷ ys) long h =
    let both = or_none (not (bit_and x y == 0)) (share xs ys) h in
    ap (λ (w : ℕ). w ∷ zip2 bit_and xs ys) (eqb-true (bit_and x y) 0 (not_none (bit_and x y == 0) both.0))
    ∙ ap (λ (l : List ℕ). 0 ∷ l) (apart xs ys (omega (long, arith)) both.1)

apart-back : (xs ys : List ℕ) → length xs ≡ length ys → zip2 bit_and xs ys ≡ replicate (length ys) 0 → share xs ys ≡ false
apart-back [] [] long h = refl
apart-back [] (y ∷ ys) long h = absurd (omega (long, arith))
apart-back (x ∷ xs) [] long h = absurd (omega (long, arith))
apart-back (x ∷ xs) (y ∷ ys) long h =
    ap (λ (b : Bool). not b || share xs ys) (eq-eqb (bit_and x y) 0 (ap (λ (l : List ℕ). get_or l 0 0) h))
    ∙ apart-back xs ys (omega (long, arith)) (ap (drop 1) h)

rows-apart : (a b : List Bool) → length a ≡ length b → any_both a b ≡ false → zip2 (λ x y. x && y) a b ≡ replicate (length b) false
rows-apart [] [] long h = refl
rows-apart [] (y ∷ ys) long h = absurd (omega (long, arith))
rows-apart (x ∷ xs) [] long h = absurd (omega (long, arith))
rows-apart (x ∷ xs) (y ∷ ys) long h =
    let both = or_none (x && y) (any_both xs ys) h in
    ap (λ (z : Bool). z ∷ zip2 (λ x y. x && y) xs ys) both.0 ∙ ap (λ (l : List Bool). false ∷ l) (rows-apart xs ys (omega (long, arith)) both.1)

rows-apart-back : (a b : List Bool) → length a ≡ length b → zip2 (λ x y. x && y) a b ≡ replicate (length b) false → any_both a b ≡ false
rows-apart-back [] [] long h = refl
rows-apart-back [] (y ∷ ys) long h = absurd (omega (long, arith))
rows-apart-back (x ∷ xs) [] long h = absurd (omega (long, arith))
rows-apart-back (x ∷ xs) (y ∷ ys) long h =
    ap (λ (z : Bool). z || any_both xs ys) (ap (λ (l : List Bool). get_or l 0 false) h)
    ∙ rows-apart-back xs ys (omega (long, arith)) (ap (drop 1) h)

-- both work bit by bit

min_one : (x y : ℕ) → x < 2 → y < 2 → (min x y == 1) ≡ ((x == 1) && (y == 1))
min_one zero zero h k = refl
min_one zero (suc zero) h k = refl
min_one zero (suc (suc y)) h k = absurd (omega (k, arith))
min_one (suc zero) zero h k = refl
min_one (suc zero) (suc zero) h k = refl
min_one (suc zero) (suc (suc y)) h k = absurd (omega (k, arith))
min_one (suc (suc x)) y h k = absurd (omega (h, arith))

pub and-bitwise : IsBitwise bit_and (λ a b. a && b)
and-bitwise a b i below fit = ap (λ x. x == 1) (bit_at_and a b i) ∙ min_one (bit_at a i) (bit_at b i) (bit_at-lt a i) (bit_at-lt b i)

pub and-width : KeepsWidth bit_and
and-width a b x y = and_lt 64 a b x y

same_false : (a b : Bool) → (a ≡ false → b ≡ false) → (b ≡ false → a ≡ false) → a ≡ b
same_false true true f g = refl
same_false true false f g = g refl
same_false false true f g = sym (f refl)
same_false false false f g = refl

module _ (len : ℕ) (xs ys : List ℕ) (o : Operation len bit_and (λ a b. a && b) xs ys) where
  as_long : length xs ≡ length ys
  as_long = o.long_xs ∙ sym o.long_ys

  bits_long : length (bits len xs) ≡ length (bits len ys)
  bits_long = length-bits len xs ∙ sym (length-bits len ys)

  abbrev none : List ℕ
  none = replicate (length ys) 0

  both_bits : bits len (zip2 bit_and xs ys) ≡ zip2 (λ a b. a && b) (bits len xs) (bits len ys)
  both_bits = bits_then len bit_and (λ a b. a && b) xs ys o (zip2 bit_and xs ys) refl

  none_bits : bits len none ≡ replicate (length (bits len ys)) false
  none_bits = bits-of_none len (length ys) none refl ∙ ap (λ (n : ℕ). replicate n false) (sym (length-bits len ys))

  pub share-bits : share xs ys ≡ any_both (bits len xs) (bits len ys)
  share-bits = same_false (share xs ys) (any_both (bits len xs) (bits len ys)) forth back
    where
      forth : share xs ys ≡ false → any_both (bits len xs) (bits len ys) ≡ false
      forth h =
          rows-apart-back (bits len xs) (bits len ys) bits_long
          (sym both_bits ∙ ap (bits len) (apart xs ys as_long h) ∙ none_bits)

      back : any_both (bits len xs) (bits len ys) ≡ false → share xs ys ≡ false
      back h =
          apart-back xs ys as_long
          (words-from_bits len (zip2 bit_and xs ys) none (width_then len bit_and (λ a b. a && b) xs ys o)
          (λ k. subst (λ (w : ℕ). w < 2 ^ 64) (sym (word-of_none (length ys) k)) (omega arith))
          (enough_then len bit_and (λ a b. a && b) xs ys o (zip2 bit_and xs ys) refl ∙ sym o.long_ys ∙ sym (length-replicate {A = ℕ} (length ys) 0))
          (rest_then len bit_and (λ a b. a && b) xs ys o (zip2 bit_and xs ys) refl)
          (λ i h. bit-of_none (length ys) i)
          (both_bits ∙ rows-apart (bits len xs) (bits len ys) bits_long h ∙ sym none_bits))

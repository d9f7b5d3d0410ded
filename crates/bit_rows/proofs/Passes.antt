-- A pass over words, piece by piece: what is done of it, and whether it has changed any.
use Rattle.std.proofs.Common.{◌≡◌, ℕ, zero, suc, ◌+◌, ◌*◌, ◌/◌, ◌<◌, ◌≤◌, ◌↔◌, Bool, true, false, ◌||◌, IsFalse, List, [], ◌∷◌, ◌++◌, length, take, drop, get_or, ap, sym, ◌∙◌, refl, arith, subst, true≢false}
use Rattle.std.specs.Simd.Lanes.{zip2}
use Rattle.std.proofs.Math.Seq.{take-add}
use Rattle.std.proofs.lemmas.List.{take-append-drop, length-take-le, length-drop, take_more_set, drop-set-lt}
use Rattle.std.proofs.lemmas.Simd.{length-zip2}
use Rattle.std.proofs.lemmas.Slice.{take-put_mid, drop-put_mid}
use Rattle.std.proofs.Math.ListN.{set}
use borrow.Rule.Slice.PartMut.{put_mid}

-- the first m words are done, and the others are as they were
pub record IsPass (f : ℕ → ℕ → ℕ) (m : ℕ) (from old now : List ℕ) (changed : Bool) : Type 0 where
  pub done : take m now ≡ zip2 f (take m from) (take m old)
  pub rest : drop m now ≡ drop m old
  pub same : IsFalse changed → now ≡ old
  pub told : now ≡ old → IsFalse changed

zip2-append : (f : ℕ → ℕ → ℕ) (xs us ys vs : List ℕ) → length xs ≡ length ys → zip2 f (xs ++ us) (ys ++ vs) ≡ zip2 f xs ys ++ zip2 f us vs
zip2-append f [] us [] vs e = refl
zip2-append f [] us (y ∷ ys) vs e = absurd (omega (e, arith))
zip2-append f (x ∷ xs) us [] vs e = absurd (omega (e, arith))
zip2-append f (x ∷ xs) us (y ∷ ys) vs e = ap (λ l. f x y ∷ l) (zip2-append f xs us ys vs (omega (e, arith)))

drop-none : (k : ℕ) → drop {A = ℕ} k [] ≡ []
drop-none zero = refl
drop-none (suc k) = refl

drop-add : (m k : ℕ) (l : List ℕ) → drop (m + k) l ≡ drop k (drop m l)
drop-add zero k l = let e : 0 + k ≡ k = omega arith in ap (λ n. drop n l) e
drop-add (suc m) k [] = drop-none (suc m + k) ∙ sym (drop-none k)
drop-add (suc m) k (x ∷ l) = let e : suc m + k ≡ suc (m + k) = omega arith in ap (λ n. drop n (x ∷ l)) e ∙ drop-add m k l

split : (m : ℕ) (one other : List ℕ) → take m one ≡ take m other → drop m one ≡ drop m other → one ≡ other
split m one other e d = sym (take-append-drop m one) ∙ ap (λ l. l ++ drop m one) e ∙ ap (λ l. take m other ++ l) d ∙ take-append-drop m other

either : (c t : Bool) → IsFalse c → IsFalse t → IsFalse (c || t)
either false t c d = d
either true t c d = c

neither : (c t : Bool) → IsFalse (c || t) → IsFalse c × IsFalse t
neither false t h = (refl, h)
neither true t h = (h, absurd (true≢false h))

append-parts : (xs us ys vs : List ℕ) → length xs ≡ length ys → xs ++ us ≡ ys ++ vs → (xs ≡ ys) × (us ≡ vs)
append-parts [] us [] vs e d = (refl, d)
append-parts [] us (y ∷ ys) vs e d = absurd (omega (e, arith))
append-parts (x ∷ xs) us [] vs e d = absurd (omega (e, arith))
append-parts (x ∷ xs) us (y ∷ ys) vs e d =
    let rest = append-parts xs us ys vs (omega (e, arith)) (ap (drop 1) d) in
    (ap (λ l. get_or (x ∷ []) 0 0 ∷ l) rest.0 ∙ ap (λ z. z ∷ ys) (ap (λ l. get_or l 0 0) d), rest.1)

pub step : (f : ℕ → ℕ → ℕ) (m k : ℕ) (from old now next piece : List ℕ) (c t : Bool) → IsPass f m from old now c →
    length from ≡ length old → length now ≡ length old → m + k ≤ length old →
    take (m + k) next ≡ take m now ++ piece → drop (m + k) next ≡ drop (m + k) now →
    piece ≡ zip2 f (take k (drop m from)) (take k (drop m now)) →
    (IsFalse t → piece ≡ take k (drop m now)) → (piece ≡ take k (drop m now) → IsFalse t) → IsPass f (m + k) from old next (c || t)
step f m k from old now next piece c t so_far long long_now within front back is same told =
    record {
      done =
          front ∙ ap (λ l. l ++ piece) so_far.done
          ∙ ap (λ l. zip2 f (take m from) (take m old) ++ l) (is ∙ ap (λ l. zip2 f (take k (drop m from)) (take k l)) so_far.rest)
          ∙ sym (zip2-append f (take m from) (take k (drop m from)) (take m old) (take k (drop m old))
          (length-take-le m from (omega (long, within, arith)) ∙ sym (length-take-le m old (omega (within, arith)))))
          ∙ sym (ap (λ l. zip2 f l (take (m + k) old)) (take-add m k from) ∙ ap (λ l. zip2 f (take m from ++ take k (drop m from)) l) (take-add m k old));
      rest = back ∙ drop-add m k now ∙ ap (drop k) so_far.rest ∙ sym (drop-add m k old);
      same = λ h. let both = neither c t h in
          split (m + k) next now (front ∙ ap (λ l. take m now ++ l) (same both.1) ∙ sym (take-add m k now)) back ∙ so_far.same both.0;
      told = λ e.
          let one : take m now ++ piece ≡ take m old ++ take k (drop m old) = sym front ∙ ap (take (m + k)) e ∙ take-add m k old in
          let as_long : length (take m now) ≡ length (take m old) =
          length-take-le m now (omega (long_now, within, arith)) ∙ sym (length-take-le m old (omega (within, arith))) in
          let parts = append-parts (take m now) piece (take m old) (take k (drop m old)) as_long one in
          either c t (so_far.told (split m now old parts.0 so_far.rest)) (told (parts.1 ∙ ap (take k) (sym so_far.rest)));
    }

pub length-piece : (f : ℕ → ℕ → ℕ) (m k : ℕ) (from now : List ℕ) → m + k ≤ length from → m + k ≤ length now →
    length (zip2 f (take k (drop m from)) (take k (drop m now))) ≡ k
length-piece f m k from now a b =
    let one : length (take k (drop m from)) ≡ k = length-take-le k (drop m from) (omega (a, length-drop m from, arith)) in
    let other : length (take k (drop m now)) ≡ k = length-take-le k (drop m now) (omega (b, length-drop m now, arith)) in
    length-zip2 f (take k (drop m from)) (take k (drop m now)) (one ∙ sym other) ∙ one

-- a piece of eight words
pub lanes : (f : ℕ → ℕ → ℕ) (n k : ℕ) (from old now piece : List ℕ) (c t : Bool) → k ≡ 8 → IsPass f (n * 8) from old now c →
    length from ≡ length old → length now ≡ length old → n < length old / 8 →
    piece ≡ zip2 f (take k (drop (n * 8) from)) (take k (drop (n * 8) now)) →
    (IsFalse t ↔ (piece ≡ take k (drop (n * 8) now))) → IsPass f ((n + 1) * 8) from old (put_mid (n * 8) k now piece) (c || t)
lanes f n k from old now piece c t eight so_far long long_now h is change =
    let within : n * 8 + k ≤ length old = omega (h, eight, arith) in
    let long_piece : length piece ≡ k = ap length is ∙ length-piece f (n * 8) k from now (omega (within, long, arith)) (omega (within, long_now, arith)) in
    let e : n * 8 + k ≡ (n + 1) * 8 = omega (eight, arith) in
    subst (λ (m : ℕ). IsPass f m from old (put_mid (n * 8) k now piece) (c || t)) e
    (step f (n * 8) k from old now (put_mid (n * 8) k now piece) piece c t so_far long long_now within
    (take-put_mid (n * 8) k now piece (n * 8 + k) (omega (long_piece, arith)) (omega (within, long_now, arith)))
    (drop-put_mid (n * 8) k now piece (n * 8 + k) (omega arith) (omega (within, long_now, arith)) long_piece)
    is change.0 change.1)

head : (m : ℕ) (l : List ℕ) → m < length l → take 1 (drop m l) ≡ get_or l m 0 ∷ []
head zero [] h = absurd (omega (h, arith))
head zero (x ∷ l) h = refl
head (suc m) [] h = absurd (omega (h, arith))
head (suc m) (x ∷ l) h = head m l (omega (h, arith))

-- a single word
pub one_word : (f : ℕ → ℕ → ℕ) (m word : ℕ) (from old now : List ℕ) (c t : Bool) → IsPass f m from old now c →
    length from ≡ length old → length now ≡ length old → m < length old →
    word ≡ f (get_or from m 0) (get_or now m 0) → (IsFalse t ↔ (word ≡ get_or now m 0)) → IsPass f (m + 1) from old (set now m word) (c || t)
one_word f m word from old now c t so_far long long_now h is change =
    let of_from = head m from (omega (h, long, arith)) in
    let of_now = head m now (omega (h, long_now, arith)) in
    step f m 1 from old now (set now m word) (word ∷ []) c t so_far long long_now (omega (h, arith))
    (take_more_set now m word (omega (h, long_now, arith)))
    (drop-set-lt (m + 1) now m word (omega arith))
    (ap (λ w. w ∷ []) is ∙ sym (ap (λ l. zip2 f l (take 1 (drop m now))) of_from ∙ ap (zip2 f (get_or from m 0 ∷ [])) of_now))
    (λ x. ap (λ w. w ∷ []) (change.0 x) ∙ sym of_now)
    (λ x. change.1 (ap (λ l. get_or l 0 0) (x ∙ of_now)))

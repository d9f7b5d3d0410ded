-- What a text begins with, told by how long that is.
use Rattle.std.proofs.Common.{◌≡◌, ℕ, suc, ◌+◌, Bool, true, false, nat_eq, List, [], ◌∷◌, take, drop, length, Option, Some, None, refl, ap, sym, ◌∙◌, arith, eqb-true}
use Rattle.std.specs.Prelude.{MatchOption}
use Rattle.std.specs.Borrow.{Bor}
use Rattle.std.specs.Option.{option_copied}
use Rattle.std.specs.List.{prefix_len, list_all}
use Rattle.std.specs.Cmp.Lexicographic.{pointwise}
use Rattle.std.proofs.lemmas.Bool.{and_parts, eq-eqb, false≢true}
use Rattle.listing_write.specs.Reading.Words.{strip, span}

one_more : (b : ℕ) (bs : List ℕ) (k n : ℕ) → n ≡ suc k → Path (List ℕ × List ℕ) (take n (b ∷ bs), drop n (b ∷ bs)) (b ∷ take k bs, drop k bs)
one_more b bs k n e = ap (λ (m : ℕ). (take m (b ∷ bs), drop m (b ∷ bs))) e

pub span_is : (p : ℕ → Bool) (t : List ℕ) → Path (List ℕ × List ℕ) (take (prefix_len p t) t, drop (prefix_len p t) t) (span p t)
span_is p [] = refl
span_is p (b ∷ bs) = by (span_is p bs) (p b) refl
  where
    by : Path (List ℕ × List ℕ) (take (prefix_len p bs) bs, drop (prefix_len p bs) bs) (span p bs) → (v : Bool) → p b ≡ v → Path (List ℕ × List ℕ) (take (prefix_len p (b ∷ bs)) (b ∷ bs), drop (prefix_len p (b ∷ bs)) (b ∷ bs)) (span p (b ∷ bs))
    by rest true e =
        rw e (one_more b bs (prefix_len p bs) (1 + prefix_len p bs) (omega arith) ∙ ap (λ (q : List ℕ × List ℕ). (b ∷ q.0, q.1)) rest)
    by rest false e = rw e refl

pub strip_yes : (w t : List ℕ) → pointwise nat_eq (take (length w) t) w ≡ true → strip w t ≡ Some (drop (length w) t)
strip_yes [] t h = refl
strip_yes (a ∷ w) [] h = absurd (false≢true h)
strip_yes (a ∷ w) (b ∷ bs) h =
    let (same, others) = and_parts (nat_eq b a) _ h in
    rw (eq-eqb a b (sym (eqb-true b a same))) (strip_yes w bs others)

pub strip_no : (w t : List ℕ) → pointwise nat_eq (take (length w) t) w ≡ false → strip w t ≡ None
strip_no [] t h = absurd (false≢true (sym h))
strip_no (a ∷ w) [] h = refl
strip_no (a ∷ w) (b ∷ bs) h = by (strip_no w bs) (nat_eq a b) refl
  where
    by : (pointwise nat_eq (take (length w) bs) w ≡ false → strip w bs ≡ None) → (v : Bool) → nat_eq a b ≡ v → strip (a ∷ w) (b ∷ bs) ≡ None
    by rest true e = let same : nat_eq b a ≡ true = eq-eqb b a (sym (eqb-true a b e)) in rw e (rest (rw same at h))
    by rest false e = rw e refl

-- each byte of it passes
pub span_all : (p : ℕ → Bool) (t : List ℕ) → list_all p (span p t).0 ≡ true
span_all p [] = refl
span_all p (b ∷ bs) = by (span_all p bs) (p b) refl
  where
    by : list_all p (span p bs).0 ≡ true → (v : Bool) → p b ≡ v → list_all p (span p (b ∷ bs)).0 ≡ true
    by rest true e = rw e (rw e rest)
    by rest false e = rw e refl

pub strip_told : (w t : List ℕ) (o : Option (Bor (List ℕ)))
    → MatchOption o (pointwise nat_eq (take (length w) t) w ≡ false)
    (λ x. (pointwise nat_eq (take (length w) t) w ≡ true) × (x.now ≡ drop (length w) t) × (length x.now + length w ≡ length t))
    → option_copied o ≡ strip w t
strip_told w t None h = sym (strip_no w t h)
strip_told w t (Some x) h = ap Some h.1 ∙ sym (strip_yes w t h.0)

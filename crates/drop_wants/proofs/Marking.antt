-- Bits that are turned on besides those that are on.
use Rattle.std.proofs.Common.{◌≡◌, ◌∙◌, ◌∷◌, [], ◌+◌, ◌<◌, ◌≤◌, ◌==◌, ℕ, Bool, true, false, ◌||◌, List, drop, length, refl, sym, ap, arith}
use Rattle.std.specs.Prelude.{get_or, slice_index_or, slice_set}
use Rattle.std.proofs.lemmas.Bool.{false≢true, eq-eqb, eqb-true}
use Rattle.std.proofs.lemmas.List.{at_drop_all, get_or-set_other, get_or-set_same, length-set}
use Rattle.init_flow.specs.Carried.{Bits}
use Rattle.drop_kinds.proofs.Turns.{one-more}
use Rattle.drop_wants.specs.Marks.{Marks}

or-assoc : (a b c : Bool) → ((a || b) || c) ≡ (a || (b || c))
or-assoc true b c = refl
or-assoc false b c = refl

or-false : (b : Bool) → (b || false) ≡ b
or-false true = refl
or-false false = refl

or-true : (b : Bool) → (b || true) ≡ true
or-true true = refl
or-true false = refl

pub marks-none : (f : ℕ → Bool) (row : Bits) → ((k : ℕ) → k < length row → f k ≡ false) → Marks f row row
marks-none f row none = record {
  long = refl;
  bits = λ k less. sym (ap (λ (b : Bool). slice_index_or row k false || b) (none k less)
      ∙ or-false (slice_index_or row k false));
}

pub marks-then : (f g h : ℕ → Bool) (a b c : Bits) → Marks f a b → Marks g b c → ((k : ℕ) → h k ≡ (f k || g k)) →
    Marks h a c
marks-then f g h a b c one other both = record {
  long = other.long ∙ one.long;
  bits = λ k less.
      other.bits k (let l = one.long in omega (less, l, arith)) ∙ ap (λ (z : Bool). z || g k) (one.bits k less)
      ∙ or-assoc (slice_index_or a k false) (f k) (g k)
      ∙ ap (λ (z : Bool). slice_index_or a k false || z) (sym (both k));
}

pub marks-so : (f g : ℕ → Bool) (a b : Bits) → ((k : ℕ) → f k ≡ g k) → Marks f a b → Marks g a b
marks-so f g a b same m = record {
  long = m.long;
  bits = λ k less. m.bits k less ∙ ap (λ (z : Bool). slice_index_or a k false || z) (same k);
}

-- one bit
pub marks-set : (flag : ℕ) (row : Bits) → flag < length row → Marks (λ k. flag == k) row (slice_set row flag true)
marks-set flag row within = record {
  long = length-set row flag true;
  bits = λ k less. by k (flag == k) refl;
}
  where
    by : (k : ℕ) → (b : Bool) → (flag == k) ≡ b → slice_index_or (slice_set row flag true) k false
        ≡ (slice_index_or row k false || b)
    by k true e =
        ap (λ (j : ℕ). slice_index_or (slice_set row flag true) j false) (sym (eqb-true flag k e))
        ∙ get_or-set_same row flag true false within ∙ sym (or-true (slice_index_or row k false))
    by k false e =
        get_or-set_other row flag k true false (λ same. false≢true (sym e ∙ eq-eqb flag k (sym same)))
        ∙ sym (or-false (slice_index_or row k false))

-- element after element
pub record MarksTo {X : Type 0} (F : ℕ → List X → Bool) (xs : List X) (i : ℕ) (start now : Bits) : Type 0 where
  pub long : length now ≡ length start
  pub bits : (k : ℕ) → k < length start →
      (slice_index_or now k false || F k (drop i xs)) ≡ (slice_index_or start k false || F k xs)

module _ {X : Type 0} (F : ℕ → List X → Bool) (f : ℕ → X → Bool) (cons : (k : ℕ) (x : X) (xs : List X) →
    F k (x ∷ xs) ≡ (f k x || F k xs))
    (none : (k : ℕ) → F k [] ≡ false) where
  pub marks-more : (xs : List X) (i : ℕ) (x : X) (start now after : Bits) → i < length xs → x ≡ get_or xs i x →
      MarksTo F xs i start now → Marks (λ k. f k x) now after → MarksTo F xs (i + 1) start after
  marks-more xs i x start now after less is so_far m = record {
    long = m.long ∙ so_far.long;
    bits = λ k within.
        ap (λ (z : Bool). z || F k (drop (i + 1) xs)) (m.bits k (let l = so_far.long in omega (within, l, arith)))
        ∙ or-assoc (slice_index_or now k false) (f k x) (F k (drop (i + 1) xs))
        ∙ ap (λ (z : Bool). slice_index_or now k false || z) (sym (one-more (F k) (f k) (cons k) xs i x less is))
        ∙ so_far.bits k within;
  }

  pub marks-all : (xs : List X) (i : ℕ) (start now : Bits) → length xs ≤ i → MarksTo F xs i start now →
      Marks (λ k. F k xs) start now
  marks-all xs i start now far so_far = record {
    long = so_far.long;
    bits = λ k within.
        sym (ap (λ (z : Bool). slice_index_or now k false || z) (at_drop_all (F k) xs i far ∙ none k)
        ∙ or-false (slice_index_or now k false)) ∙ so_far.bits k within;
  }

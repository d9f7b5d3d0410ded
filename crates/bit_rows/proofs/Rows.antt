-- What an operation on the words of two rows makes of the second row.
use Rattle.std.proofs.Common.{◌≡◌, ◌≢◌, ℕ, ◌+◌, ◌/◌, ◌%◌, ◌^◌, ◌==◌, inl, inr, ◌<◌, ◌↔◌, Bool, not, ◌&&◌, ◌||◌, IsFalse, List, length, get_or, ap, sym, subst, ◌∙◌, refl, arith, bit_or, bit_and}
use Rattle.std.specs.Simd.Lanes.{zip2}
use Rattle.bit_rows.specs.declared.row.BitRow.TheInside.{Inside}
use Rattle.bit_rows.specs.Words.{any_both, bit, bits, share, without, IsRow}
use Rattle.std.specs.Int.{bit_at}
use Rattle.std.proofs.Math.ListN.{set}
use Rattle.std.proofs.lemmas.Bool.{cases_eq}
use Rattle.std.proofs.lemmas.List.{get_or-set_same, get_or-set_other, length-set}
use Rattle.bit_rows.proofs.Bits.{length-bits, bits-set, bit-set_other, or-bitwise, or-width, without-bitwise, without-width, Operation, enough_then, rest_then, bits_then, same_then, width_then}
use Rattle.bit_rows.proofs.Sharing.{and-bitwise, and-width, share-bits}

-- two rows as contracts see them, with their words
pub record Pair : Type 0 where
  pub one : Inside
  pub other : Inside
  pub row_one : List Bool
  pub row_other : List Bool
  pub one_is : bits one.len one.words.items ≡ row_one
  pub other_is : bits other.len other.words.items ≡ row_other
  pub is_row_one : IsRow one
  pub is_row_other : IsRow other
  pub long : length row_one ≡ length row_other

abbrev pub pair_of : (one other : Inside) {row_one row_other : List Bool} → bits one.len one.words.items ≡ row_one → bits other.len other.words.items ≡ row_other →
    IsRow one → IsRow other → length row_one ≡ length row_other → Pair
pair_of one other {row_one} {row_other} one_is other_is is_row_one is_row_other long =
    record {
      one = one;
      other = other;
      row_one = row_one;
      row_other = row_other;
      one_is = one_is;
      other_is = other_is;
      is_row_one = is_row_one;
      is_row_other = is_row_other;
      long = long;
    }

module _ (p : Pair) where
  one_len : p.one.len ≡ p.other.len
  one_len =
      sym (length-bits p.one.len p.one.words.items) ∙ ap length p.one_is ∙ p.long ∙ sym (ap length p.other_is)
      ∙ length-bits p.other.len p.other.words.items

  pub or_operation : Operation p.other.len bit_or (λ a b. a || b) p.one.words.items p.other.words.items
  or_operation =
      record {
        bitwise = or-bitwise;
        width = or-width;
        none = refl;
        fit_xs = p.is_row_one.width;
        fit_ys = p.is_row_other.width;
        long_xs = p.is_row_one.enough ∙ ap (λ n. (n + 63) / 64) one_len;
        long_ys = p.is_row_other.enough;
        off_xs = λ i h. p.is_row_one.rest i (omega (h, one_len, arith));
        off_ys = p.is_row_other.rest;
      }

  pub without_operation : Operation p.other.len without (λ a b. not a && b) p.one.words.items p.other.words.items
  without_operation =
      record {
        bitwise = without-bitwise;
        width = without-width;
        none = refl;
        fit_xs = p.is_row_one.width;
        fit_ys = p.is_row_other.width;
        long_xs = p.is_row_one.enough ∙ ap (λ n. (n + 63) / 64) one_len;
        long_ys = p.is_row_other.enough;
        off_xs = λ i h. p.is_row_one.rest i (omega (h, one_len, arith));
        off_ys = p.is_row_other.rest;
      }

  pub and_operation : Operation p.other.len bit_and (λ a b. a && b) p.one.words.items p.other.words.items
  and_operation =
      record {
        bitwise = and-bitwise;
        width = and-width;
        none = refl;
        fit_xs = p.is_row_one.width;
        fit_ys = p.is_row_other.width;
        long_xs = p.is_row_one.enough ∙ ap (λ n. (n + 63) / 64) one_len;
        long_ys = p.is_row_other.enough;
        off_xs = λ i h. p.is_row_one.rest i (omega (h, one_len, arith));
        off_ys = p.is_row_other.rest;
      }

  pub share_is : share p.one.words.items p.other.words.items ≡ any_both p.row_one p.row_other
  share_is =
      share-bits p.other.len p.one.words.items p.other.words.items and_operation
      ∙ ap (λ l. any_both l (bits p.other.len p.other.words.items)) (ap (λ n. bits n p.one.words.items) (sym one_len) ∙ p.one_is) ∙ ap (any_both p.row_one) p.other_is

  pub as_many_words : length p.one.words.items ≡ length p.other.words.items
  as_many_words = p.is_row_one.enough ∙ ap (λ n. (n + 63) / 64) one_len ∙ sym p.is_row_other.enough

  -- the second row with the words of the first
  pub same_row : (row : Inside) → row.len ≡ p.other.len → row.words.items ≡ p.one.words.items → IsRow row
  same_row row len words =
      record {
        enough = ap length words ∙ p.is_row_one.enough ∙ ap (λ n. (n + 63) / 64) (one_len ∙ sym len);
        width = λ k. subst (λ (l : List ℕ). get_or l k 0 < 2 ^ 64) (sym words) (p.is_row_one.width k);
        rest = λ i h. ap (λ l. bit l i) words ∙ p.is_row_one.rest i (omega (h, len, one_len, arith));
      }

  pub same_bits : (words : List ℕ) → words ≡ p.one.words.items → bits p.other.len words ≡ p.row_one
  same_bits words is = ap (bits p.other.len) is ∙ ap (λ n. bits n p.one.words.items) (sym one_len) ∙ p.one_is

  module _ (f : ℕ → ℕ → ℕ) (g : Bool → Bool → Bool) (o : Operation p.other.len f g p.one.words.items p.other.words.items) (new : List ℕ) (is : new ≡ zip2 f p.one.words.items p.other.words.items) where
    pub bits_are : bits p.other.len new ≡ zip2 g p.row_one p.row_other
    bits_are =
        bits_then p.other.len f g p.one.words.items p.other.words.items o new is
        ∙ ap (λ l. zip2 g l (bits p.other.len p.other.words.items)) (ap (λ n. bits n p.one.words.items) (sym one_len) ∙ p.one_is) ∙ ap (zip2 g p.row_one) p.other_is

    pub change_is : (t : Bool) → (IsFalse t ↔ (new ≡ p.other.words.items)) → IsFalse t ↔ (bits p.other.len new ≡ p.row_other)
    change_is t told = (
      λ h. ap (bits p.other.len) (told.0 h) ∙ p.other_is,
      λ e. told.1 (same_then p.other.len f g p.one.words.items p.other.words.items o new is (e ∙ sym p.other_is)),
    )

    pub row_is : (row : Inside) → row.len ≡ p.other.len → row.words.items ≡ new → IsRow row
    row_is row len words =
        record {
          enough = ap length words ∙ enough_then p.other.len f g p.one.words.items p.other.words.items o new is ∙ ap (λ n. (n + 63) / 64) (sym len);
          width = λ k. subst (λ (l : List ℕ). get_or l k 0 < 2 ^ 64) (sym (words ∙ is)) (width_then p.other.len f g p.one.words.items p.other.words.items o k);
          rest = λ i h. ap (λ l. bit l i) words ∙ rest_then p.other.len f g p.one.words.items p.other.words.items o new is i (omega (h, len, arith));
        }

-- One bit is turned on or off.

-- the words after that
abbrev pub IsSet : List ℕ → ℕ → ℕ → Bool → List ℕ → Type 0
IsSet old at k on new =
    (word : ℕ) × (word < 2 ^ 64) × (new ≡ set old at word) × ((bit_at word k == 1) ≡ on) × ((j : ℕ) → j < 64 → j ≢ k → bit_at word j ≡ bit_at (get_or old at 0) j)

module _ (row : Inside) (is_row : IsRow row) (i : ℕ) (on : Bool) (new : List ℕ) (below : i < row.len) (is : IsSet row.words.items (i / 64) (i % 64) on new) where
  in_words : i / 64 < length row.words.items
  in_words = omega (below, is_row.enough, arith)

  pub set_bits : bits row.len new ≡ set (bits row.len row.words.items) i on
  set_bits = ap (bits row.len) is.2 ∙ bits-set row.len i row.words.items is.0 on below in_words is.3 is.4

  set_width : (k : ℕ) → get_or (set row.words.items (i / 64) is.0) k 0 < 2 ^ 64
  set_width k =
      elim (cases_eq k (i / 64)) [
        | inl same ↦
            subst (λ (w : ℕ). w < 2 ^ 64) (sym (ap (λ n. get_or (set row.words.items (i / 64) is.0) n 0) same ∙ get_or-set_same row.words.items (i / 64) is.0 0 in_words)) is.1
        | inr other ↦ subst (λ (w : ℕ). w < 2 ^ 64) (sym (get_or-set_other row.words.items (i / 64) k is.0 0 other)) (is_row.width k)
      ]

  pub set_row : (after : Inside) → after.len ≡ row.len → after.words.items ≡ new → IsRow after
  set_row after len words =
      record {
        enough = ap length (words ∙ is.2) ∙ length-set row.words.items (i / 64) is.0 ∙ is_row.enough ∙ ap (λ n. (n + 63) / 64) (sym len);
        width = λ k. subst (λ (l : List ℕ). get_or l k 0 < 2 ^ 64) (sym (words ∙ is.2)) (set_width k);
        rest = λ j h. ap (λ l. bit l j) (words ∙ is.2)
            ∙ bit-set_other row.words.items i j is.0 (λ e. omega (e, h, len, below, arith)) in_words is.4 ∙ is_row.rest j (omega (h, len, arith));
      }

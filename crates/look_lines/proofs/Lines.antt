-- The lines of a text: the first one, and those of the text behind it.
use Rattle.std.proofs.Common.{◌≡◌, ◌<◌, ◌≤◌, ◌+◌, ℕ, suc, Bool, true, false, not, cond, List, [], ◌∷◌, ◌++◌, length, take, drop, Some, None, refl, ap, sym, ◌∙◌, append_assoc, arith}
use Rattle.std.proofs.lemmas.Bool.{ltb-false}
use Rattle.std.proofs.lemmas.List.{take_all, drop_all}
use Rattle.std.proofs.Math.Dec.{ltb}
use Rattle.std.specs.List.{position_or_len}
use Rattle.look_lines.specs.Snippets.{is_feed, up_to, past, first_line, behind_line}
use Rattle.std.specs.Prelude.{Option}
use Rattle.mir_base.specs.declared.place_in_text.Pos.{Pos}
use Rattle.look_lines.specs.Tellings.{before_lines, with_first, lines_of, line_told, lines_told, after}
use Rattle.look_lines.specs.declared.tellings.Reading.{Reading}

abbrev end_of : List ℕ → ℕ
end_of text = position_or_len is_feed text

pub first_is : (text : List ℕ) → first_line text ≡ take (end_of text) text
first_is text = by (ltb (end_of text) (length text)) refl
  where
    by : (b : Bool) → ltb (end_of text) (length text) ≡ b → up_to (cond b (Some (end_of text)) None) text ≡ take (end_of text) text
    by true e = refl
    by false e = sym (take_all (end_of text) text (ltb-false (end_of text) (length text) e))

pub behind_is : (text : List ℕ) → behind_line text ≡ drop (end_of text + 1) text
behind_is text = by (ltb (end_of text) (length text)) refl
  where
    by : (b : Bool) → ltb (end_of text) (length text) ≡ b → past (cond b (Some (end_of text)) None) text ≡ drop (end_of text + 1) text
    by true e = refl
    by false e = sym (drop_all (end_of text + 1) text (let k : length text ≤ end_of text = ltb-false (end_of text) (length text) e in omega arith))

taken : (n : ℕ) (byte : ℕ) (text : List ℕ) → take (1 + n) (byte ∷ text) ≡ byte ∷ take n text
taken n byte text = ap (λ k. take k (byte ∷ text)) (let k : 1 + n ≡ suc n = omega arith in k)

dropped : (n : ℕ) (byte : ℕ) (text : List ℕ) → drop (1 + n + 1) (byte ∷ text) ≡ drop (n + 1) text
dropped n byte text = ap (λ k. drop k (byte ∷ text)) (let k : 1 + n + 1 ≡ suc (n + 1) = omega arith in k)

abbrev Splits : Bool → ℕ → List ℕ → Type 0
Splits b byte text =
    before_lines b byte (lines_of text)
    ≡ take (cond (not b) (1 + end_of text) 0) (byte ∷ text) ∷ lines_of (drop (cond (not b) (1 + end_of text) 0 + 1) (byte ∷ text))

parted : (byte : ℕ) (text : List ℕ) → lines_of (byte ∷ text) ≡ take (end_of (byte ∷ text)) (byte ∷ text) ∷ lines_of (drop (end_of (byte ∷ text) + 1) (byte ∷ text))
parted byte [] = by (is_feed byte)
  where
    by : (b : Bool) → Splits b byte []
    by true = refl
    by false = refl
parted byte (next ∷ text) = by (is_feed byte) (parted next text)
  where
    by : (b : Bool) →
        lines_of (next ∷ text) ≡ take (end_of (next ∷ text)) (next ∷ text) ∷ lines_of (drop (end_of (next ∷ text) + 1) (next ∷ text)) →
        Splits b byte (next ∷ text)
    by true h = refl
    by false h =
        ap (with_first byte) h
        ∙ ap (λ (l : List ℕ). l ∷ lines_of (drop (end_of (next ∷ text) + 1) (next ∷ text))) (sym (taken (end_of (next ∷ text)) byte (next ∷ text)))
        ∙ ap (λ (l : List ℕ). take (1 + end_of (next ∷ text)) (byte ∷ next ∷ text) ∷ lines_of l) (sym (dropped (end_of (next ∷ text)) byte (next ∷ text)))

pub first_and_others : (byte : ℕ) (text : List ℕ) →
    lines_of (byte ∷ text) ≡ first_line (byte ∷ text) ∷ lines_of (behind_line (byte ∷ text))
first_and_others byte text =
    parted byte text
    ∙ ap (λ (l : List ℕ). l ∷ lines_of (drop (end_of (byte ∷ text) + 1) (byte ∷ text))) (sym (first_is (byte ∷ text)))
    ∙ ap (λ (l : List ℕ). first_line (byte ∷ text) ∷ lines_of l) (sym (behind_is (byte ∷ text)))

-- one more line is told
module _ (text : List ℕ) (places : List (Option Pos)) where
  pub told_on : (whole out next : List ℕ) (r s : Reading) (rest : List ℕ) → 0 < length rest →
      whole ≡ out ++ lines_told text places (lines_of rest) r → next ≡ out ++ line_told text places r (first_line rest) →
      s ≡ after r (first_line rest) → whole ≡ next ++ lines_told text places (lines_of (behind_line rest)) s
  told_on whole out next r s [] some so_far told is = absurd (let none : ⊥ = omega (some, arith) in none)
  told_on whole out next r s (byte ∷ rest) some so_far told is =
      so_far
      ∙ ap (λ (l : List (List ℕ)). out ++ lines_told text places l r) (first_and_others byte rest)
      ∙ sym (append_assoc out (line_told text places r (first_line (byte ∷ rest))) (lines_told text places (lines_of (behind_line (byte ∷ rest))) (after r (first_line (byte ∷ rest)))))
      ∙ (λ i. told_back i ++ lines_told text places (lines_of (behind_line (byte ∷ rest))) (is_back i))
    where
      told_back : out ++ line_told text places r (first_line (byte ∷ rest)) ≡ next
      told_back = sym told

      is_back : after r (first_line (byte ∷ rest)) ≡ s
      is_back = sym is

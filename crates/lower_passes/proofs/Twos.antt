-- Where two codes stand before a word.
use Rattle.std.proofs.Common.{◌≡◌, ◌∙◌, ◌<◌, ◌≤◌, ℕ, suc, List, sym, ap, subst, arith}
use Rattle.lower_code.specs.Code.{Code}
use Rattle.lower_code.specs.Ops.{CodeWord}
use Rattle.lower_rules.specs.Build.{LoweringFrame}
use Rattle.lower_passes.specs.MarkRules.{mark_at}
use Rattle.lower_passes.specs.Spans.{TwoBefore, Stands}
use Rattle.lower_passes.specs.declared.marks.CodeMark.{CodeMark}
use Rattle.lower_passes.proofs.Standing.{code_says}
use Rattle.lower_passes.proofs.Reading.{within}

module _ (f : LoweringFrame) (words : List CodeWord) (marks : List CodeMark) (one another : Code) (start end : ℕ) where
  abbrev Two : Type 0
  Two = TwoBefore f words marks (Stands f words marks one) (Stands f words marks another) start end

  -- the words at which they end, by the mark before the word
  pub second_is : (d : ℕ) → end ≡ suc d → (two : Two) → two.0 ≡ d
  second_is d ends two =
      let same : end ≡ suc two.0 = two.1.1.0 in
      omega arith

  pub first_is : (d m : ℕ) → end ≡ suc d → (mark_at marks d).start ≡ suc m → (two : Two) → two.1.0 ≡ m
  first_is d m ends begins two =
      let same : two.0 ≡ d = second_is d ends two in
      let said : (mark_at marks d).start ≡ suc two.1.0 =
      ap (λ (k : ℕ). (mark_at marks k).start) (sym same) ∙ (code_says f words marks another (suc two.1.0) two.0 two.1.1.1.1).0 in
      let both : suc two.1.0 ≡ suc m = sym said ∙ begins in
      omega arith

  pub two_found : (d m : ℕ) → end ≡ suc d → (mark_at marks d).start ≡ suc m → Two → Stands f words marks one start m × Stands f words marks another (suc m) d
  two_found d m ends begins two =
      let same : two.0 ≡ d = second_is d ends two in
      let first : two.1.0 ≡ m = first_is d m ends begins two in
      let other : Stands f words marks another (suc m) two.0 =
      subst (λ (k : ℕ). Stands f words marks another (suc k) two.0) first two.1.1.1.1 in (
        subst (λ (k : ℕ). Stands f words marks one start k) first two.1.1.1.0,
        subst (λ (k : ℕ). Stands f words marks another (suc m) k) same other,
      )

  -- the first of them ends before the other does
  pub first_before : (d m : ℕ) → end ≡ suc d → (mark_at marks d).start ≡ suc m → Two → m < d
  first_before d m ends begins two =
      let below : suc m ≤ d = within f words marks another (suc m) d (two_found d m ends begins two).1 in
      omega arith

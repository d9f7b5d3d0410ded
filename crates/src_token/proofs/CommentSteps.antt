-- How one character of a comment changes what is still to be read of it.
use Rattle.std.proofs.Common.{◌≡◌, ℕ, zero, suc, ◌+◌, ◌-◌, ◌<◌, Bool, true, false, List, ◌∷◌, drop, get_or, length, Option, Some, None, refl, ap, sym, ◌∙◌, arith, get_or-drop}
use Rattle.std.specs.Prelude.{option_map}
use Rattle.std.proofs.lemmas.List.{drop_more}
use Rattle.src_token.specs.Comments.{opens, closes}
use Rattle.src_token.specs.Scanning.{closing, closed}

-- so many characters on
abbrev pub onward : ℕ → Option ℕ → Option ℕ
onward i o = option_map (λ (n : ℕ). i + n) o

onward_more : (i : ℕ) (o : Option ℕ) → onward i (option_map suc o) ≡ onward (i + 1) o
onward_more i None = refl
onward_more i (Some n) = ap (λ (m : ℕ). Some m) (omega arith)

closed_one : (depth : ℕ) (more : ℕ → Option ℕ) → (depth ≡ 0 → ⊥) → closed depth more ≡ option_map suc (more (depth - 1))
closed_one zero more h = absurd (h refl)
closed_one (suc d) more h = ap (λ (e : ℕ). option_map suc (more e)) (omega arith)

module _ (c next depth : ℕ) (cs : List ℕ) (is : get_or cs 0 0 ≡ next) where
  closing_closes : closes c next ≡ true → closing depth false (c ∷ cs) ≡ closed depth (λ e. closing e true cs)
  closing_closes h = rw (is, h) refl

  closing_past : closes c next ≡ false → opens c next ≡ false → closing depth false (c ∷ cs) ≡ option_map suc (closing depth false cs)
  closing_past h k = rw (is, h, k) refl

module _ (inside : List ℕ) (i depth : ℕ) (within : i < length inside) where
  next_is : get_or (drop (i + 1) inside) 0 0 ≡ get_or inside (i + 1) 0
  next_is = rw get_or-drop (ap (λ (k : ℕ). get_or inside k 0) (omega arith))

  at : closing depth false (drop i inside) ≡ closing depth false (get_or inside i 0 ∷ drop (i + 1) inside)
  at = ap (closing depth false) (drop_more inside i 0 within)

  -- at the characters that were read there
  module _ (c next : ℕ) (second : Bool) (read : c ≡ get_or inside i 0) (next_read : next ≡ get_or inside (i + 1) 0) (first : second ≡ false) where
    pub past_closing : (depth ≡ 0 → ⊥) → true ≡ closes c next
        → onward i (closing depth second (drop i inside)) ≡ onward (i + 1) (closing (depth - 1) true (drop (i + 1) inside))
    past_closing deep h =
        rw first (ap (onward i) (at ∙ closing_closes (get_or inside i 0) (get_or inside (i + 1) 0) depth (drop (i + 1) inside) next_is (rw (← read, ← next_read) (sym h)) ∙ closed_one depth (λ e. closing e true (drop (i + 1) inside)) deep) ∙ onward_more i _)

    pub past_plain : false ≡ closes c next → false ≡ opens c next
        → onward i (closing depth second (drop i inside)) ≡ onward (i + 1) (closing depth second (drop (i + 1) inside))
    past_plain h k =
        rw first (ap (onward i) (at ∙ closing_past (get_or inside i 0) (get_or inside (i + 1) 0) depth (drop (i + 1) inside) next_is (rw (← read, ← next_read) (sym h)) (rw (← read, ← next_read) (sym k))) ∙ onward_more i _)

-- Lines behind lines.
use Rattle.std.proofs.Common.{◌≡◌, ◌≢◌, ◌≤◌, ℕ, zero, suc, ◌+◌, ◌-◌, [], ◌∷◌, ◌++◌, refl, sym, ap, ◌∙◌, append_assoc, add-one, arith}
use Rattle.std.specs.Prelude.{List, codes}
use Rattle.std.specs.Fmt.{decimal}
use Rattle.soak_text.specs.Text.{line_of, function_line, function_lines, main_line, struct_line, impl_line, soak_text}

-- the line of a function that is not the first, by its number
abbrev later_line : ℕ → List ℕ
later_line n = line_of (
    codes "fn f" ∷ decimal n ∷ codes "(x: D) { let y = D(" ∷ decimal n ∷ codes "); if ask() == 0 { f" ∷
    decimal (n - 1) ∷ codes "(x); } }" ∷ [])

later : (n : ℕ) → n ≢ 0 → later_line n ≡ function_line n
later zero some = absurd (some refl)
later (suc i) some = let before : suc i - 1 ≡ i = omega arith in rw before refl

pub put_later : (old new : List ℕ) (n : ℕ) → n ≢ 0 → new ≡ old ++ later_line n → new ≡ old ++ function_line n
put_later old new n some put = put ∙ ap (λ w. old ++ w) (later n some)

-- one function more
pub one_more : (front : List ℕ) (i : ℕ) → (front ++ function_lines i) ++ function_line i ≡ front ++ function_lines (i + 1)
one_more front i =
    append_assoc front (function_lines i) (function_line i) ∙ ap (λ n. front ++ function_lines n) (sym (add-one i))

-- all lines
pub all_lines : (k i : ℕ) → k ≤ i → i ≤ k → ((struct_line ++ impl_line) ++ function_lines i) ++ main_line k ≡ soak_text k
unfolding soak_text
all_lines k i low high =
    let same : i ≡ k = omega (arith, low, high) in
    rw same (append_assoc (struct_line ++ impl_line) (function_lines k) (main_line k))

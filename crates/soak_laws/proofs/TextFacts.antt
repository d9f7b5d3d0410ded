-- The text is of ASCII characters alone, and short.
use Rattle.std.proofs.Common.{◌≡◌, ℕ, zero, suc, ◌+◌, ◌*◌, ◌-◌, ◌<◌, ◌≤◌, ◌^◌, nat_lt, Bool, true, List, [], ◌∷◌, ◌++◌, length, refl, ap, ◌∙◌, length-append, arith}
use Rattle.std.specs.Prelude.{codes}
use Rattle.std.specs.List.{list_all}
use Rattle.std.specs.Char.{is_ascii_digit}
use Rattle.std.specs.Fmt.{decimal}
use Rattle.std.specs.Str.{IsAscii}
use Rattle.std.proofs.lemmas.Bool.{and_parts, and_from, ltb-true}
use Rattle.std.proofs.lemmas.Fmt.{length-decimal-le}
use Rattle.std.proofs.lemmas.List.Folds.{list_all-append}
use Rattle.soak_text.specs.Text.{soak_text, line_of, struct_line, impl_line, function_line, function_lines, main_line}
use Rattle.soak_laws.proofs.NumberWords.{passing}
use Rattle.soak_laws.proofs.Numerals.{is_numeral, of_digit}

-- ---- ASCII

abbrev is_low : ℕ → Bool
is_low c = nat_lt c 128

abbrev are_low : List ℕ → Bool
are_low cs = list_all is_low cs

low_is_ascii : (cs : List ℕ) → are_low cs ≡ true → IsAscii cs
low_is_ascii [] h i = omega arith
low_is_ascii (c ∷ cs) h zero = ltb-true c 128 (and_parts (is_low c) _ h).0
low_is_ascii (c ∷ cs) h (suc i) = low_is_ascii cs (and_parts (is_low c) _ h).1 i

both_low : (a b : List ℕ) → are_low a ≡ true → are_low b ≡ true → are_low (a ++ b) ≡ true
both_low a b h k = list_all-append is_low a b ∙ and_from (are_low a) (are_low b) h k

low_number : (n : ℕ) → n < 2 ^ 32 → are_low (decimal n) ≡ true
low_number n small =
    passing is_low is_ascii_digit (λ c h. of_digit is_low refl c h) (decimal n)
    (is_numeral n (omega (arith, small))).digits

low_line : (pieces : List (List ℕ)) → list_all are_low pieces ≡ true → are_low (line_of pieces) ≡ true
low_line [] h = refl
low_line (p ∷ ps) h = let k = and_parts (are_low p) _ h in both_low p (line_of ps) k.0 (low_line ps k.1)

low_function : (i : ℕ) → i < 2 ^ 31 → are_low (function_line i) ≡ true
low_function zero small = refl
low_function (suc i) small =
    let own = low_number (suc i) (omega (arith, small)) in
    let before = low_number i (omega (arith, small)) in
    low_line (
    codes "fn f" ∷ decimal (suc i) ∷ codes "(x: D) { let y = D(" ∷ decimal (suc i) ∷ codes "); if ask() == 0 { f" ∷
    decimal i ∷ codes "(x); } }" ∷ []) (rw (own, before) refl)

low_functions : (k : ℕ) → k ≤ 2 ^ 31 → are_low (function_lines k) ≡ true
low_functions zero small = refl
low_functions (suc i) small =
    both_low (function_lines i) (function_line i) (low_functions i (omega (arith, small)))
    (low_function i (omega (arith, small)))

low_main : (k : ℕ) → k < 2 ^ 31 → are_low (main_line k) ≡ true
low_main k small =
    let last = low_number (k - 1) (omega (arith, small)) in
    let own = low_number k (omega (arith, small)) in
    low_line (codes "fn main() { f" ∷ decimal (k - 1) ∷ codes "(D(" ∷ decimal k ∷ codes ")); }" ∷ [])
    (rw (last, own) refl)

pub soak_is_ascii : (k : ℕ) → k < 2 ^ 31 → IsAscii (soak_text k)
unfolding soak_text
soak_is_ascii k small =
    let text = both_low (function_lines k) (main_line k) (low_functions k (omega (arith, small))) (low_main k small) in
    low_is_ascii (struct_line ++ (impl_line ++ (function_lines k ++ main_line k)))
    (both_low struct_line (impl_line ++ (function_lines k ++ main_line k)) refl
    (both_low impl_line (function_lines k ++ main_line k) refl text))

-- ---- length

short_number : (n : ℕ) → n < 10000 → length (decimal n) ≤ 4
short_number n small = length-decimal-le 4 n (omega arith) small (omega (arith, small))

abbrev sum : List (List ℕ) → ℕ
sum [] = 1
sum (p ∷ ps) = length p + sum ps

line_length : (pieces : List (List ℕ)) → length (line_of pieces) ≡ sum pieces
line_length [] = refl
line_length (p ∷ ps) = length-append p (line_of ps) ∙ ap (λ n. length p + n) (line_length ps)

short_function : (i : ℕ) → i < 10000 → length (function_line i) ≤ 64
short_function zero small = omega arith
short_function (suc i) small =
    let own = short_number (suc i) small in
    let before = short_number i (omega (arith, small)) in
    let whole = line_length (
    codes "fn f" ∷ decimal (suc i) ∷ codes "(x: D) { let y = D(" ∷ decimal (suc i) ∷ codes "); if ask() == 0 { f" ∷
    decimal i ∷ codes "(x); } }" ∷ []) in
    omega (arith, own, before, whole)

short_functions : (k : ℕ) → k ≤ 10000 → length (function_lines k) ≤ 64 * k
short_functions zero small = omega arith
short_functions (suc i) small =
    let before = short_functions i (omega (arith, small)) in
    let this = short_function i (omega (arith, small)) in
    let both = length-append (function_lines i) (function_line i) in omega (arith, before, this, both)

short_main : (k : ℕ) → k < 10000 → length (main_line k) ≤ 64
short_main k small =
    let last = short_number (k - 1) (omega (arith, small)) in
    let own = short_number k small in
    let whole = line_length (codes "fn main() { f" ∷ decimal (k - 1) ∷ codes "(D(" ∷ decimal k ∷ codes ")); }" ∷ []) in
    omega (arith, last, own, whole)

pub soak_length : (k : ℕ) → k ≤ 1500 → length (soak_text k) ≤ 131072
unfolding soak_text
soak_length k small =
    let functions = short_functions k (omega (arith, small)) in
    let main = short_main k (omega (arith, small)) in
    let both = length-append (function_lines k) (main_line k) in
    let behind = length-append impl_line (function_lines k ++ main_line k) in
    let whole = length-append struct_line (impl_line ++ (function_lines k ++ main_line k)) in
    omega (arith, functions, main, both, behind, whole)

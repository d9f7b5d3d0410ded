-- The decimal digits of a number, as std writes them, are those of the definitions.
use Rattle.std.proofs.Common.{◌≡◌, ℕ, zero, suc, ◌+◌, ◌*◌, ◌/◌, ◌%◌, ◌^◌, ◌<◌, ◌≤◌, nat_lt, ◌==◌, Bool, true, false, if◌then◌else◌, [], ◌∷◌, refl, ap, ◌∙◌, arith, lit<, pow-suc}
use Rattle.std.specs.Fmt.{decimal, digits, digits_onto, digit_glyph}
use Rattle.std.proofs.lemmas.Bool.{ltb-true}
use Rattle.std.proofs.lemmas.Bool.Decides.{nat_tests}
use Rattle.src_ast.specs.Syntax.{Word, number_word, digits as spelled}

one_digit : (n : ℕ) → n < 10 → ((n / 10 == 0) ≡ true) × (n % 10 ≡ n)
one_digit n h = (grind (arith, nat_tests), omega arith)

more_digits : (n : ℕ) → 10 ≤ n → (n / 10 == 0) ≡ false
more_digits n h = grind (arith, nat_tests)

glyph : (d : ℕ) → d < 10 → digit_glyph false d ≡ 48 + d
glyph d h = grind (arith, nat_tests)

rest : (k j n : ℕ) (behind : Word) → j < suc k → n < 10 ^ suc j →
    ((i : ℕ) → i < k → n / 10 < 10 ^ suc i → digits_onto k 10 false (n / 10) ((48 + n % 10) ∷ behind)
    ≡ spelled (suc i) (n / 10) ((48 + n % 10) ∷ behind)) → 10 ≤ n →
    digits_onto k 10 false (n / 10) ((48 + n % 10) ∷ behind) ≡ spelled j (n / 10) ((48 + n % 10) ∷ behind)
rest k zero n behind h few on large = absurd (let less : n < 10 = few in omega arith)
rest k (suc i) n behind h few on large =
    let power : 10 ^ suc (suc i) ≡ 10 ^ suc i * 10 = pow-suc 10 (suc i) in
    on i (omega arith) (omega arith)

same_digits : (k j n : ℕ) (behind : Word) → j < k → n < 10 ^ suc j → digits_onto k 10 false n behind ≡ spelled (suc j) n behind
same_digits zero j n behind h few = absurd (omega arith)
same_digits (suc k) j n behind h few = by (nat_lt n 10) refl (rest k j n behind h few (λ i. same_digits k i (n / 10) ((48 + n % 10) ∷ behind)))
  where
    by : (b : Bool) → nat_lt n 10 ≡ b → (10 ≤ n → digits_onto k 10 false (n / 10) ((48 + n % 10) ∷ behind)
        ≡ spelled j (n / 10) ((48 + n % 10) ∷ behind)) →
        (if n / 10 == 0 then digit_glyph false (n % 10) ∷ behind else digits_onto k 10 false (n / 10) (digit_glyph false (n % 10) ∷ behind))
        ≡ (if b then (48 + n) ∷ behind else spelled j (n / 10) ((48 + n % 10) ∷ behind))
    by true is later =
        let small : n < 10 = ltb-true n 10 is in
        let one = one_digit n small in
        rw one.0 (ap (λ d. d ∷ behind) (glyph (n % 10) (omega arith) ∙ ap (λ d. 48 + d) one.1))
    by false is later =
        let large : 10 ≤ n = grind (arith, nat_tests) in
        rw (more_digits n large) (ap (λ d. digits_onto k 10 false (n / 10) (d ∷ behind)) (glyph (n % 10) (omega arith))
        ∙ later large)

less_rounds : (i n : ℕ) → 10 ≤ n → n ≤ suc i → n / 10 ≤ i
less_rounds i n large few = omega arith

small_so : (n : ℕ) → n < 10 → nat_lt n 10 ≡ true
small_so n h = grind (arith, nat_tests)

-- more rounds change nothing
enough : (j i n : ℕ) (behind : Word) → n < 10 ^ suc j → n ≤ i → spelled (suc j) n behind ≡ spelled (suc i) n behind
enough zero i n behind few most = rw (small_so n few) refl
enough (suc j) i n behind few most = by (nat_lt n 10) refl (λ k large. enough j k (n / 10) ((48 + n % 10) ∷ behind)
    (let power : 10 ^ suc (suc j) ≡ 10 ^ suc j * 10 = pow-suc 10 (suc j) in omega arith))
  where
    on : (i : ℕ) → 10 ≤ n → n ≤ i → ((k : ℕ) → 10 ≤ n → n / 10 ≤ k → spelled (suc j) (n / 10) ((48 + n % 10) ∷ behind) ≡ spelled
        (suc k) (n / 10) ((48 + n % 10) ∷ behind)) → spelled (suc j) (n / 10) ((48 + n % 10) ∷ behind) ≡ spelled i (n / 10) ((48
        + n % 10) ∷ behind)
    on zero large most rest = absurd (omega arith)
    on (suc k) large most rest = rest k large (less_rounds k n large most)

    by : (b : Bool) → nat_lt n 10 ≡ b → ((k : ℕ) → 10 ≤ n → n / 10 ≤ k → spelled (suc j) (n / 10) ((48 + n % 10) ∷ behind) ≡
        spelled (suc k) (n / 10) ((48 + n % 10) ∷ behind)) → (if b then (48 + n) ∷ behind else spelled (suc j) (n / 10) ((48 +
        n % 10) ∷ behind)) ≡ (if b then (48 + n) ∷ behind else spelled i (n / 10) ((48 + n % 10) ∷ behind))
    by true is rest = refl
    by false is rest = on i (grind (arith, nat_tests)) most rest

pub decimal_word : (n : ℕ) → n < 2 ^ 64 → decimal n ≡ number_word n
unfolding digits
decimal_word n h = same_digits 64 19 n [] (lit< tt) few ∙ enough 19 n n [] few (omega arith)
  where
    few : n < 10 ^ 20
    few = omega (arith, h)

-- The decimal digits of a number: read back they are the number, so numbers that differ have words that differ.
use Rattle.std.proofs.Common.{◌≡◌, ℕ, zero, suc, ◌+◌, ◌*◌, ◌-◌, ◌/◌, ◌%◌, ◌<◌, ◌≤◌, nat_lt, Bool, true, false, ◌&&◌, if◌then◌else◌, [], ◌∷◌, IsTrue, refl, ap, sym, subst, ◌∙◌, arith}
use Rattle.std.specs.List.{list_all}
use Rattle.std.proofs.lemmas.Bool.{ltb-true, ltb-false, and_from, and_parts}
use Rattle.src_ast.specs.Syntax.{Word, number_word, digits}

-- the number that digits spell, behind those of a number
abbrev value : ℕ → Word → ℕ
value n [] = n
value n (c ∷ cs) = value (n * 10 + (c - 48)) cs

less : (n more : ℕ) → 10 ≤ n → n < suc more → n / 10 < more
less n more large h = omega (arith, large, h)

reads : (more n : ℕ) (behind : Word) → n < more → value 0 (digits more n behind) ≡ value n behind
reads zero n behind h = absurd (omega (arith, h))
reads (suc more) n behind h =
    by (nat_lt n 10) refl (λ large. reads more (n / 10) ((48 + n % 10) ∷ behind) (less n more large h))
  where
    by : (b : Bool) → nat_lt n 10 ≡ b → (10 ≤ n → value 0 (digits more (n / 10) ((48 + n % 10) ∷ behind)) ≡ value (n / 10)
        ((48 + n % 10) ∷ behind)) → value 0 (if b then (48 + n) ∷ behind else digits more (n / 10) ((48 + n % 10) ∷ behind))
        ≡ value n behind
    by true is later = ap (λ m. value m behind) (omega arith)
    by false is later = later (ltb-false n 10 is) ∙ ap (λ m. value m behind) (omega arith)

pub same_number : (a b : ℕ) → number_word a ≡ number_word b → a ≡ b
same_number a b e =
    sym (reads (suc a) a [] (omega arith)) ∙ ap (value 0) e ∙ reads (suc b) b [] (omega arith)

-- what is so of each digit is so of a number's word
pub all_digits : (test : ℕ → Bool) → ((d : ℕ) → d < 10 → IsTrue (test (48 + d))) → (more n : ℕ) (behind : Word) → IsTrue
    (list_all test behind) → IsTrue (list_all test (digits more n behind))
all_digits test so zero n behind h = h
all_digits test so (suc more) n behind h =
    by (nat_lt n 10) refl (all_digits test so more (n / 10) ((48 + n % 10) ∷ behind) (and_from (test (48 + n % 10)) _ (so (n %
    10) (omega arith)) h))
  where
    by : (b : Bool) → nat_lt n 10 ≡ b → IsTrue (list_all test (digits more (n / 10) ((48 + n % 10) ∷ behind))) → IsTrue (list_all
        test (if b then (48 + n) ∷ behind else digits more (n / 10) ((48 + n % 10) ∷ behind)))
    by true is later = and_from (test (48 + n)) _ (so n (ltb-true n 10 is)) h
    by false is later = later

-- a number's word begins with a digit
abbrev pub begins_so : (ℕ → Bool) → Word → Bool
begins_so test [] = false
begins_so test (c ∷ cs) = test c

digit_first : (test : ℕ → Bool) → ((d : ℕ) → d < 10 → IsTrue (test (48 + d))) → (more n : ℕ) (behind : Word) → n < more →
    IsTrue (begins_so test (digits more n behind))
digit_first test so zero n behind h = absurd (omega (arith, h))
digit_first test so (suc more) n behind h =
    by (nat_lt n 10) refl (λ large. digit_first test so more (n / 10) ((48 + n % 10) ∷ behind) (less n more large h))
  where
    by : (b : Bool) → nat_lt n 10 ≡ b → (10 ≤ n → IsTrue (begins_so test (digits more (n / 10) ((48 + n % 10) ∷ behind)))) →
        IsTrue (begins_so test (if b then (48 + n) ∷ behind else digits more (n / 10) ((48 + n % 10) ∷ behind)))
    by true is later = so n (ltb-true n 10 is)
    by false is later = later (ltb-false n 10 is)

pub number_begins : (test : ℕ → Bool) → ((d : ℕ) → d < 10 → IsTrue (test (48 + d))) → (n : ℕ) → IsTrue (begins_so test
    (number_word n))
number_begins test so n = digit_first test so (suc n) n [] (omega arith)

-- what is so of each of the ten digits
abbrev pub all_below : ℕ → (ℕ → Bool) → Bool
all_below zero test = true
all_below (suc n) test = test n && all_below n test

pub below : (n : ℕ) (test : ℕ → Bool) → IsTrue (all_below n test) → (c : ℕ) → c < n → IsTrue (test c)
below zero test h c l = absurd (omega (arith, l))
below (suc n) test h c l =
    let k = and_parts (test n) _ h in
    by (nat_lt c n) refl (λ less. below n test k.1 c less) k.0
  where
    by : (b : Bool) → nat_lt c n ≡ b → (c < n → IsTrue (test c)) → IsTrue (test n) → IsTrue (test c)
    by true e on last = on (ltb-true c n e)
    by false e on last = subst (λ m. IsTrue (test m)) (let past = ltb-false c n e in omega (arith, past, l)) last

-- Counting on from a number, by a function that recurses.
use Rattle.std.proofs.Common.{◌≡◌, ◌∙◌, ℕ, zero, suc, ◌+◌, arith}

-- the number that comes so many after another
abbrev pub after : ℕ → ℕ → ℕ
after n zero = n
after n (suc m) = after (suc n) m

pub after-sum : (n m : ℕ) → after n m ≡ n + m
after-sum n zero = omega arith
after-sum n (suc m) = after-sum (suc n) m ∙ (let x : suc n + m ≡ n + suc m = omega arith in x)

pub after-zero : (m : ℕ) → after 0 m ≡ m
after-zero m = after-sum 0 m ∙ (let x : 0 + m ≡ m = omega arith in x)

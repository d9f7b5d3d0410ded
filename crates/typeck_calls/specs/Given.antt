-- Numbers of fields that were noted.
use Rattle.std.specs.Prelude.{ℕ, zero, suc, Bool, true, false, ◌==◌, ◌&&◌, List, Option, Some, None}
use Rattle.std.specs.List.{list_any}

abbrev pub has : ℕ → List ℕ → Bool
has n keys = list_any (λ k. n == k) keys

-- all numbers below one
abbrev pub has_all : ℕ → List ℕ → Bool
has_all zero keys = true
has_all (suc n) keys = has n keys && has_all n keys

abbrev pub is_number : ℕ → Option ℕ → Bool
is_number n None = false
is_number n (Some number) = number == n

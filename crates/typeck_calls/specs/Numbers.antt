-- The numbers of the fields of a constructor, which are in their order.
use Rattle.std.specs.Prelude.{ℕ, zero, suc, [], ◌∷◌, Some}
use Rattle.typing_rules.specs.Rows.{Given}

-- so many numbers from one on
abbrev pub numbers_from : ℕ → ℕ → Given
numbers_from k zero = []
numbers_from k (suc count) = Some k ∷ numbers_from (suc k) count

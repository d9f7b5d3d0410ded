-- The numbers of the first fields.
use Rattle.std.specs.Prelude.{ℕ, zero, suc, [], ◌∷◌, ◌++◌, Some}
use Rattle.typing_rules.specs.Rows.{Given}

abbrev pub numbers_below : ℕ → Given
numbers_below zero = []
numbers_below (suc n) = numbers_below n ++ Some n ∷ []

-- The faults of one line by their numbers, 1 to 7 for G1 to G7.
use Rattle.std.specs.Prelude.{ℕ, Bool, List, [], ◌∷◌, Option, Some, None, if◌then◌else◌}

-- the faults whose test does not hold
abbrev pub broken : List (ℕ × Bool) → List ℕ
broken [] = []
broken (test ∷ tests) = if test.1 then broken tests else test.0 ∷ broken tests

-- the first of a list
abbrev pub first_of : {X : Type 0} → List X → Option X
first_of [] = None
first_of (x ∷ rest) = Some x

-- the number of the first test that does not hold
abbrev pub first_broken : List (ℕ × Bool) → Option ℕ
first_broken [] = None
first_broken (test ∷ tests) = if test.1 then first_broken tests else Some test.0

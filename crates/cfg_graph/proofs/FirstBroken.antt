-- The first test of a line that does not hold.
use Rattle.std.proofs.Common.{◌≡◌, ℕ, Bool, true, false, List, [], ◌∷◌, Option, Some, refl, ap, ◌∙◌}
use Rattle.std.specs.Prelude.{if◌then◌else◌}
use Rattle.cfg_graph.specs.WellFormed.Broken.{broken, first_of, first_broken}

pub first_broken-is : (tests : List (ℕ × Bool)) → first_broken tests ≡ first_of (broken tests)
first_broken-is [] = refl
first_broken-is ((number, true) ∷ tests) = first_broken-is tests
first_broken-is ((number, false) ∷ tests) = refl

-- one test more before those of which the first broken one is known
pub unless_more : (number : ℕ) (holds test : Bool) (rest answer : Option ℕ) (tests : List (ℕ × Bool)) → holds ≡ test → rest ≡ first_of (broken tests)
    → answer ≡ (if holds then rest else Some number) → answer ≡ first_of (broken ((number, test) ∷ tests))
unless_more number holds test rest answer tests same told is = is ∙ ap (λ b. if b then rest else Some number) same ∙ by test
  where
    by : (b : Bool) → (if b then rest else Some number) ≡ first_of (broken ((number, b) ∷ tests))
    by true = told
    by false = refl

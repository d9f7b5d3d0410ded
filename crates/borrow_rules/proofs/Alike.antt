-- Steps that begin alike, as far as both go.
use Rattle.std.proofs.Common.{◌≡◌, ℕ, ◌<◌, ◌≤◌, ◌⊎◌, inl, inr, true, List, [], ◌∷◌, min, map, drop, length, refl, ap, ◌∙◌, arith}
use Rattle.std.proofs.Math.ListN.{drop_of_length-le}
use Rattle.std.proofs.lemmas.Bool.{cases_lt}
use Rattle.typing_rules.specs.Accesses.{AccessStep, begin_alike}
use Rattle.borrow_rules.specs.AccessView.{step_in}
use Rattle.borrow_rules.specs.declared.place.AccessStep as rust

none_behind : (steps : List AccessStep) → begin_alike steps [] ≡ true
none_behind [] = refl
none_behind (s ∷ steps) = refl

pub at_the_end : (a b : List rust.AccessStep) (n : ℕ) → (length a ≤ n) ⊎ (length b ≤ n) → begin_alike (map step_in (drop n a)) (map step_in (drop n b)) ≡ true
at_the_end a b n (inl h) = ap (λ (xs : List rust.AccessStep). begin_alike (map step_in xs) (map step_in (drop n b))) (drop_of_length-le a h)
at_the_end a b n (inr h) =
    ap (λ (xs : List rust.AccessStep). begin_alike (map step_in (drop n a)) (map step_in xs)) (drop_of_length-le b h) ∙ none_behind (map step_in (drop n a))

pub past_the_shorter : (a b n m : ℕ) → m ≡ min a b → m ≤ n → (a ≤ n) ⊎ (b ≤ n)
past_the_shorter a b n m is h = by (cases_lt n a)
  where
    by : (n < a) ⊎ (a ≤ n) → (a ≤ n) ⊎ (b ≤ n)
    by (inl more) = inr (omega (arith, is, h, more))
    by (inr done) = inl done

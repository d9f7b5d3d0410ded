-- How large tests are, and what they are.
use Rattle.std.proofs.Common.{◌≡◌, ◌∙◌, ◌+◌, ◌<◌, ◌∷◌, ℕ, suc, List, [], map, refl, sym, ap, subst, arith, rules}
use Rattle.src_meaning.specs.Shape.{PatternTest, IsVariant, IsNumber, IsTruth, AnyOf, PatternTests, no_test, a_test, Alternatives, no_alternative, an_alternative}
use Rattle.pattern_lower.specs.Seen.{test_of, tests_in, tests_from, alternatives_from}
use Rattle.pattern_lower.specs.declared.found.Test.{Test, Any, the_lemmas}

abbrev mutual
  pub test_size : PatternTest → ℕ
  test_size (IsVariant site variant) = 1
  test_size (IsNumber site value kind) = 1
  test_size (IsTruth site value) = 1
  test_size (AnyOf alternatives) = suc (any_size alternatives)

  pub tests_size : PatternTests → ℕ
  tests_size no_test = 1
  tests_size (a_test first rest) = suc (test_size first + tests_size rest)

  pub any_size : Alternatives → ℕ
  any_size no_alternative = 1
  any_size (an_alternative one rest) = suc (tests_size one + any_size rest)

-- alternatives
pub any_is : (alternatives : List (List Test)) → test_of (Any alternatives) ≡ AnyOf (alternatives_from (map tests_in alternatives))
any_is alternatives =
    let by_parts : test_of (Any alternatives) ≡ AnyOf (alternatives_from (map tests_from (map (map test_of) alternatives))) = search (rules, the_lemmas) in
    by_parts ∙ ap (λ (all : List PatternTests). AnyOf (alternatives_from all)) (twice alternatives)
  where
    twice : (alternatives : List (List Test)) → map tests_from (map (map test_of) alternatives) ≡ map tests_in alternatives
    twice [] = refl
    twice (one ∷ rest) = (λ i. tests_in one ∷ twice rest i)

pub rest_less : (all : List Test) (first : Test) (rest : List Test) → all ≡ first ∷ rest → tests_size (tests_in rest) < tests_size (tests_in all)
rest_less all first rest is =
    let same : tests_size (tests_in all) ≡ suc (test_size (test_of first) + tests_size (tests_in rest)) = ap (λ (ts : List Test). tests_size (tests_in ts)) is in
    omega arith

pub first_less : (all : List Test) (first : Test) (rest : List Test) → all ≡ first ∷ rest → test_size (test_of first) < tests_size (tests_in all)
first_less all first rest is =
    let same : tests_size (tests_in all) ≡ suc (test_size (test_of first) + tests_size (tests_in rest)) = ap (λ (ts : List Test). tests_size (tests_in ts)) is in
    omega arith

pub others_less : (all : List (List Test)) (one : List Test) (rest : List (List Test)) → all ≡ one ∷ rest → any_size (alternatives_from (map tests_in rest)) < any_size (alternatives_from (map tests_in all))
others_less all one rest is =
    let same : any_size (alternatives_from (map tests_in all)) ≡ suc (tests_size (tests_in one) + any_size (alternatives_from (map tests_in rest))) = ap (λ (ts : List (List Test)). any_size (alternatives_from (map tests_in ts))) is in
    omega arith

pub one_less : (all : List (List Test)) (one : List Test) (rest : List (List Test)) → all ≡ one ∷ rest → tests_size (tests_in one) < any_size (alternatives_from (map tests_in all))
one_less all one rest is =
    let same : any_size (alternatives_from (map tests_in all)) ≡ suc (tests_size (tests_in one) + any_size (alternatives_from (map tests_in rest))) = ap (λ (ts : List (List Test)). any_size (alternatives_from (map tests_in ts))) is in
    omega arith

pub any_less : (alternatives : List (List Test)) → any_size (alternatives_from (map tests_in alternatives)) < test_size (test_of (Any alternatives))
any_less alternatives =
    let same : test_size (test_of (Any alternatives)) ≡ suc (any_size (alternatives_from (map tests_in alternatives))) = ap test_size (any_is alternatives) in
    omega arith

pub any_fits : (test : Test) (alternatives items : List (List Test)) → test ≡ Any alternatives → items ≡ alternatives → any_size (alternatives_from (map tests_in items)) < test_size (test_of test)
any_fits test alternatives items is are =
    subst (λ (all : List (List Test)). any_size (alternatives_from (map tests_in all)) < test_size (test_of test)) (sym are)
    (subst (λ (one : Test). any_size (alternatives_from (map tests_in alternatives)) < test_size (test_of one)) (sym is) (any_less alternatives))

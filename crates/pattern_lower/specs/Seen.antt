-- What a contract sees of tests and bindings: those of the rules of evaluation, which a pattern makes for a place.
use Rattle.std.specs.Prelude.{ℕ, List, [], ◌∷◌, Option, Some, None, map}
use Rattle.cfg_graph.specs.Places.{named}
use Rattle.src_meaning.specs.Shape.{PatternTest, IsVariant, IsNumber, IsTruth, AnyOf, PatternTests, no_test, a_test, Alternatives, no_alternative, an_alternative, BoundName, moves}
use Rattle.store_model.specs.Places.Place.{Step, ToPart, ToField}
use Rattle.pattern_lower.specs.declared.found.Test.{Test, Test-F, fold-Test}
use Rattle.pattern_lower.specs.declared.found.Binding.{Binding}

-- the step to a field of a struct, or to one of a variant
abbrev pub to_field : Option ℕ → ℕ → Step
to_field None = ToPart
to_field (Some variant) = ToField variant

-- tests, one after the other
abbrev pub tests_from : List PatternTest → PatternTests
tests_from [] = no_test
tests_from (first ∷ rest) = a_test first (tests_from rest)

abbrev pub alternatives_from : List PatternTests → Alternatives
alternatives_from [] = no_alternative
alternatives_from (first ∷ rest) = an_alternative first (alternatives_from rest)

-- one test, whose alternatives are plain already
abbrev pub test_layer : Test-F PatternTest → PatternTest
test_layer (Test-F.Variant node at number) = IsVariant (record { node = node.0; place = named at }) number
test_layer (Test-F.Equal node at value kind) = IsNumber (record { node = node.0; place = named at }) value kind
test_layer (Test-F.Truth node at value) = IsTruth (record { node = node.0; place = named at }) value
test_layer (Test-F.Any alternatives) = AnyOf (alternatives_from (map tests_from alternatives))

abbrev pub test_of : Test → PatternTest
test_of = fold-Test PatternTest test_layer

-- the tests that a list has
abbrev pub tests_in : List Test → PatternTests
tests_in found = tests_from (map test_of found)

-- tests and alternatives as lists
abbrev pub listed : PatternTests → List PatternTest
listed no_test = []
listed (a_test first rest) = first ∷ listed rest

abbrev pub listed_alternatives : Alternatives → List PatternTests
listed_alternatives no_alternative = []
listed_alternatives (an_alternative first rest) = first ∷ listed_alternatives rest

-- the entry that a name makes, and what it takes
abbrev pub bound_of : Binding → BoundName
bound_of b = record {
  key = b.key.0;
  ty = b.ty;
  takes = moves (Some b.by);
  site = record { node = b.key.0; place = named b.from };
}

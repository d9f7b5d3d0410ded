use Rattle.std.proofs.Common.{map}
use Rattle.pattern_lower.specs.Seen.{test_of, tests_in, alternatives_from}
use Rattle.lower_blocks.proofs.Tested.{test_size, tests_size, any_size}
use Rattle.lower_blocks.proofs.conditions.+tests.Given as goal

abbrev pub decreases-test : goal.decreases-test
decreases-test l = test_size (test_of l.test.now)

abbrev pub decreases-tests : goal.decreases-tests
decreases-tests l = tests_size (tests_in l.all.now)

abbrev pub decreases-any_test : goal.decreases-any_test
decreases-any_test l = any_size (alternatives_from (map tests_in l.alternatives.now))

use Rattle.src_meaning.proofs.TestLaws.{tests_hold}
use Rattle.src_meaning.proofs.laws.law_of_tests.Goals as goal

pub returns : goal.returns
returns c = tests_hold

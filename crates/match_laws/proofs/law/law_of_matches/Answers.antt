use Rattle.match_laws.proofs.Taken.{tests_answer, arms_taken}
use Rattle.match_laws.proofs.law.law_of_matches.Goals as goal

pub returns-clause-tests : goal.returns-clause-tests
returns-clause-tests c = tests_answer

pub returns-clause-arms : goal.returns-clause-arms
returns-clause-arms c = arms_taken

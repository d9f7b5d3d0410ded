use Rattle.soak_laws.proofs.Accepted.{soak_is_accepted, soak_is_short}
use Rattle.soak_laws.proofs.law.law_of_soak.Goals as goal

pub returns-clause-short : goal.returns-clause-short
returns-clause-short c = soak_is_short

pub returns-clause-accepted : goal.returns-clause-accepted
returns-clause-accepted c = soak_is_accepted

use Rattle.drop_elaborate.proofs.Law.{elaboration-keeps-runs}
use Rattle.drop_elaborate.proofs.laws.law_of_elaboration.Goals as goal

pub returns : goal.returns
returns c = record { same = elaboration-keeps-runs }

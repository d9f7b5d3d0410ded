use Rattle.drop_laws.proofs.KindLaws.{flags-by-plans}
use Rattle.drop_laws.proofs.laws.law_of_flags.Goals as goal

pub returns : goal.returns
returns c = record { flags = flags-by-plans }

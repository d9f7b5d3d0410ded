use Rattle.drop_laws.proofs.KindLaws.{kinds-by-plans}
use Rattle.drop_laws.proofs.laws.law_of_kinds.Goals as goal

pub returns : goal.returns
returns c = record { kinds = kinds-by-plans }

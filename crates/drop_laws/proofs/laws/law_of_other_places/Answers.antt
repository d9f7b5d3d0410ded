use Rattle.drop_laws.proofs.KindLaws.{other-places-are-whole}
use Rattle.drop_laws.proofs.laws.law_of_other_places.Goals as goal

pub returns : goal.returns
returns c = record { whole = other-places-are-whole }

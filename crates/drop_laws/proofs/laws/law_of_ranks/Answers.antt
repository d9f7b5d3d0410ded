use Rattle.drop_laws.proofs.Ranking.{new-ranks-fit}
use Rattle.drop_laws.proofs.laws.law_of_ranks.Goals as goal

pub returns : goal.returns
returns c = record { ranks = new-ranks-fit }

use Rattle.init_flow.proofs.OnPaths.{solved-says}
use Rattle.init_flow.proofs.laws.law_of_moves.Goals as goal

pub returns : goal.returns
returns c = record { solved = solved-says }

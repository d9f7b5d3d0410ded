use Rattle.lower_laws.proofs.Elsewhere.{well-formed-elsewhere}
use Rattle.lower_laws.proofs.WalkLaw.{free-walks-meet}
use Rattle.lower_laws.proofs.walk_laws.law_of_free_walks.Goals as goal

pub returns : goal.returns
returns c = record { meets = free-walks-meet; elsewhere = well-formed-elsewhere }

use Rattle.init_flow.proofs.Telling.{uses-are-told}
use Rattle.init_flow.proofs.laws.law_of_bad_uses.Goals as goal

pub returns : goal.returns
returns c = record { told = uses-are-told }

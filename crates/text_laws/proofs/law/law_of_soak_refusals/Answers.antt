use Rattle.text_laws.proofs.Soak.{soak_is_not_refused}
use Rattle.text_laws.proofs.law.law_of_soak_refusals.Goals as goal

pub returns : goal.returns
returns c = soak_is_not_refused

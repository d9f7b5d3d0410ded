use Rattle.lower_laws.proofs.UseLaw.{lowered_uses_have_sites}
use Rattle.lower_laws.proofs.use_laws.law_of_lowered_uses.Goals as goal

pub returns : goal.returns
returns c = record { sites = lowered_uses_have_sites }

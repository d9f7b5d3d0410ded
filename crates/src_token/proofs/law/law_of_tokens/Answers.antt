use Rattle.src_token.proofs.Cuttings.{one_cutting}
use Rattle.src_token.proofs.law.law_of_tokens.Goals as goal

pub returns : goal.returns
returns c = one_cutting

use Rattle.src_meaning.proofs.TickLaws.{source_run_goes_on}
use Rattle.src_meaning.proofs.laws.law_l2.Goals as goal

pub returns : goal.returns
returns c = source_run_goes_on

use Rattle.mirdrop_program.proofs.Executed.{built_is_executed}
use Rattle.mirdrop_program.proofs.law.law_of_exec.Goals as goal

pub returns : goal.returns
returns c = built_is_executed

use Rattle.src_meaning.proofs.RunLaws.{free_run_same, run_same}
use Rattle.src_meaning.proofs.laws.law_of_runs.Goals as goal

pub returns : goal.returns
returns c = record { values = run_same; free = free_run_same }

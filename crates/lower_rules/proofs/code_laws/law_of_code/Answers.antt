use Rattle.lower_rules.proofs.FreeWalks.{walks_as_it_runs_freely}
use Rattle.lower_rules.proofs.Runs.{runs_as_its_source}
use Rattle.lower_rules.proofs.code_laws.law_of_code.Goals as goal

pub returns : goal.returns
returns c = record { values = runs_as_its_source; free = walks_as_it_runs_freely }
